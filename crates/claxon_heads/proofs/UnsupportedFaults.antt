-- Faults of blocks that are passed over, by their texts.
use Rattle.std.proofs.Common.{◌≡◌, true, false, cond, List, refl, sym, ap, ◌∙◌}
use Rattle.std.specs.Prelude.{ℕ, Option, None, Some, codes, bytes_eq}
use Rattle.claxon_format.specs.Fault.{Fault, ApplicationLarge, BitDepthUnknown, CommentLarge, EntryNotUtf8, ExcessData, NameByte, SeparatorMissing, ShiftNegative, SideTooWide, TooManyBlocks, VendorNotUtf8, fault_text, is_unsupported}
use Rattle.claxon_input.specs.declared.error.Error.{Error}
use Rattle.claxon_input.specs.declared.error.Error.TheVariants.{IoError, FormatError, Unsupported, OutOfMemory}
use Rattle.claxon_input.specs.Error.{IsFault}
use Rattle.claxon_heads.specs.StreamHead.{TellsWhy, unsupported_by}
use Rattle.claxon_heads.specs.declared.head.UnsupportedBlock.{UnsupportedBlock}
use Rattle.claxon_heads.specs.declared.head.UnsupportedBlock.TheVariants.{BytesLeft, FieldName, LargeApplication, LargeComments, NoSeparator, NotUtf8}

-- of a `FormatError`
format_kind : List ℕ → Option UnsupportedBlock
format_kind text =
    cond (bytes_eq text (codes "Vorbis comment or vendor string is not valid UTF-8")) (Some NotUtf8)
    (cond (bytes_eq text (codes "Vorbis comment does not contain '='")) (Some NoSeparator)
    (cond (bytes_eq text (codes "Vorbis comment field name contains invalid byte")) (Some FieldName)
    (cond (bytes_eq text (codes "Vorbis comment block has excess data")) (Some BytesLeft) None)))

by_format : (f : Fault) → is_unsupported f ≡ false → unsupported_by f ≡ format_kind (fault_text f)
unfolding fault_text format_kind
by_format ApplicationLarge e = absurd cc
by_format CommentLarge e = absurd cc
by_format TooManyBlocks e = absurd cc
by_format BitDepthUnknown e = absurd cc
by_format SideTooWide e = absurd cc
by_format ShiftNegative e = absurd cc
by_format f e = refl

-- of an `Unsupported`
large_kind : List ℕ → Option UnsupportedBlock
large_kind text =
    cond (bytes_eq text (codes "Vorbis comment blocks larger than 10 MiB are not supported")) (Some LargeComments)
    (cond (bytes_eq text (codes "application blocks larger than 10 MiB are not supported")) (Some LargeApplication) None)

by_large : (f : Fault) → is_unsupported f ≡ true → unsupported_by f ≡ large_kind (fault_text f)
unfolding fault_text large_kind
by_large ApplicationLarge e = refl
by_large CommentLarge e = refl
by_large TooManyBlocks e = refl
by_large BitDepthUnknown e = refl
by_large SideTooWide e = refl
by_large ShiftNegative e = refl
by_large f e = absurd cc

-- an error that names a fault tells why its block is passed over
pub tells_of : (g : Fault) (e : Error) → IsFault g e → TellsWhy e (unsupported_by g)
tells_of g (IoError cause) h = absurd h
tells_of g (FormatError text) h = λ f k. by_format f k.1 ∙ ap format_kind (sym k.0 ∙ h.0) ∙ sym (by_format g h.1)
tells_of g (Unsupported text) h = λ f k. by_large f k.1 ∙ ap large_kind (sym k.0 ∙ h.0) ∙ sym (by_large g h.1)
tells_of g OutOfMemory h = absurd h

-- one with another text tells that it isn't
pub none_of_format : (f : Fault) (text : List ℕ) → (text ≡ fault_text EntryNotUtf8 → ⊥) → (text ≡ fault_text SeparatorMissing → ⊥) → (text ≡ fault_text NameByte → ⊥) → (text ≡ fault_text ExcessData → ⊥) → text ≡ fault_text f → is_unsupported f ≡ false → unsupported_by f ≡ None
unfolding fault_text
none_of_format VendorNotUtf8 text a b c d e u = absurd (a e)
none_of_format EntryNotUtf8 text a b c d e u = absurd (a e)
none_of_format SeparatorMissing text a b c d e u = absurd (b e)
none_of_format NameByte text a b c d e u = absurd (c e)
none_of_format ExcessData text a b c d e u = absurd (d e)
none_of_format ApplicationLarge text a b c d e u = absurd cc
none_of_format CommentLarge text a b c d e u = absurd cc
none_of_format f text a b c d e u = refl

pub none_of_large : (f : Fault) (text : List ℕ) → (text ≡ fault_text CommentLarge → ⊥) → (text ≡ fault_text ApplicationLarge → ⊥) → text ≡ fault_text f → is_unsupported f ≡ true → unsupported_by f ≡ None
none_of_large ApplicationLarge text a b e u = absurd (b e)
none_of_large CommentLarge text a b e u = absurd (a e)
none_of_large VendorNotUtf8 text a b e u = absurd cc
none_of_large EntryNotUtf8 text a b e u = absurd cc
none_of_large SeparatorMissing text a b e u = absurd cc
none_of_large NameByte text a b e u = absurd cc
none_of_large ExcessData text a b e u = absurd cc
none_of_large f text a b e u = refl
