-- What is read of a part of a head.
use Rattle.std.proofs.Common.{◌≡◌, ℕ, List, [], Option, None, Some, refl, sym, subst}
use Rattle.std.specs.Prelude.{Result, Ok, Err, IsErrAnd}
use Rattle.claxon.specs.Errors.{Error}
use Rattle.claxon.specs.Fault.{Fault}
use Rattle.claxon.specs.Heads.{stream_marker}
use Rattle.claxon.specs.MetadataBlock.{BlockHasBounds, content_view}
use Rattle.claxon.specs.MetadataBlockVariants.{MetadataBlock}
use Rattle.claxon.specs.read.Heads.{marker_at}
use Rattle.claxon.specs.read.Reading.{Done, done}
use Rattle.claxon_stream.specs.HeadPart.{BlockPart, ContentIsReadAs, HeaderPart, MarkerPart, PartIsReadAs, ReadsAs, header_view, next_header_at, part_view, unless_refused}
use Rattle.claxon_stream.specs.HeadRules.{IsAllowed, IsBlockOrFault, refused}
use Rattle.claxon_stream.specs.declared.head.part.BlockHeader.{BlockHeader as CodeHeader}
use Rattle.claxon_stream.specs.declared.head.part.FoundPart.{FoundPart}
use Rattle.claxon_stream.specs.declared.head.part.FoundPart.TheVariants.{Block as BlockFound, Marker as MarkerFound}
use Rattle.claxon_stream.specs.declared.head.part.NextPart.TheVariants.{Content as ContentNext, Header as HeaderNext, Marker as MarkerNext}
use Rattle.claxon_stream.specs.declared.head.rules.Rules.{Rules}
use Rattle.claxon_stream.proofs.HeadReading.{exit_then}

module _ (A : Type 0) (r : Rules) (bytes : List ℕ) where
  pub marker_found : ReadsAs {A = Unit {0}} ⊥ (λ x. stream_marker) (Ok tt) (marker_at bytes) → PartIsReadAs {A = A} MarkerNext r bytes (Ok MarkerFound)
  marker_found h = (h.0, rw h.1 refl)

  pub no_marker : (e : Error) (result : Result (FoundPart A) Error) → IsErrAnd result (λ y. y ≡ e) → ReadsAs {A = Unit {0}} ⊥ (λ x. stream_marker) (Err e) (marker_at bytes) → PartIsReadAs MarkerNext r bytes result
  no_marker e result err h = exit_then {A = Unit {0}} (λ x. stream_marker) part_view (marker_at bytes) (λ m. done MarkerPart) (λ none. none) e result err h

  pub no_header : (e : Error) (result : Result (FoundPart A) Error) → IsErrAnd result (λ y. y ≡ e) → ReadsAs ⊥ header_view (Err e) (next_header_at r bytes) → PartIsReadAs HeaderNext r bytes result
  no_header e result err h = exit_then header_view part_view (next_header_at r bytes) (λ h. done (HeaderPart h)) (λ none. none) e result err h

  module _ (h : CodeHeader) where
    allowed : (block other : MetadataBlock A) (rest : List ℕ) (f : Option Fault) → refused r (content_view block) ≡ f → IsBlockOrFault f block (Ok other) → (other ≡ block) × (unless_refused (refused r (content_view block)) (content_view block) rest ≡ Done (BlockPart (content_view block)) rest)
    allowed block other rest None is k = (cc, rw is refl)
    allowed block other rest (Some f) is k = absurd k

    pub block_found : (block other : MetadataBlock A) → ContentIsReadAs h.block_type h.length bytes (Ok block) → IsAllowed r block (Ok other) → PartIsReadAs (ContentNext h) r bytes (Ok (BlockFound other))
    block_found block other k is = let a = allowed block other k.0 (refused r (content_view block)) refl is in (k.0, rw (k.1, a.0) a.1)

    pub same_block : (block other : MetadataBlock A) → IsAllowed r block (Ok other) → BlockHasBounds block → BlockHasBounds other
    same_block block other is bounds = subst (λ (b : MetadataBlock A). BlockHasBounds b) (sym (allowed block other [] (refused r (content_view block)) refl is).0) bounds
