-- What a header says of its block.
use Rattle.std.proofs.Common.{◌≡◌, ◌⊎◌, inl, inr, ℕ, ◌<◌, true, false, List, [], ◌++◌, length, Option, None, Some, refl, ap, ◌∙◌}
use Rattle.std.specs.Prelude.{Ok, Err}
use Rattle.claxon_format.specs.Frame.{StreamFormat}
use Rattle.claxon_format.specs.read.Frame.{Start, start_at}
use Rattle.claxon_format.specs.read.Reading.{Reads, Done, Incomplete, bind, done}
use Rattle.claxon_format.proofs.FrameBytes.{Reads-start}
use Rattle.claxon_format.proofs.Laws.{Reads-map, Reads-same, unambiguous}
use Rattle.claxon_input.specs.declared.error.Error.TheVariants.{OutOfMemory}
use Rattle.claxon_input.specs.State.{State}
use Rattle.claxon_input.specs.Promises.{Remains, EofPromises, ReadFailed, IsOutOfMemory}
use Rattle.claxon_input.specs.Gives.{Consumes, GivesOrEof, or_eof}
use Rattle.claxon_input.proofs.ConsecutiveCalls.{consumes_map}
use Rattle.claxon_input.proofs.FieldOrEof.{enough, found, never_out_of_memory_or_eof, some_read}
use Rattle.claxon_input.proofs.Memory.{stops_not_out_of_memory}
use Rattle.claxon_input.proofs.FieldOrEofPromises.{eof_promises}
use Rattle.claxon_frame.specs.BlockInfo.{HeaderAnswer, HeaderBytesFault, HeaderIsUnambiguous, HeaderOf, header_info_at, info_of_start}
use Rattle.claxon_frame.specs.declared.frame.info.BlockInfo.{BlockInfo}
use Rattle.claxon_frame.proofs.FramePromises.{incomplete_start}

-- what a header says is read exactly where it stands
pub Reads-info : (stream : Option StreamFormat) → Reads ℕ BlockInfo (header_info_at stream) (HeaderOf stream) (HeaderBytesFault stream)
Reads-info stream =
    Reads-same (Reads-map info_of_start (Reads-start stream))
    (λ info t c. (c.1.0, c.1.1, c.2 ∙ ap info_of_start c.1.2)) (λ info t c. (_, (c.0, c.1, refl), c.2)) (λ f t c. c) (λ f t c. c)

pub headers_unambiguous : (stream : Option StreamFormat) → HeaderIsUnambiguous stream
headers_unambiguous stream = unambiguous BlockInfo (header_info_at stream) (HeaderOf stream) (HeaderBytesFault stream) (Reads-info stream)

-- ---- after the header nothing is read

pub info_consumes : (stream : Option StreamFormat) {start : Start} {a b : State ℕ} → Consumes a b (λ s m. or_eof 2 (start_at stream) s ≡ Done (Some start) m) → Consumes a b (λ s m. or_eof 2 (header_info_at stream) s ≡ Done (Some (info_of_start start)) m)
info_consumes stream {start = start} {a = a} {b = b} h =
    consumes_map _ h (λ p.
    let r = some_read 2 (start_at stream) a.remaining start b.remaining p in
    enough 2 (header_info_at stream) a.remaining r.0 ∙ ap (λ x. found (bind x (λ start. done (info_of_start start)))) r.1)

-- ---- all clauses

incomplete_info : (stream : Option StreamFormat) (s : List ℕ) → length s < 2 → header_info_at stream s ≡ Incomplete
incomplete_info stream s small = rw (incomplete_start stream s small) refl

-- no memory is requested
pub info_never_out_of_memory : (stream : Option StreamFormat) (r : HeaderAnswer) (a b : State ℕ) → GivesOrEof 2 (λ info. info) r (header_info_at stream) a b → IsOutOfMemory r → ⊥
info_never_out_of_memory stream (Ok found) a b g e = absurd cc
info_never_out_of_memory stream (Err e) a b g k =
    let n = stops_not_out_of_memory e (or_eof 2 (header_info_at stream)) a b g in
    let m : e ≡ OutOfMemory = cc in
    let p : true ≡ false = rw m at n in
    absurd cc

module _ (stream : Option StreamFormat) (r : HeaderAnswer) (a b : State ℕ) (g : GivesOrEof 2 (λ info. info) r (header_info_at stream) a b) where
  pub info_promises : EofPromises 2 (λ info. info) r (HeaderOf stream) (HeaderBytesFault stream) a b
  info_promises =
      eof_promises (Reads-info stream) 2 (incomplete_info stream) (λ info. info) r a b (never_out_of_memory_or_eof 2 (λ info. info) r (header_info_at stream) a b g)

  pub info_eof_is_none : (xs : List ℕ) → Remains a xs → length xs < 2 → ((r ≡ Ok None) × Remains b []) ⊎ ReadFailed r a b
  info_eof_is_none xs o small = elim (info_promises.eof_is_none xs o small) [
    | inl p ↦ inl p
    | inr (inl e) ↦ absurd (info_never_out_of_memory stream r a b g e)
    | inr (inr f) ↦ inr f
  ]

-- a header has two bytes at least
pub header_has_two_bytes : (stream : Option StreamFormat) (info : BlockInfo) (t rest : List ℕ) → HeaderOf stream info t → length (t ++ rest) < 2 → ⊥
header_has_two_bytes stream info t rest c small =
    let done = (Reads-info stream).again info t rest c in
    let none = incomplete_info stream (t ++ rest) small in
    cc
