-- What a decoder of heads answers, by the part that was read.
use Rattle.std.proofs.Common.{◌≡◌, ◌⊎◌, inl, inr, ℕ, ◌+◌, ◌-◌, ◌^◌, ◌<◌, ◌≤◌, Bool, true, false, List, [], ◌++◌, length, Option, None, Some, refl, sym, ap, subst, ◌∙◌, append-nil, arith}
use Rattle.std.specs.Prelude.{Result, Ok, Err}
use Rattle.std.proofs.lemmas.Bool.{cases_lt}
use Rattle.std.proofs.lemmas.List.{length-drop}
use Rattle.claxon.specs.Errors.{Error}
use Rattle.claxon.specs.Errors.TheVariants.{FormatError, IoError, OutOfMemory, Unsupported}
use Rattle.claxon.specs.Fault.{Fault}
use Rattle.claxon.specs.Metadata.{BlockHeader}
use Rattle.claxon.specs.read.Heads.{marker_at}
use Rattle.claxon.specs.read.Reading.{Done, done}
use Rattle.claxon.proofs.Laws.{bind_done}
use Rattle.claxon.proofs.Metadata.{Reads-block_header}
use Rattle.claxon_stream.specs.HeadDecoder.{EventHasBounds, HeadEventIs, IsHeadAnswer}
use Rattle.claxon_stream.specs.HeadPart.{EndPart, HeadPart, HeaderPart, MarkerPart, PartHasBounds, PartIsReadAs, content_rest_at, is_passed, next_header_at, part_at, part_needs, passed_bytes, unless_refused}
use Rattle.claxon_stream.specs.HeadRules.{allows_more, refused}
use Rattle.claxon_stream.specs.HeadState.{FoundFits, PartFits, head_event_of, needs, passed_after, read_on, state_after_found}
use Rattle.claxon_stream.specs.declared.head.HeadDecoder.{HeadDecoder}
use Rattle.claxon_stream.specs.declared.head.event.HeadEvent.{HeadEvent}
use Rattle.claxon_stream.specs.declared.head.event.HeadEvent.TheVariants.{Block, Cut, Faulty as FaultyHead, Header, Marker, ReadOn, Whole}
use Rattle.claxon_stream.specs.declared.head.part.FoundPart.{FoundPart}
use Rattle.claxon_stream.specs.declared.head.part.FoundPart.TheVariants.{Block as BlockFound, End as EndFound, Header as HeaderFound, Marker as MarkerFound}
use Rattle.claxon_stream.specs.declared.head.part.NextPart.{NextPart}
use Rattle.claxon_stream.specs.declared.head.part.NextPart.TheVariants.{Content as ContentNext, End as EndNext, Header as HeaderNext, Marker as MarkerNext}
use Rattle.claxon_stream.specs.declared.head.rules.Rules.{Rules}
use Rattle.claxon_stream.specs.Held.{held_from}
use Rattle.claxon_stream.proofs.HeadMoreBytes.{steady_part}
use Rattle.claxon_stream.proofs.HeadSizes.{part_suffices, takes_part}
use Rattle.claxon_stream.proofs.HeldBytes.{held_after, held_before}

-- ---- what is answered

pub read_on_is : (A : Type 0) (s : HeadDecoder) (bytes : List ℕ) (count : ℕ) (ends : Bool) → count ≡ needs s → length bytes < count → ends ≡ false → HeadEventIs s bytes ends {A = A} (Ok (read_on s.position count)) s
read_on_is A s bytes count ends is short goes_on = (refl, is, goes_on, omega (arith, is, short), refl)

module _ {A : Type 0} (s : HeadDecoder) (bytes : List ℕ) where
  pub head_event_is : (found : Result (FoundPart A) Error) (ends : Bool) → (ends ≡ false → needs s ≤ length bytes) → PartIsReadAs s.next s.rules bytes found → HeadEventIs s bytes ends (head_event_of s found) (state_after_found s found)
  head_event_is (Ok MarkerFound) ends enough h = (h.0, h.1, refl)
  head_event_is (Ok (HeaderFound header)) ends enough h = ((h.0, h.1, refl), refl)
  head_event_is (Ok (BlockFound block)) ends enough h = (h.0, h.1, refl)
  head_event_is (Ok EndFound) ends enough h = ((h.0, h.1, refl), refl)
  head_event_is (Err (IoError cause)) true enough h = (refl, refl, h, refl)
  head_event_is (Err (IoError cause)) false enough h = absurd (part_suffices s.next s.rules bytes (enough refl) h)
  head_event_is (Err OutOfMemory) ends enough h = (refl, h, refl)
  head_event_is (Err (FormatError text)) ends enough h = (refl, h, refl)
  head_event_is (Err (Unsupported text)) ends enough h = (refl, h, refl)

  pub event_bounds : (found : Result (FoundPart A) Error) → PartHasBounds found → EventHasBounds (head_event_of s found)
  event_bounds (Ok MarkerFound) h = tt
  event_bounds (Ok (HeaderFound header)) h = tt
  event_bounds (Ok (BlockFound block)) h = h
  event_bounds (Ok EndFound) h = tt
  event_bounds (Err (IoError cause)) h = tt
  event_bounds (Err OutOfMemory) h = tt
  event_bounds (Err (FormatError text)) h = tt
  event_bounds (Err (Unsupported text)) h = tt

-- ---- more bytes of the stream

steady : (s : HeadDecoder) (bytes more : List ℕ) (x : HeadPart) (rest : List ℕ) → part_at s.next s.rules bytes ≡ Done x rest → part_at s.next s.rules (bytes ++ more) ≡ Done x (rest ++ more)
steady s bytes more x rest e = (steady_part s.next s.rules).value bytes x rest more e

module _ {A : Type 0} (s new : HeadDecoder) (bytes more : List ℕ) (ends : Bool) (last : ends ≡ true → more ≡ []) where
  pub head_event_of_all : (r : Result (HeadEvent A) Error) → IsHeadAnswer r → HeadEventIs s bytes ends r new → HeadEventIs s (bytes ++ more) true r new
  head_event_of_all (Ok Marker) is h = (h.0 ++ more, steady s bytes more MarkerPart h.0 h.1, h.2)
  head_event_of_all (Ok (Header header)) is h = let k = h.0 in ((k.0 ++ more, steady s bytes more _ k.0 k.1, k.2), h.1)
  head_event_of_all (Ok (Block block)) is h = (h.0 ++ more, steady s bytes more _ h.0 h.1, h.2)
  head_event_of_all (Ok (Whole at)) is h = let k = h.0 in ((k.0 ++ more, steady s bytes more EndPart k.0 k.1, k.2), h.1)
  head_event_of_all (Ok (FaultyHead fault)) is h = let k = h.1 in (h.0, (k.0, k.1 ++ more, k.2, (steady_part s.next s.rules).fault bytes k.0 k.1 more k.3), h.2)
  head_event_of_all (Ok (Cut at)) is h =
      let all : bytes ≡ bytes ++ more = sym (append-nil bytes) ∙ ap (λ (z : List ℕ). bytes ++ z) (sym (last h.1)) in
      (h.0, refl, ap (part_at s.next s.rules) (sym all) ∙ h.2, h.3)
  head_event_of_all (Ok (ReadOn needed)) is h = absurd is
  head_event_of_all (Err e) is h = absurd is

-- ---- positions fit

unless_header : (f : Option Fault) (c : _) (m : List ℕ) (h : BlockHeader) (rest : List ℕ) → unless_refused f c m ≡ Done (HeaderPart h) rest → ⊥
unless_header None c m h rest e = cc
unless_header (Some f) c m h rest e = cc

-- a header has four bytes, and its length 24 bits
header_read : (next : NextPart) (r : Rules) (bytes : List ℕ) (h : BlockHeader) (rest : List ℕ) → part_at next r bytes ≡ Done (HeaderPart h) rest → (part_needs next r ≡ 4) × (h.length < 2 ^ 24)
header_read MarkerNext r bytes h rest e = let k = bind_done (marker_at bytes) (λ m. done MarkerPart) (HeaderPart h) rest e in let no = k.3 in absurd cc
header_read HeaderNext r bytes h rest e =
    let k = bind_done (next_header_at r bytes) (λ x. done (HeaderPart x)) (HeaderPart h) rest e in
    let same : k.0 ≡ h = cc k.3 in
    let both = go (allows_more r) refl k.0 k.1 k.2 in
    (both.0, subst (λ (x : BlockHeader). x.length < 2 ^ 24) same both.1)
  where
    go : (b : Bool) → allows_more r ≡ b → (x : BlockHeader) (m : List ℕ) → next_header_at r bytes ≡ Done x m → (part_needs HeaderNext r ≡ 4) × (x.length < 2 ^ 24)
    go true is x m read = (rw is refl, (Reads-block_header.takes bytes x m (rw is at read)).1.1)
    go false is x m read = let no = rw is at read in absurd cc
header_read (ContentNext x) r bytes h rest e =
    let k = bind_done (content_rest_at x.block_type x.length bytes) (λ c. unless_refused (refused r c) c) (HeaderPart h) rest e in
    absurd (unless_header (refused r k.0) k.0 k.1 h rest k.3)
header_read EndNext r bytes h rest e = absurd cc

-- bytes that are needed and held end where the held ones do at the latest
held_room : (at position n : ℕ) (bytes : List ℕ) → n ≤ length (held_from at position bytes) → (n ≡ 0) ⊎ (position + n ≤ at + length bytes)
held_room at position n bytes h = elim (cases_lt position at) [
  | inl lt ↦ inl (let none : length (held_from at position bytes) ≡ 0 = ap length (held_before at position bytes lt) in omega (arith, h, none))
  | inr le ↦ (let left : length (held_from at position bytes) ≡ length bytes - (position - at) = ap length (held_after at position bytes le) ∙ length-drop (position - at) bytes in
      elim (cases_lt 0 n) [ inl some ↦ inr (omega (arith, h, left, le, some)) | inr none ↦ inl (omega (arith, none)) ])
]

passed_most : (type n : ℕ) → passed_bytes type n ≤ n
passed_most type n = go (is_passed type) refl
  where
    go : (b : Bool) → is_passed type ≡ b → passed_bytes type n ≤ n
    go true is = rw is (omega arith)
    go false is = rw is (omega arith)

module _ (s : HeadDecoder) (at : ℕ) (bytes : List ℕ) (fits : at + length bytes < 2 ^ 63) (position : s.position < 2 ^ 64) where
  abbrev rest : List ℕ
  rest = held_from at s.position bytes

  room : (x : HeadPart) (m : List ℕ) → part_at s.next s.rules rest ≡ Done x m → (needs s ≡ 0) ⊎ (s.position + needs s ≤ at + length bytes)
  room x m e = held_room at s.position (needs s) bytes (takes_part s.next s.rules rest x m e).0

  -- nothing is passed
  fits_here : (x : HeadPart) (m : List ℕ) → passed_after x ≡ 0 → part_at s.next s.rules rest ≡ Done x m → PartFits s x
  fits_here x m none e = elim (room x m e) [ inl zero ↦ omega (arith, zero, none, position) | inr le ↦ omega (arith, le, none, fits) ]

  header_fits : (h : BlockHeader) (m : List ℕ) → part_at s.next s.rules rest ≡ Done (HeaderPart h) m → PartFits s (HeaderPart h)
  header_fits h m e =
      let k = header_read s.next s.rules rest h m e in
      let most = passed_most h.type h.length in
      elim (room (HeaderPart h) m e) [ inl zero ↦ absurd (omega (arith, zero, k.0)) | inr le ↦ omega (arith, le, most, k.1, fits) ]

  pub found_fits : {A : Type 0} (found : Result (FoundPart A) Error) → PartIsReadAs s.next s.rules rest found → FoundFits s found
  found_fits (Ok MarkerFound) h = fits_here MarkerPart h.0 refl h.1
  found_fits (Ok (HeaderFound header)) h = header_fits _ h.0 h.1
  found_fits (Ok (BlockFound block)) h = fits_here _ h.0 refl h.1
  found_fits (Ok EndFound) h = fits_here EndPart h.0 refl h.1
  found_fits (Err e) h = tt
