-- What a decoder noted of a stream.
use Rattle.std.proofs.Common.{◌≡◌, ◌⊎◌, inl, inr, ℕ, ◌*◌, ◌<◌, ◌≤◌, Bool, true, false, List, ◌++◌, length, take, drop, Option, None, Some, refl, sym, ap, subst, ◌∙◌, append_assoc, arith}
use Rattle.std.specs.Option.{option_map}
use Rattle.std.specs.Prelude.{IfSome, Result, Ok, Err}
use Rattle.std.proofs.lemmas.Bool.{cases_lt, false≢true}
use Rattle.claxon.specs.Errors.{Error}
use Rattle.claxon.specs.Fault.{Fault}
use Rattle.claxon.specs.Frame.{FrameBytesFault, IsBitDepth, StreamFormat, known_bit_depth}
use Rattle.claxon.specs.FrameReader.{stream_with}
use Rattle.claxon.specs.ShownHead.{HasBitDepth}
use Rattle.claxon.specs.StreamInfos.{StreamInfo}
use Rattle.claxon_stream.specs.Budget.{cost_of_try}
use Rattle.claxon_stream.specs.Event.{EventIs, IsOpen, IsReadOn}
use Rattle.claxon_stream.specs.FrameDecoder.{IsDue}
use Rattle.claxon_stream.specs.FrameEnd.{IsZeroWithin, Knows, StartsWith, tried_bytes}
use Rattle.claxon_stream.specs.Held.{StandsIn, held_from}
use Rattle.claxon_stream.specs.Noted.{EndIsAfter, IsWorkOf}
use Rattle.claxon_stream.specs.declared.ending.FrameEnd.{FrameEnd}
use Rattle.claxon_stream.specs.declared.event.Event.{Event}
use Rattle.claxon_stream.specs.declared.event.Event.TheVariants.{Cut, Decoded, End, Faulty, ReadOn}
use Rattle.claxon_stream.specs.declared.frames.FrameDecoder.{FrameDecoder}
use Rattle.claxon_stream.proofs.FrameEnds.{part_first}
use Rattle.claxon_stream.proofs.HeldBytes.{held_stands}

-- the bit depth that is known
pub known_depth : (known : Option StreamInfo) → IfSome known (λ info. HasBitDepth info) → IsBitDepth (known_bit_depth (option_map stream_with known))
known_depth None h = tt
known_depth (Some info) h = h

-- the bytes of the stream from the position on begin with those that are held
pub starts_with_held : (stream : List ℕ) (at position : ℕ) (bytes : List ℕ) (is_end : Bool) → StandsIn stream at bytes is_end → StartsWith (drop position stream) (held_from at position bytes)
starts_with_held stream at position bytes is_end stands = let k = held_stands stream at position bytes is_end stands in (k.0, k.1)

-- a fault has more bytes than were tried in vain
pub fault_is_longer : (stream : Option StreamFormat) (n : ℕ) (bytes front : List ℕ) → StartsWith bytes front → IsOpen stream (take n bytes) → (f : Fault) (t u : List ℕ) → FrameBytesFault stream f t → front ≡ t ++ u → n < length t
fault_is_longer stream n bytes front start none f t u bad is = elim (cases_lt n (length t)) [
  | inl lt ↦ lt
  | inr le ↦ (let k = part_first n t (u ++ start.0) le in
      let whole : bytes ≡ t ++ (u ++ start.0) = start.1 ∙ ap (λ (s : List ℕ). s ++ start.0) is ∙ append_assoc t u start.0 in
      absurd (none.no_fault f t k.0 bad (ap (take n) whole ∙ k.1)))
]

-- ---- after an answer

pub notes_after : (stream : Option StreamFormat) → IsBitDepth (known_bit_depth stream) → (all rest : List ℕ) (ends : Bool) (capacity position new : ℕ) (old end : FrameEnd) (r : Result Event Error) → EndIsAfter r old rest end → EventIs stream rest ends capacity position r new
    → (IsReadOn r → IsOpen stream rest) → StartsWith (drop position all) rest → Knows stream (drop position all) old → Knows stream (drop new all) end
notes_after stream depth all rest ends capacity position new old end (Ok (ReadOn needed)) h e none start known = subst (λ (n : ℕ). Knows stream (drop n all) end) (sym e.3) (h stream (drop position all) start known (none tt))
notes_after stream depth all rest ends capacity position new old end (Ok (Decoded frame)) h e none start known = h stream depth (drop new all)
notes_after stream depth all rest ends capacity position new old end (Ok (Faulty fault)) h e none start known = h stream depth (drop new all)
notes_after stream depth all rest ends capacity position new old end (Ok End) h e none start known = h stream depth (drop new all)
notes_after stream depth all rest ends capacity position new old end (Ok (Cut at)) h e none start known = h stream depth (drop new all)
notes_after stream depth all rest ends capacity position new old end (Err x) h e none start known = subst (λ (n : ℕ). Knows stream (drop n all) end) (sym e.2) (subst (Knows stream (drop position all)) (sym h) known)

-- work is wasted by `ReadOn` alone, where the bytes weren't due
pub wasted_by : (r : Result Event Error) (due : Bool) (rest : List ℕ) (work : ℕ) → IsWorkOf r due rest work → (work ≡ 0) ⊎ (IsReadOn r × (due ≡ false) × (work ≡ cost_of_try (length rest)))
wasted_by (Ok (ReadOn needed)) false rest work h = inr (tt, refl, h)
wasted_by (Ok (ReadOn needed)) true rest work h = inl h
wasted_by (Ok (Decoded frame)) due rest work h = inl h
wasted_by (Ok (Faulty fault)) due rest work h = inl h
wasted_by (Ok End) due rest work h = inl h
wasted_by (Ok (Cut at)) due rest work h = inl h
wasted_by (Err e) due rest work h = inl h

pub zero_before : (bytes : List ℕ) (n m : ℕ) → n ≤ m → IsZeroWithin bytes n → IsZeroWithin bytes m
zero_before bytes n m le z = (z.0, z.1, omega (arith, z.2, le), z.3)

-- ---- what is due to be tried

pub not_due : (rest : List ℕ) (ends : Bool) (s : FrameDecoder) (due : Bool) → IsDue rest ends s due → due ≡ false → (ends ≡ false) × (length rest < 2 * tried_bytes s.end)
not_due rest ends s due h e = (
  other ends refl,
  elim (cases_lt (length rest) (2 * tried_bytes s.end)) [
    | inl lt ↦ lt
    | inr le ↦ absurd (false≢true (sym e ∙ h.1 (inr le)))
  ],
)
  where
    other : (b : Bool) → ends ≡ b → ends ≡ false
    other false is = is
    other true is = absurd (false≢true (sym e ∙ h.1 (inl is)))

pub is_not_due : (rest : List ℕ) (ends : Bool) (s : FrameDecoder) (due : Bool) → IsDue rest ends s due → ends ≡ false → length rest < 2 * tried_bytes s.end → due ≡ false
is_not_due rest ends s false h goes few = refl
is_not_due rest ends s true h goes few = absurd (elim (h.0 refl) [ inl e ↦ false≢true (sym goes ∙ e) | inr le ↦ omega (arith, few, le) ])

pub none_of : {A : Type 0} (r : Option A) → ((x : A) → r ≡ Some x → ⊥) → r ≡ None
none_of None h = refl
none_of (Some x) h = absurd (h x refl)
