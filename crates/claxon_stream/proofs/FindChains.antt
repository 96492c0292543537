-- Calls of a search, one after another.
use Rattle.std.proofs.Common.{◌≡◌, inl, inr, ℕ, zero, suc, ◌+◌, ◌-◌, ◌≤◌, List, [], ◌∷◌, length, drop, Option, None, sym, ap, subst, ◌∙◌, arith}
use Rattle.std.specs.Prelude.{Result, Ok, Err}
use Rattle.std.proofs.lemmas.Bool.{cases_lt}
use Rattle.std.proofs.lemmas.List.{drop-drop, length-drop}
use Rattle.claxon.specs.DecodedFrame.{FrameWithHeader, decoded_view}
use Rattle.claxon.specs.Errors.{Error}
use Rattle.claxon.specs.StreamInfos.{StreamInfo}
use Rattle.claxon_seek.specs.Find.{WantedFrame, known_format}
use Rattle.claxon_seek.proofs.Searches.{none_at_end}
use Rattle.claxon_stream.specs.DecodedAtStart.{BeginsWithLength}
use Rattle.claxon_stream.specs.FindLaws.{AreFinds, IsFindAnswer, IsKnown, SameFinds, find_answers}
use Rattle.claxon_stream.specs.Search.{Cost, FindEventIs, Passes, PassesByte}
use Rattle.claxon_stream.specs.declared.event.FindEvent.{FindEvent}
use Rattle.claxon_stream.specs.declared.event.FindEvent.TheVariants.{Found, NotFound, ReadOn}
use Rattle.claxon_stream.proofs.OneFinds.{one_find}

module _ (known : Option StreamInfo) where
  -- what is passed in two steps
  passes_on : (bytes : List ℕ) (count more : ℕ) (a b c : Cost) → Passes known bytes count a b → Passes known (drop count bytes) more b c → Passes known bytes (count + more) a c
  passes_on bytes count zero a b c p q =
      let same : count ≡ count + 0 = omega arith in
      subst (λ (n : ℕ). Passes known bytes n a c) same (subst (Passes known bytes count a) (sym q) p)
  passes_on bytes count (suc more) a b c p (u, q, byte) =
      let same : suc (count + more) ≡ count + suc more = omega arith in
      subst (λ (n : ℕ). Passes known bytes n a c) same (u, passes_on bytes count more a b u p q, subst (λ (z : List ℕ). PassesByte known z u c) (drop-drop more count bytes) byte)

  module _ (all : List ℕ) (at next count : ℕ) (a b : Cost) (to : next ≡ at + count) (within : count ≤ length (drop at all)) (p : Passes known (drop at all) count a b) where
    later : (n : ℕ) → drop n (drop next all) ≡ drop (count + n) (drop at all)
    later n =
        let there : next + n ≡ at + (count + n) = omega (arith, to) in
        drop-drop n next all ∙ ap (λ (k : ℕ). drop k all) there ∙ sym (drop-drop (count + n) at all)

    from_here : drop next all ≡ drop count (drop at all)
    from_here = ap (λ (k : ℕ). drop k all) to ∙ sym (drop-drop count at all)

    both : (n : ℕ) (c : Cost) → Passes known (drop next all) n b c → Passes known (drop at all) (count + n) a c
    both n c q = passes_on (drop at all) count n a b c p (subst (λ (z : List ℕ). Passes known z n b c) from_here q)

    -- what is answered after a part that is passed is answered before it
    pub answered_before : (x : Result FindEvent Error) (new : ℕ) (after : Cost) → IsFindAnswer x → FindEventIs known (drop next all) next b x new after → FindEventIs known (drop at all) at a x new after
    answered_before (Ok (Found place f)) new after i (n, before, taken, is, q, wanted, fits, begins, end, cost) = (
      count + n,
      before,
      taken,
      omega (arith, is, to),
      both n before q,
      subst (λ (z : List ℕ). WantedFrame known None z f.info) (later n) wanted,
      fits,
      subst (λ (z : List ℕ). BeginsWithLength (FrameWithHeader (known_format known) (decoded_view f)) z taken) (later n) begins,
      end,
      cost,
    )
    answered_before (Ok NotFound) new after i (q, end) =
        let long : length (drop at all) ≡ length all - at = length-drop at all in
        let rest : length (drop next all) ≡ length all - next = length-drop next all in
        let whole : count + length (drop next all) ≡ length (drop at all) = omega (arith, long, rest, to, within) in
        (subst (λ (n : ℕ). Passes known (drop at all) n a after) whole (both (length (drop next all)) after q), omega (arith, end, to, whole))
    answered_before (Ok (ReadOn needed)) new after i h = absurd i
    answered_before (Err e) new after i h = absurd i

  -- answers alone, one after another
  abbrev Answers : List ℕ → ℕ → Cost → List (Result FindEvent Error) → Type 0
  Answers all at cost [] = Unit {0}
  Answers all at cost (x ∷ others) = (next : ℕ) × (after : Cost) × IsFindAnswer x × FindEventIs known (drop at all) at cost x next after × Answers all next after others

  -- from an earlier position
  answers_before : (all : List ℕ) (at next count : ℕ) (a b : Cost) → next ≡ at + count → count ≤ length (drop at all) → Passes known (drop at all) count a b → (xs : List (Result FindEvent Error)) → Answers all next b xs → Answers all at a xs
  answers_before all at next count a b to within p [] h = tt
  answers_before all at next count a b to within p (x ∷ others) (end, after, i, h, rest) = (end, after, i, answered_before all at next count a b to within p x end after i h, rest)

  pub answers_of : (all : List ℕ) (at : ℕ) (cost : Cost) (xs : List (Result FindEvent Error)) → AreFinds known all at cost xs → Answers all at cost (find_answers xs)
  answers_of all at cost [] h = tt
  answers_of all at cost (Ok (Found place f) ∷ others) (next, after, h, rest) = (next, after, tt, h, answers_of all next after others rest)
  answers_of all at cost (Ok NotFound ∷ others) (next, after, h, rest) = (next, after, tt, h, answers_of all next after others rest)
  answers_of all at cost (Ok (ReadOn needed) ∷ others) (next, after, h, rest) =
      answers_before all at next h.0 cost after h.1 h.2 h.3 (find_answers others) (answers_of all next after others rest)
  answers_of all at cost (Err e ∷ others) (next, after, h, rest) =
      let k = h.1 in
      let wanted = k.3.1 in
      let inside : k.0 ≤ length (drop at all) = elim (cases_lt k.0 (length (drop at all))) [
        | inl lt ↦ omega (arith, lt)
        | inr le ↦ absurd (none_at_end known None (drop at all) k.0 k.3.0 le wanted)
      ] in
      answers_before all at next k.0 cost after k.1 inside k.2 (find_answers others) (answers_of all next after others rest)

  module _ (depth : IsKnown known) (all : List ℕ) where
    pub same_answers : (at : ℕ) (cost : Cost) (xs ys : List (Result FindEvent Error)) → length xs ≡ length ys → Answers all at cost xs → Answers all at cost ys → SameFinds xs ys
    same_answers at cost [] [] e h k = tt
    same_answers at cost [] (y ∷ ys) e h k = absurd cc
    same_answers at cost (x ∷ xs) [] e h k = absurd cc
    same_answers at cost (x ∷ xs) (y ∷ ys) e (next, after, i, h, rest) (other, later, j, k, more) =
        let one = one_find known depth (drop at all) at cost x y next other after later i j h k in
        let there = subst (λ (n : ℕ). Answers all n later ys) (sym one.1) more in
        (one.0, same_answers next after xs ys (omega (arith, e)) rest (subst (λ (c : Cost). Answers all next c ys) (sym one.2) there))

    pub cuts_dont_matter : (at : ℕ) (cost : Cost) (xs ys : List (Result FindEvent Error)) → length (find_answers xs) ≡ length (find_answers ys) → AreFinds known all at cost xs → AreFinds known all at cost ys → SameFinds (find_answers xs) (find_answers ys)
    cuts_dont_matter at cost xs ys e h k = same_answers at cost (find_answers xs) (find_answers ys) e (answers_of all at cost xs h) (answers_of all at cost ys k)
