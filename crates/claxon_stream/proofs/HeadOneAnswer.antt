-- At a position of a stream there is one answer in a head.
use Rattle.std.proofs.Common.{◌≡◌, ◌⊎◌, inl, inr, ℕ, ◌≤◌, Bool, true, false, List, [], ◌∷◌, drop, length, refl, sym, ap, subst, ◌∙◌, arith}
use Rattle.std.specs.Prelude.{Ok, Err}
use Rattle.claxon.specs.Error.{IsFault}
use Rattle.claxon.specs.Fault.{Fault}
use Rattle.claxon.specs.Metadata.{BlockHeader}
use Rattle.claxon.specs.MetadataBlock.{content_view}
use Rattle.claxon.specs.MetadataBlocks.{Content}
use Rattle.claxon.specs.Promises.{IsOutOfMemory}
use Rattle.claxon.specs.read.Reading.{Done, Faulty, Incomplete}
use Rattle.claxon_stream.specs.HeadDecoder.{HeadEventIs, IsHeadAnswer, next_part, shown_header}
use Rattle.claxon_stream.specs.HeadLaws.{AreHeadAnswers, HeadAnswersAreComplete, HeadResult, IsAnswerFor, IsCutHead, IsFaultyHeadAnd, IsReadOnHead, SameHeadEvent, SameHeadEvents}
use Rattle.claxon_stream.specs.HeadPart.{BlockPart, EndPart, HeadPart, HeaderPart, MarkerPart}
use Rattle.claxon_stream.specs.HeadState.{needs, state_after}
use Rattle.claxon_stream.specs.declared.head.HeadDecoder.{HeadDecoder}
use Rattle.claxon_stream.specs.declared.head.event.HeadEvent.TheVariants.{Block, Cut, Faulty as FaultyHead, Header, Marker, ReadOn, Whole}
use Rattle.claxon_stream.proofs.HeadSizes.{takes_part}

module _ (s : HeadDecoder) (bytes : List ℕ) (new other : HeadDecoder) where
  abbrev AtFirst : HeadResult → Type 0
  AtFirst r = HeadEventIs s bytes true r new

  abbrev AtSecond : HeadResult → Type 0
  AtSecond r = HeadEventIs s bytes true r other

  pub one_head_answer : (x y : HeadResult) → IsHeadAnswer x → IsHeadAnswer y → AtFirst x → AtSecond y → SameHeadEvent x y × (new ≡ other)
  one_head_answer (Ok Marker) (Ok Marker) i j h k = (tt, h.2 ∙ sym k.2)
  one_head_answer (Ok Marker) (Ok (Header b)) i j h k = let q = k.0 in absurd (let e = sym h.1 ∙ q.1 in cc)
  one_head_answer (Ok Marker) (Ok (Block b)) i j h k = absurd (let e = sym h.1 ∙ k.1 in cc)
  one_head_answer (Ok Marker) (Ok (Whole b)) i j h k = let q = k.0 in absurd (let e = sym h.1 ∙ q.1 in cc)
  one_head_answer (Ok Marker) (Ok (FaultyHead b)) i j h k = let q = k.1 in absurd (let e = sym h.1 ∙ q.3 in cc)
  one_head_answer (Ok Marker) (Ok (Cut b)) i j h k = absurd (let e = sym h.1 ∙ k.2 in cc)
  one_head_answer (Ok (Header a)) (Ok Marker) i j h k = let p = h.0 in absurd (let e = sym p.1 ∙ k.1 in cc)
  one_head_answer (Ok (Header a)) (Ok (Header b)) i j h k =
      let p = h.0 in
      let q = k.0 in
      let e = sym p.1 ∙ q.1 in
      let same : shown_header a ≡ shown_header b = cc in
      ((h.1 ∙ sym k.1, same), p.2 ∙ ap (λ (z : BlockHeader). state_after s (HeaderPart z)) same ∙ sym q.2)
  one_head_answer (Ok (Header a)) (Ok (Block b)) i j h k = let p = h.0 in absurd (let e = sym p.1 ∙ k.1 in cc)
  one_head_answer (Ok (Header a)) (Ok (Whole b)) i j h k = let p = h.0 in let q = k.0 in absurd (let e = sym p.1 ∙ q.1 in cc)
  one_head_answer (Ok (Header a)) (Ok (FaultyHead b)) i j h k = let p = h.0 in let q = k.1 in absurd (let e = sym p.1 ∙ q.3 in cc)
  one_head_answer (Ok (Header a)) (Ok (Cut b)) i j h k = let p = h.0 in absurd (let e = sym p.1 ∙ k.2 in cc)
  one_head_answer (Ok (Block a)) (Ok Marker) i j h k = absurd (let e = sym h.1 ∙ k.1 in cc)
  one_head_answer (Ok (Block a)) (Ok (Header b)) i j h k = let q = k.0 in absurd (let e = sym h.1 ∙ q.1 in cc)
  one_head_answer (Ok (Block a)) (Ok (Block b)) i j h k =
      let e = sym h.1 ∙ k.1 in
      let same : content_view a ≡ content_view b = cc in
      (same, h.2 ∙ ap (λ (z : Content). state_after s (BlockPart z)) same ∙ sym k.2)
  one_head_answer (Ok (Block a)) (Ok (Whole b)) i j h k = let q = k.0 in absurd (let e = sym h.1 ∙ q.1 in cc)
  one_head_answer (Ok (Block a)) (Ok (FaultyHead b)) i j h k = let q = k.1 in absurd (let e = sym h.1 ∙ q.3 in cc)
  one_head_answer (Ok (Block a)) (Ok (Cut b)) i j h k = absurd (let e = sym h.1 ∙ k.2 in cc)
  one_head_answer (Ok (Whole a)) (Ok Marker) i j h k = let p = h.0 in absurd (let e = sym p.1 ∙ k.1 in cc)
  one_head_answer (Ok (Whole a)) (Ok (Header b)) i j h k = let p = h.0 in let q = k.0 in absurd (let e = sym p.1 ∙ q.1 in cc)
  one_head_answer (Ok (Whole a)) (Ok (Block b)) i j h k = let p = h.0 in absurd (let e = sym p.1 ∙ k.1 in cc)
  one_head_answer (Ok (Whole a)) (Ok (Whole b)) i j h k = let p = h.0 in let q = k.0 in (h.1 ∙ sym k.1, p.2 ∙ sym q.2)
  one_head_answer (Ok (Whole a)) (Ok (FaultyHead b)) i j h k = let p = h.0 in let q = k.1 in absurd (let e = sym p.1 ∙ q.3 in cc)
  one_head_answer (Ok (Whole a)) (Ok (Cut b)) i j h k = let p = h.0 in absurd (let e = sym p.1 ∙ k.2 in cc)
  one_head_answer (Ok (FaultyHead a)) (Ok Marker) i j h k = let p = h.1 in absurd (let e = sym p.3 ∙ k.1 in cc)
  one_head_answer (Ok (FaultyHead a)) (Ok (Header b)) i j h k = let p = h.1 in let q = k.0 in absurd (let e = sym p.3 ∙ q.1 in cc)
  one_head_answer (Ok (FaultyHead a)) (Ok (Block b)) i j h k = let p = h.1 in absurd (let e = sym p.3 ∙ k.1 in cc)
  one_head_answer (Ok (FaultyHead a)) (Ok (Whole b)) i j h k = let p = h.1 in let q = k.0 in absurd (let e = sym p.3 ∙ q.1 in cc)
  one_head_answer (Ok (FaultyHead a)) (Ok (FaultyHead b)) i j h k =
      let p = h.1 in
      let q = k.1 in
      let e = sym p.3 ∙ q.3 in
      let same : p.0 ≡ q.0 = cc in
      ((h.0 ∙ sym k.0, (q.0, subst (λ (z : Fault). IsFault z a.error) same p.2, q.2)), h.2 ∙ sym k.2)
  one_head_answer (Ok (FaultyHead a)) (Ok (Cut b)) i j h k = let p = h.1 in absurd (let e = sym p.3 ∙ k.2 in cc)
  one_head_answer (Ok (Cut a)) (Ok Marker) i j h k = absurd (let e = sym h.2 ∙ k.1 in cc)
  one_head_answer (Ok (Cut a)) (Ok (Header b)) i j h k = let q = k.0 in absurd (let e = sym h.2 ∙ q.1 in cc)
  one_head_answer (Ok (Cut a)) (Ok (Block b)) i j h k = absurd (let e = sym h.2 ∙ k.1 in cc)
  one_head_answer (Ok (Cut a)) (Ok (Whole b)) i j h k = let q = k.0 in absurd (let e = sym h.2 ∙ q.1 in cc)
  one_head_answer (Ok (Cut a)) (Ok (FaultyHead b)) i j h k = let q = k.1 in absurd (let e = sym h.2 ∙ q.3 in cc)
  one_head_answer (Ok (Cut a)) (Ok (Cut b)) i j h k = (h.0 ∙ sym k.0, h.3 ∙ sym k.3)
  one_head_answer (Ok (ReadOn x)) y i j h k = absurd i
  one_head_answer (Err e) y i j h k = absurd i
  one_head_answer x (Ok (ReadOn y)) i j h k = absurd j
  one_head_answer x (Err e) i j h k = absurd j

-- ---- one after another

pub same_head_answers : (stream : List ℕ) (s end other : HeadDecoder) (xs ys : List HeadResult) → length xs ≡ length ys → AreHeadAnswers stream s xs end → AreHeadAnswers stream s ys other → SameHeadEvents xs ys × (end ≡ other)
same_head_answers stream s end other [] [] e h k = (tt, sym h ∙ k)
same_head_answers stream s end other [] (y ∷ ys) e h k = absurd cc
same_head_answers stream s end other (x ∷ xs) [] e h k = absurd cc
same_head_answers stream s end other (x ∷ xs) (y ∷ ys) e h k =
    let one = one_head_answer s (drop s.position stream) h.0 k.0 x y h.1 k.1 h.2 k.2 in
    let rest = same_head_answers stream h.0 end other xs ys (omega (arith, e)) h.3 (subst (λ (z : HeadDecoder). AreHeadAnswers stream z ys other) (sym one.1) k.3) in
    ((one.0, rest.0), rest.1)

-- ---- what the bytes begin with is answered

module _ (s new : HeadDecoder) (bytes : List ℕ) where
  abbrev Answers : Bool → HeadResult → Type 0
  Answers ends r = HeadEventIs s bytes ends r new

  part_answered : (ends : Bool) (r : HeadResult) (x : HeadPart) (rest : List ℕ) → Answers ends r → next_part s bytes ends ≡ Done x rest → IsAnswerFor x r ⊎ IsOutOfMemory r
  part_answered ends (Ok Marker) x rest h e = let k = sym h.1 ∙ e in let same : MarkerPart ≡ x = cc in inl (subst (λ (z : HeadPart). IsAnswerFor z (Ok Marker)) same refl)
  part_answered ends (Ok (Header a)) x rest h e = let p = h.0 in let k = sym p.1 ∙ e in let same : HeaderPart (shown_header a) ≡ x = cc in inl (subst (λ (z : HeadPart). IsAnswerFor z (Ok (Header a))) same refl)
  part_answered ends (Ok (Block a)) x rest h e = let k = sym h.1 ∙ e in let same : BlockPart (content_view a) ≡ x = cc in inl (subst (λ (z : HeadPart). IsAnswerFor z (Ok (Block a))) same refl)
  part_answered ends (Ok (Whole a)) x rest h e = let p = h.0 in let k = sym p.1 ∙ e in let same : EndPart ≡ x = cc in inl (subst (λ (z : HeadPart). IsAnswerFor z (Ok (Whole a))) same tt)
  part_answered ends (Ok (FaultyHead a)) x rest h e = let p = h.1 in absurd (let k = sym p.3 ∙ e in cc)
  part_answered ends (Ok (Cut a)) x rest h e = absurd (let k = sym h.2 ∙ e in cc)
  part_answered ends (Ok (ReadOn needed)) x rest h e = absurd (omega (arith, h.3, (takes_part s.next s.rules bytes x rest e).0))
  part_answered ends (Err error) x rest h e = inr h.0

  fault_answered : (ends : Bool) (r : HeadResult) (f : Fault) (rest : List ℕ) → Answers ends r → next_part s bytes ends ≡ Faulty f rest → (needs s ≤ length bytes) ⊎ (ends ≡ true) → IsFaultyHeadAnd r (IsFault f) ⊎ IsOutOfMemory r
  fault_answered ends (Ok Marker) f rest h e held = absurd (let k = sym h.1 ∙ e in cc)
  fault_answered ends (Ok (Header a)) f rest h e held = let p = h.0 in absurd (let k = sym p.1 ∙ e in cc)
  fault_answered ends (Ok (Block a)) f rest h e held = absurd (let k = sym h.1 ∙ e in cc)
  fault_answered ends (Ok (Whole a)) f rest h e held = let p = h.0 in absurd (let k = sym p.1 ∙ e in cc)
  fault_answered ends (Ok (FaultyHead a)) f rest h e held = let p = h.1 in let k = sym p.3 ∙ e in let same : p.0 ≡ f = cc in inl (subst (λ (z : Fault). IsFault z a.error) same p.2)
  fault_answered ends (Ok (Cut a)) f rest h e held = absurd (let k = sym h.2 ∙ e in cc)
  fault_answered ends (Ok (ReadOn needed)) f rest h e held = elim held [ inl enough ↦ absurd (omega (arith, h.3, enough)) | inr is ↦ absurd (let k = sym h.2 ∙ is in cc) ]
  fault_answered ends (Err error) f rest h e held = inr h.0

  cut_answered : (r : HeadResult) → Answers true r → next_part s bytes true ≡ Incomplete → IsCutHead r ⊎ IsOutOfMemory r
  cut_answered (Ok Marker) h e = absurd (let k = sym h.1 ∙ e in cc)
  cut_answered (Ok (Header a)) h e = let p = h.0 in absurd (let k = sym p.1 ∙ e in cc)
  cut_answered (Ok (Block a)) h e = absurd (let k = sym h.1 ∙ e in cc)
  cut_answered (Ok (Whole a)) h e = let p = h.0 in absurd (let k = sym p.1 ∙ e in cc)
  cut_answered (Ok (FaultyHead a)) h e = let p = h.1 in absurd (let k = sym p.3 ∙ e in cc)
  cut_answered (Ok (Cut a)) h e = inl tt
  cut_answered (Ok (ReadOn needed)) h e = absurd (let k = h.2 in cc)
  cut_answered (Err error) h e = inr h.0

  read_on_answered : (r : HeadResult) → Answers false r → next_part s bytes false ≡ Incomplete → IsReadOnHead r ⊎ IsOutOfMemory r
  read_on_answered (Ok Marker) h e = absurd (let k = sym h.1 ∙ e in cc)
  read_on_answered (Ok (Header a)) h e = let p = h.0 in absurd (let k = sym p.1 ∙ e in cc)
  read_on_answered (Ok (Block a)) h e = absurd (let k = sym h.1 ∙ e in cc)
  read_on_answered (Ok (Whole a)) h e = let p = h.0 in absurd (let k = sym p.1 ∙ e in cc)
  read_on_answered (Ok (FaultyHead a)) h e = let p = h.1 in absurd (let k = sym p.3 ∙ e in cc)
  read_on_answered (Ok (Cut a)) h e = absurd (let k = h.1 in cc)
  read_on_answered (Ok (ReadOn needed)) h e = inl tt
  read_on_answered (Err error) h e = inr h.0

pub answers_complete : HeadAnswersAreComplete
answers_complete = record {
  part = λ s new bytes rest ends r x h e. part_answered s new bytes ends r x rest h e;
  fault = λ s new bytes rest ends r f h e held. fault_answered s new bytes ends r f rest h e held;
  cut = λ s new bytes r h e. cut_answered s new bytes r h e;
  read_on = λ s new bytes r h e. read_on_answered s new bytes r h e;
}
