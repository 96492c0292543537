-- At a position of a stream there is one answer.
use Rattle.std.proofs.Common.{◌≡◌, ◌⊎◌, inl, inr, ℕ, ◌+◌, ◌≤◌, true, List, [], ◌∷◌, drop, length, Option, None, Some, refl, sym, ap, subst, ◌∙◌, arith}
use Rattle.std.specs.Prelude.{Result, Ok, Err, IsErrAnd}
use Rattle.claxon.specs.DecodedFrame.{decoded_view}
use Rattle.claxon.specs.Error.{IsFault, IsIo}
use Rattle.claxon.specs.Errors.{Error}
use Rattle.claxon.specs.Fault.{Fault}
use Rattle.claxon.specs.Frame.{IsBitDepth, StreamFormat, known_bit_depth}
use Rattle.claxon.specs.FrameReader.{FrameAnswer, block_view}
use Rattle.claxon.specs.Promises.{IsOutOfMemory}
use Rattle.claxon.proofs.DecodedFrames.{decoded_unambiguous}
use Rattle.claxon.proofs.SampleRuns.{short_no_fault, short_no_frame}
use Rattle.claxon_stream.specs.Event.{EventIs, IsAnswer, IsOpen, SameEvent}
use Rattle.claxon_stream.specs.Laws.{AreAnswers, IsAnswerOf, IsDecoders, SameEvents}
use Rattle.claxon_stream.specs.declared.event.Event.{Event}
use Rattle.claxon_stream.specs.declared.event.Event.TheVariants.{Cut, Decoded, End, Faulty, ReadOn}

module _ (stream : Option StreamFormat) (depth : IsBitDepth (known_bit_depth stream)) (bytes : List ℕ) (a b position new other : ℕ) where
  -- what stands there as a frame, as a fault, or as neither
  abbrev AtFirst : Result Event Error → Type 0
  AtFirst r = EventIs stream bytes true a position r new

  abbrev AtSecond : Result Event Error → Type 0
  AtSecond r = EventIs stream bytes true b position r other

  same_place : (n m : ℕ) (t u : List ℕ) → n ≡ length t → m ≡ length u → t ≡ u → new ≡ position + n → other ≡ position + m → new ≡ other
  same_place n m t u e f same p q = let long : length t ≡ length u = ap length same in omega (arith, e, f, long, p, q)

  pub one_answer : (x y : Result Event Error) → IsAnswer x → IsAnswer y → AtFirst x → AtSecond y → SameEvent x y × (new ≡ other)
  one_answer (Ok (Decoded x)) (Ok (Decoded y)) i j h k =
      let u = h.1 in
      let v = k.1 in
      let one = (decoded_unambiguous stream depth).one_code (decoded_view x) (decoded_view y) u.0 v.0 u.1 v.1 u.2 v.2 (sym u.3 ∙ v.3) in
      (one.0, same_place h.0 k.0 u.0 v.0 u.4 v.4 one.1 h.2 k.2)
  one_answer (Ok (Decoded x)) (Ok End) i j h k = let u = h.1 in absurd (short_no_frame stream bytes k.1 (block_view x.block) u.0 u.1 u.2.0 u.3)
  one_answer (Ok (Decoded x)) (Ok (Faulty y)) i j h k =
      let u = h.1 in
      let g = k.1 in
      let v = g.2.1 in
      absurd ((decoded_unambiguous stream depth).no_fault (decoded_view x) g.0 u.0 v.0 u.1 v.1 u.2 v.2 (sym u.3 ∙ v.3))
  one_answer (Ok (Decoded x)) (Ok (Cut y)) i j h k = let u = h.1 in absurd (k.3.no_code (block_view x.block) u.0 u.1 u.2.0 u.3)
  one_answer (Ok End) (Ok (Decoded y)) i j h k = let v = k.1 in absurd (short_no_frame stream bytes h.1 (block_view y.block) v.0 v.1 v.2.0 v.3)
  one_answer (Ok End) (Ok End) i j h k = (tt, h.2 ∙ sym k.2)
  one_answer (Ok End) (Ok (Faulty y)) i j h k = let g = k.1 in let v = g.2.1 in absurd (short_no_fault stream depth bytes h.1 g.0 v.0 v.1 v.2 v.3)
  one_answer (Ok End) (Ok (Cut y)) i j h k = absurd (omega (arith, h.1, k.2))
  one_answer (Ok (Faulty x)) (Ok (Decoded y)) i j h k =
      let f = h.1 in
      let u = f.2.1 in
      let v = k.1 in
      absurd ((decoded_unambiguous stream depth).no_fault (decoded_view y) f.0 v.0 u.0 v.1 u.1 v.2 u.2 (sym v.3 ∙ u.3))
  one_answer (Ok (Faulty x)) (Ok End) i j h k = let f = h.1 in let u = f.2.1 in absurd (short_no_fault stream depth bytes k.1 f.0 u.0 u.1 u.2 u.3)
  one_answer (Ok (Faulty x)) (Ok (Faulty y)) i j h k =
      let f = h.1 in
      let g = k.1 in
      let u = f.2.1 in
      let v = g.2.1 in
      let one = (decoded_unambiguous stream depth).one_fault f.0 g.0 u.0 v.0 u.1 v.1 u.2 v.2 (sym u.3 ∙ v.3) in
      ((h.0 ∙ sym k.0, (g.0, subst (λ (z : Fault). IsFault z x.error) one.0 f.1, g.1)), same_place f.2.0 g.2.0 u.0 v.0 u.4 v.4 one.1 f.2.2 g.2.2)
  one_answer (Ok (Faulty x)) (Ok (Cut y)) i j h k = let f = h.1 in let u = f.2.1 in absurd (k.3.no_fault f.0 u.0 u.1 u.2 u.3)
  one_answer (Ok (Cut x)) (Ok (Decoded y)) i j h k = let v = k.1 in absurd (h.3.no_code (block_view y.block) v.0 v.1 v.2.0 v.3)
  one_answer (Ok (Cut x)) (Ok End) i j h k = absurd (omega (arith, h.2, k.1))
  one_answer (Ok (Cut x)) (Ok (Faulty y)) i j h k = let g = k.1 in let v = g.2.1 in absurd (h.3.no_fault g.0 v.0 v.1 v.2 v.3)
  one_answer (Ok (Cut x)) (Ok (Cut y)) i j h k = (h.0 ∙ sym k.0, h.4 ∙ sym k.4)
  one_answer (Ok (ReadOn x)) y i j h k = absurd i
  one_answer (Err e) y i j h k = absurd i
  one_answer x (Ok (ReadOn y)) i j h k = absurd j
  one_answer x (Err e) i j h k = absurd j

-- ---- one after another

module _ (stream : Option StreamFormat) (depth : IsBitDepth (known_bit_depth stream)) (bytes : List ℕ) where
  pub same_answers : (at end other : ℕ) (xs ys : List (Result Event Error)) → length xs ≡ length ys → AreAnswers stream bytes at xs end → AreAnswers stream bytes at ys other → SameEvents xs ys × (end ≡ other)
  same_answers at end other [] [] e h k = (tt, sym h ∙ k)
  same_answers at end other [] (y ∷ ys) e h k = absurd cc
  same_answers at end other (x ∷ xs) [] e h k = absurd cc
  same_answers at end other (x ∷ xs) (y ∷ ys) e h k =
      let one = one_answer stream depth (drop at bytes) h.0 k.0 at h.1 k.1 x y h.2 k.2 h.3 k.3 in
      let rest = same_answers h.1 end other xs ys (omega (arith, e)) h.4 (subst (λ (n : ℕ). AreAnswers stream bytes n ys other) (sym one.1) k.4) in
      ((one.0, rest.0), rest.1)

-- ---- the decoder's answer

module _ (stream : Option StreamFormat) (bytes : List ℕ) (capacity position new : ℕ) where
  -- neither a frame nor a fault stands there
  open_is_io : IsOpen stream bytes → 2 ≤ length bytes → (r : FrameAnswer) → IsAnswerOf stream bytes r → IsErrAnd r IsIo ⊎ IsOutOfMemory r
  open_is_io is two (Ok (Some block)) h = let k = h.sound in absurd (is.no_code (block_view block) k.0 k.1 k.2 k.3)
  open_is_io is two (Ok None) h = absurd (omega (arith, h.none.0 refl, two))
  open_is_io is two (Err e) h = elim h.fault [
    | inl memory ↦ inr (ap (λ (x : Error). let r : FrameAnswer = Err x in r) memory)
    | inr (inl io) ↦ inl io
    | inr (inr f) ↦ (let k = f.2 in absurd (is.no_fault f.0 k.0 k.1 k.2 k.3))
  ]

  pub is_decoders : (x : Result Event Error) (r : FrameAnswer) → IsAnswer x → EventIs stream bytes true capacity position x new → IsAnswerOf stream bytes r → IsDecoders x r ⊎ IsOutOfMemory r
  is_decoders (Ok (Decoded frame)) r i e h = let u = e.1 in h.complete (block_view frame.block) (u.0, u.1, u.2.0, u.3)
  is_decoders (Ok End) r i e h = inl (h.none.1 e.1)
  is_decoders (Ok (Faulty fault)) r i e h =
      let f = e.1 in
      let u = f.2.1 in
      elim (h.named f.0 (u.0, u.1, u.2, u.3)) [ inl p ↦ inl (f.0, f.1, p) | inr memory ↦ inr memory ]
  is_decoders (Ok (Cut at)) r i e h = open_is_io e.3 e.2 r h
  is_decoders (Ok (ReadOn needed)) r i e h = absurd i
  is_decoders (Err x) r i e h = absurd i
