-- What a seek answers, and what that says.
use Rattle.std.proofs.Common.{◌≡◌, inl, inr, ℕ, zero, suc, ◌+◌, ◌-◌, ◌<◌, ◌≤◌, true, false, List, length, drop, Option, None, sym, ap, subst, ◌∙◌, arith}
use Rattle.std.specs.Prelude.{Result, Ok, Err}
use Rattle.std.proofs.lemmas.Bool.{cases_lt, false≢true}
use Rattle.std.proofs.lemmas.List.{drop-drop}
use Rattle.claxon.specs.BlockInfos.{BlockInfo}
use Rattle.claxon.specs.Errors.{Error}
use Rattle.claxon.specs.StreamInfos.{StreamInfo}
use Rattle.claxon_seek.specs.Find.{WantedFrame}
use Rattle.claxon_seek.proofs.Searches.{none_at_end, same_header}
use Rattle.claxon_stream.specs.FindLaws.{IsKnown}
use Rattle.claxon_stream.specs.Search.{Cost, FitsBudget, after_bytes, after_work, samples_of}
use Rattle.claxon_stream.proofs.OneFinds.{one_length, vain_is_no_frame}
use Rattle.claxon_stream_seek.specs.SeekLaws.{SameSeek}
use Rattle.claxon_stream_seek.specs.Sought.{NoneIsThere, Passes, PassesAll, PassesByte, SeekEventIs, SoughtFrame_at}
use Rattle.claxon_stream_seek.specs.declared.event.SeekEvent.{SeekEvent}
use Rattle.claxon_stream_seek.specs.declared.event.SeekEvent.TheVariants.{Found, NotFound, OverBudget, ReadOn}
use Rattle.claxon_stream_seek.specs.declared.sought.Sought.{Sought}

module _ (known : Option StreamInfo) (depth : IsKnown known) (s : Sought) (stream : List ℕ) where
  over_before : (at : ℕ) (old new : Cost) → PassesByte known s stream at old new → new.passes_over ≡ false → old.passes_over ≡ false
  over_before at old new (inl a) e = sym (ap (λ (x : Cost). x.passes_over) a.1) ∙ e
  over_before at old new (inr (i, wanted, inl a)) e = absurd (false≢true (sym e ∙ ap (λ (x : Cost). x.passes_over) a.1))
  over_before at old new (inr (i, wanted, inr (fits, (n, vain, a)))) e = sym (ap (λ (x : Cost). x.passes_over) a) ∙ e

  no_frame_passed : (at : ℕ) (old new : Cost) → PassesByte known s stream at old new → new.passes_over ≡ false → (info : BlockInfo) → SoughtFrame_at known s stream at info → ⊥
  no_frame_passed at old new (inl a) e info there = a.0 info (there.0.wanted, there.1)
  no_frame_passed at old new (inr (i, wanted, inl a)) e info there = false≢true (sym e ∙ ap (λ (x : Cost). x.passes_over) a.1)
  no_frame_passed at old new (inr (i, wanted, inr (fits, (n, vain, a)))) e info there = vain_is_no_frame known depth (drop at stream) n info vain there.0

  none_passed : (count : ℕ) (new : Cost) → Passes known s stream count new → new.passes_over ≡ false → (at : ℕ) (info : BlockInfo) → s.first_frame ≤ at → at < s.first_frame + count → SoughtFrame_at known s stream at info → ⊥
  none_passed zero new p e at info after before there = omega (arith, after, before)
  none_passed (suc count) new (between, p, byte) e at info after before there = elim (cases_lt at (s.first_frame + count)) [
    | inl lt ↦ none_passed count between p (over_before (s.first_frame + count) between new byte e) at info after lt there
    | inr le ↦ (let same : at ≡ s.first_frame + count = omega (arith, le, before) in
        no_frame_passed (s.first_frame + count) between new byte e info (subst (λ (n : ℕ). SoughtFrame_at known s stream n info) same there))
  ]

  pub not_found_is_none : PassesAll known s stream false → NoneIsThere known s stream
  not_found_is_none (cost, p, e) at info after there =
      let from = s.first_frame in
      let here : from + (at - from) ≡ at = omega (arith, after) in
      elim (cases_lt (at - from) (length (drop from stream))) [
        | inl lt ↦ none_passed (length (drop from stream)) cost p e at info after (omega (arith, lt, after)) there
        | inr le ↦ none_at_end known None (drop from stream) (at - from) info le
            (subst (λ (z : List ℕ). WantedFrame known None z info) (sym (drop-drop (at - from) from stream ∙ ap (λ (n : ℕ). drop n stream) here)) there.0).wanted
      ]

  -- ---- one way to pass

  one_byte : (at : ℕ) (old x y : Cost) → PassesByte known s stream at old x → PassesByte known s stream at old y → x ≡ y
  one_byte at old x y (inl a) (inl b) = a.1 ∙ sym b.1
  one_byte at old x y (inl a) (inr (j, wanted, b)) = absurd (a.0 j wanted)
  one_byte at old x y (inr (i, wanted, a)) (inl b) = absurd (b.0 i wanted)
  one_byte at old x y (inr (i, wanted, inl a)) (inr (j, other, inl b)) = a.1 ∙ sym b.1
  one_byte at old x y (inr (i, wanted, inl a)) (inr (j, other, inr b)) =
      let same = same_header known None (drop at stream) j i other.0 wanted.0 in
      absurd (a.0 (subst (FitsBudget old) same b.0))
  one_byte at old x y (inr (i, wanted, inr a)) (inr (j, other, inl b)) =
      let same = same_header known None (drop at stream) i j wanted.0 other.0 in
      absurd (b.0 (subst (FitsBudget old) same a.0))
  one_byte at old x y (inr (i, wanted, inr (fits, (n, vain, a)))) (inr (j, other, inr (also, (m, empty, b)))) =
      let same = same_header known None (drop at stream) i j wanted.0 other.0 in
      let long = one_length known depth (drop at stream) n m vain empty in
      let work : n + samples_of i ≡ m + samples_of j = ap (λ (k : ℕ). k + samples_of i) long ∙ ap (λ (k : BlockInfo). m + samples_of k) same in
      a ∙ ap (λ (k : ℕ). after_bytes 1 (after_work k old)) work ∙ sym b

  one_passing : (count : ℕ) (x y : Cost) → Passes known s stream count x → Passes known s stream count y → x ≡ y
  one_passing zero x y a b = a ∙ sym b
  one_passing (suc count) x y (u, p, a) (v, q, b) =
      let same = one_passing count u v p q in
      one_byte (s.first_frame + count) v x y (subst (λ (e : Cost). PassesByte known s stream (s.first_frame + count) e x) same a) b

  both_ends : PassesAll known s stream false → PassesAll known s stream true → ⊥
  both_ends (a, p, e) (b, q, f) = false≢true (sym e ∙ ap (λ (x : Cost). x.passes_over) (one_passing (length (drop s.first_frame stream)) a b p q) ∙ f)

  pub seeks_agree : (x y : Result SeekEvent Error) → SeekEventIs known s stream x → SeekEventIs known s stream y → SameSeek x y
  seeks_agree (Ok (Found a)) (Ok NotFound) h k = not_found_is_none k a.position a.frame.info h.after_first h.there
  seeks_agree (Ok NotFound) (Ok (Found b)) h k = not_found_is_none h b.position b.frame.info k.after_first k.there
  seeks_agree (Ok NotFound) (Ok OverBudget) h k = both_ends h k
  seeks_agree (Ok OverBudget) (Ok NotFound) h k = both_ends k h
  seeks_agree (Ok (Found a)) (Ok (Found b)) h k = tt
  seeks_agree (Ok (Found a)) (Ok OverBudget) h k = tt
  seeks_agree (Ok OverBudget) (Ok (Found b)) h k = tt
  seeks_agree (Ok NotFound) (Ok NotFound) h k = tt
  seeks_agree (Ok OverBudget) (Ok OverBudget) h k = tt
  seeks_agree (Ok (ReadOn needed)) y h k = tt
  seeks_agree (Err e) y h k = tt
  seeks_agree (Ok (Found a)) (Ok (ReadOn needed)) h k = tt
  seeks_agree (Ok NotFound) (Ok (ReadOn needed)) h k = tt
  seeks_agree (Ok OverBudget) (Ok (ReadOn needed)) h k = tt
  seeks_agree (Ok (Found a)) (Err e) h k = tt
  seeks_agree (Ok NotFound) (Err e) h k = tt
  seeks_agree (Ok OverBudget) (Err e) h k = tt
