-- From a position of a stream on a search has one answer.
use Rattle.std.proofs.Common.{◌≡◌, inl, inr, ℕ, zero, suc, ◌+◌, ◌-◌, ◌<◌, false, List, length, drop, Option, None, sym, ap, subst, ◌∙◌, arith}
use Rattle.std.specs.Prelude.{Result, Ok, Err}
use Rattle.std.proofs.lemmas.Bool.{cases_lt, false≢true}
use Rattle.claxon.specs.BlockInfos.{BlockInfo}
use Rattle.claxon.specs.DecodedFrame.{FrameWithHeader, decoded_view}
use Rattle.claxon.specs.Errors.{Error}
use Rattle.claxon.specs.Frame.{IsBitDepth, known_bit_depth}
use Rattle.claxon.specs.StreamInfos.{StreamInfo}
use Rattle.claxon.proofs.DecodedFrames.{decoded_unambiguous}
use Rattle.claxon.proofs.FormatLaws.{frames_unambiguous}
use Rattle.claxon_seek.specs.Find.{NoFrameBetween, WantedFrame, known_format}
use Rattle.claxon_seek.proofs.Searches.{none_at_end, same_header}
use Rattle.claxon_stream.specs.DecodedAtStart.{BeginsWithLength}
use Rattle.claxon_stream.specs.FindLaws.{IsFindAnswer, IsFirst, IsKnown, SameFind}
use Rattle.claxon_stream.specs.Search.{Cost, FindEventIs, FitsBudget, IsReadInVain, Passes, PassesByte, after_bytes, after_work, samples_of}
use Rattle.claxon_stream.specs.declared.event.FindEvent.{FindEvent}
use Rattle.claxon_stream.specs.declared.event.FindEvent.TheVariants.{Found, NotFound, ReadOn}
use Rattle.claxon_stream.proofs.Notes.{known_depth}

module _ (known : Option StreamInfo) (depth : IsKnown known) where
  is_depth : IsBitDepth (known_bit_depth (known_format known))
  is_depth = known_depth known depth

  -- ---- what is read in vain

  -- begins no frame
  pub vain_is_no_frame : (bytes : List ℕ) (n : ℕ) (info : BlockInfo) → IsReadInVain known bytes n → WantedFrame known None bytes info → ⊥
  vain_is_no_frame bytes n info vain wanted =
      let block = wanted.frame.0 in
      let code = wanted.frame.1 in
      elim vain [
        | inl f ↦ (let bad = f.1 in (frames_unambiguous (known_format known) is_depth).no_fault block f.0 code.0 bad.0 code.1 bad.1 code.2 bad.2 (sym code.3 ∙ bad.3))
        | inr e ↦ e.0.no_code block code.0 code.1 code.2 code.3
      ]

  -- has one length
  pub one_length : (bytes : List ℕ) (n m : ℕ) → IsReadInVain known bytes n → IsReadInVain known bytes m → n ≡ m
  one_length bytes n m a b = elim a [
    | inl f ↦ elim b [
      | inl g ↦ (let p = f.1 in let q = g.1 in
          let same = ((frames_unambiguous (known_format known) is_depth).one_fault f.0 g.0 p.0 q.0 p.1 q.1 p.2 q.2 (sym p.3 ∙ q.3)).1 in
          let long : length p.0 ≡ length q.0 = ap length same in
          omega (arith, p.4, q.4, long))
      | inr e ↦ (let p = f.1 in absurd (e.0.no_fault f.0 p.0 p.1 p.2 p.3))
    ]
    | inr d ↦ elim b [
      | inl g ↦ (let q = g.1 in absurd (d.0.no_fault g.0 q.0 q.1 q.2 q.3))
      | inr e ↦ d.1 ∙ sym e.1
    ]
  ]

  -- ---- one way to pass

  one_byte : (bytes : List ℕ) (old x y : Cost) → PassesByte known bytes old x → PassesByte known bytes old y → x ≡ y
  one_byte bytes old x y (inl a) (inl b) = a.1 ∙ sym b.1
  one_byte bytes old x y (inl a) (inr (j, wanted, b)) = absurd (a.0 j wanted)
  one_byte bytes old x y (inr (i, wanted, a)) (inl b) = absurd (b.0 i wanted)
  one_byte bytes old x y (inr (i, wanted, inl a)) (inr (j, other, inl b)) = a.1 ∙ sym b.1
  one_byte bytes old x y (inr (i, wanted, inl a)) (inr (j, other, inr b)) =
      let same = same_header known None bytes j i other wanted in
      absurd (a.0 (subst (FitsBudget old) same b.0))
  one_byte bytes old x y (inr (i, wanted, inr a)) (inr (j, other, inl b)) =
      let same = same_header known None bytes i j wanted other in
      absurd (b.0 (subst (FitsBudget old) same a.0))
  one_byte bytes old x y (inr (i, wanted, inr (fits, (n, vain, a)))) (inr (j, other, inr (also, (m, empty, b)))) =
      let same = same_header known None bytes i j wanted other in
      let long = one_length bytes n m vain empty in
      let work : n + samples_of i ≡ m + samples_of j = ap (λ (k : ℕ). k + samples_of i) long ∙ ap (λ (k : BlockInfo). m + samples_of k) same in
      a ∙ ap (λ (k : ℕ). after_bytes 1 (after_work k old)) work ∙ sym b

  pub one_passing : (bytes : List ℕ) (old : Cost) (count : ℕ) (x y : Cost) → Passes known bytes count old x → Passes known bytes count old y → x ≡ y
  one_passing bytes old zero x y a b = a ∙ sym b
  one_passing bytes old (suc count) x y (u, p, a) (v, q, b) =
      let same = one_passing bytes old count u v p q in
      one_byte (drop count bytes) v x y (subst (λ (e : Cost). PassesByte known (drop count bytes) e x) same a) b

  -- the cost after fewer bytes, and how the next one is passed
  pub passing_of : (bytes : List ℕ) (old : Cost) (count less : ℕ) (new : Cost) → less < count → Passes known bytes count old new → (before : Cost) × (after : Cost) × Passes known bytes less old before × PassesByte known (drop less bytes) before after
  passing_of bytes old zero less new lt h = absurd (omega (arith, lt))
  passing_of bytes old (suc count) less new lt (between, p, byte) = elim (cases_lt less count) [
    | inl fewer ↦ passing_of bytes old count less between fewer p
    | inr le ↦ (let same : count ≡ less = omega (arith, lt, le) in (
      between,
      new,
      subst (λ (n : ℕ). Passes known bytes n old between) same p,
      subst (λ (n : ℕ). PassesByte known (drop n bytes) between new) same byte,
    ))
  ]

  -- what is tried there isn't passed
  pub tried_isnt_passed : (bytes : List ℕ) (before after : Cost) (info : BlockInfo) → PassesByte known bytes before after → WantedFrame known None bytes info → FitsBudget before info → ⊥
  tried_isnt_passed bytes before after info (inl a) wanted fits = a.0 info wanted.wanted
  tried_isnt_passed bytes before after info (inr (j, other, inl b)) wanted fits =
      let same = same_header known None bytes info j wanted.wanted other in
      b.0 (subst (FitsBudget before) same fits)
  tried_isnt_passed bytes before after info (inr (j, other, inr (also, (n, vain, b)))) wanted fits = vain_is_no_frame bytes n info vain wanted

  -- ---- one answer

  module _ (bytes : List ℕ) (position : ℕ) (old : Cost) where
    inside : (n : ℕ) (info : BlockInfo) → WantedFrame known None (drop n bytes) info → n < length bytes
    inside n info wanted = elim (cases_lt n (length bytes)) [
      | inl lt ↦ lt
      | inr le ↦ absurd (none_at_end known None bytes n info le wanted.wanted)
    ]

    -- a frame isn't passed by a search that finds it first
    not_beyond : (count more : ℕ) (before last : Cost) (info : BlockInfo) → count < more → Passes known bytes count old before → WantedFrame known None (drop count bytes) info → FitsBudget before info → Passes known bytes more old last → ⊥
    not_beyond count more before last info lt p wanted fits q =
        let k = passing_of bytes old more count last lt q in
        let same = one_passing bytes old count before k.0 p k.2 in
        tried_isnt_passed (drop count bytes) k.0 k.1 info k.3 wanted (subst (λ (e : Cost). FitsBudget e info) same fits)

    pub one_find : (x y : Result FindEvent Error) (new other : ℕ) (after later : Cost) → IsFindAnswer x → IsFindAnswer y → FindEventIs known bytes position old x new after → FindEventIs known bytes position old y other later → SameFind x y × (new ≡ other) × (after ≡ later)
    one_find (Ok (Found a f)) (Ok (Found b g)) new other after later i j (n, before, taken, at, p, wanted, fits, begins, to, cost) (m, first, read, there, q, also, fit, starts, end, spent) = elim (cases_lt n m) [
      | inl lt ↦ absurd (not_beyond n m before first f.info lt p wanted fits q)
      | inr le ↦ elim (cases_lt m n) [
        | inl lt ↦ absurd (not_beyond m n first before g.info lt q also fit p)
        | inr ge ↦ (let same : m ≡ n = omega (arith, le, ge) in
            let place : a ≡ b = omega (arith, at, there, same) in
            let u = begins in
            let v = subst (λ (k : ℕ). BeginsWithLength (FrameWithHeader (known_format known) (decoded_view g)) (drop k bytes) read) same starts in
            let one = (decoded_unambiguous (known_format known) is_depth).one_code (decoded_view f) (decoded_view g) u.0 v.0 u.1 v.1 u.2 v.2 (sym u.3 ∙ v.3) in
            let long : length u.0 ≡ length v.0 = ap length one.1 in
            let lengths : taken ≡ read = omega (arith, u.4, v.4, long) in
            let costs : before ≡ first = one_passing bytes old n before first p (subst (λ (k : ℕ). Passes known bytes k old first) same q) in
            ((place, one.0), to ∙ ap (λ (k : ℕ). k + taken) place ∙ ap (λ (k : ℕ). b + k) lengths ∙ sym end, cost ∙ ap (after_bytes taken) costs ∙ ap (λ (k : ℕ). after_bytes k first) lengths ∙ sym spent))
      ]
    ]
    one_find (Ok (Found a f)) (Ok NotFound) new other after later i j (n, before, taken, at, p, wanted, fits, begins, to, cost) (q, end) =
        absurd (not_beyond n (length bytes) before later f.info (inside n f.info wanted) p wanted fits q)
    one_find (Ok NotFound) (Ok (Found b g)) new other after later i j (q, end) (n, before, taken, at, p, wanted, fits, begins, to, cost) =
        absurd (not_beyond n (length bytes) before after g.info (inside n g.info wanted) p wanted fits q)
    one_find (Ok NotFound) (Ok NotFound) new other after later i j (p, to) (q, end) = (tt, to ∙ sym end, one_passing bytes old (length bytes) after later p q)
    one_find (Ok (ReadOn needed)) y new other after later i j h k = absurd i
    one_find (Err e) y new other after later i j h k = absurd i
    one_find x (Ok (ReadOn needed)) new other after later i j h k = absurd j
    one_find x (Err e) new other after later i j h k = absurd j

  -- ---- the first one

  over_before : (bytes : List ℕ) (old new : Cost) → PassesByte known bytes old new → new.passes_over ≡ false → old.passes_over ≡ false
  over_before bytes old new (inl a) e = sym (ap (λ (x : Cost). x.passes_over) a.1) ∙ e
  over_before bytes old new (inr (i, wanted, inl a)) e = absurd (false≢true (sym e ∙ ap (λ (x : Cost). x.passes_over) a.1))
  over_before bytes old new (inr (i, wanted, inr (fits, (n, vain, a)))) e = sym (ap (λ (x : Cost). x.passes_over) a) ∙ e

  no_frame_passed : (bytes : List ℕ) (old new : Cost) → PassesByte known bytes old new → new.passes_over ≡ false → (info : BlockInfo) → WantedFrame known None bytes info → ⊥
  no_frame_passed bytes old new (inl a) e info wanted = a.0 info wanted.wanted
  no_frame_passed bytes old new (inr (i, there, inl a)) e info wanted = false≢true (sym e ∙ ap (λ (x : Cost). x.passes_over) a.1)
  no_frame_passed bytes old new (inr (i, there, inr (fits, (n, vain, a)))) e info wanted = vain_is_no_frame bytes n info vain wanted

  none_passed : (bytes : List ℕ) (old : Cost) (count : ℕ) (new : Cost) → Passes known bytes count old new → new.passes_over ≡ false → NoFrameBetween known None bytes 0 count
  none_passed bytes old zero new p e at after before info wanted = omega (arith, before)
  none_passed bytes old (suc count) new (between, p, byte) e at after before info wanted = elim (cases_lt at count) [
    | inl lt ↦ none_passed bytes old count between p (over_before (drop count bytes) between new byte e) at after lt info wanted
    | inr le ↦ (let same : at ≡ count = omega (arith, le, before) in
        no_frame_passed (drop count bytes) between new byte e info (subst (λ (n : ℕ). WantedFrame known None (drop n bytes) info) same wanted))
  ]

  pub find_is_first : (bytes : List ℕ) (position : ℕ) (old : Cost) (x : Result FindEvent Error) (new : ℕ) (after : Cost) → FindEventIs known bytes position old x new after → after.passes_over ≡ false → IsFirst known bytes position x
  find_is_first bytes position old (Ok (Found a f)) new after (n, before, taken, at, p, wanted, fits, begins, to, cost) e =
      let count : n ≡ a - position = omega (arith, at) in
      subst (NoFrameBetween known None bytes 0) count (none_passed bytes old n before p (sym (ap (λ (x : Cost). x.passes_over) cost) ∙ e))
  find_is_first bytes position old (Ok NotFound) new after (p, to) e = λ at from info wanted. elim (cases_lt at (length bytes)) [
    | inl lt ↦ none_passed bytes old (length bytes) after p e at from lt info wanted
    | inr le ↦ none_at_end known None bytes at info le wanted.wanted
  ]
  find_is_first bytes position old (Ok (ReadOn needed)) new after h e = tt
  find_is_first bytes position old (Err x) new after h e = tt
