-- A search for a frame, position by position.
use Rattle.std.proofs.Common.{◌≡◌, ◌⊎◌, inl, inr, ℕ, suc, ◌+◌, ◌-◌, ◌*◌, ◌<◌, ◌≤◌, min, max, List, [], ◌++◌, length, drop, take, Option, None, Some, refl, sym, ap, subst, ◌∙◌, append_assoc, arith}
use Rattle.std.specs.Prelude.{Ok, Err, IfSome, IsErrAnd, IsOkAnd, IsSomeAnd}
use Rattle.std.proofs.lemmas.Bool.{cases_lt}
use Rattle.std.proofs.lemmas.List.{drop-append-le, length-drop, take_all}
use Rattle.claxon.specs.Block.{BlockValue}
use Rattle.claxon.specs.BlockInfo.{HeaderAnswer, HeaderOf, SaysBlock}
use Rattle.claxon.specs.BlockInfos.{BlockInfo}
use Rattle.claxon.specs.Error.{IsFault, IsIo}
use Rattle.claxon.specs.Errors.{Error}
use Rattle.claxon.specs.Errors.TheVariants.{IoError, OutOfMemory}
use Rattle.claxon.specs.Fault.{Fault}
use Rattle.claxon.specs.ShownHead.{HasBitDepth}
use Rattle.claxon.specs.Frame.{Block, Frame, IsBitDepth, StreamFormat, known_bit_depth}
use Rattle.claxon.specs.FrameReader.{FrameAnswer, block_view}
use Rattle.claxon.specs.Prefix.{BeginsWith}
use Rattle.claxon.specs.Promises.{IsOutOfMemory}
use Rattle.claxon.specs.StreamInfos.{StreamInfo}
use Rattle.claxon.proofs.BlockInfo.{header_has_two_bytes, headers_unambiguous}
use Rattle.claxon.proofs.FormatLaws.{frames_unambiguous}
use Rattle.claxon.proofs.FrameHeaders.{frame_has_header}
use Rattle.claxon_seek.specs.AtStart.{BeginsWithLength, FaultIsTaken, FrameAtStart, HeaderAtStart}
use Rattle.claxon_seek.specs.Find.{BeginsWithFrame, FindGives, FrameIsAtStart, HasFormat, HeaderCost, HeaderCosts, HoldsSample, IsSpent, IsUndecided, NoFrameBetween, WantedFrame, WantedHeader, WantedHeaderAtStart, WastesBytes, known_format, wasted_by}
use Rattle.claxon_seek.specs.declared.find.FrameThere.{FrameThere}
use Rattle.claxon_seek.specs.declared.find.FrameThere.TheVariants.{CutFrame, Faulty, Whole}
use Rattle.claxon_seek.specs.declared.find.HeaderThere.TheVariants.{CutHeader, NotWanted}
use Rattle.claxon_seek.specs.declared.search.Search.TheVariants.{Found, NotFound, OverBudget}

-- the bytes from a position on
pub rest_is : (bytes : List ℕ) (at : ℕ) → take (length bytes - at) (drop at bytes) ≡ drop at bytes
rest_is bytes at = take_all (length bytes - at) (drop at bytes) (omega (arith, length-drop at bytes))

-- ---- more bytes

-- what bytes begin with they begin with whatever follows
pub begins_longer : {C : List ℕ → Type 0} (bytes more : List ℕ) → BeginsWith C bytes → BeginsWith C (bytes ++ more)
begins_longer bytes more (t, rest, code, e) = (t, rest ++ more, code, ap (λ (s : List ℕ). s ++ more) e ∙ append_assoc t rest more)

pub rest_longer : (bytes more : List ℕ) (at : ℕ) → at ≤ length bytes → drop at (bytes ++ more) ≡ drop at bytes ++ more
rest_longer bytes more at inside = drop-append-le at bytes more inside

-- ---- the frame that bytes begin with

-- the bit depth that is known
pub known_depth : (known : Option StreamInfo) → IfSome known (λ info. HasBitDepth info) → IsBitDepth (known_bit_depth (known_format known))
known_depth None h = tt
known_depth (Some info) h = h

module _ (known : Option StreamInfo) (bytes : List ℕ) (taken : ℕ) where
  abbrev stream : Option StreamFormat
  stream = known_format known

  pub whole_there : (block : BlockValue) → BeginsWithLength (Frame stream (block_view block)) bytes taken → BeginsWithFrame stream bytes
  whole_there block k = record { block = block_view block; frame = (k.0, k.1, k.2, k.3) }

  -- a result that is no block and not `OutOfMemory`
  pub none_else : (r : FrameAnswer) → FrameAtStart stream bytes r taken → (IsOutOfMemory r → ⊥) → ((block : Block) → IsOkAnd r (λ found. IsSomeAnd found (λ x. block_view x ≡ block)) → ⊥) → BeginsWithFrame stream bytes → ⊥
  none_else r h other no_block found = elim (h.complete found.block found.frame) [ inl p ↦ no_block found.block p | inr m ↦ other m ]

  -- a fault of the bytes is one whatever follows
  pub faulty_there : IsBitDepth (known_bit_depth stream) → (e : Error) → FrameAtStart stream bytes (Err e) taken → FaultIsTaken {A = BlockValue} stream bytes (Err e) taken → (e ≡ OutOfMemory → ⊥) → (IsIo e → ⊥) → FrameIsAtStart known bytes (Ok (Faulty taken))
  faulty_there depth e h t other no_io = (
    λ more found. elim h.fault [
      | inl m ↦ other m
      | inr (inl i) ↦ no_io i
      | inr (inr f) ↦ (let bad = begins_longer bytes more f.2 in let code = found.frame in
          (frames_unambiguous stream depth).no_fault found.block f.0 code.0 bad.0 code.1 bad.1 code.2 bad.2 (sym code.3 ∙ bad.3))
    ],
    elim t [ inl m ↦ absurd (other m) | inr (inl i) ↦ absurd (no_io i) | inr (inr f) ↦ (f.0, f.2) ],
  )

  cut : (r : FrameAnswer) → FrameAtStart stream bytes r taken → (IsOutOfMemory r → ⊥) → ((block : Block) → IsOkAnd r (λ found. IsSomeAnd found (λ x. block_view x ≡ block)) → ⊥) → ((f : Fault) → IsErrAnd r (IsFault f) → ⊥) → FrameIsAtStart known bytes (Ok CutFrame)
  cut r h other no_block no_fault = (
    none_else r h other no_block,
    record {
      no_code = λ block t rest code e. none_else r h other no_block (record { block = block; frame = (t, rest, code, e) });
      no_fault = λ f t rest bad e. elim (h.named f (t, rest, bad, e)) [ inl p ↦ no_fault f p | inr m ↦ other m ];
    },
  )

  pub cut_by_io : (cause : _) → FrameAtStart stream bytes (Err (IoError cause)) taken → FrameIsAtStart known bytes (Ok CutFrame)
  cut_by_io cause h = cut (Err (IoError cause)) h (λ m. absurd cc) (λ block p. p) (λ f p. p)

-- ---- the bytes that are read in vain

pub wastes_there : (known : Option StreamInfo) (bytes : List ℕ) (f : FrameThere) → FrameIsAtStart known bytes (Ok f) → WastesBytes known bytes (wasted_by f (length bytes))
wastes_there known bytes (Whole len block) h = inl (whole_there known bytes len block h, refl)
wastes_there known bytes (Faulty len) h = inr (inl h.1)
wastes_there known bytes CutFrame h = inr (inr (h.1, refl))

-- ---- the header that bytes begin with

module _ (known : Option StreamInfo) (sample : Option ℕ) where
  -- one header begins there
  pub same_header : (bytes : List ℕ) (x y : BlockInfo) → WantedHeader known sample bytes x → WantedHeader known sample bytes y → x ≡ y
  same_header bytes x y a b = let h = a.header in let k = b.header in ((headers_unambiguous (known_format known)).one_code x y h.0 k.0 h.1 k.1 h.2 k.2 (sym h.3 ∙ k.3)).0

  pub header_longer : (bytes more : List ℕ) (info : BlockInfo) → WantedHeader known sample bytes info → WantedHeader known sample (bytes ++ more) info
  header_longer bytes more info h = record { format = h.format; holds = h.holds; header = begins_longer bytes more h.header }

  -- another header than one that is wanted
  pub other_header : (bytes : List ℕ) (block : BlockInfo) → BeginsWith (HeaderOf (known_format known) block) bytes → ((HasFormat known block × HoldsSample sample block) → ⊥) → WantedHeaderAtStart known sample bytes NotWanted
  other_header bytes block begins not_wanted more info wanted =
      let h = wanted.header in
      let k = begins_longer bytes more begins in
      let same = ((headers_unambiguous (known_format known)).one_code info block h.0 k.0 h.1 k.1 h.2 k.2 (sym h.3 ∙ k.3)).0 in
      not_wanted (subst (HasFormat known) same wanted.format, subst (HoldsSample sample) same wanted.holds)

  pub faulty_header : (bytes : List ℕ) (e : Error) → HeaderAtStart (known_format known) bytes (Err e) → (IsIo e → ⊥) → WantedHeaderAtStart known sample bytes NotWanted
  faulty_header bytes e h no_io more info wanted = elim h.fault [
    | inl i ↦ no_io i
    | inr f ↦ (let bad = begins_longer bytes more f.2 in let code = wanted.header in
        (headers_unambiguous (known_format known)).no_fault info f.0 code.0 bad.0 code.1 bad.1 code.2 bad.2 (sym code.3 ∙ bad.3))
  ]

  cut_header : (bytes : List ℕ) (r : HeaderAnswer) → HeaderAtStart (known_format known) bytes r → ((info : BlockInfo) → IsOkAnd r (λ found. IsSomeAnd found (λ x. x ≡ info)) → ⊥) → ((f : Fault) → IsErrAnd r (IsFault f) → ⊥) → WantedHeaderAtStart known sample bytes CutHeader
  cut_header bytes r h no_header no_fault = (
    λ info wanted. no_header info (h.complete info wanted.header),
    record {
      no_code = λ info t rest code e. no_header info (h.complete info (t, rest, code, e));
      no_fault = λ f t rest bad e. no_fault f (h.named f (t, rest, bad, e));
    },
  )

  pub header_cut_without_bytes : (bytes : List ℕ) → HeaderAtStart (known_format known) bytes (Ok None) → WantedHeaderAtStart known sample bytes CutHeader
  header_cut_without_bytes bytes h = cut_header bytes (Ok None) h (λ info p. p) (λ f p. p)

  pub header_cut_by_io : (bytes : List ℕ) (cause : _) → HeaderAtStart (known_format known) bytes (Err (IoError cause)) → WantedHeaderAtStart known sample bytes CutHeader
  header_cut_by_io bytes cause h = cut_header bytes (Err (IoError cause)) h (λ info p. p) (λ f p. p)

  -- ---- wanted frames

  -- a frame with a wanted header is wanted
  pub frame_is_wanted : (bytes : List ℕ) (info : BlockInfo) → WantedHeader known sample bytes info → BeginsWithFrame (known_format known) bytes → WantedFrame known sample bytes info
  frame_is_wanted bytes info wanted found =
      let f = found.frame in
      let stream = known_format known in
      let k = frame_has_header stream found.block f.0 f.1 f.2 in
      let h = wanted.header in
      let same : k.0 ≡ info = ((headers_unambiguous stream).one_code k.0 info k.2.0 h.0 k.2.1 h.1 k.2.2 h.2 (sym k.2.3 ∙ sym f.3 ∙ h.3)).0 in
      record {
        wanted = wanted;
        frame = (
          found.block,
          f,
          subst (λ (x : BlockInfo). SaysBlock x found.block) same k.1,
        );
      }

  pub frame_of_wanted : (bytes : List ℕ) (info : BlockInfo) → WantedFrame known sample bytes info → BeginsWithFrame (known_format known) bytes
  frame_of_wanted bytes info wanted = record { block = wanted.frame.0; frame = wanted.frame.1 }

  -- no header begins at the end
  pub none_at_end : (bytes : List ℕ) (at : ℕ) (info : BlockInfo) → length bytes ≤ at → WantedHeader known sample (drop at bytes) info → ⊥
  none_at_end bytes at info past wanted =
      let h = wanted.header in
      let few : length (drop at bytes) < 2 = omega (arith, length-drop at bytes) in
      header_has_two_bytes (known_format known) info h.0 h.1 h.2 (subst (λ (s : List ℕ). length s < 2) h.3 few)

  -- ---- the search

  -- no frame was found before the position, where so much of the budget is left, and none before
  -- the undecided position whatever follows
  pub record Searched (bytes : List ℕ) (from budget left undecided position : ℕ) : Type 0 where
    pub passed : from ≤ position
    pub inside : (position ≡ from) ⊎ (position ≤ length bytes)
    pub none : NoFrameBetween known sample bytes from position
    pub spent : IsSpent known sample bytes from (position - from) budget left
    pub decided : (more : List ℕ) → NoFrameBetween known sample (bytes ++ more) from (min undecided position)
    pub after_from : from ≤ undecided
    pub most : undecided ≤ max from (length bytes)
    pub why : (length bytes ≤ undecided) ⊎ ((undecided < position) × IsUndecided known bytes undecided)

  module _ (bytes : List ℕ) (from budget : ℕ) where
    pub search_begins : (undecided : ℕ) → undecided ≡ max from (length bytes) → Searched bytes from budget budget undecided from
    search_begins undecided is = record {
      passed = omega arith;
      inside = inl refl;
      none = λ at after before. absurd (omega (arith, after, before));
      spent =
          let none : from - from ≡ 0 = omega arith in
          (0, rw none refl, omega arith);
      decided = λ more at after before. absurd (omega (arith, after, before));
      after_from = omega (arith, is);
      most = omega (arith, is);
      why = inl (omega (arith, is));
    }

    -- one more position at which no frame begins
    pub one_more : (s : List ℕ) (to : ℕ) → NoFrameBetween known sample s from to → ((info : BlockInfo) → WantedFrame known sample (drop to s) info → ⊥) → NoFrameBetween known sample s from (to + 1)
    one_more s to none here at after before info wanted = elim (cases_lt at to) [
      | inl lt ↦ none at after lt info wanted
      | inr le ↦ (let same : at ≡ to = omega (arith, le, before) in here info (subst (λ (n : ℕ). WantedFrame known sample (drop n s) info) same wanted))
    ]

    fewer : (s : List ℕ) (to less : ℕ) → less ≤ to → NoFrameBetween known sample s from to → NoFrameBetween known sample s from less
    fewer s to less le none at after before = none at after (omega (arith, le, before))

    at_position : (position : ℕ) → from ≤ position → (P : ℕ → Type 0) → P position → P (from + (position - from))
    at_position position passed P p = let e : position ≡ from + (position - from) = omega arith in subst P e p

    next_count : (position n : ℕ) → from ≤ position → HeaderCosts known sample bytes from budget (suc (position - from)) n → HeaderCosts known sample bytes from budget (position + 1 - from) n
    next_count position n passed h = let e : suc (position - from) ≡ position + 1 - from = omega arith in subst (λ (k : ℕ). HeaderCosts known sample bytes from budget k n) e h

    -- nothing that is wanted begins there, whatever follows
    still_decided : (undecided position : ℕ) → position < length bytes → ((more : List ℕ) → NoFrameBetween known sample (bytes ++ more) from (min undecided position))
        → ((more : List ℕ) (info : BlockInfo) → WantedFrame known sample (drop position bytes ++ more) info → ⊥) → (more : List ℕ) → NoFrameBetween known sample (bytes ++ more) from (min undecided (position + 1))
    still_decided undecided position inside decided here more = elim (cases_lt undecided (position + 1)) [
      | inl lt ↦ fewer (bytes ++ more) (min undecided position) (min undecided (position + 1)) (omega (arith, lt)) (decided more)
      | inr le ↦ fewer (bytes ++ more) (position + 1) (min undecided (position + 1)) (omega arith) (one_more (bytes ++ more) position (fewer (bytes ++ more) (min undecided position) position (omega (arith, le)) (decided more))
          (λ info wanted. here more info (subst (λ (s : List ℕ). WantedFrame known sample s info) (rest_longer bytes more position (omega (arith, inside))) wanted)))
    ]

    -- with no header there
    passed_no_header : (left position : ℕ) → from ≤ position → ((info : BlockInfo) → WantedHeader known sample (drop position bytes) info → ⊥) → IsSpent known sample bytes from (position - from) budget left → IsSpent known sample bytes from (position + 1 - from) budget left
    passed_no_header left position passed none spent =
        (spent.0, next_count position spent.0 passed (inl (at_position position passed (λ (n : ℕ). (info : BlockInfo) → WantedHeader known sample (drop n bytes) info → ⊥) none, spent.1)), spent.2)

    -- with a header there, of a block with so many samples, and so many bytes that were read in vain
    passed_header : (left position wasted : ℕ) (info : BlockInfo) → from ≤ position → WantedHeader known sample (drop position bytes) info → info.channels * info.duration ≤ left → WastesBytes known (drop position bytes) wasted
        → IsSpent known sample bytes from (position - from) budget left → IsSpent known sample bytes from (position + 1 - from) budget (left - info.channels * info.duration - wasted)
    passed_header left position wasted info passed wanted fits wastes spent =
        let before : ℕ = spent.0 in
        let samples : ℕ = info.channels * info.duration in
        let n : ℕ = before + samples + wasted in
        let cost : HeaderCost known sample (drop position bytes) budget before n = record { info = info; wasted = wasted; header = wanted; fits = omega (arith, fits, spent.2); wastes = wastes; is = refl } in
        let h = next_count position n passed (inr (before, spent.1, at_position position passed (λ (p : ℕ). HeaderCost known sample (drop p bytes) budget before n) cost)) in
        (n, h, omega (arith, spent.2))

    module _ (left undecided position : ℕ) (s : Searched bytes from budget left undecided position) (inside : position < length bytes) where
      nothing : (info : BlockInfo) → WantedHeaderAtStart known sample (drop position bytes) NotWanted → WantedHeader known sample (drop position bytes) info → ⊥
      nothing info none wanted = none [] info (header_longer (drop position bytes) [] info wanted)

      pub not_wanted_there : WantedHeaderAtStart known sample (drop position bytes) NotWanted → Searched bytes from budget left undecided (position + 1)
      not_wanted_there none = record {
        passed = omega (arith, s.passed);
        inside = inr (omega (arith, inside));
        none = one_more bytes position s.none (λ info wanted. nothing info none wanted.wanted);
        spent = passed_no_header left position s.passed (λ info wanted. nothing info none wanted) s.spent;
        decided = still_decided undecided position inside s.decided (λ more info wanted. none more info wanted.wanted);
        after_from = s.after_from;
        most = s.most;
        why = elim s.why [ inl le ↦ inl le | inr k ↦ inr (omega (arith, k.0), k.1) ];
      }

      -- the position becomes the undecided one, unless an earlier one is
      undecided_there : IsUndecided known bytes position → (length bytes ≤ min undecided position) ⊎ ((min undecided position < position + 1) × IsUndecided known bytes (min undecided position))
      undecided_there is = elim s.why [
        | inl le ↦ (let e : position ≡ min undecided position = omega (arith, le, inside) in inr (omega arith, subst (IsUndecided known bytes) e is))
        | inr k ↦ (let e : undecided ≡ min undecided position = omega (arith, k.0) in inr (omega arith, subst (IsUndecided known bytes) e k.1))
      ]

      decided_before : (more : List ℕ) → NoFrameBetween known sample (bytes ++ more) from (min (min undecided position) (position + 1))
      decided_before more = fewer (bytes ++ more) (min undecided position) (min (min undecided position) (position + 1)) (omega arith) (s.decided more)

      pub cut_header_there : WantedHeaderAtStart known sample (drop position bytes) CutHeader → Searched bytes from budget left (min undecided position) (position + 1)
      cut_header_there cut = record {
        passed = omega (arith, s.passed);
        inside = inr (omega (arith, inside));
        none = one_more bytes position s.none (λ info wanted. cut.0 info wanted.wanted);
        spent = passed_no_header left position s.passed cut.0 s.spent;
        decided = decided_before;
        after_from = omega (arith, s.after_from, s.passed);
        most = omega (arith, s.most);
        why = undecided_there (inr (inl cut.1));
      }

      module _ (info : BlockInfo) (wanted : WantedHeader known sample (drop position bytes) info) where
        pub over_budget : left < info.channels * info.duration → FindGives known sample bytes from budget (Ok (OverBudget position)) left
        over_budget more = (
          s.none,
          record {
            before = s.spent.0;
            last = info;
            after_from = s.passed;
            header = wanted;
            costs = s.spent.1;
            passes = omega (arith, s.spent.2, more);
          },
          s.spent,
        )

        module _ (fits : info.channels * info.duration ≤ left) where
          -- of the budget after the header and n bytes that were read in vain
          abbrev rest_left : ℕ → ℕ
          rest_left n = left - info.channels * info.duration - n

          there_spent : (f : FrameThere) → FrameIsAtStart known (drop position bytes) (Ok f) → IsSpent known sample bytes from (position + 1 - from) budget (rest_left (wasted_by f (length (drop position bytes))))
          there_spent f h = passed_header left position (wasted_by f (length (drop position bytes))) info s.passed wanted fits (wastes_there known (drop position bytes) f h) s.spent

          pub whole_frame_there : (len : ℕ) (block : BlockValue) → FrameIsAtStart known (drop position bytes) (Ok (Whole len block)) → FindGives known sample bytes from budget (Ok (Found (record { position = position; block = info }))) (rest_left 0)
          whole_frame_there len block frame = (s.passed, frame_is_wanted (drop position bytes) info wanted (whole_there known (drop position bytes) len block frame), s.none, there_spent (Whole len block) frame)

          pub faulty_frame_there : (len : ℕ) → FrameIsAtStart known (drop position bytes) (Ok (Faulty len)) → Searched bytes from budget (rest_left len) undecided (position + 1)
          faulty_frame_there len faulty = record {
            passed = omega (arith, s.passed);
            inside = inr (omega (arith, inside));
            none = one_more bytes position s.none (λ x frame. faulty.0 [] (frame_longer (drop position bytes) [] (frame_of_wanted (drop position bytes) x frame)));
            spent = there_spent (Faulty len) faulty;
            decided = still_decided undecided position inside s.decided (λ more x frame. faulty.0 more (frame_of_wanted (drop position bytes ++ more) x frame));
            after_from = s.after_from;
            most = s.most;
            why = elim s.why [ inl le ↦ inl le | inr k ↦ inr (omega (arith, k.0), k.1) ];
          }
            where
              frame_longer : (bytes more : List ℕ) → BeginsWithFrame (known_format known) bytes → BeginsWithFrame (known_format known) (bytes ++ more)
              frame_longer bytes more f = record { block = f.block; frame = begins_longer bytes more f.frame }

          pub cut_frame_there : FrameIsAtStart known (drop position bytes) (Ok CutFrame) → Searched bytes from budget (rest_left (length (drop position bytes))) (min undecided position) (position + 1)
          cut_frame_there cut = record {
            passed = omega (arith, s.passed);
            inside = inr (omega (arith, inside));
            none = one_more bytes position s.none (λ x frame. cut.0 (frame_of_wanted (drop position bytes) x frame));
            spent = there_spent CutFrame cut;
            decided = decided_before;
            after_from = omega (arith, s.after_from, s.passed);
            most = omega (arith, s.most);
            why = undecided_there (inr (inr cut.1));
          }

          pub out_of_memory_there : (e : Error) (rest : ℕ) → FrameIsAtStart known (drop position bytes) (Err e) → FindGives known sample bytes from budget (Err e) rest
          out_of_memory_there e rest memory = (ap (λ (x : Error). Err x) (memory_is e memory.0), (position, info, s.passed, wanted, s.none))
            where
              memory_is : (e : Error) → IsOutOfMemory {A = FrameThere} (Err e) → e ≡ OutOfMemory
              memory_is e is = cc

    pub nothing_found : (left undecided position : ℕ) → Searched bytes from budget left undecided position → length bytes ≤ position → FindGives known sample bytes from budget (Ok (NotFound undecided)) left
    nothing_found left undecided position s all =
        let same : position - from ≡ length bytes - from = elim s.inside [ inl e ↦ omega (arith, e, all) | inr le ↦ omega (arith, le, all) ] in (
          λ at after info wanted. elim (cases_lt at position) [
            | inl lt ↦ s.none at after lt info wanted
            | inr le ↦ none_at_end bytes at info (omega (arith, le, all)) wanted.wanted
          ],
          subst (λ (n : ℕ). IsSpent known sample bytes from n budget left) same s.spent,
          s.after_from,
          λ more. fewer (bytes ++ more) (min undecided position) undecided (omega (arith, s.most, s.passed, all)) (s.decided more),
          elim s.why [ inl le ↦ inl le | inr k ↦ inr k.1 ],
        )
