-- A stream has no place exactly where its frames are in order and have no more samples than they should.
use Rattle.std.proofs.Common.{◌≡◌, ◌⊎◌, ◌<◌, ◌≤◌, ◌+◌, ◌*◌, ◌%◌, ◌^◌, ℕ, Bool, true, false, cond, List, [], ◌∷◌, ◌++◌, length, inl, inr, refl, sym, ap, arith, subst, ◌∙◌, length-append}
use Rattle.std.specs.Prelude.{◌==◌, ◌&&◌, IfSome, if◌then◌else◌, nat_lt, not, Option, None, Some, Result, Ok, Err}
use Rattle.std.specs.List.{sum_by}
use Rattle.std.proofs.lemmas.List.{append-nil}
use Rattle.std.proofs.lemmas.List.Sums.{sum_by-cons, sum_by_push}
use Rattle.std.proofs.lemmas.Bool.{eqb-true}
use Rattle.claxon.specs.BlockInfos.{BlockInfo}
use Rattle.claxon.specs.DecodedFrame.{FrameValue}
use Rattle.claxon.specs.Frame.{StreamFormat}
use Rattle.claxon.specs.Streaminfo.{Streaminfo}
use Rattle.claxon_blocks.specs.declared.frames.FrameError.{FrameError}
use Rattle.claxon_report.specs.Places.{FoundPart, Scans, begun_scan, damaged, due_after, ended_place, ends_place, fills, filled, first_sample, goes_on_after, has_strategy, is_beyond, judged, last_place, list_of, missing_place, not_ended, other_stream, places_at, places_of, rate_or, returned, returns, scan_more, scan_part, scan_parts, with_scanned}
use Rattle.claxon_verify.specs.RightStream.{AreNextAfter, HasStrategy, IsNextAfter, frame_duration, number_after, number_of, strategy_after}
use Rattle.claxon_verify.specs.Verify.{FrameIs, FrameOrFault, PartIs, PartsFound, fault_count_of, frame_count_of, frames_of, sample_count_of}
use Rattle.claxon_report.specs.declared.due.Due.{Due}
use Rattle.claxon_report.specs.declared.due.FoundFrame.{FoundFrame}
use Rattle.claxon_report.specs.declared.place.Damage.{Damage}
use Rattle.claxon_report.specs.declared.place.Damage.TheVariants.{Repeated}
use Rattle.claxon_report.specs.declared.place.Place.{Place}
use Rattle.claxon_report.specs.declared.scan.Begun.{Begun}
use Rattle.claxon_report.specs.declared.scan.Ended.{Ended}
use Rattle.claxon_report.specs.declared.scan.Scan.{Scan}
use Rattle.claxon_report.specs.declared.scan.Scanned.{Scanned}

not_less : (a b : ℕ) → b ≤ a → nat_lt a b ≡ false
not_less a b most = grind arith

equal : (n m : ℕ) → n ≡ m → (n == m) ≡ true
equal n m e = grind arith

some_none : {A : Type 0} (x : A) → Some x ≡ None → ⊥
some_none x e = cc

-- No place was found so far.
pub record IsClean (s : Scans) : Type 0 where
  pub places : s.places ≡ []
  pub ended : s.scan.ended ≡ None
  pub begun : s.scan.begun ≡ None

-- ---- one frame

-- the frame is the one that is due
pub record IsDue (info : Streaminfo) (due : Due) (frame : FoundFrame) : Type 0 where
  pub number : frame.header.number ≡ due.number
  pub own : other_stream info due frame ≡ None

no_more : (xs ys : List Place) → xs ++ ys ≡ [] → xs ≡ []
no_more [] ys e = refl
no_more (x ∷ xs) ys e = absurd cc

module _ (info : Streaminfo) (byte : ℕ) (frame : FoundFrame) (due : Due) (places : List Place) where
  abbrev Cleans : Scanned → Type 0
  Cleans r = IsClean (with_scanned places r)

  -- so it was before, the number is due, and so is what is after it
  abbrev WasDue : Option Ended → Option Begun → Scanned → Type 0
  WasDue ended begun r = (places ≡ []) × (ended ≡ None) × (begun ≡ None) × (frame.header.number ≡ due.number) × (r.scan.due ≡ due_after info due frame)

  abbrev at_frame : Option Ended → Option Begun → Scan
  at_frame ended begun = record { due = due; ended = ended; begun = begun }

  own_clean : (ended : Option Ended) (begun : Option Begun) → Cleans (judged info byte frame (at_frame ended begun) None) → WasDue ended begun (judged info byte frame (at_frame ended begun) None)
  own_clean None None h = go (nat_lt frame.header.number due.number) (frame.header.number == due.number) refl h
    where
      go : (less same : Bool) → (frame.header.number == due.number) ≡ same → Cleans (if less then not_ended (damaged byte Repeated (at_frame None None)) else if same then not_ended (record { due = due_after info due frame; ended = None; begun = None }) else ends_place due None (due_after info due frame) frame (missing_place due frame byte (first_sample info due frame.header)))
          → WasDue None None (if less then not_ended (damaged byte Repeated (at_frame None None)) else if same then not_ended (record { due = due_after info due frame; ended = None; begun = None }) else ends_place due None (due_after info due frame) frame (missing_place due frame byte (first_sample info due frame.header)))
      go true same e h = absurd (some_none _ h.begun)
      go false true e h = (no_more places [] h.places, refl, refl, eqb-true frame.header.number due.number e, refl)
      go false false e h = absurd (some_none _ h.ended)
  own_clean (Some x) None h = absurd (go (nat_lt frame.header.number due.number) (returns (Some x) frame.header.number) (frame.header.number == due.number) (fills (Some x) due.number frame.header.number) h)
    where
      go : (less comes same fill : Bool) → Cleans (if less then (if comes then returned info byte frame (at_frame (Some x) None) else not_ended (damaged byte Repeated (at_frame (Some x) None))) else if same then not_ended (record { due = due_after info due frame; ended = Some x; begun = None }) else if fill then not_ended (record { due = due_after info due frame; ended = filled (Some x) byte (first_sample info due frame.header); begun = None }) else ends_place due (Some x) (due_after info due frame) frame (missing_place due frame byte (first_sample info due frame.header))) → ⊥
      go true true same fill h = some_none _ h.ended
      go true false same fill h = some_none _ h.begun
      go false comes true fill h = some_none _ h.ended
      go false comes false true h = some_none _ h.ended
      go false comes false false h = some_none _ h.ended
  own_clean None (Some b) h = absurd (go (nat_lt frame.header.number due.number) h)
    where
      go : (less : Bool) → Cleans (if less then not_ended (damaged byte Repeated (at_frame None (Some b))) else goes_on_after info byte frame due None (Some b)) → ⊥
      go true h = some_none _ h.begun
      go false h = some_none _ h.ended
  own_clean (Some x) (Some b) h = absurd (go (nat_lt frame.header.number due.number) (returns (Some x) frame.header.number) h)
    where
      go : (less comes : Bool) → Cleans (if less then (if comes then returned info byte frame (at_frame (Some x) (Some b)) else not_ended (damaged byte Repeated (at_frame (Some x) (Some b)))) else goes_on_after info byte frame due (Some x) (Some b)) → ⊥
      go true true h = some_none _ h.ended
      go true false h = some_none _ h.begun
      go false comes h = some_none _ h.ended

  frame_clean : (ended : Option Ended) (begun : Option Begun) (other : Option Damage) → Cleans (judged info byte frame (at_frame ended begun) other) → (other ≡ None) × WasDue ended begun (judged info byte frame (at_frame ended begun) other)
  frame_clean ended begun None h = (refl, own_clean ended begun h)
  frame_clean ended begun (Some d) h = absurd (some_none _ h.begun)

  -- the frame that is due adds no place
  due_adds_none : (other : Option Damage) → other ≡ None → frame.header.number ≡ due.number → judged info byte frame (at_frame None None) other ≡ not_ended (record { due = due_after info due frame; ended = None; begun = None })
  due_adds_none (Some d) e same = absurd (some_none d e)
  due_adds_none None e same = go (nat_lt frame.header.number due.number) (frame.header.number == due.number) (not_less frame.header.number due.number (omega (arith, same))) (equal frame.header.number due.number same)
    where
      go : (less same : Bool) → less ≡ false → same ≡ true → (if less then not_ended (damaged byte Repeated (at_frame None None)) else if same then not_ended (record { due = due_after info due frame; ended = None; begun = None }) else ends_place due None (due_after info due frame) frame (missing_place due frame byte (first_sample info due frame.header))) ≡ not_ended (record { due = due_after info due frame; ended = None; begun = None })
      go less same x y = rw (x, y) refl

-- ---- what is due after frames in order

pub record IsDueAfter (before : List FrameValue) (due : Due) : Type 0 where
  pub strategy : due.is_variable ≡ strategy_after before
  pub number : due.number ≡ number_after before
  pub sample : due.sample ≡ sum_by frame_duration before

-- of a choice that is none
chosen : (b : Bool) (x : Option Damage) (d : Damage) → (if b then x else Some d) ≡ None → (b ≡ true) × (x ≡ None)
chosen true x d e = (refl, e)
chosen false x d e = absurd (some_none d e)

choose : (b : Bool) (x : Option Damage) (d : Damage) → b ≡ true → x ≡ None → (if b then x else Some d) ≡ None
choose b x d e f = rw (e, f) refl

rate_agrees : (o : Option ℕ) (n : ℕ) → rate_or o n ≡ n → IfSome o (λ rate. rate ≡ n)
rate_agrees None n e = tt
rate_agrees (Some rate) n e = e

rate_given : (o : Option ℕ) (n : ℕ) → IfSome o (λ rate. rate ≡ n) → rate_or o n ≡ n
rate_given None n e = refl
rate_given (Some rate) n e = e

strategy_agrees : (o : Option Bool) (v : Bool) → has_strategy o v ≡ true → IfSome o (λ w. v ≡ w)
strategy_agrees None v e = tt
strategy_agrees (Some true) v e = e
strategy_agrees (Some false) true e = absurd cc
strategy_agrees (Some false) false e = refl

strategy_given : (o : Option Bool) (v : Bool) → IfSome o (λ w. v ≡ w) → has_strategy o v ≡ true
strategy_given None v e = refl
strategy_given (Some true) v e = e
strategy_given (Some false) true e = absurd cc
strategy_given (Some false) false e = refl

number_push : (v : Bool) (frames : List FrameValue) (frame : FrameValue) → number_of v (frames ++ frame ∷ []) ≡ number_of v frames + cond v (frame_duration frame) 1
number_push true frames frame = sum_by_push frame_duration frames frame
number_push false frames frame = length-append frames (frame ∷ [])

number_small : (v : Bool) (frames : List FrameValue) → length frames < 2 ^ 64 → sum_by frame_duration frames < 2 ^ 64 → number_of v frames < 2 ^ 64
number_small true frames few small = small
number_small false frames few small = few

same_modulo : (n m : ℕ) → n ≡ m → m < 2 ^ 64 → n % 2 ^ 64 ≡ m
same_modulo n m e small = omega arith

module _ (info : Streaminfo) (before : List FrameValue) (frame : FrameValue) (found : FoundFrame) (due : Due) (is : FrameIs info frame found) (at : IsDueAfter before due) where
  variable_is : found.header.is_variable ≡ frame.info.is_variable
  variable_is = ap (λ (h : BlockInfo). h.is_variable) is.header

  number_is : found.header.number ≡ frame.info.number
  number_is = ap (λ (h : BlockInfo). h.number) is.header

  -- of a frame that is due
  pub due_is_next : IsDue info due found → IsNextAfter info before frame
  due_is_next d =
      let channels = chosen (found.header.channels == info.channels) _ _ d.own in
      let depth = chosen (found.header.bit_depth == info.bit_depth) _ _ channels.1 in
      let rate = chosen (rate_or found.header.sample_rate info.rate == info.rate) _ _ depth.1 in
      let strategy = chosen (has_strategy due.is_variable found.header.is_variable) _ _ rate.1 in
      let fits = chosen found.fits _ _ strategy.1 in (
        (
          subst (λ (h : BlockInfo). h.channels ≡ info.channels) is.header (eqb-true found.header.channels info.channels channels.0),
          subst (λ (h : BlockInfo). h.bit_depth ≡ info.bit_depth) is.header (eqb-true found.header.bit_depth info.bit_depth depth.0),
          subst (λ (h : BlockInfo). IfSome h.sample_rate (λ r. r ≡ info.rate)) is.header (rate_agrees found.header.sample_rate info.rate (eqb-true (rate_or found.header.sample_rate info.rate) info.rate rate.0)),
        ),
        subst (λ (o : Option Bool). HasStrategy o frame.info) at.strategy (subst (λ (h : BlockInfo). HasStrategy due.is_variable h) is.header (strategy_agrees due.is_variable found.header.is_variable strategy.0)),
        sym number_is ∙ d.number ∙ at.number,
        is.fits.0 fits.0,
      )

  -- the next one is due, if it doesn't have too many samples
  pub next_is_due : IsNextAfter info before frame → not (is_beyond info due found) ≡ true → IsDue info due found
  next_is_due n within = record {
    number = number_is ∙ n.2 ∙ sym at.number;
    own =
        choose (found.header.channels == info.channels) _ _ (equal found.header.channels info.channels (ap (λ (h : BlockInfo). h.channels) is.header ∙ n.0.0))
        (choose (found.header.bit_depth == info.bit_depth) _ _ (equal found.header.bit_depth info.bit_depth (ap (λ (h : BlockInfo). h.bit_depth) is.header ∙ n.0.1))
        (choose (rate_or found.header.sample_rate info.rate == info.rate) _ _ (equal (rate_or found.header.sample_rate info.rate) info.rate (rate_given found.header.sample_rate info.rate (subst (λ (h : BlockInfo). IfSome h.sample_rate (λ r. r ≡ info.rate)) (sym is.header) n.0.2)))
        (choose (has_strategy due.is_variable found.header.is_variable) _ _ (strategy_given due.is_variable found.header.is_variable (subst (λ (h : BlockInfo). HasStrategy due.is_variable h) (sym is.header) (subst (λ (o : Option Bool). HasStrategy o frame.info) (sym at.strategy) n.1)))
        (choose found.fits _ _ (is.fits.1 n.3)
        (choose (not (is_beyond info due found)) None _ within refl)))));
  }

  -- the first sample of what is due
  pub due_sample : found.header.number ≡ due.number → first_sample info due found.header ≡ due.sample
  due_sample e = go (found.header.number == due.number) (equal found.header.number due.number e)
    where
      go : (b : Bool) → b ≡ true → (if b then due.sample else if found.header.is_variable then found.header.number else (found.header.number * info.max_block_size) % 2 ^ 64) ≡ due.sample
      go b e = rw e refl

  step_is : found.header.number + (if found.header.is_variable then found.duration else 1) ≡ frame.info.number + cond frame.info.is_variable (frame_duration frame) 1
  step_is = ap (λ (h : BlockInfo). h.number + (if h.is_variable then found.duration else 1)) is.header ∙ ap (λ (n : ℕ). frame.info.number + cond frame.info.is_variable n 1) is.duration

  pub due_next : IsNextAfter info before frame → found.header.number ≡ due.number → length (before ++ frame ∷ []) < 2 ^ 64 → sum_by frame_duration (before ++ frame ∷ []) < 2 ^ 64 → IsDueAfter (before ++ frame ∷ []) (due_after info due found)
  due_next next same few small =
      let s = sum_by_push frame_duration before frame in
      let sample : first_sample info due found.header + found.duration ≡ sum_by frame_duration (before ++ frame ∷ []) =
      ap (λ (n : ℕ). n + found.duration) (due_sample same ∙ at.sample) ∙ ap (λ (n : ℕ). sum_by frame_duration before + n) is.duration ∙ sym s in
      let k = of_number before next few small in
      record {
        strategy = ap (λ (v : Bool). Some v) variable_is ∙ k.0;
        number = same_modulo _ _ (step_is ∙ k.1) k.2;
        sample = same_modulo _ _ sample small;
      }
    where
      of_number : (before : List FrameValue) → IsNextAfter info before frame → length (before ++ frame ∷ []) < 2 ^ 64 → sum_by frame_duration (before ++ frame ∷ []) < 2 ^ 64
          → (Some frame.info.is_variable ≡ strategy_after (before ++ frame ∷ [])) × (frame.info.number + cond frame.info.is_variable (frame_duration frame) 1 ≡ number_after (before ++ frame ∷ [])) × (number_after (before ++ frame ∷ []) < 2 ^ 64)
      of_number [] next few small =
          let v = frame.info.is_variable in (
            refl,
            ap (λ (k : ℕ). k + cond v (frame_duration frame) 1) next.2 ∙ sym (number_push v [] frame ∙ ap (λ (k : ℕ). k + cond v (frame_duration frame) 1) (none v)),
            number_small v (frame ∷ []) few small,
          )
        where
          none : (v : Bool) → number_of v [] ≡ 0
          none true = refl
          none false = refl
      of_number (first ∷ before) next few small =
          let v = first.info.is_variable in
          let one : frame.info.is_variable ≡ v = next.1 in (
            ap (λ (b : Bool). Some b) one,
            ap (λ (b : Bool). frame.info.number + cond b (frame_duration frame) 1) one ∙ ap (λ (k : ℕ). k + cond v (frame_duration frame) 1) next.2 ∙ sym (number_push v (first ∷ before) frame),
            number_small v ((first ∷ before) ++ frame ∷ []) few small,
          )

-- ---- all parts

module _ (stream : Option StreamFormat) (info : Streaminfo) where
  -- how many there are can be counted
  abbrev Fits : List FrameValue → List FrameOrFault → Type 0
  Fits before parts = (length before + length parts < 2 ^ 64) × (sum_by frame_duration before + sum_by sample_count_of parts < 2 ^ 64)

  fits_more : (before : List FrameValue) (frame : FrameValue) (parts : List FrameOrFault) → Fits before (Ok frame ∷ parts) → Fits (before ++ frame ∷ []) parts
  fits_more before frame parts fit =
      let part : FrameOrFault = Ok frame in
      let l : length (before ++ frame ∷ []) ≡ length before + 1 = length-append before (frame ∷ []) in
      let s = sum_by_push frame_duration before frame in
      let t = sum_by-cons sample_count_of part parts in
      let few = fit.0 in
      let small = fit.1 in
      (omega (arith, l, few), omega (arith, s, t, small))

  few_of : (before : List FrameValue) (frame : FrameValue) (parts : List FrameOrFault) → Fits (before ++ frame ∷ []) parts → (length (before ++ frame ∷ []) < 2 ^ 64) × (sum_by frame_duration (before ++ frame ∷ []) < 2 ^ 64)
  few_of before frame parts fit = let few = fit.0 in let small = fit.1 in (omega (arith, few), omega (arith, small))

  clean_what : (scans : Scans) (start : ℕ) (what : Result FoundFrame FrameError) → IsClean (with_scanned scans.places (scan_part info scans.scan start what))
      → (c : IsClean scans) × (frame : FoundFrame) × (what ≡ Ok frame) × IsDue info scans.scan.due frame × ((scan_part info scans.scan start what).scan.due ≡ due_after info scans.scan.due frame)
  clean_what scans start (Ok frame) h =
      let k = frame_clean info start frame scans.scan.due scans.places scans.scan.ended scans.scan.begun (other_stream info scans.scan.due frame) h in
      (record { places = k.1.0; ended = k.1.1; begun = k.1.2 }, frame, refl, record { number = k.1.3; own = k.0 }, k.1.4)
  clean_what scans start (Err e) h = absurd (some_none _ h.begun)

  -- no place was found before either
  clean_back : (found : List FoundPart) (scans : Scans) → IsClean (scan_parts info scans found) → IsClean scans
  clean_back [] scans h = h
  clean_back (part ∷ found) scans h = (clean_what scans part.start part.what (clean_back found (scan_more info scans part) h)).0

  what_frame : (frame : FrameValue) (m : List ℕ) (what : Result FoundFrame FrameError) (found : FoundFrame) → what ≡ Ok found → PartIs info (Ok frame) m what → FrameIs info frame found
  what_frame frame m what found e is = subst (λ (w : Result FoundFrame FrameError). PartIs info (Ok frame) m w) e is

  what_fault : (f : _) (m : List ℕ) (what : Result FoundFrame FrameError) (found : FoundFrame) → what ≡ Ok found → PartIs info (Err f) m what → ⊥
  what_fault f m what found e is = subst (λ (w : Result FoundFrame FrameError). PartIs info (Err f) m w) e is

  -- where no place is found there are just frames in order
  pub clean_is_right : (parts : List FrameOrFault) (start : ℕ) (s r : List ℕ) (found : List FoundPart) (before : List FrameValue) (scans : Scans) → PartsFound stream info start s parts r found → IsDueAfter before scans.scan.due → Fits before parts → IsClean (scan_parts info scans found)
      → (sum_by fault_count_of parts ≡ 0) × AreNextAfter info before (frames_of parts)
  clean_is_right [] start s r found before scans h at fit clean = (refl, tt)
  clean_is_right (Ok frame ∷ parts) start s r found before scans h at fit clean =
      let part : FrameOrFault = Ok frame in
      let here = subst (λ (z : List FoundPart). IsClean (scan_parts info scans z)) h.9 clean in
      let c = clean_what scans h.2.start h.2.what (clean_back h.3 (scan_more info scans h.2) here) in
      let is = what_frame frame s h.2.what c.1 c.2 h.7 in
      let next = due_is_next info before frame c.1 scans.scan.due is at c.3 in
      let more = fits_more before frame parts fit in
      let few = few_of before frame parts more in
      let after = due_next info before frame c.1 scans.scan.due is at next c.3.number few.0 few.1 in
      let others = clean_is_right parts (start + length h.0) h.1 r h.3 (before ++ frame ∷ []) (scan_more info scans h.2) h.8 (subst (IsDueAfter (before ++ frame ∷ [])) (sym c.4) after) more here in
      (omega (arith, sum_by-cons fault_count_of part parts, others.0), (next, others.1))
  clean_is_right (Err f ∷ parts) start s r found before scans h at fit clean =
      let here = subst (λ (z : List FoundPart). IsClean (scan_parts info scans z)) h.9 clean in
      let c = clean_what scans h.2.start h.2.what (clean_back h.3 (scan_more info scans h.2) here) in
      absurd (what_fault f s h.2.what c.1 c.2 h.7)

  -- ---- and the other way round

  -- what is due after a frame without a place
  abbrev clean_scans : Due → Scans
  clean_scans due = record { scan = record { due = due; ended = None; begun = None }; places = [] }

  due_step : (scans : Scans) (start : ℕ) (frame : FoundFrame) → IsClean scans → IsDue info scans.scan.due frame → with_scanned scans.places (scan_part info scans.scan start (Ok frame)) ≡ clean_scans (due_after info scans.scan.due frame)
  due_step scans start frame c d =
      let due = scans.scan.due in
      let other = other_stream info due frame in
      let none = due_adds_none info start frame due scans.places other d.own d.number in
      let begun = subst (λ (b : Option Begun). judged info start frame (record { due = due; ended = None; begun = b }) other ≡ not_ended (record { due = due_after info due frame; ended = None; begun = None })) (sym c.begun) none in
      let ended = subst (λ (e : Option Ended). judged info start frame (record { due = due; ended = e; begun = scans.scan.begun }) other ≡ not_ended (record { due = due_after info due frame; ended = None; begun = None })) (sym c.ended) begun in
      ap (with_scanned scans.places) ended ∙ ap (λ (z : List Place). record { scan = record { due = due_after info due frame; ended = None; begun = None }; places = z ++ [] }) c.places

  is_clean : (scans : Scans) (due : Due) → scans ≡ clean_scans due → IsClean scans
  is_clean scans due e = subst IsClean (sym e) (record { places = refl; ended = refl; begun = refl })

  within : (samples due n m : ℕ) → n ≡ m → (samples ≡ 0) ⊎ (m ≤ samples) → not (not (samples == 0) && (not (nat_lt samples due) && nat_lt samples n)) ≡ true
  within samples due n m e (inl none) = go (samples == 0) (equal samples 0 none)
    where
      go : (b : Bool) → b ≡ true → not (not b && (not (nat_lt samples due) && nat_lt samples n)) ≡ true
      go b e = rw e refl
  within samples due n m e (inr most) = go (samples == 0) (not (nat_lt samples due)) (nat_lt samples n) (not_less samples n (omega (arith, e, most)))
    where
      go : (b d c : Bool) → c ≡ false → not (not b && (d && c)) ≡ true
      go true d c e = refl
      go false true c e = rw e refl
      go false false c e = refl

  due_total : (info : Streaminfo) (frame : FrameValue) (found : FoundFrame) (due : Due) → FrameIs info frame found → (before : List FrameValue) → IsDueAfter before due → sum_by frame_duration (before ++ frame ∷ []) < 2 ^ 64 → (due.sample + found.duration) % 2 ^ 64 ≡ sum_by frame_duration (before ++ frame ∷ [])
  due_total info frame found due is before at small =
      let total : due.sample + found.duration ≡ sum_by frame_duration (before ++ frame ∷ []) = ap (λ (n : ℕ). n + found.duration) at.sample ∙ ap (λ (n : ℕ). sum_by frame_duration before + n) is.duration ∙ sym (sum_by_push frame_duration before frame) in
      same_modulo _ _ total small

  -- No more samples than these are wanted.
  abbrev Within : List FrameValue → List FrameOrFault → Type 0
  Within before parts = (info.samples ≡ 0) ⊎ (sum_by frame_duration before + sum_by sample_count_of parts ≤ info.samples)

  within_more : (before : List FrameValue) (frame : FrameValue) (parts : List FrameOrFault) → Within before (Ok frame ∷ parts) → Within (before ++ frame ∷ []) parts
  within_more before frame parts (inl none) = inl none
  within_more before frame parts (inr most) =
      let part : FrameOrFault = Ok frame in
      let s = sum_by_push frame_duration before frame in
      let t = sum_by-cons sample_count_of part parts in
      inr (omega (arith, s, t, most))

  within_here : (before : List FrameValue) (parts : List FrameOrFault) → Within before parts → (info.samples ≡ 0) ⊎ (sum_by frame_duration before ≤ info.samples)
  within_here before parts (inl none) = inl none
  within_here before parts (inr most) = inr (omega (arith, most))

  ok_what : (frame : FrameValue) (m : List ℕ) (what : Result FoundFrame FrameError) → PartIs info (Ok frame) m what → (found : FoundFrame) × (what ≡ Ok found) × FrameIs info frame found
  ok_what frame m (Ok found) is = (found, refl, is)
  ok_what frame m (Err e) is = absurd is

  pub right_is_clean : (parts : List FrameOrFault) (start : ℕ) (s r : List ℕ) (found : List FoundPart) (before : List FrameValue) (scans : Scans) → PartsFound stream info start s parts r found → IsDueAfter before scans.scan.due → Fits before parts → Within before parts → IsClean scans → sum_by fault_count_of parts ≡ 0 → AreNextAfter info before (frames_of parts)
      → IsClean (scan_parts info scans found) × ((scan_parts info scans found).scan.due.sample ≡ sum_by frame_duration before + sum_by sample_count_of parts)
  right_is_clean [] start s r found before scans h at fit most clean none right =
      subst (λ (z : List FoundPart). IsClean (scan_parts info scans z) × ((scan_parts info scans z).scan.due.sample ≡ sum_by frame_duration before + 0)) (sym h.1) (clean, omega (arith, at.sample))
  right_is_clean (Ok frame ∷ parts) start s r found before scans h at fit most clean none right =
      let part : FrameOrFault = Ok frame in
      let w = ok_what frame s h.2.what h.7 in
      let due = scans.scan.due in
      let same : w.0.header.number ≡ due.number = ap (λ (b : BlockInfo). b.number) w.2.header ∙ right.0.2 ∙ sym at.number in
      let more = fits_more before frame parts fit in
      let few = few_of before frame parts more in
      let after = due_next info before frame w.0 due w.2 at right.0 same few.0 few.1 in
      let most_more = within_more before frame parts most in
      let d = next_is_due info before frame w.0 due w.2 at right.0 (within info.samples due.sample _ _ (due_total info frame w.0 due w.2 before at few.1) (within_here (before ++ frame ∷ []) parts most_more)) in
      let step : scan_more info scans h.2 ≡ clean_scans (due_after info due w.0) = ap (λ (z : Result FoundFrame FrameError). with_scanned scans.places (scan_part info scans.scan h.2.start z)) w.1 ∙ due_step scans h.2.start w.0 clean d in
      let due_is = ap (λ (z : Scans). z.scan.due) step in
      let t = sum_by-cons fault_count_of part parts in
      let k = right_is_clean parts (start + length h.0) h.1 r h.3 (before ++ frame ∷ []) (scan_more info scans h.2) h.8 (subst (IsDueAfter (before ++ frame ∷ [])) (sym due_is) after) more most_more (is_clean (scan_more info scans h.2) _ step) (omega (arith, t, none)) right.1 in
      let sums : sum_by frame_duration (before ++ frame ∷ []) + sum_by sample_count_of parts ≡ sum_by frame_duration before + sum_by sample_count_of (part ∷ parts) = let a = sum_by_push frame_duration before frame in let b = sum_by-cons sample_count_of part parts in omega (arith, a, b) in
      subst (λ (z : List FoundPart). IsClean (scan_parts info scans z) × ((scan_parts info scans z).scan.due.sample ≡ sum_by frame_duration before + sum_by sample_count_of (part ∷ parts))) (sym h.9) (k.0, k.1 ∙ sums)
  right_is_clean (Err f ∷ parts) start s r found before scans h at fit most clean none right = absurd (let part : FrameOrFault = Err f in let t = sum_by-cons fault_count_of part parts in omega (arith, t, none))

  -- ---- the places

  none_first : IsDueAfter [] begun_scan.due
  none_first = record { strategy = refl; number = refl; sample = refl }

  no_list : (o : Option Place) → list_of o ≡ [] → o ≡ None
  no_list None e = refl
  no_list (Some place) e = absurd cc

  no_back : (xs ys : List Place) → xs ++ ys ≡ [] → ys ≡ []
  no_back [] ys e = e
  no_back (x ∷ xs) ys e = absurd cc

  no_ended : (o : Option Ended) → ended_place o ≡ None → o ≡ None
  no_ended None e = refl
  no_ended (Some x) e = absurd (some_none _ e)

  no_begun : (end : ℕ) (due : Due) (o : Option Begun) → last_place end info.samples due o ≡ None → o ≡ None
  no_begun end due None e = refl
  no_begun end due (Some x) e = absurd (some_none _ e)

  places_clean : (end : ℕ) (scans : Scans) → places_at end info.samples scans ≡ [] → IsClean scans
  places_clean end scans e =
      let back = no_back scans.places _ e in record {
        places = no_more scans.places _ e;
        ended = no_ended scans.scan.ended (no_list _ (no_more (list_of (ended_place scans.scan.ended)) _ back));
        begun = no_begun end scans.scan.due scans.scan.begun (no_list _ (no_back (list_of (ended_place scans.scan.ended)) _ back));
      }

  clean_places : (end : ℕ) (scans : Scans) → IsClean scans → nat_lt scans.scan.due.sample info.samples ≡ false → places_at end info.samples scans ≡ []
  clean_places end scans c enough =
      let none : last_place end info.samples scans.scan.due scans.scan.begun ≡ None = subst (λ (b : Option Begun). last_place end info.samples scans.scan.due b ≡ None) (sym c.begun) (enough_last end scans.scan.due (nat_lt scans.scan.due.sample info.samples) enough) in
      let ended : ended_place scans.scan.ended ≡ None = ap ended_place c.ended in
      ap (λ (z : List Place). z ++ (list_of (ended_place scans.scan.ended) ++ list_of (last_place end info.samples scans.scan.due scans.scan.begun))) c.places
      ∙ ap (λ (o : Option Place). list_of o ++ list_of (last_place end info.samples scans.scan.due scans.scan.begun)) ended
      ∙ ap list_of none
    where
      enough_last : (end : ℕ) (due : Due) (b : Bool) → b ≡ false → (if b then Some (Rattle.claxon_report.specs.Places.missing_at_end end due.sample info.samples) else None) ≡ None
      enough_last end due b e = rw e refl

  -- a stream without a place is right
  pub none_is_right : (end start at : ℕ) (s r : List ℕ) (parts : List FrameOrFault) (found last : List FoundPart) (is_cut : Bool) → PartsFound stream info start s parts r found → Rattle.claxon_verify.specs.Verify.LastFound is_cut at r last → Fits [] parts → places_of info end (found ++ last) ≡ []
      → (is_cut ≡ false) × (sum_by fault_count_of parts ≡ 0) × AreNextAfter info [] (frames_of parts)
  none_is_right end start at s r parts found last false h none fit e =
      let all = subst (λ (z : List FoundPart). places_of info end z ≡ []) (ap (λ (z : List FoundPart). found ++ z) none ∙ append-nil found) e in
      let k = clean_is_right parts start s r found [] (record { scan = begun_scan; places = [] }) h none_first fit (places_clean end _ all) in
      (refl, k.0, k.1)
  none_is_right end start at s r parts found last true h cut fit e =
      let scans = scan_parts info (record { scan = begun_scan; places = [] }) found in
      let all = subst (λ (z : List FoundPart). places_of info end (found ++ z) ≡ []) cut.2 e in
      let clean = places_clean end _ all in
      let pushed = subst IsClean (Rattle.claxon_report.proofs.Scanning.scan_push info (record { scan = begun_scan; places = [] }) found cut.0) clean in
      let damaged = subst (λ (w : Result FoundFrame FrameError). IsClean (with_scanned scans.places (scan_part info scans.scan cut.0.start w))) cut.4 pushed in
      absurd (some_none _ damaged.begun)

  -- and a right one has none
  pub right_has_none : (end start : ℕ) (s r : List ℕ) (parts : List FrameOrFault) (found : List FoundPart) → PartsFound stream info start s parts r found → Fits [] parts → sum_by fault_count_of parts ≡ 0 → AreNextAfter info [] (frames_of parts) → (info.samples ≡ 0) ⊎ (info.samples ≡ sum_by sample_count_of parts)
      → places_of info end (found ++ []) ≡ []
  right_has_none end start s r parts found h fit none right samples =
      let most : (info.samples ≡ 0) ⊎ (0 + sum_by sample_count_of parts ≤ info.samples) = elim samples [ inl n ↦ inl n | inr n ↦ inr (omega (arith, n)) ] in
      let k = right_is_clean parts start s r found [] (record { scan = begun_scan; places = [] }) h none_first fit most (record { places = refl; ended = refl; begun = refl }) none right in
      let scans = scan_parts info (record { scan = begun_scan; places = [] }) found in
      subst (λ (z : List FoundPart). places_of info end z ≡ []) (sym (append-nil found)) (clean_places end scans k.0 (enough scans.scan.due.sample info.samples (sum_by sample_count_of parts) k.1 samples))
    where
      enough : (n samples total : ℕ) → n ≡ 0 + total → (samples ≡ 0) ⊎ (samples ≡ total) → nat_lt n samples ≡ false
      enough n samples total e (inl none) = not_less n samples (omega (arith, none))
      enough n samples total e (inr same) = not_less n samples (omega (arith, e, same))
