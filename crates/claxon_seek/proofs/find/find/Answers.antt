use Rattle.std.proofs.Common.{ℕ, ◌*◌, ◌≤◌, ◌∙◌, List, drop, subst, arith}
use Rattle.std.specs.Prelude.{Ok}
use Rattle.std.proofs.lemmas.Bool.Decides.{nat_tests}
use Rattle.std.proofs.lemmas.Result.{err_from_is_err_and}
use Rattle.claxon_seek.specs.Find.{FrameIsAtStart, WantedHeader, WantedHeaderAtStart}
use Rattle.claxon_seek.specs.declared.find.FrameThere.TheVariants.{CutFrame, Faulty, Whole}
use Rattle.claxon_seek.specs.declared.find.HeaderThere.TheVariants.{CutHeader, NotWanted, Wanted}
use Rattle.claxon_seek.proofs.BlockMemories.{error_counts, last_counts, none_requested}
use Rattle.claxon_seek.proofs.Searches.{cut_frame_there, cut_header_there, faulty_frame_there, not_wanted_there, nothing_found, rest_is, whole_frame_there}
use Rattle.claxon_seek.proofs.find.find.Goals as goal

pub loop-position-preserved-in-NotWanted : goal.loop-position-preserved-in-NotWanted
loop-position-preserved-in-NotWanted c =
    let k = c.args.known in
    let smp = c.args.sample in
    let bytes = c.args.bytes.now in
    let at = c.loop-position.position in
    record {
      memory = c.loop-position.invariant.memory;
      searched = not_wanted_there k smp bytes c.args.from c.args.budget.now c.loop-position.budget c.loop-position.undecided at c.loop-position.invariant.searched c.loop-position-test.true
          (subst (λ (s : List ℕ). WantedHeaderAtStart k smp s NotWanted) (rest_is bytes at) (rw c.in-NotWanted.is at c.wanted_header.ensures.at_start));
    }

pub loop-position-preserved-in-CutHeader : goal.loop-position-preserved-in-CutHeader
loop-position-preserved-in-CutHeader c =
    let k = c.args.known in
    let smp = c.args.sample in
    let bytes = c.args.bytes.now in
    let at = c.loop-position.position in
    record {
      memory = c.loop-position.invariant.memory;
      searched = rw c.min-undecided.ensures (cut_header_there k smp bytes c.args.from c.args.budget.now c.loop-position.budget c.loop-position.undecided at c.loop-position.invariant.searched c.loop-position-test.true
          (subst (λ (s : List ℕ). WantedHeaderAtStart k smp s CutHeader) (rest_is bytes at) (rw c.in-CutHeader.is at c.wanted_header.ensures.at_start)));
    }

pub returns-in-Whole : goal.returns-in-Whole
returns-in-Whole c =
    let k = c.args.known in
    let smp = c.args.sample in
    let bytes = c.args.bytes.now in
    let at = c.loop-position.position in
    let info = c.info-info.result in
    let there : WantedHeaderAtStart k smp (drop at bytes) (Wanted c.in-Wanted.header) = subst (λ (s : List ℕ). WantedHeaderAtStart k smp s (Wanted c.in-Wanted.header)) (rest_is bytes at) (rw c.in-Wanted.is at c.wanted_header.ensures.at_start) in
    let wanted : WantedHeader k smp (drop at bytes) info = rw c.info-info.ensures there.0 in
    let fits : info.channels * info.duration ≤ c.loop-position.budget = grind (arith, nat_tests, rw (c.from.ensures, c.from-in-loop-position.ensures) at c.if-samples-budget.false) in
    let len = c.in-Whole.len in
    let block = c.in-Whole.block in
    let frame : FrameIsAtStart k (drop at bytes) (Ok (Whole len block)) = subst (λ (s : List ℕ). FrameIsAtStart k s (Ok (Whole len block))) (rest_is bytes at) (rw (c.in_ok-frame.was, c.in-Whole.is) at c.frame_at_start.ensures.is_at_start) in
    rw (c.found_block.ensures, c.saturating_sub.ensures, c.wasted_bytes.ensures, c.from.ensures, c.from-in-loop-position.ensures, c.in-Whole.is) (record {
      gives = whole_frame_there k smp bytes c.args.from c.args.budget.now c.loop-position.budget c.loop-position.undecided at c.loop-position.invariant.searched c.loop-position-test.true info wanted fits len block frame;
      is_decoded = frame;
      memory_is_counted = none_requested _ (c.frame_at_start.ensures.memory_is_counted.granted (λ m. let k = c.in_ok-frame.was in cc) ∙ c.loop-position.invariant.memory) (λ m. cc);
    })

pub frame_at_start-requires-clause-is_there : goal.frame_at_start-requires-clause-is_there
frame_at_start-requires-clause-is_there c = (rw c.in-Wanted.is at c.wanted_header.ensures.at_start).1

pub loop-position-preserved-in-Faulty : goal.loop-position-preserved-in-Faulty
loop-position-preserved-in-Faulty c =
    let k = c.args.known in
    let smp = c.args.sample in
    let bytes = c.args.bytes.now in
    let at = c.loop-position.position in
    let info = c.info-info.result in
    let there : WantedHeaderAtStart k smp (drop at bytes) (Wanted c.in-Wanted.header) = subst (λ (s : List ℕ). WantedHeaderAtStart k smp s (Wanted c.in-Wanted.header)) (rest_is bytes at) (rw c.in-Wanted.is at c.wanted_header.ensures.at_start) in
    let wanted : WantedHeader k smp (drop at bytes) info = rw c.info-info.ensures there.0 in
    let fits : info.channels * info.duration ≤ c.loop-position.budget = grind (arith, nat_tests, rw (c.from.ensures, c.from-in-loop-position.ensures) at c.if-samples-budget.false) in
    let len = c.in-Faulty.field-0 in
    let frame : FrameIsAtStart k (drop at bytes) (Ok (Faulty len)) = subst (λ (s : List ℕ). FrameIsAtStart k s (Ok (Faulty len))) (rest_is bytes at) (rw (c.in_ok-frame.was, c.in-Faulty.is) at c.frame_at_start.ensures.is_at_start) in
    record { memory = c.frame_at_start.ensures.memory_is_counted.granted (λ m. let k = c.in_ok-frame.was in cc) ∙ c.loop-position.invariant.memory; searched = rw (c.saturating_sub.ensures, c.wasted_bytes.ensures, c.from.ensures, c.from-in-loop-position.ensures, c.in-Faulty.is) (faulty_frame_there k smp bytes c.args.from c.args.budget.now c.loop-position.budget c.loop-position.undecided at c.loop-position.invariant.searched c.loop-position-test.true info wanted fits len frame) }

pub loop-position-preserved : goal.loop-position-preserved
loop-position-preserved c =
    let k = c.args.known in
    let smp = c.args.sample in
    let bytes = c.args.bytes.now in
    let at = c.loop-position.position in
    let info = c.info-info.result in
    let there : WantedHeaderAtStart k smp (drop at bytes) (Wanted c.in-Wanted.header) = subst (λ (s : List ℕ). WantedHeaderAtStart k smp s (Wanted c.in-Wanted.header)) (rest_is bytes at) (rw c.in-Wanted.is at c.wanted_header.ensures.at_start) in
    let wanted : WantedHeader k smp (drop at bytes) info = rw c.info-info.ensures there.0 in
    let fits : info.channels * info.duration ≤ c.loop-position.budget = grind (arith, nat_tests, rw (c.from.ensures, c.from-in-loop-position.ensures) at c.if-samples-budget.false) in
    let frame : FrameIsAtStart k (drop at bytes) (Ok CutFrame) = subst (λ (s : List ℕ). FrameIsAtStart k s (Ok CutFrame)) (rest_is bytes at) (rw (c.in_ok-frame.was, c.in-CutFrame.is) at c.frame_at_start.ensures.is_at_start) in
    record { memory = c.frame_at_start.ensures.memory_is_counted.granted (λ m. let k = c.in_ok-frame.was in cc) ∙ c.loop-position.invariant.memory; searched = rw (c.min-undecided-in-CutFrame.ensures, c.saturating_sub.ensures, c.wasted_bytes.ensures, c.from.ensures, c.from-in-loop-position.ensures, c.in-CutFrame.is, rest_is bytes at) (cut_frame_there k smp bytes c.args.from c.args.budget.now c.loop-position.budget c.loop-position.undecided at c.loop-position.invariant.searched c.loop-position-test.true info wanted fits frame) }

pub returns : goal.returns
returns c = record { is_decoded = tt; memory_is_counted = none_requested _ c.loop-position.invariant.memory (λ m. cc); gives = nothing_found c.args.known c.args.sample c.args.bytes.now c.args.from c.args.budget.now c.loop-position.budget c.loop-position.undecided c.loop-position.position c.loop-position.invariant.searched (grind (arith, nat_tests, c.loop-position-test.false)) }

pub returns-in_err-frame-clause-memory_is_counted : goal.returns-in_err-frame-clause-memory_is_counted
returns-in_err-frame-clause-memory_is_counted c =
    let p = err_from_is_err_and c.from_residual.result c.from_residual.ensures.1 in
    rw (p.1, p.2) (last_counts _ c.loop-position.invariant.memory (error_counts c.frame_at_start.result c.in_err-frame.field-0.0 c.in_err-frame.was c.frame_at_start.ensures.memory_is_counted))
