use Rattle.std.proofs.Common.{List, Some, refl, subst}
use Rattle.std.specs.Prelude.{Ok}
use Rattle.claxon_seek.specs.Find.{FrameIsAtStart, WantedHeaderAtStart}
use Rattle.claxon_seek.specs.declared.find.FrameThere.TheVariants.{CutFrame, Faulty, Whole}
use Rattle.claxon_seek.specs.declared.find.HeaderThere.TheVariants.{Wanted}
use Rattle.claxon_seek.proofs.BlockMemories.{none_requested}
use Rattle.claxon_seek.proofs.BlockSearches.{block_is_there, no_frame_there, no_header_there}
use Rattle.claxon_seek.proofs.Searches.{rest_is}
use Rattle.claxon_seek.proofs.seeking.block_there.Goals as goal

pub returns-in_default : goal.returns-in_default
returns-in_default c =
    let a = c.args in
    let h = c.wanted_header.result in
    record { memory_is_counted = none_requested _ refl (λ m. cc); there = no_header_there a.known a.bytes.now a.position a.sample h c.in_default.not-Wanted (subst (λ (s : List _). WantedHeaderAtStart a.known (Some a.sample) s h) (rest_is a.bytes.now a.position) c.wanted_header.ensures.at_start) }

pub frame_at_start-requires-clause-is_there : goal.frame_at_start-requires-clause-is_there
frame_at_start-requires-clause-is_there c = (rw c.in-Wanted.is at c.wanted_header.ensures.at_start).1

pub returns-in-Whole : goal.returns-in-Whole
returns-in-Whole c =
    let a = c.args in
    let h = Wanted c.in-Wanted.header in
    let wanted = (subst (λ (s : List _). WantedHeaderAtStart a.known (Some a.sample) s h) (rest_is a.bytes.now a.position) (rw c.in-Wanted.is at c.wanted_header.ensures.at_start)).0 in
    let f = Whole c.in-Whole.len c.in-Whole.block in
    let frame = subst (λ (s : List _). FrameIsAtStart a.known s (Ok f)) (rest_is a.bytes.now a.position) (rw (c.in_ok-len.was, c.in-Whole.is) at c.frame_at_start.ensures.is_at_start) in
    rw c.info.ensures (record { memory_is_counted = none_requested _ (c.frame_at_start.ensures.memory_is_counted.granted (λ m. let k = c.in_ok-len.was in cc)) (λ m. cc); there = block_is_there a.known a.bytes.now a.position a.sample _ c.in-Whole.len c.in-Whole.block wanted frame })

pub returns-in-Faulty : goal.returns-in-Faulty
returns-in-Faulty c =
    let a = c.args in
    let frame = subst (λ (s : List _). FrameIsAtStart a.known s (Ok (Faulty c.in-Faulty.field-0))) (rest_is a.bytes.now a.position) (rw (c.in_ok-len.was, c.in-Faulty.is) at c.frame_at_start.ensures.is_at_start) in
    record { memory_is_counted = none_requested _ (c.frame_at_start.ensures.memory_is_counted.granted (λ m. let k = c.in_ok-len.was in cc)) (λ m. cc); there = no_frame_there a.known a.bytes.now a.position a.sample (Faulty c.in-Faulty.field-0) (λ len block e. cc) frame }

pub returns-in-CutFrame : goal.returns-in-CutFrame
returns-in-CutFrame c =
    let a = c.args in
    let frame = subst (λ (s : List _). FrameIsAtStart a.known s (Ok CutFrame)) (rest_is a.bytes.now a.position) (rw (c.in_ok-len.was, c.in-CutFrame.is) at c.frame_at_start.ensures.is_at_start) in
    record { memory_is_counted = none_requested _ (c.frame_at_start.ensures.memory_is_counted.granted (λ m. let k = c.in_ok-len.was in cc)) (λ m. cc); there = no_frame_there a.known a.bytes.now a.position a.sample CutFrame (λ len block e. cc) frame }
