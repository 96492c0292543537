use Rattle.std.proofs.Common.{refl, rules, sym, ◌∙◌}
use Rattle.claxon_format.specs.Fault.{fault_text, SecondComment}
use Rattle.claxon_input.proofs.ConsecutiveCalls.{consumes_none}
use Rattle.claxon_input.proofs.Faults.{stops_fault}
use Rattle.claxon_format.specs.MetadataBlocks.{Comments}
use Rattle.claxon_metadata.specs.VorbisComment.{comment_view}
use Rattle.claxon.specs.ReadHead.{found_view}
use Rattle.claxon.proofs.HeadParts.{comments_done, comments_kept, comments_second, is_found}
use Rattle.claxon.proofs.head.comments_with.Goals as goal

pub returns-in-StreamInfo-clause-are_found : goal.returns-in-StreamInfo-clause-are_found
unfolding fault_text
returns-in-StreamInfo-clause-are_found g c = search rules

pub returns-then-is_some-clause-are_found : goal.returns-then-is_some-clause-are_found
unfolding fault_text
returns-then-is_some-clause-are_found g c here =
    let h = c.in-VorbisComment.is in
    let some = is_found c.args.found ∙ sym c.is_some.ensures ∙ c.if-is_some.true in
    stops_fault SecondComment refl refl (refl, refl) (consumes_none _ _ (comments_second (found_view c.args.found) _ _ (rw h refl) (rw h some)))

pub returns-in-VorbisComment-clause-are_found : goal.returns-in-VorbisComment-clause-are_found
returns-in-VorbisComment-clause-are_found g c here =
    let h = c.in-VorbisComment.is in
    let none = is_found c.args.found ∙ sym c.is_some.ensures ∙ c.if-is_some.false in
    consumes_none _ _ (rw h (comments_done (found_view c.args.found) (Comments (comment_view c.in-VorbisComment.comment)) here.remaining refl none))

pub returns : goal.returns
returns g c = record {
  places = search (rules, c.requires.found);
  are_found = λ here. consumes_none _ _ (search (rules, comments_kept (found_view c.args.found) c.args.block here.remaining c.in_default.not-StreamInfo c.in_default.not-VorbisComment));
}
