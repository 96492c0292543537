use Rattle.std.proofs.Common.{sym, ap, subst, ◌∙◌}
use Rattle.claxon_stream_seek.specs.Seeker.{SeekStartsRight, sought_by, sought_with}
use Rattle.claxon_stream_seek.specs.declared.clock.Clock.{Clock}
use Rattle.claxon_stream_seek.specs.declared.seeker.Seeker.{Seeker}
use Rattle.claxon_c.proofs.seeker.claxon_seeker_start.Goals as goal

pub returns : goal.returns
returns c =
    let kept = c.seeker_with.ensures in
    record {
      begins = record {
        sought = ap (λ (s : Seeker). sought_by s) kept.seeker_is ∙ c.new-begun.ensures.sought ∙ ap (λ (k : Clock). sought_with k c.args.sample c.args.info.now.first_frame) c.clock-told.ensures;
        starts_right = subst (λ (s : Seeker). SeekStartsRight s) (sym kept.seeker_is) c.new-begun.ensures.starts_right;
        needed = kept.needed_is;
        found = kept.found_is ∙ c.none.ensures;
      };
    }
