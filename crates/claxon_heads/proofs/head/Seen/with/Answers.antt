use Rattle.std.proofs.Common.{◌≡◌, Option, ap, refl, ◌∙◌}
use Rattle.std.specs.Prelude.{◌||◌}
use Rattle.std.specs.Option.{option_or}
use Rattle.claxon_heads.specs.StreamHead.{are_found_comments, first_found, found_content_view, seen_after, unsupported_in}
use Rattle.claxon_heads.specs.declared.head.UnsupportedBlock.{UnsupportedBlock}
use Rattle.claxon_heads.proofs.StreamHeads.{or_same}
use Rattle.claxon_heads.proofs.head.Seen.with.Goals.{else-self, then-self}
use Rattle.claxon_heads.proofs.head.Seen.with.Goals as goal

pub returns : goal.returns
unfolding seen_after
returns g c =
    let here : Option UnsupportedBlock = unsupported_in c.args.self.has_comments (found_content_view c.args.block.now) in
    let has : c.if-self.result ≡ (c.args.self.has_comments || are_found_comments (found_content_view c.args.block.now)) = elim c.if-self.branch [
      | then-self w ↦ rw (w.result-is, w.if-self.true) refl
      | else-self w ↦ rw (w.result-is, w.if-self.false) c.are_comments-has_comments.ensures
    ] in
    let why : c.or.result ≡ first_found c.args.self.unsupported here = c.or.ensures ∙ ap (λ (z : Option UnsupportedBlock). option_or c.args.self.unsupported z) c.unsupported_in-unsupported.ensures ∙ or_same c.args.self.unsupported here in
    rw (has, why) refl
