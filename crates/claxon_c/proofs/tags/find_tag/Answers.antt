use Rattle.std.proofs.Common.{◌≡◌, rules, sym, subst, ℕ, Option}
use Rattle.std.specs.Prelude.{Err, Result}
use Rattle.claxon.specs.Comments.{Entry}
use Rattle.claxon.specs.read.Reading.{Reading}
use Rattle.claxon.specs.Errors.{Error}
use Rattle.claxon_c.specs.declared.tags.Tag.{Tag}
use Rattle.claxon_c.specs.TagReader.{TagIsRead, tag_at}
use Rattle.claxon_c.proofs.tags.find_tag.Goals as goal

pub returns-in_err-start : goal.returns-in_err-start
returns-in_err-start c =
    let content = c.args.content.now in
    let e = c.in_err-start.field-0.0 in
    let is : c.from_residual.result ≡ Err e = search rules in
    record { is_read = subst (λ (r : Result (Option Tag) Error). TagIsRead content (tag_at c.args.at content) r) (sym is) c.in_err-start.ensures.is_read }

pub returns : goal.returns
returns c =
    let content = c.args.content.now in
    record { is_read = subst (λ (read : Reading ℕ (Option Entry)). TagIsRead content read c.first_tag.result) (sym c.in_ok-start.ensures.is_read.1) c.first_tag.ensures.is_read }
