use Rattle.std.proofs.Common.{Global, rules, ◌≡◌, length, subst, sym}
use Rattle.std.specs.Prelude.{Err, Result}
use Rattle.claxon.specs.MetadataBlocks.{Body, BodyFault, Comments}
use Rattle.claxon.specs.Errors.{Error}
use Rattle.claxon.specs.MetadataBlock.{MayRunOutOfMemory, content_view}
use Rattle.claxon.specs.VorbisComment.{comment_view}
use Rattle.claxon.specs.VorbisComments.{VorbisComment}
use Rattle.claxon_c.specs.Contents.{BodyIsRead, comment_type}
use Rattle.claxon_c.proofs.ContentCalls.{comment_content, error_is_read, value_is_read}
use Rattle.claxon_c.proofs.contents.read_comment.Goals as goal

pub returns-in_err-block : goal.returns-in_err-block
returns-in_err-block c =
    let e = c.in_err-block.field-0.0 in
    let content = c.args.content.now in
    let n = length content in
    let is : c.from_residual.result ≡ Err e = search rules in
    record {
      is_read = subst (λ (r : Result (VorbisComment Global) Error). BodyIsRead comment_content comment_type content r) (sym is)
          (error_is_read (content_view {A = Global}) comment_content (Body comment_type n) (BodyFault comment_type n) (MayRunOutOfMemory comment_type n content) content e c.in_err-block.ensures.is_read);
    }

pub returns-in-VorbisComment : goal.returns-in-VorbisComment
returns-in-VorbisComment c =
    let found = c.in-VorbisComment.found in
    let content = c.args.content.now in
    let n = length content in
    let is : content_view {A = Global} c.in_ok-block.block ≡ Comments (comment_view found) = search rules in
    record { is_read = value_is_read (content_view {A = Global}) comment_content (Body comment_type n) (BodyFault comment_type n) (MayRunOutOfMemory comment_type n content) content c.in_ok-block.block found is c.in_ok-block.ensures.is_read }
