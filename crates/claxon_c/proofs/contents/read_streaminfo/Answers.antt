use Rattle.std.proofs.Common.{Global, rules, ◌≡◌, length, subst, sym}
use Rattle.std.specs.Prelude.{Err, Result}
use Rattle.claxon.specs.MetadataBlocks.{Body, BodyFault, Info}
use Rattle.claxon.specs.Errors.{Error}
use Rattle.claxon.specs.MetadataBlock.{MayRunOutOfMemory, content_view, info_view}
use Rattle.claxon.specs.StreamInfos.{StreamInfo}
use Rattle.claxon_c.specs.Contents.{BodyIsRead, streaminfo_type}
use Rattle.claxon_c.proofs.ContentCalls.{error_is_read, value_is_read, info_content}
use Rattle.claxon_c.proofs.contents.read_streaminfo.Goals as goal

pub returns-in_err-block-clause-is_read : goal.returns-in_err-block-clause-is_read
returns-in_err-block-clause-is_read c =
    let e = c.in_err-block.field-0.0 in
    let content = c.args.content.now in
    let n = length content in
    let is : c.from_residual.result ≡ Err e = search rules in
    subst (λ (r : Result StreamInfo Error). BodyIsRead info_content streaminfo_type content r) (sym is)
    (error_is_read (content_view {A = Global}) info_content (Body streaminfo_type n) (BodyFault streaminfo_type n) (MayRunOutOfMemory streaminfo_type n content) content e c.in_err-block.ensures.is_read)

pub returns-in-StreamInfo-clause-is_read : goal.returns-in-StreamInfo-clause-is_read
returns-in-StreamInfo-clause-is_read c =
    let found = c.in-StreamInfo.found in
    let content = c.args.content.now in
    let n = length content in
    let is : content_view {A = Global} c.in_ok-block.block ≡ Info (info_view found) = search rules in
    value_is_read (content_view {A = Global}) info_content (Body streaminfo_type n) (BodyFault streaminfo_type n) (MayRunOutOfMemory streaminfo_type n content) content c.in_ok-block.block found is c.in_ok-block.ensures.is_read
