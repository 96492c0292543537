use Rattle.std.proofs.Common.{Err, Global, rules, true}
use Rattle.std.proofs.lemmas.Result.{err_from_is_err_and}
use Rattle.claxon.specs.BufferedReader.{buffered_source}
use Rattle.claxon.specs.Heads.{HeadCode}
use Rattle.claxon.specs.ReadHead.{head_view}
use Rattle.claxon.specs.State.{bytes_in}
use Rattle.claxon.specs.Streams.{with_samples}
use Rattle.claxon.proofs.ErrorTexts.{err_names_fault}
use Rattle.claxon.proofs.Opening.{is_sound}
use Rattle.claxon_seekable.proofs.Heads.{begins_with_head}
use Rattle.claxon_seekable.proofs.reader.SeekableReader.new.Goals as goal

pub returns : goal.returns
returns g c =
    let known = g.R.Read.remaining in
    let source = buffered_source known in
    let head = head_view {A = Global} (c.in_ok-streaminfo.streaminfo, c.in_ok-streaminfo.vorbis_comment) in
    let after = c.read_head.new.input in
    record {
      at_first_frame = search rules;
      head_is_shown = rw c.new-2.ensures.view (begins_with_head (known c.args.reader) (HeadCode (with_samples true) head) (bytes_in source after)
          (is_sound known c.args.reader source c.in_ok-input.input c.in_ok-input.ensures.nothing_was_read after (with_samples true) head c.in_ok-streaminfo.ensures.is_sound));
      err_names_fault = tt;
    }

pub returns-in_err-streaminfo : goal.returns-in_err-streaminfo
returns-in_err-streaminfo g c =
    let p = err_from_is_err_and c.from_residual-in_err-streaminfo.result c.from_residual-in_err-streaminfo.ensures.1 in
    record {
      at_first_frame = rw p.1 tt;
      head_is_shown = rw p.1 tt;
      err_names_fault = rw (p.1, p.2) (err_names_fault (head_view {A = Global}) (Err _) _ _ _ c.in_err-streaminfo.ensures.is_read);
    }
