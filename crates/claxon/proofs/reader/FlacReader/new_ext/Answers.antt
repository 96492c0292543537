use Rattle.std.proofs.Common.{Ok, Err, refl, sym, ◌∙◌}
use Rattle.std.proofs.lemmas.Result.{err_from_is_err_and}
use Rattle.claxon_input.specs.BufferedReader.{buffered_source}
use Rattle.claxon.specs.ReadHead.{head_view, options_view}
use Rattle.claxon.proofs.ErrorTexts.{err_names_fault}
use Rattle.claxon.proofs.Opening.{is_fault, is_io_error, is_named, is_opened, is_sound, no_empty_reads, no_errors}
use Rattle.claxon.proofs.reader.FlacReader.new_ext.Goals as goal

pub returns-clause-no_read_failed : goal.returns-clause-no_read_failed
returns-clause-no_read_failed g c =
    let w = c.in_ok-streaminfo.ensures.is_read in
    (w.errors ∙ no_errors g.R.Read.remaining c.args.reader _ c.in_ok-input.input c.in_ok-input.ensures.nothing_was_read, w.empty_reads ∙ no_empty_reads g.R.Read.remaining c.args.reader _ c.in_ok-input.input c.in_ok-input.ensures.nothing_was_read)

pub returns-clause-is_sound : goal.returns-clause-is_sound
returns-clause-is_sound g c =
    rw c.new-2.ensures.view (is_sound g.R.Read.remaining c.args.reader (buffered_source g.R.Read.remaining) c.in_ok-input.input c.in_ok-input.ensures.nothing_was_read c.read_head.new.input (options_view c.args.options) _ c.in_ok-streaminfo.ensures.is_sound)

pub returns-clause-is_complete : goal.returns-clause-is_complete
returns-clause-is_complete g c =
    is_opened g.R.Read.remaining (options_view c.args.options) c.args.reader (head_view {A = g.row.A.Denot}) (buffered_source g.R.Read.remaining) c.in_ok-input.input c.read_head.new.input c.in_ok-input.ensures.nothing_was_read (Ok (c.in_ok-streaminfo.streaminfo, c.in_ok-streaminfo.vorbis_comment)) _ (sym c.new-2.ensures.view, refl) c.in_ok-streaminfo.ensures.is_complete

pub returns-clause-fault_is_complete : goal.returns-clause-fault_is_complete
returns-clause-fault_is_complete g c =
    is_named g.R.Read.remaining (options_view c.args.options) c.args.reader (head_view {A = g.row.A.Denot}) (buffered_source g.R.Read.remaining) c.in_ok-input.input c.read_head.new.input c.in_ok-input.ensures.nothing_was_read (Ok (c.in_ok-streaminfo.streaminfo, c.in_ok-streaminfo.vorbis_comment)) _ (sym c.new-2.ensures.view, refl) c.in_ok-streaminfo.ensures.fault_is_complete

pub returns-clause-else_io_error : goal.returns-clause-else_io_error
returns-clause-else_io_error g c =
    is_io_error g.R.Read.remaining (options_view c.args.options) c.args.reader (head_view {A = g.row.A.Denot}) (buffered_source g.R.Read.remaining) c.in_ok-input.input c.read_head.new.input c.in_ok-input.ensures.nothing_was_read (Ok (c.in_ok-streaminfo.streaminfo, c.in_ok-streaminfo.vorbis_comment)) _ (sym c.new-2.ensures.view, refl) c.in_ok-streaminfo.ensures.else_io_error

pub returns-in_err-streaminfo-clause-is_complete : goal.returns-in_err-streaminfo-clause-is_complete
returns-in_err-streaminfo-clause-is_complete g c =
    let p = err_from_is_err_and c.from_residual-in_err-streaminfo.result c.from_residual-in_err-streaminfo.ensures.1 in
    rw p.1 (is_opened g.R.Read.remaining (options_view c.args.options) c.args.reader (head_view {A = g.row.A.Denot}) (buffered_source g.R.Read.remaining) c.in_ok-input.input c.read_head.new.input c.in_ok-input.ensures.nothing_was_read (Err _) (Err p.0) p.2 c.in_err-streaminfo.ensures.is_complete)

pub returns-in_err-streaminfo-clause-fault_is_sound : goal.returns-in_err-streaminfo-clause-fault_is_sound
returns-in_err-streaminfo-clause-fault_is_sound g c =
    let p = err_from_is_err_and c.from_residual-in_err-streaminfo.result c.from_residual-in_err-streaminfo.ensures.1 in
    rw p.1 (is_fault {A = g.row.A.Denot} g.R.Read.remaining (options_view c.args.options) c.args.reader (head_view {A = g.row.A.Denot}) (buffered_source g.R.Read.remaining) c.in_ok-input.input c.read_head.new.input c.in_ok-input.ensures.nothing_was_read (Err _) (Err p.0) p.2 c.in_err-streaminfo.ensures.fault_is_sound)

pub returns-in_err-streaminfo-clause-fault_is_complete : goal.returns-in_err-streaminfo-clause-fault_is_complete
returns-in_err-streaminfo-clause-fault_is_complete g c =
    let p = err_from_is_err_and c.from_residual-in_err-streaminfo.result c.from_residual-in_err-streaminfo.ensures.1 in
    rw p.1 (is_named g.R.Read.remaining (options_view c.args.options) c.args.reader (head_view {A = g.row.A.Denot}) (buffered_source g.R.Read.remaining) c.in_ok-input.input c.read_head.new.input c.in_ok-input.ensures.nothing_was_read (Err _) (Err p.0) p.2 c.in_err-streaminfo.ensures.fault_is_complete)

pub returns-in_err-streaminfo-clause-else_io_error : goal.returns-in_err-streaminfo-clause-else_io_error
returns-in_err-streaminfo-clause-else_io_error g c =
    let p = err_from_is_err_and c.from_residual-in_err-streaminfo.result c.from_residual-in_err-streaminfo.ensures.1 in
    rw p.1 (is_io_error g.R.Read.remaining (options_view c.args.options) c.args.reader (head_view {A = g.row.A.Denot}) (buffered_source g.R.Read.remaining) c.in_ok-input.input c.read_head.new.input c.in_ok-input.ensures.nothing_was_read (Err _) (Err p.0) p.2 c.in_err-streaminfo.ensures.else_io_error)

pub returns-in_err-streaminfo-clause-err_names_fault : goal.returns-in_err-streaminfo-clause-err_names_fault
returns-in_err-streaminfo-clause-err_names_fault g c =
    let p = err_from_is_err_and c.from_residual-in_err-streaminfo.result c.from_residual-in_err-streaminfo.ensures.1 in
    rw (p.1, p.2) (err_names_fault (head_view {A = g.row.A.Denot}) (Err _) _ _ _ c.in_err-streaminfo.ensures.is_read)
