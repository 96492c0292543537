use Rattle.claxon_frame.specs.FrameReader.{frame_stream}
use Rattle.claxon_frame.proofs.BlockInfo.{headers_unambiguous, info_eof_is_none, info_never_out_of_memory, info_promises}
use Rattle.claxon_frame.proofs.frame.FrameReader.read_header_or_eof.Goals as goal

pub returns-clause-is_sound : goal.returns-clause-is_sound
returns-clause-is_sound g c =
    let e = (info_promises _ c.read_block_info_or_eof.result _ _ c.read_block_info_or_eof.ensures.is_read).is_sound in
    search depth 1

pub returns-clause-is_complete : goal.returns-clause-is_complete
returns-clause-is_complete g c =
    let e = (info_promises _ c.read_block_info_or_eof.result _ _ c.read_block_info_or_eof.ensures.is_read).is_complete in
    search depth 1

pub returns-clause-is_unambiguous : goal.returns-clause-is_unambiguous
returns-clause-is_unambiguous g c = headers_unambiguous (frame_stream c.args.self.now)

pub returns-clause-none_is_eof : goal.returns-clause-none_is_eof
returns-clause-none_is_eof g c =
    let e = (info_promises _ c.read_block_info_or_eof.result _ _ c.read_block_info_or_eof.ensures.is_read).none_is_eof in
    search depth 1

pub returns-clause-eof_is_none : goal.returns-clause-eof_is_none
returns-clause-eof_is_none g c = info_eof_is_none _ c.read_block_info_or_eof.result _ _ c.read_block_info_or_eof.ensures.is_read

pub returns-clause-failure_is_err : goal.returns-clause-failure_is_err
returns-clause-failure_is_err g c =
    let e = (info_promises _ c.read_block_info_or_eof.result _ _ c.read_block_info_or_eof.ensures.is_read).failure_is_err in
    search depth 1

pub returns-clause-fault_is_sound : goal.returns-clause-fault_is_sound
returns-clause-fault_is_sound g c =
    let e = (info_promises _ c.read_block_info_or_eof.result _ _ c.read_block_info_or_eof.ensures.is_read).fault_is_sound in
    search depth 1

pub returns-clause-fault_is_complete : goal.returns-clause-fault_is_complete
returns-clause-fault_is_complete g c = (info_promises _ c.read_block_info_or_eof.result _ _ c.read_block_info_or_eof.ensures.is_read).fault_is_complete

pub returns-clause-else_io_error : goal.returns-clause-else_io_error
returns-clause-else_io_error g c =
    let e = (info_promises _ c.read_block_info_or_eof.result _ _ c.read_block_info_or_eof.ensures.is_read).else_io_error in
    search depth 1

pub returns-clause-leaves_rest : goal.returns-clause-leaves_rest
returns-clause-leaves_rest g c =
    let e = (info_promises _ c.read_block_info_or_eof.result _ _ c.read_block_info_or_eof.ensures.is_read).leaves_rest in
    search depth 1

pub returns-clause-never_out_of_memory : goal.returns-clause-never_out_of_memory
returns-clause-never_out_of_memory g c = info_never_out_of_memory _ c.read_block_info_or_eof.result _ _ c.read_block_info_or_eof.ensures.is_read

pub returns-clause-is_read : goal.returns-clause-is_read
returns-clause-is_read g c = c.read_block_info_or_eof.ensures.is_read
