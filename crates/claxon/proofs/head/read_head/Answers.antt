use Rattle.claxon_format.proofs.Heads.{Reads-head}
use Rattle.claxon_input.proofs.Promises.{promises}
use Rattle.claxon.specs.ReadHead.{head_view, options_view}
use Rattle.claxon.proofs.head.read_head.Goals as goal

pub returns-clause-is_sound : goal.returns-clause-is_sound
returns-clause-is_sound g c = (promises (Reads-head (options_view c.args.options)) (head_view {A = g.row.A.Denot}) c.read_head_exact.result _ _ c.read_head_exact.ensures.gives).is_sound

pub returns-clause-is_complete : goal.returns-clause-is_complete
returns-clause-is_complete g c = (promises (Reads-head (options_view c.args.options)) (head_view {A = g.row.A.Denot}) c.read_head_exact.result _ _ c.read_head_exact.ensures.gives).is_complete

pub returns-clause-fault_is_sound : goal.returns-clause-fault_is_sound
returns-clause-fault_is_sound g c = (promises (Reads-head (options_view c.args.options)) (head_view {A = g.row.A.Denot}) c.read_head_exact.result _ _ c.read_head_exact.ensures.gives).fault_is_sound

pub returns-clause-fault_is_complete : goal.returns-clause-fault_is_complete
returns-clause-fault_is_complete g c = (promises (Reads-head (options_view c.args.options)) (head_view {A = g.row.A.Denot}) c.read_head_exact.result _ _ c.read_head_exact.ensures.gives).fault_is_complete

pub returns-clause-else_io_error : goal.returns-clause-else_io_error
returns-clause-else_io_error g c = (promises (Reads-head (options_view c.args.options)) (head_view {A = g.row.A.Denot}) c.read_head_exact.result _ _ c.read_head_exact.ensures.gives).else_io_error

pub returns-clause-leaves_rest : goal.returns-clause-leaves_rest
returns-clause-leaves_rest g c = (promises (Reads-head (options_view c.args.options)) (head_view {A = g.row.A.Denot}) c.read_head_exact.result _ _ c.read_head_exact.ensures.gives).leaves_rest
