use Rattle.std.proofs.Common.{rules}
use Rattle.claxon.proofs.reader.FlacReader.new.Goals as goal

pub returns-clause-is_sound : goal.returns-clause-is_sound
returns-clause-is_sound g c = search (rules, simp (c.default.ensures.0, c.default.ensures.1) at c.new_ext.ensures.is_sound)

pub returns-clause-is_complete : goal.returns-clause-is_complete
returns-clause-is_complete g c = search (rules, simp (c.default.ensures.0, c.default.ensures.1) at c.new_ext.ensures.is_complete)

pub returns-clause-fault_is_sound : goal.returns-clause-fault_is_sound
returns-clause-fault_is_sound g c = search (rules, simp (c.default.ensures.0, c.default.ensures.1) at c.new_ext.ensures.fault_is_sound)

pub returns-clause-fault_is_complete : goal.returns-clause-fault_is_complete
returns-clause-fault_is_complete g c = search (rules, simp (c.default.ensures.0, c.default.ensures.1) at c.new_ext.ensures.fault_is_complete)

pub returns-clause-else_io_error : goal.returns-clause-else_io_error
returns-clause-else_io_error g c = search (rules, simp (c.default.ensures.0, c.default.ensures.1) at c.new_ext.ensures.else_io_error)
