use Rattle.claxon_recovery.proofs.PartsGiven.{given_excused, given_found, given_there}
use Rattle.claxon_recovery.proofs.parts.Parts.next_part.Goals as goal

pub returns-clause-part_is_there : goal.returns-clause-part_is_there
returns-clause-part_is_there g c = given_there g.R.ReadBytes.source c.args.self.now _ c.next_part_exact.result c.next_part_exact.ensures.gives

pub returns-clause-err_is_excused : goal.returns-clause-err_is_excused
returns-clause-err_is_excused g c = given_excused g.R.ReadBytes.source c.args.self.now _ c.next_part_exact.result c.next_part_exact.ensures.gives

pub returns-clause-frame_is_found : goal.returns-clause-frame_is_found
returns-clause-frame_is_found g c = given_found g.R.ReadBytes.source c.args.self.now c.args.self.now.stream.has_bit_depth _ c.next_part_exact.result c.next_part_exact.ensures.gives
