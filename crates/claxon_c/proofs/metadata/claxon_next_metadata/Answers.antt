use Rattle.std.proofs.Common.{arith, rules, ◌<◌, drop, length}
use Rattle.std.proofs.lemmas.List.{length-drop}
use Rattle.claxon_c.specs.NextMetadata.{header_length}
use Rattle.claxon_c.proofs.NextMetadata.{header_is_left, metadata_complete, metadata_sound}
use Rattle.claxon_c.proofs.metadata.claxon_next_metadata.Goals as goal

pub returns-then-saturating_sub-lt-HEADER_LENGTH-clause-is_complete :
    goal.returns-then-saturating_sub-lt-HEADER_LENGTH-clause-is_complete
returns-then-saturating_sub-lt-HEADER_LENGTH-clause-is_complete c h begins =
    let few : length (drop c.args.at.now c.args.bytes.now) < header_length = search (rules, length-drop) in
    absurd (omega (arith, few, header_is_left h (drop c.args.at.now c.args.bytes.now) begins))

pub returns-clause-is_sound : goal.returns-clause-is_sound
returns-clause-is_sound c =
    let n = c.header_at-header.result in
    metadata_sound c.args.bytes.now c.args.at.now n _ (search rules) c.header_at-header.ensures (omega arith) (omega arith) (omega arith) (omega arith)

pub returns-clause-is_complete : goal.returns-clause-is_complete
returns-clause-is_complete c =
    let n = c.header_at-header.result in
    metadata_complete c.args.bytes.now c.args.at.now n _ (search rules) c.header_at-header.ensures (omega arith) (omega arith) (omega arith) (omega arith)
