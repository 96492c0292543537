use Rattle.std.proofs.Common.{arith, length, ◌+◌, ◌*◌, ◌<◌}
use Rattle.claxon_subframe.specs.SubframeFields.{method_of}
use Rattle.claxon_subframe.proofs.BufferedPartitions.{least_bits, buffered_rice_parameter, rice_codes_partition}
use Rattle.claxon_subframe.proofs.subframe.partitions.decode_buffered_partition.Goals as goal

pub overflow_add-parameter : goal.overflow_add-parameter
overflow_add-parameter c =
    let p = buffered_rice_parameter c.args.partition_type c.args.buffered.now c.number.new.self c.parameter_bits-bits.ensures c.in-Some.ensures.gives_buffered_or_none c.if-parameter-escape.false in
    let few = p.few in omega arith

pub overflow_mul-buffer : goal.overflow_mul-buffer
overflow_mul-buffer c =
    let p = buffered_rice_parameter c.args.partition_type c.args.buffered.now c.number.new.self c.parameter_bits-bits.ensures c.in-Some.ensures.gives_buffered_or_none c.if-parameter-escape.false in
    let few : length c.args.buffer.now * (c.in-Some.parameter + 1) < 4294967296 = least_bits (length c.args.buffer.now) c.in-Some.parameter c.requires p.few in omega arith

pub invariant_of-code : goal.invariant_of-code
invariant_of-code c =
    let p = buffered_rice_parameter c.args.partition_type c.args.buffered.now c.number.new.self c.parameter_bits-bits.ensures c.in-Some.ensures.gives_buffered_or_none c.if-parameter-escape.false in record { bound = p.few }

pub returns : goal.returns
returns c =
    let p = buffered_rice_parameter c.args.partition_type c.args.buffered.now c.number.new.self c.parameter_bits-bits.ensures c.in-Some.ensures.gives_buffered_or_none c.if-parameter-escape.false in
    rice_codes_partition (method_of c.args.partition_type) c.in-Some.parameter c.parameter_bits-bits.result c.decode_buffered.result c.decode_buffered.new.buffer c.args.buffered.now c.number.new.self c.decode_buffered.new.buffered c.parameter_bits-bits.ensures p.not_escape (omega arith)
    c.decode_buffered.ensures.few c.in-Some.ensures.gives_buffered_or_none c.decode_buffered.ensures.are_read
