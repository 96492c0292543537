use Rattle.std.proofs.Common.{◌≡◌, ◌≢◌, ◌/◌, ◌%◌, ◌^◌, ◌-◌, ◌*◌, ◌<◌, ◌≤◌, ◌∙◌, Bool, ℕ, List, true, false, ltb, length, refl, arith}
use Rattle.std.proofs.lemmas.Bool.{lt-ltb, le-ltb}
use Rattle.std.proofs.lemmas.Result.{err_from_is_err_and}
use Rattle.claxon_format.specs.Fault.{fault_text, PartitionOrder, PartitionShort}
use Rattle.claxon_format.specs.read.Reading.{Done}
use Rattle.claxon_format.specs.Bits.{Bits}
use Rattle.claxon_format.specs.Residual.{partition_lengths}
use Rattle.claxon_format.specs.read.Bits.{number_at}
use Rattle.claxon_format.specs.read.Residual.{partition_at, residual_at, method_at, partitions_at, joined_at}
use Rattle.claxon_input.specs.Gives.{Consumes}
use Rattle.claxon_input.specs.State.{State}
use Rattle.claxon_input.proofs.ConsecutiveCalls.{consumes_then, consumes_none, exit, io_exit, failure_or_after, stops_after, gives_after}
use Rattle.claxon_subframe.specs.Partitions.{lengths}
use Rattle.claxon_input.proofs.Faults.{stops_fault}
use Rattle.claxon_subframe.proofs.PartitionLoop.{partitions_begin, partitions_next, partitions_several, rest_fits, partitions_err, partitions_end}
use Rattle.claxon_subframe.proofs.PartitionLengths.{mask_is, total_is, lengths_are}
use Rattle.claxon_subframe.proofs.subframe.decode_residual.Goals as goal

whole_is : (n order : ℕ) (ls : List ℕ) (method p r : ℕ) (s m k : Bits) → method_at s ≡ Done method m → number_at 4 m ≡ Done r k → p ≡ r → ltb 0 (n % 2 ^ p) ≡ false → ltb (n / 2 ^ p) order ≡ false → ls ≡ partition_lengths n order p
    → residual_at n order s ≡ joined_at (partition_at method) ls k
unfolding residual_at partitions_at
whole_is n order ls method p r s m k a b e none fits l = rw (a, b, ← e, none, fits, l) refl

residual_begins : {a b c : State Bool} (n order method p r : ℕ) → p < 16 → p ≡ r → n % 2 ^ p ≡ 0 → order ≤ n / 2 ^ p → Consumes a b (λ s m. method_at s ≡ Done method m) → Consumes b c (λ s m. number_at 4 s ≡ Done r m)
    → Consumes a c (λ s m. residual_at n order s ≡ joined_at (partition_at method) (lengths (1 * 2 ^ p % 4294967296) (n / 2 ^ p - order) (n / 2 ^ p)) m)
residual_begins n order method p r small is whole fits first second =
    let none : ltb 0 (n % 2 ^ p) ≡ false = le-ltb _ _ (omega arith) in
    let long : ltb (n / 2 ^ p) order ≡ false = le-ltb _ _ fits in
    consumes_then _ first second (λ e f. whole_is n order _ method p r _ _ _ e f is none long (lengths_are n order p small))

pub returns-in_err-partition_type : goal.returns-in_err-partition_type
unfolding residual_at
returns-in_err-partition_type g c = record {
  fills_buffer =
      exit _ (err_from_is_err_and c.from_residual.result c.from_residual.ensures.1)
      (stops_after {next = residual_at c.args.block_size (c.args.block_size - length c.args.buffer.now)} (consumes_none _ _ refl) (record {
        fault = λ s f rest e. rw e refl;
        incomplete = λ s e. rw e refl;
      }) c.in_err-partition_type.ensures.gives);
}

pub returns-in_err-read_leq_u8 : goal.returns-in_err-read_leq_u8
unfolding residual_at partitions_at
returns-in_err-read_leq_u8 g c = record {
  fills_buffer =
      io_exit _ (err_from_is_err_and c.from_residual-in_err-read_leq_u8.result c.from_residual-in_err-read_leq_u8.ensures.1)
      (failure_or_after _ c.in_ok-partition_type.ensures.gives c.in_err-read_leq_u8.ensures.is_read (λ p q. rw (p, q) refl));
}

pub returns-then-from-n_partitions-ne0 : goal.returns-then-from-n_partitions-ne0
unfolding residual_at partitions_at fault_text
returns-then-from-n_partitions-ne0 g c = record {
  fills_buffer =
      let m = mask_is c.args.block_size c.from-order.result (omega (arith, c.in_ok-read_leq_u8.ensures.value)) in
      let order = c.from-order.ensures in
      let rest : c.args.block_size % 2 ^ c.in_ok-read_leq_u8.field-0 ≢ 0 = grind arith in
      let some : ltb 0 (c.args.block_size % 2 ^ c.in_ok-read_leq_u8.field-0) ≡ true = lt-ltb _ _ (omega arith) in
      stops_fault PartitionOrder refl refl (refl, refl) (consumes_then _ c.in_ok-partition_type.ensures.gives c.in_ok-read_leq_u8.ensures.is_read (λ p q. rw (p, q, some) refl));
}

pub returns-then-n_warm_up-n_samples_per_partition : goal.returns-then-n_warm_up-n_samples_per_partition
unfolding residual_at partitions_at fault_text
returns-then-n_warm_up-n_samples_per_partition g c = record {
  fills_buffer =
      let m = mask_is c.args.block_size c.from-order.result (omega (arith, c.in_ok-read_leq_u8.ensures.value)) in
      let order = c.from-order.ensures in
      let whole : c.args.block_size % 2 ^ c.in_ok-read_leq_u8.field-0 ≡ 0 = grind arith in
      let none : ltb 0 (c.args.block_size % 2 ^ c.in_ok-read_leq_u8.field-0) ≡ false = le-ltb _ _ (omega arith) in
      let few : c.args.block_size / 2 ^ c.in_ok-read_leq_u8.field-0 < c.args.block_size - length c.args.buffer.now = grind arith in
      let short : ltb (c.args.block_size / 2 ^ c.in_ok-read_leq_u8.field-0) (c.args.block_size - length c.args.buffer.now) ≡ true = lt-ltb _ _ few in
      stops_fault PartitionShort refl refl (refl, refl) (consumes_then _ c.in_ok-partition_type.ensures.gives c.in_ok-read_leq_u8.ensures.is_read (λ p q. rw (p, q, none, short) refl));
}

pub loop-read-init : goal.loop-read-init
loop-read-init g c =
    let small : c.from-order.result < 16 = omega (arith, c.in_ok-read_leq_u8.ensures.value) in
    let m = mask_is c.args.block_size c.from-order.result small in
    let t = total_is c.args.block_size (c.args.block_size - length c.args.buffer.now) c.from-order.result small (grind arith) (omega arith) in
    partitions_begin _ _ _ _ c.args.buffer.now (omega arith)

pub returns-in_err-decode_partition : goal.returns-in_err-decode_partition
returns-in_err-decode_partition g c = record {
  fills_buffer =
      let small : c.from-order.result < 16 = omega (arith, c.in_ok-read_leq_u8.ensures.value) in
      let m = mask_is c.args.block_size c.from-order.result small in
      let begun = residual_begins c.args.block_size (c.args.block_size - length c.args.buffer.now) _ c.from-order.result c.in_ok-read_leq_u8.field-0 small c.from-order.ensures (grind arith) (omega arith) c.in_ok-partition_type.ensures.gives c.in_ok-read_leq_u8.ensures.is_read in
      gives_after _ c.from_residual-in_err-decode_partition.result _ begun
      (exit _ (err_from_is_err_and c.from_residual-in_err-decode_partition.result c.from_residual-in_err-decode_partition.ensures.1) (partitions_err (omega arith) c.loop-read.invariant c.in_err-decode_partition.ensures.fills_buffer));
}

pub read_buffered_partitions-requires : goal.read_buffered_partitions-requires
read_buffered_partitions-requires g c =
    let one = partitions_next c.decode_partition.new.buffer (omega arith) c.loop-read.invariant c.decode_partition.auto.buffer c.in_ok-decode_partition.ensures.fills_buffer in
    record { capacity = rest_fits one }

pub loop-read-smaller : goal.loop-read-smaller
loop-read-smaller g c = let few = c.in_ok-whole.ensures.few in omega arith

pub loop-read-preserved : goal.loop-read-preserved
loop-read-preserved g c =
    let one = partitions_next c.decode_partition.new.buffer (omega arith) c.loop-read.invariant c.decode_partition.auto.buffer c.in_ok-decode_partition.ensures.fills_buffer in
    let few = c.in_ok-whole.ensures.few in
    partitions_several c.in_ok-whole.whole c.read_buffered_partitions.new.buffer (omega arith) one c.read_buffered_partitions.auto.buffer c.in_ok-whole.ensures.are_read

pub returns : goal.returns
returns g c = record {
  fills_buffer =
      let small : c.from-order.result < 16 = omega (arith, c.in_ok-read_leq_u8.ensures.value) in
      let m = mask_is c.args.block_size c.from-order.result small in
      let begun = residual_begins c.args.block_size (c.args.block_size - length c.args.buffer.now) _ c.from-order.result c.in_ok-read_leq_u8.field-0 small c.from-order.ensures (grind arith) (omega arith) c.in_ok-partition_type.ensures.gives c.in_ok-read_leq_u8.ensures.is_read in
      consumes_then _ begun (partitions_end (omega arith) c.loop-read.invariant) (λ p q. p ∙ q);
}
