use Rattle.std.proofs.Common.{arith, rules, ◌-◌, ◌/◌, ◌%◌, ◌^◌}
use Rattle.claxon_format.proofs.Numbers.{length-bits}
use Rattle.claxon_input.specs.Bitstream.{bit_state}
use Rattle.claxon_input.specs.State.{bits_in}
use Rattle.claxon_input.proofs.BitSteps.{cut_in_cache, empty_bits}
use Rattle.claxon_input.proofs.Sources.{on_err, moves_past_some_after}
use Rattle.claxon_input.proofs.States.{gives_io_err}
use Rattle.claxon_input.proofs.BufferedBitSteps.{consumes_skipped_bits, failure_or_skip, failure_or_last, last_skipped}
use Rattle.claxon_input.proofs.bits.Bitstream.skip_bits.Goals as goal

pub returns-then-amount-self-clause-are_skipped : goal.returns-then-amount-self-clause-are_skipped
unfolding bits_in
returns-then-amount-self-clause-are_skipped g c =
    let b = c.args.self.now in
    consumes_skipped_bits c.args.amount (cut_in_cache (g.R.ReadBytes.source b.reader) b.cache b.count c.args.amount (omega arith) (omega arith)) (length-bits c.args.amount (b.cache / 2 ^ (b.count - c.args.amount)))

pub returns-in_err-skip-clause-are_skipped : goal.returns-in_err-skip-clause-are_skipped
unfolding bits_in
returns-in_err-skip-clause-are_skipped g c =
    let b = c.args.self.now in
    let few = (c.args.amount - b.count - 1) / 8 in
    gives_io_err _ c.from_residual.result _ _ _ c.from_residual.ensures.0 (failure_or_skip (bit_state g.R.ReadBytes.source b) (g.R.ReadBytes.source c.skip.new.self) few c.args.amount (omega (arith, length-bits b.count b.cache)) c.in_err-skip.ensures.failure_or_eof)

pub returns-in_err-last-clause-are_skipped : goal.returns-in_err-last-clause-are_skipped
unfolding bits_in
returns-in_err-last-clause-are_skipped g c =
    let b = c.args.self.now in
    let few = (c.args.amount - b.count - 1) / 8 in
    gives_io_err _ c.from_residual-in_err-last.result _ _ _ c.from_residual-in_err-last.ensures.0 (failure_or_last (bit_state g.R.ReadBytes.source b) (g.R.ReadBytes.source c.skip.new.self) (g.R.ReadBytes.source c.read_u8.new.self) few c.args.amount (omega (arith, length-bits b.count b.cache)) c.in_ok-skip.ensures.are_skipped c.in_err-last.ensures.failure_or_eof)

pub returns-clause-are_skipped : goal.returns-clause-are_skipped
unfolding bits_in
returns-clause-are_skipped g c =
    let b = c.args.self.now in
    let few = (c.args.amount - b.count - 1) / 8 in
    let left = 7 - (c.args.amount - b.count - 1) % 8 in
    last_skipped (bit_state g.R.ReadBytes.source b) (g.R.ReadBytes.source c.skip.new.self) (g.R.ReadBytes.source c.read_u8.new.self) few c.args.amount c.in_ok-last.field-0 left (omega (arith, length-bits b.count b.cache)) (omega arith) c.in_ok-skip.ensures.are_skipped c.in_ok-last.ensures.is_sound

pub returns-in_err-skip-clause-skip_drops_bits : goal.returns-in_err-skip-clause-skip_drops_bits
returns-in_err-skip-clause-skip_drops_bits g c = on_err c.from_residual.result (record { rest = c.in_err-skip.ensures.failure_or_eof.rest; emptied = search (rules, empty_bits) })

pub returns-in_err-last-clause-skip_drops_bits : goal.returns-in_err-last-clause-skip_drops_bits
returns-in_err-last-clause-skip_drops_bits g c =
    on_err c.from_residual-in_err-last.result (record { rest = moves_past_some_after _ _ _ _ c.in_ok-skip.ensures.are_skipped.2 c.in_err-last.ensures.failure_or_eof.rest; emptied = search (rules, empty_bits) })
