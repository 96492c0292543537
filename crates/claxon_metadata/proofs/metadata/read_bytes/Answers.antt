use Rattle.std.proofs.Common.{◌≡◌, length, drop, rules, ◌∙◌}
use Rattle.std.proofs.lemmas.List.{take_at}
use Rattle.std.proofs.lemmas.Result.{err_from_is_err_and}
use Rattle.claxon_input.proofs.ByteFields.{consumes_whole, failure_or_whole}
use Rattle.claxon_input.proofs.ConsecutiveCalls.{gives_never_out_of_memory, io_exit, consumes_map}
use Rattle.claxon_metadata.proofs.metadata.read_bytes.Goals as goal

pub returns-in_err-read_into-clause-gives : goal.returns-in_err-read_into-clause-gives
returns-in_err-read_into-clause-gives g c =
    let e : length c.deref_mut.result.now ≡ c.args.count = search rules in
    gives_never_out_of_memory _ _ _ _ _ (io_exit _ (err_from_is_err_and c.from_residual-in_err-read_into.result c.from_residual-in_err-read_into.ensures.1) (failure_or_whole g.R.ReadBytes.source c.args.count (rw e at c.in_err-read_into.ensures.failure_or_eof)))

pub returns-clause-gives : goal.returns-clause-gives
returns-clause-gives g c =
    let n : length c.read_into.new.buffer ≡ c.resize.new.self.len = c.read_into.auto.buffer ∙ c.deref_mut.ensures.len in
    let rest = drop (length c.read_into.new.buffer) c.resize.new.self.items in
    consumes_map _ (consumes_whole g.R.ReadBytes.source c.args.count c.read_into.new.buffer (search rules) c.in_ok-read_into.ensures.are_sound) (λ p. rw (take_at c.read_into.new.buffer rest c.resize.new.self.len n) p)

pub returns-in_err-resize-clause-gives : goal.returns-in_err-resize-clause-gives
returns-in_err-resize-clause-gives g c = search rules
