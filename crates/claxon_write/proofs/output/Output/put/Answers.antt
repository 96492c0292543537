use Rattle.std.proofs.Common.{◌-◌, ◌++◌, List, ℕ, length, take, drop, refl, sym, ap, ◌∙◌, arith}
use Rattle.std.proofs.lemmas.List.{append-nil, length-drop, length-take, take_all, take-append-drop}
use Rattle.std.proofs.lemmas.Result.{err_from_is_err_and}
use Rattle.claxon_write.proofs.Appended.{take_piece}
use Rattle.claxon_write.proofs.Puts.{puts_none, puts_both, puts_as, puts_pending, fails_after, fails_more, fails_as}
use Rattle.claxon_write.proofs.output.Output.put.Goals as goal

pub loop-from-init : goal.loop-from-init
loop-from-init g c = record { inside = omega arith; reference = refl; unflushed = refl; puts = puts_none c.args.self.now }

pub loop-from-preserved : goal.loop-from-preserved
loop-from-preserved g c =
    let bytes = c.args.bytes.now in
    let from = c.loop-from.from in
    let v = c.loop-from.invariant in
    let rest = take (length bytes - from) (drop from bytes) in
    let n = c.add_prefix-from.result in
    record {
      inside = omega (arith, c.add_prefix-from.ensures.most, v.inside, length-take (length bytes - from) (drop from bytes), length-drop from bytes);
      reference = c.in_ok-reserve.ensures.same_writer ∙ v.reference;
      unflushed = c.in_ok-reserve.ensures.is_unflushed ∙ v.unflushed;
      puts = puts_as (ap (λ (z : List ℕ). z ++ take n rest) (append-nil (take from bytes)) ∙ sym (take_piece from n bytes v.inside))
          (puts_both (puts_both v.puts c.in_ok-reserve.ensures.is_sound) (puts_pending g.W.Write.contents c.reserve.new.self _ (take n rest) refl c.add_prefix-from.ensures.added));
    }

pub returns-clause-is_sound : goal.returns-clause-is_sound
returns-clause-is_sound g c = puts_as (take_all c.loop-from.from c.args.bytes.now (omega (arith, c.loop-from-test.false))) c.loop-from.invariant.puts

pub returns-in_err-reserve-clause-fault_is_sound : goal.returns-in_err-reserve-clause-fault_is_sound
returns-in_err-reserve-clause-fault_is_sound g c =
    let p = err_from_is_err_and c.from_residual.result c.from_residual.ensures.1 in
    let bytes = c.args.bytes.now in
    let from = c.loop-from.from in
    let all = ap (λ (z : List ℕ). z ++ drop from bytes) (append-nil (take from bytes)) ∙ take-append-drop from bytes in
    rw (p.1, p.2) (fails_as all (fails_more (drop from bytes) (fails_after c.loop-from.invariant.puts c.in_err-reserve.ensures.fault_is_sound)))
