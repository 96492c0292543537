use Rattle.std.proofs.Common.{◌≤◌, List, ℕ, length, subst, arith}
use Rattle.std.proofs.lemmas.List.{take_rest}
use Rattle.claxon_stream.specs.FrameEnd.{Knows}
use Rattle.claxon_stream.specs.SumThrough.{IsSummed}
use Rattle.claxon_stream.proofs.FrameEnds.{known_by_sum, no_frame_in_front}
use Rattle.claxon_stream.proofs.ending.FrameEnd.may_be_in.Goals as goal
use Rattle.claxon_stream.proofs.ending.FrameEnd.may_be_in.Goals.{then-bytes-self, else-bytes-self}

pub returns-clause-may_end : goal.returns-clause-may_end
returns-clause-may_end c stream bytes start known =
    let old = c.args.self.now in
    let front = c.args.bytes.now in
    let new = c.if-bytes-self.self in
    let summed : length front ≤ new.summed = elim c.if-bytes-self.branch [
      | then-bytes-self w ↦ rw w.self-is (omega arith)
      | else-bytes-self w ↦ rw w.self-is w.if-bytes-self.false
    ] in
    let now : Knows stream bytes new = elim c.if-bytes-self.branch [
      | then-bytes-self w ↦ rw w.self-is (known_by_sum stream bytes front start old known (omega (arith, w.if-bytes-self.true)) w.sum_through-crc.result.0 w.sum_through-crc.result.1
          (subst (λ (s : List ℕ). IsSummed old.crc old.is_near s w.sum_through-crc.result.0 w.sum_through-crc.result.1) (take_rest front old.summed) w.sum_through-crc.ensures))
      | else-bytes-self w ↦ rw w.self-is known
    ] in
    (now, λ far. no_frame_in_front stream bytes front start new.summed summed (now.far far), λ near. now.near near)
