use Rattle.std.proofs.Common.{◌≡◌, ◌<◌, inl, length, arith, ap, vec_len}
use Rattle.std.proofs.lemmas.Grind.{common_steps}
use Rattle.std.proofs.lemmas.List.{nil_from_length}
use Rattle.claxon_command_line.proofs.ListedNames.{none_so_far, empty_more, byte_more, zero_ends, at_end}
use Rattle.claxon_command_line.proofs.names.read_name.Goals.{then-byte-ne0+in_ok-push, else-byte-ne0+else-not-is_empty}
use Rattle.claxon_command_line.proofs.names.read_name.Goals as goal

pub loop-init : goal.loop-init
loop-init g c = rw c.clear.ensures.items (none_so_far g.R.ReadBytes.source c.args.input.now)

pub loop-preserved : goal.loop-preserved
loop-preserved g c =
    let s = g.R.ReadBytes.source in
    let a = c.args.input.now in
    let b = c.loop.input in
    let d = c.read_u8_or_eof.new.self in
    let t = rw c.in-Some.is at c.in_ok-byte.ensures.eof_is_sound in
    elim c.if-byte-ne0.branch [
      | then-byte-ne0+in_ok-push w ↦ (rw (w.name-is, w.in_ok-push.ensures.items) (byte_more s a b d c.loop.name.items c.in-Some.byte c.loop.invariant w.if-byte-ne0.true t))
      | else-byte-ne0+else-not-is_empty w ↦ (
          let zero : c.in-Some.byte ≡ 0 = w.if-byte-ne0.false in
          let none : length c.loop.name.items ≡ 0 = grind (arith, common_steps) in
          let nil = nil_from_length c.loop.name.items none in
          rw (w.name-is, nil) (empty_more s a b d (rw nil at c.loop.invariant) (rw zero at t)))
    ]

pub returns-in_default : goal.returns-in_default
returns-in_default g c =
    let t = rw c.in_default.is at c.in_ok-byte.ensures.eof_is_sound in
    let same : vec_len c.loop.name ≡ length c.loop.name.items = grind (arith, common_steps) in
    record { is_sound = at_end g.R.ReadBytes.source c.args.input.now c.loop.input c.read_u8_or_eof.new.self c.loop.name.items c.is_empty.result (rw same at c.is_empty.ensures) c.loop.invariant t }

pub returns-then-not-is_empty : goal.returns-then-not-is_empty
returns-then-not-is_empty g c =
    let t = rw c.in-Some.is at c.in_ok-byte.ensures.eof_is_sound in
    let zero : c.in-Some.byte ≡ 0 = c.if-byte-ne0.false in
    let full : 0 < length c.loop.name.items = grind (arith, common_steps) in
    record { is_sound = ((λ e. absurd (omega (arith, ap length e))), inl (zero_ends g.R.ReadBytes.source c.args.input.now c.loop.input c.read_u8_or_eof.new.self c.loop.name.items c.loop.invariant (rw zero at t))) }
