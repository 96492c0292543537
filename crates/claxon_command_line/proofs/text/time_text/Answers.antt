use Rattle.std.proofs.Common.{◌/◌, ◌%◌, append_assoc, arith}
use Rattle.claxon_command_line.proofs.Digits.{three_digits_padded, two_digits_padded}
use Rattle.claxon_command_line.proofs.text.time_text.Goals as goal

pub returns : goal.returns
returns g c =
    let t = c.args.time in
    let shown = simp (c.laid_out.ensures, c.laid_out-2.ensures, c.laid_out-3.ensures) at c.format.ensures.ok in
    record {
      is_text = rw (← two_digits_padded (t / 60000 % 60) (omega arith), ← two_digits_padded (t / 1000 % 60) (omega arith), ← three_digits_padded (t % 1000) (omega arith))
          (simp append_assoc shown);
    }
