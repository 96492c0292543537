use Rattle.std.proofs.Common.{◌≡◌, ◌<◌, ◌++◌, ℕ, false, arith}
use Rattle.std.proofs.lemmas.Grind.{common_steps}
use Rattle.std.specs.Prelude.{codes}
use Rattle.std.proofs.lemmas.Fmt.{hex_byte as two_hex_digits}
use Rattle.std.proofs.lemmas.Bool.Decides.{nat_tests}
use Rattle.claxon_command_line.specs.Json.{json_char}
use Rattle.claxon_command_line.specs.Text.{hex_byte}
use Rattle.claxon_command_line.proofs.json.push_json_char.Goals.{in-11-1, in_default+then-c-lt32}
use Rattle.claxon_command_line.proofs.json.push_json_char.Goals as goal

-- a control character without a letter
by_number : (c : ℕ) → c < 32 → (c ≡ 8 → ⊥) → (c ≡ 9 → ⊥) → (c ≡ 10 → ⊥) → (c ≡ 12 → ⊥) → (c ≡ 13 → ⊥) → json_char c ≡ codes "\\u00" ++ hex_byte c
unfolding json_char
by_number c small a b d e f = grind (arith, nat_tests)

pub returns-in-0-to-31 : goal.returns-in-0-to-31
returns-in-0-to-31 g c =
    let x = c.args.c in
    let is : json_char x ≡ codes "\\u00" ++ hex_byte x = elim c.in-0-to-31-1.branch [
      | in-11-1 w ↦ by_number x (omega arith) (omega arith) (omega arith) (omega arith) (omega arith) (omega arith)
      | in_default+then-c-lt32 w ↦ by_number x (omega arith) (omega arith) (omega arith) (omega arith) (omega arith) (omega arith)
    ] in
    let small : x < 256 = omega arith in
    record { adds = rw (is, ← two_hex_digits false x small) (simp (c.laid_out.ensures, c.in_radix.ensures, c.from-number.ensures) at c.write.ensures.bytes) }

pub returns-in-8 : goal.returns-in-8
unfolding json_char
returns-in-8 g c = grind (arith, common_steps)
