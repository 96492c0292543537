-- Numbers that are printed with two and with three digits, padded with zeros.
use Rattle.std.proofs.Common.{◌≡◌, ℕ, ◌<◌, ◌≤◌, ◌/◌, ◌%◌, ◌-◌, ◌^◌, [], false, ⊎_elim, arith}
use Rattle.std.proofs.lemmas.Bool.{cases_lt}
use Rattle.std.proofs.lemmas.Fmt.{decimal_digit, decimal_step}
use Rattle.std.specs.Fmt.{char_count, decimal, format_spec, padded_integral}
use Rattle.claxon_command_line.specs.Text.{three_digits, two_digits}

pub two_digits_padded : (n : ℕ) → n < 100 → padded_integral (format_spec 32 0 4 2 (2 ^ 64 - 1)) false [] (decimal n) ≡ two_digits n
unfolding padded_integral char_count two_digits
two_digits_padded n small = ⊎_elim
    (λ (one : n < 10). let high : n / 10 ≡ 0 = omega arith in let low : n % 10 ≡ n = omega arith in rw (decimal_digit n one, high, low))
    (λ (two : 10 ≤ n). rw (decimal_step n two (omega arith), decimal_digit (n / 10) (omega arith)))
    (cases_lt n 10)

pub three_digits_padded : (n : ℕ) → n < 1000 → padded_integral (format_spec 32 0 4 3 (2 ^ 64 - 1)) false [] (decimal n) ≡ three_digits n
unfolding padded_integral char_count three_digits
three_digits_padded n small = ⊎_elim
    (λ (one : n < 10). let hundreds : n / 100 ≡ 0 = omega arith in let tens : n / 10 ≡ 0 = omega arith in let low : n % 10 ≡ n = omega arith in
    rw (decimal_digit n one, hundreds, tens, low))
    (λ (more : 10 ≤ n). ⊎_elim
    (λ (two : n < 100). let hundreds : n / 100 ≡ 0 = omega arith in let tens : n / 10 % 10 ≡ n / 10 = omega arith in
    rw (decimal_step n more (omega arith), decimal_digit (n / 10) (omega arith), hundreds, tens))
    (λ (three : 100 ≤ n). let hundreds : n / 10 / 10 ≡ n / 100 = omega arith in
    rw (decimal_step n more (omega arith), decimal_step (n / 10) (omega arith) (omega arith), hundreds, decimal_digit (n / 100) (omega arith)))
    (cases_lt n 100))
    (cases_lt n 10)
