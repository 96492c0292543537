use Rattle.std.proofs.Common.{append-nil, append_assoc}
use Rattle.claxon_program.proofs.facts.push_format.Goals as goal

pub returns : goal.returns
returns g c =
    let numbers = simp (c.from.ensures, c.from-2.ensures, c.from-3.ensures) at c.in_ok-push_numbers.ensures.adds in
    let all = simp (c.as_str.ensures.value, c.in_ok-length.ensures.is_text, numbers, append_assoc, append-nil) at c.push_line.ensures.adds in
    record { adds = simp (append_assoc) all }
