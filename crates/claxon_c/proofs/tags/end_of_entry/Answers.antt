use Rattle.std.proofs.Common.{◌≡◌, ◌≤◌, ◌+◌, ◌-◌, arith, rules, true, false, refl, drop, length, ap, ◌∙◌, ℕ}
use Rattle.std.proofs.lemmas.Bool.{le-ltb, lt-ltb}
use Rattle.claxon.specs.Fault.{EntryLong, ExcessData, fault_text}
use Rattle.claxon.specs.read.Reading.{Done}
use Rattle.claxon_c.proofs.TagEntries.{length_missing, length_tested}
use Rattle.claxon_c.proofs.tags.end_of_entry.Goals as goal

pub returns-then-left-lt-LENGTH_BYTES : goal.returns-then-left-lt-LENGTH_BYTES
unfolding fault_text
returns-then-left-lt-LENGTH_BYTES c =
    let s = drop c.args.at c.args.content.now in
    record { is_read = (ExcessData, s, (refl, refl), length_missing (length c.args.content.now - c.args.at) s (search rules)) }

pub returns-then-length-left : goal.returns-then-length-left
unfolding fault_text
returns-then-length-left c =
    let content = c.args.content.now in
    let at = c.args.at in
    let n = c.length_at-length.result in
    record { is_read = (EntryLong, drop (at + 4) content, (refl, refl), length_tested (length content - at) n true (drop at content) (drop (at + 4) content) (search rules) c.length_at-length.ensures (lt-ltb _ _ (search rules))) }

pub returns : goal.returns
returns c =
    let content = c.args.content.now in
    let at = c.args.at in
    let n = c.length_at-length.result in
    let enough : 4 ≤ length content - at = search rules in
    let small : n ≤ length content - at - 4 = search rules in
    let before : at ≤ length content = search rules in
    let same : n ≡ at + 4 + n - at - 4 = omega arith in
    record { is_read = (omega arith, omega (arith, enough, small, before), length_tested (length content - at) n false (drop at content) (drop (at + 4) content) enough c.length_at-length.ensures (le-ltb _ _ small) ∙ ap (λ (m : ℕ). Done m (drop (at + 4) content)) same) }
