-- The progress of a file.
use Rattle.std.specs.Borrow.{Bor, MutBor}
use Rattle.std.specs.Prelude.{
  ◌≡◌,
  ℕ,
  ◌*◌,
  ◌-◌,
  ◌^◌,
  ◌/◌,
  max,
  min,
  List,
  Option,
  None,
  Some,
  option_and_then,
}
use Rattle.claxon_command_line.specs.declared.progress.Progress.{Progress}

-- the percentage to show after `done` of `total` samples, at most 100; without a total it stays
-- as it was
abbrev pub percent_at : Option ℕ → Option ℕ → ℕ → Option ℕ
percent_at None shown done = shown
percent_at (Some total) shown done = Some (min (min (done * 100) (2 ^ 64 - 1) / max total 1) 100)

-- the total, where a line is shown
abbrev pub shown_total : {E : Type 0} → Progress E → Option ℕ
shown_total p = option_and_then (λ label. p.total) p.label

-- The line borrows this writer, which is as it was. It has this label, and isn't written yet.
pub record IsNewProgress {E : Type 0} (errors : MutBor E) (label : Option (Bor (List ℕ)))
    (p : Progress E) : Type 0 where
  pub same_reference : p.errors.ghost_name ≡ errors.ghost_name
  pub errors_are : p.errors.now ≡ errors.now
  pub label_is : p.label ≡ label
  pub total_is : p.total ≡ None
  pub none_shown : p.percent ≡ None

-- The line has the same reference to its writer.
abbrev pub SameErrors : {E : Type 0} → Progress E → Progress E → Type 0
SameErrors old new = new.errors.ghost_name ≡ old.errors.ghost_name

-- The total is this one, and nothing else changes.
pub record TotalIsSet {E : Type 0} (total : Option ℕ) (old new : Progress E) : Type 0 where
  pub total_is : new.total ≡ total
  pub label_is : new.label ≡ old.label
  pub percent_is : new.percent ≡ old.percent
  pub errors_are : new.errors.now ≡ old.errors.now

-- After `done` samples the line has their percentage, and the same total and label.
pub record ShowsPercentage {E : Type 0} (done : ℕ) (old new : Progress E) : Type 0 where
  pub total_is : new.total ≡ old.total
  pub label_is : new.label ≡ old.label
  pub percent_is : new.percent ≡ percent_at (shown_total old) old.percent done

-- Nothing is written without a total or a label, or for the percentage that was shown last.
abbrev pub WritesOnlyChanges : {E : Type 0} → Progress E → Progress E → Type 0
WritesOnlyChanges old new = new.percent ≡ old.percent → new.errors.now ≡ old.errors.now

-- Nothing is written if there was no line.
abbrev pub EndsOnlyLine : {E : Type 0} → Progress E → E → Type 0
EndsOnlyLine p after = p.percent ≡ None → after ≡ p.errors.now

-- Where no line is shown nothing is written: without a label, or a total.
abbrev pub StaysQuiet : {E : Type 0} → Progress E → Progress E → Type 0
StaysQuiet old new =
    shown_total old ≡ None → (new.percent ≡ old.percent) × (new.errors.now ≡ old.errors.now)
