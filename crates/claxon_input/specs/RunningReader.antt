-- What clauses say of the readers that keep a value of what they read.
use Rattle.std.specs.Prelude.{ℕ, List}
use Rattle.claxon_input.specs.Source.{Source, with_value}
use Rattle.claxon_input.specs.declared.running.RunningReader.{RunningReader}

-- the value of what was read so far
abbrev pub running_value : {R S : Type 0} → RunningReader R S → S
running_value r = r.state

-- the wrapped reader
abbrev pub running_inner : {R S : Type 0} → RunningReader R S → R
running_inner r = r.inner

-- the source of the wrapped reader, with the value, which what is consumed updates
abbrev pub running_source : {R S : Type 0} → (R → Source ℕ) → (S → List ℕ → ℕ) → RunningReader R S
    → Source ℕ
running_source source update r = with_value (update (running_value r)) (source (running_inner r))
