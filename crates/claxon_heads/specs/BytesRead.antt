-- A reader that counts the bytes that it gave.
use Rattle.std.specs.Prelude.{◌+◌, ◌*◌, ◌%◌, ◌^◌, ℕ, List, [], ◌∷◌, length}
use Rattle.claxon.specs.RunningReader.{running_source, running_value}
use Rattle.claxon.specs.RunningReaders.{RunningReader}
use Rattle.claxon.specs.Source.{Source}
use Rattle.claxon.specs.State.{State, bytes_in}
use Rattle.claxon_heads.specs.declared.bytes_read.BytesRead.{BytesRead}

-- the last of these bytes, or the other one if there is none
abbrev pub last_of : ℕ → List ℕ → ℕ
last_of other [] = other
last_of other (byte ∷ bytes) = last_of byte bytes

-- the position after more bytes, and the last byte, as one number
abbrev pub update_position : BytesRead → List ℕ → ℕ
update_position position more =
    (position.bytes + length more) % 2 ^ 64 + 2 ^ 64 * last_of position.last more

-- the bytes of such a reader
abbrev pub counted_bytes : {R : Type 0} → (R → Source ℕ) → RunningReader R BytesRead → State ℕ
counted_bytes source input = bytes_in (running_source source update_position) input

-- how many were read
abbrev pub position_of : {R : Type 0} → RunningReader R BytesRead → ℕ
position_of input = (running_value input).bytes

-- the last of them
abbrev pub last_read : {R : Type 0} → RunningReader R BytesRead → ℕ
last_read input = (running_value input).last
