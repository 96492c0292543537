-- The errors of a conversion to a WAV file.
use Rattle.std.specs.Prelude.{◌≡◌, Err, IsErrAnd, IsTrue, Ok, Result, false}
use Rattle.claxon.specs.Error.{IsFault, IsIo}
use Rattle.claxon.specs.Errors.{Error as Cause}
use Rattle.claxon.specs.Errors.TheVariants.{OutOfMemory}
use Rattle.claxon.specs.Fault.{BitDepthReserved, Fault}
use Rattle.claxon_wav.specs.declared.error.Error.{Error}
use Rattle.claxon_blocks.specs.declared.frames.FrameError.{FrameError}
use Rattle.claxon_wav.specs.declared.error.Error.TheVariants.{
  Claxon,
  Output,
  Unsupported32Bit,
}

-- a failed call of the output
abbrev pub IsOutput : Error → Type 0
IsOutput (Output cause) = Unit {0}
IsOutput _ = ⊥

-- a failed read of the input, or its end inside a frame
abbrev pub IsInput : Error → Type 0
IsInput (Claxon cause) = IsIo cause
IsInput _ = ⊥

-- refused memory
abbrev pub IsMemory : Error → Type 0
IsMemory (Claxon cause) = cause ≡ OutOfMemory
IsMemory _ = ⊥

-- The error names this fault of the stream.
abbrev pub NamesFault : Fault → Error → Type 0
NamesFault f (Claxon cause) = IsFault f cause
NamesFault f Unsupported32Bit = f ≡ BitDepthReserved
NamesFault f _ = ⊥

-- It is the decoder's error, or says that the frame's samples have 32 bits, where they do.
abbrev pub IsFrameError : FrameError → Error → Type 0
IsFrameError cause (Claxon error) = (error ≡ cause.error) × (cause.is_32_bit ≡ false)
IsFrameError cause Unsupported32Bit = IsTrue cause.is_32_bit
IsFrameError cause _ = ⊥

-- The same Ok, or an error of the output.
abbrev pub IsOutputResult : {A : Type 0} → Result A Cause → Result A Error → Type 0
IsOutputResult (Ok value) r = r ≡ Ok value
IsOutputResult (Err cause) r = IsErrAnd r IsOutput
