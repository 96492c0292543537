-- The clauses of `run`, about the bytes of its input, where they are known, and the contents of
-- the writer before and after.
use Rattle.std.specs.Prelude.{
  ◌≡◌,
  ◌⊎◌,
  ◌<◌,
  ◌≤◌,
  ℕ,
  ◌^◌,
  true,
  List,
  [],
  ◌∷◌,
  ◌++◌,
  length,
  Option,
  Some,
  Result,
  Ok,
  IfErr,
  IfOk,
  IsErrAnd,
}
use Rattle.std.specs.Io.KnownBytes.{Appends}
use Rattle.claxon.specs.Fault.{Fault}
use Rattle.claxon.specs.Frame.{Block, Frame, FrameBytesFault, Frames}
use Rattle.claxon.specs.Heads.{Head, HeadCode, HeadFault}
use Rattle.claxon.specs.Streams.{stream_of, with_samples}
use Rattle.claxon.specs.State.{State, RemainingIsKnown}
use Rattle.claxon.specs.Error.{IsFault, IsIo}
use Rattle.claxon.specs.Promises.{Remains}
use Rattle.claxon.specs.Errors.{Error}
use Rattle.claxon.specs.Errors.TheVariants.{OutOfMemory}
use Rattle.claxon.specs.Opening.{IsMemoryOrIoError, unread}
use Rattle.claxon.specs.SampleRuns.{samples_of}
use Rattle.claxon_write.specs.Decoded.{IsLimit}
use Rattle.claxon_write.specs.Written.{AppendsPrefix}
use Rattle.claxon_write.specs.SampleBytes.{bytes_of_samples}

-- s is a head, the frames of these blocks, and the rest.
pub record IsHeadAndFrames (s : List ℕ) (head : Head) (blocks : List Block)
    (rest : List ℕ) : Type 0 where
  pub prefix : List ℕ
  pub frames : List ℕ
  pub code : HeadCode (with_samples true) head prefix
  pub joined : s ≡ prefix ++ frames
  pub blocks_are : Frames (Some (stream_of head.info)) frames blocks rest

-- ---- an Ok

-- Exactly the n samples of some blocks were written. The input is a head, the frames of these
-- blocks and fewer than two bytes.
pub record RunWritesAll (n : ℕ) (s : State ℕ) (old new : Option (List ℕ)) : Type 0 where
  pub blocks : List Block
  pub count : n ≡ length (samples_of blocks)
  pub written : Appends old new (bytes_of_samples (samples_of blocks))
  pub input_is : RemainingIsKnown s → (head : Head) × (rest : List ℕ)
      × IsHeadAndFrames s.remaining head blocks rest × (length rest < 2)

-- An Ok is the number of samples: the input was a whole stream, and exactly its samples were
-- written.
abbrev pub RunIsSound : {W : Type 0} → (W → Option (List ℕ)) → Result ℕ Error → Option (List ℕ) → W
    → W → Type 0
RunIsSound contents r input old new =
    IfOk r (λ n. RunWritesAll n (unread input) (contents old) (contents new))

-- ---- an Err

-- The input begins with the fault of a head that the error names, and nothing was written.
pub record StopsAtHead (error : Error) (s : State ℕ) (old new : Option (List ℕ)) : Type 0 where
  pub fault : Fault
  pub named : IsFault fault error
  pub prefix : List ℕ
  pub rest : List ℕ
  pub bad : HeadFault (with_samples true) fault prefix
  pub joined : s.remaining ≡ prefix ++ rest
  pub kept : new ≡ old

-- The error is the limit of samples, and s begins with a frame that makes them 2^64 or more.
pub record ReachesLimit (head : Head) (blocks : List Block) (error : Error)
    (s : List ℕ) : Type 0 where
  pub is_limit : IsLimit error
  pub last : Block
  pub prefix : List ℕ
  pub rest : List ℕ
  pub frame : Frame (Some (stream_of head.info)) last prefix
  pub joined : s ≡ prefix ++ rest
  pub many : 2 ^ 64 ≤ length (samples_of (blocks ++ last ∷ []))

-- s begins with the fault of a frame that the error names.
pub record HasFrameFault (head : Head) (error : Error) (s : List ℕ) : Type 0 where
  pub fault : Fault
  pub named : IsFault fault error
  pub prefix : List ℕ
  pub rest : List ℕ
  pub bad : FrameBytesFault (Some (stream_of head.info)) fault prefix
  pub joined : s ≡ prefix ++ rest

-- The input is a head, the frames of blocks, and then the fault of a frame or the limit of samples;
-- exactly the samples of these blocks were written.
pub record StopsAfterFrames (error : Error) (s : State ℕ) (old new : Option (List ℕ)) : Type 0 where
  pub blocks : List Block
  pub head : Head
  pub rest : List ℕ
  pub input_is : IsHeadAndFrames s.remaining head blocks rest
  pub stops : ReachesLimit head blocks error rest ⊎ HasFrameFault head error rest
  pub written : Appends old new (bytes_of_samples (samples_of blocks))

-- The error is the decoder's, and exactly the samples before the fault were written.
abbrev pub DecoderStops : Error → State ℕ → Option (List ℕ) → Option (List ℕ) → Type 0
DecoderStops error s old new =
    RemainingIsKnown s → StopsAtHead error s old new ⊎ StopsAfterFrames error s old new

-- The error is `OutOfMemory`, an `IoError`, or the decoder's.
pub record RunStopsEarly (error : Error) (s : State ℕ) (old new : Option (List ℕ)) : Type 0 where
  pub why : (error ≡ OutOfMemory) ⊎ (IsIo error ⊎ DecoderStops error s old new)

-- An Err other than `OutOfMemory` and `IoError` is the decoder's: the input has that fault, and
-- exactly the samples before it were written.
abbrev pub RunFaultIsSound : {W : Type 0} → (W → Option (List ℕ)) → Result ℕ Error
    → Option (List ℕ) → W → W → Type 0
RunFaultIsSound contents r input old new =
    IfErr r (λ error. RunStopsEarly error (unread input) (contents old) (contents new))

-- The input is a head, the frames of these blocks and a rest. A prefix of the bytes of their
-- samples was written, and all of them if the error is `OutOfMemory`.
pub record WritesPrefixOfSamples (error : Error) (s : State ℕ)
    (old new : Option (List ℕ)) : Type 0 where
  pub blocks : List Block
  pub head : Head
  pub rest : List ℕ
  pub input_is : IsHeadAndFrames s.remaining head blocks rest
  pub prefix : AppendsPrefix old new (bytes_of_samples (samples_of blocks))
  pub all : error ≡ OutOfMemory → Appends old new (bytes_of_samples (samples_of blocks))

-- Where the input is known, nothing was written, or a prefix of the samples of blocks whose
-- frames follow a head.
pub record WritesPrefixAtMost (error : Error) (s : State ℕ)
    (old new : Option (List ℕ)) : Type 0 where
  pub written : RemainingIsKnown s → (new ≡ old) ⊎ WritesPrefixOfSamples error s old new

-- Whatever the Err, only a prefix of the samples of blocks whose frames follow the head was
-- written.
abbrev pub RunWritesPrefix : {W : Type 0} → (W → Option (List ℕ)) → Result ℕ Error
    → Option (List ℕ) → W → W → Type 0
RunWritesPrefix contents r input old new =
    IfErr r (λ error. WritesPrefixAtMost error (unread input) (contents old) (contents new))

-- ---- completeness

-- The input is a head, the frames of blocks with n samples in all, fewer than 2^64, and then
-- fewer than two bytes.
pub record EofAfterHeadAndBlocks (s : State ℕ) (n : ℕ) : Type 0 where
  pub head : Head
  pub blocks : List Block
  pub rest : List ℕ
  pub known : RemainingIsKnown s
  pub input_is : IsHeadAndFrames s.remaining head blocks rest
  pub eof : length rest < 2
  pub count : n ≡ length (samples_of blocks)
  pub few : length (samples_of blocks) < 2 ^ 64

-- The input begins with this fault of a head.
pub record FaultInHead (s : State ℕ) (f : Fault) : Type 0 where
  pub fault : List ℕ
  pub rest : List ℕ
  pub bad : HeadFault (with_samples true) f fault
  pub remains : Remains s (fault ++ rest)

-- The input is a head, the frames of blocks with fewer than 2^64 samples in all, and then this
-- fault of a frame.
pub record FaultAfterHeadAndBlocks (s : State ℕ) (f : Fault) : Type 0 where
  pub head : Head
  pub blocks : List Block
  pub fault : List ℕ
  pub rest : List ℕ
  pub known : RemainingIsKnown s
  pub input_is : IsHeadAndFrames s.remaining head blocks (fault ++ rest)
  pub bad : FrameBytesFault (Some (stream_of head.info)) f fault
  pub few : length (samples_of blocks) < 2 ^ 64

-- If the input is a stream of n samples, the result is n, or `OutOfMemory` or an `IoError`.
abbrev pub RunIsComplete : Result ℕ Error → Option (List ℕ) → Type 0
RunIsComplete r input =
    (n : ℕ) → EofAfterHeadAndBlocks (unread input) n → (r ≡ Ok n) ⊎ IsMemoryOrIoError r

-- A fault of the head, or of a frame after it, is the result, or it is `OutOfMemory` or an
-- `IoError`.
abbrev pub RunFaultIsComplete : Result ℕ Error → Option (List ℕ) → Type 0
RunFaultIsComplete r input =
    (f : Fault) → FaultInHead (unread input) f ⊎ FaultAfterHeadAndBlocks (unread input) f
    → IsErrAnd r (IsFault f) ⊎ IsMemoryOrIoError r
