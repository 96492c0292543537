-- The frames of a source: what comes next, and what a seek finds, by the bytes that are held.
use Rattle.std.specs.Prelude.{
  ◌≡◌,
  ◌⊎◌,
  ℕ,
  ◌+◌,
  ◌≤◌,
  false,
  List,
  length,
  Option,
  None,
  Some,
  Result,
  Ok,
  Err,
}
use Rattle.std.specs.Option.{option_map}
use Rattle.claxon.specs.Error.{IsIo}
use Rattle.claxon.specs.Errors.{Error}
use Rattle.claxon.specs.Errors.TheVariants.{OutOfMemory}
use Rattle.claxon.specs.Frame.{Block, Frame, StreamFormat}
use Rattle.claxon.specs.FrameReader.{HeaderOfLargerBlock, block_view, stream_with}
use Rattle.claxon.specs.Prefix.{BeginsWith}
use Rattle.claxon.specs.Promises.{IsOutOfMemory}
use Rattle.claxon.specs.Source.{IsOneMore}
use Rattle.claxon.specs.StreamInfos.{StreamInfo}
use Rattle.claxon_stream.specs.Event.{EventIs, IsDecodedAnd, IsReadOn}
use Rattle.claxon_stream.specs.FrameDecoder.{IsOverBudget, IsRightOf, decoder_position}
use Rattle.claxon_stream.specs.Held.{StandsIn, held_from}
use Rattle.claxon_stream.specs.declared.event.Event.{Event}
use Rattle.claxon_stream.specs.declared.frames.FrameDecoder.{FrameDecoder}
use Rattle.claxon_stream_seek.specs.Sought.{IsSoughtIn}
use Rattle.claxon_stream_seek.specs.declared.event.SoughtFrame.{SoughtFrame}
use Rattle.claxon_stream_seek.specs.declared.sought.Sought.{Sought}
use Rattle.claxon_seekable.specs.Searches.{fruitless_searches, spent_budgets}
use Rattle.claxon_seekable.specs.Source.{EndIsTold}
use Rattle.claxon_seekable.specs.Window.{
  CallIsCounted,
  IsFailure,
  KeepsCounts,
  ReadsMore,
  ReadsOn,
  has_end,
  held,
  place,
  window_source,
}
use Rattle.claxon_seekable.specs.declared.frames.SourceFrames.{SourceFrames}
use Rattle.claxon_seekable.specs.declared.window.Window.{Window}

-- the position of what comes next
abbrev pub frames_position : {R : Type 0} → SourceFrames R → ℕ
frames_position s = decoder_position s.decoder

-- the bytes that are held from a position on
abbrev pub frames_held : {R : Type 0} → SourceFrames R → ℕ → List ℕ
frames_held s position = held_from (place s.window) position (held s.window)

-- the wrapped source
abbrev pub frames_source : {R : Type 0} → SourceFrames R → R
frames_source s = window_source s.window

-- how many searches were over their budget
abbrev pub frames_spent : {R : Type 0} → SourceFrames R → ℕ
frames_spent s = spent_budgets s.searches

-- how many found no frame
abbrev pub frames_fruitless : {R : Type 0} → SourceFrames R → ℕ
frames_fruitless s = fruitless_searches s.searches

pub record AreNew {R : Type 0} (source : R) (position : ℕ) (s : SourceFrames R) : Type 0 where
  pub source_is : frames_source s ≡ source
  pub position_is : frames_position s ≡ position

-- The position stays, and the counts of searches.
abbrev pub FramesStay : {R : Type 0} → SourceFrames R → SourceFrames R → Type 0
FramesStay old new = (new.decoder ≡ old.decoder) × (new.searches ≡ old.searches)

-- The bytes that are held stay, and the counts.
pub record GoTo {R : Type 0} (position : ℕ) (old new : SourceFrames R) : Type 0 where
  pub position_is : frames_position new ≡ position
  pub window : new.window ≡ old.window
  pub searches : new.searches ≡ old.searches

abbrev pub FramesCallIsCounted : {R A : Type 0} → SourceFrames R → Result A Error
    → SourceFrames R → Type 0
FramesCallIsCounted old result new = CallIsCounted old.window result new.window

-- ---- what comes next

-- the bytes that a window holds from a position on
abbrev pub window_from : {R : Type 0} → Window R → ℕ → List ℕ
window_from w position = held_from (place w) position (held w)

module _ (known : Option StreamInfo) where
  abbrev pub format : Option StreamFormat
  format = option_map stream_with known

  -- `OutOfMemory` after a header that the bytes begin with.
  abbrev pub IsBlockRefused : List ℕ → Error → Type 0
  IsBlockRefused bytes e =
      (e ≡ OutOfMemory)
      × ((capacity : ℕ) × BeginsWith (HeaderOfLargerBlock format capacity) bytes)

  -- What is answered at a position, by the window before the call; then the window and the decoder
  -- after it.
  module _ {R : Type 0} (old : Window R) (position : ℕ) where
    -- By the bytes that are held after the call from the position on: what they begin with, and no
    -- call failed. Or one failed, or memory for the block was refused, and the position stays.
    abbrev pub NextSays : Result Event Error → Window R → FrameDecoder → Type 0
    NextSays (Ok event) new decoder =
        KeepsCounts old new × (IsReadOn (Ok event) → ⊥)
        × ((capacity : ℕ) × EventIs format (window_from new position) (has_end new) capacity
        position (Ok event) (decoder_position decoder))
    NextSays (Err e) new decoder =
        (decoder_position decoder ≡ position)
        × (IsFailure old e new
        ⊎ (KeepsCounts old new × IsBlockRefused (window_from new position) e))

    -- A frame that was held is answered, or memory for its block was refused, or tries are over
    -- budget.
    abbrev pub NextIsTimely : Result Event Error → FrameDecoder → Type 0
    NextIsTimely result decoder =
        (block : Block) → BeginsWith (Frame format block) (window_from old position)
        → IsDecodedAnd result (λ frame. block_view frame.block ≡ block)
        ⊎ (IsOutOfMemory result ⊎ IsOverBudget decoder)

    -- What is held from the position on stays, and more may be read. Where the source ended nothing
    -- is left in it.
    pub record NextGives (remaining : R → Option (List ℕ)) (result : Result Event Error)
        (new : Window R) (decoder : FrameDecoder) : Type 0 where
      pub place_is : place new ≡ position
      pub reads_on : ReadsOn (window_from old position) (window_from new position)
      pub says : NextSays result new decoder
      pub is_timely : NextIsTimely result decoder
      pub end_is_told : EndIsTold remaining new.source

    -- ---- one try, where the bytes that are held begin at the position

    -- More bytes were needed, and more are held, or the source ended.
    pub record TriesAgain (new : Window R) (decoder : FrameDecoder) : Type 0 where
      pub went_on : has_end old ≡ false
      pub position_is : decoder_position decoder ≡ position
      pub counts : KeepsCounts old new
      pub more : ReadsMore (length (held old) + 1) new

    abbrev pub TrySays : Result (Option Event) Error → Window R → FrameDecoder → Type 0
    TrySays (Ok None) new decoder = TriesAgain new decoder
    TrySays (Ok (Some event)) new decoder =
        NextSays (Ok event) new decoder × NextIsTimely (Ok event) decoder
    TrySays (Err e) new decoder = NextSays (Err e) new decoder × NextIsTimely (Err e) decoder

  -- What the decoder notes is so of each stream in which the bytes stand that are held.
  abbrev pub NotesAreRight : {R : Type 0} → Window R → FrameDecoder → Type 0
  NotesAreRight w decoder =
      (stream : List ℕ) → StandsIn stream (place w) (held w) (has_end w)
      → IsRightOf known stream decoder

  pub record TryGives {R : Type 0} (remaining : R → Option (List ℕ)) (old : Window R)
      (position : ℕ) (result : Result (Option Event) Error) (new : Window R)
      (decoder : FrameDecoder) : Type 0 where
    pub place_is : place new ≡ position
    pub reads_on : ReadsOn (held old) (held new)
    pub says : TrySays old position result new decoder
    pub right : result ≡ Ok None → NotesAreRight new decoder
    pub end_is_told : EndIsTold remaining old.source → EndIsTold remaining new.source

  -- What comes next, and the counts of searches stay.
  abbrev pub NextIs : {R : Type 0} → (R → Option (List ℕ)) → SourceFrames R → Result Event Error
      → SourceFrames R → Type 0
  NextIs remaining old result new =
      NextGives old.window (frames_position old) remaining result new.window new.decoder
      × (new.searches ≡ old.searches)

  abbrev pub TryIs : {R : Type 0} → (R → Option (List ℕ)) → SourceFrames R
      → Result (Option Event) Error → SourceFrames R → Type 0
  TryIs remaining old result new =
      TryGives remaining old.window (frames_position old) result new.window new.decoder
      × (new.searches ≡ old.searches)

-- ---- what a seek finds

module _ (known : Option StreamInfo) (sought : Sought) {R : Type 0} (old : SourceFrames R) where
  -- A frame that stands in the bytes that are held; none, a failed call or a spent budget, which
  -- are counted; or memory for a block was refused, of which a header is held.
  abbrev pub FindSays : Result (Option SoughtFrame) Error → SourceFrames R → Type 0
  FindSays (Ok None) new =
      KeepsCounts old.window new.window × (frames_spent new ≡ frames_spent old)
      × IsOneMore (frames_fruitless old) (frames_fruitless new)
  FindSays (Ok (Some found)) new =
      KeepsCounts old.window new.window × (frames_spent new ≡ frames_spent old)
      × ((sought.first_frame ≤ found.position)
      × IsSoughtIn known sought (frames_held new found.position) found)
  FindSays (Err e) new =
      (IsFailure old.window e new.window × (frames_spent new ≡ frames_spent old))
      ⊎ ((KeepsCounts old.window new.window × IsIo e
      × IsOneMore (frames_spent old) (frames_spent new))
      ⊎ (KeepsCounts old.window new.window × (frames_spent new ≡ frames_spent old)
      × ((position : ℕ) × IsBlockRefused known (frames_held new position) e)))

  -- The position stays.
  pub record FindIs (result : Result (Option SoughtFrame) Error) (new : SourceFrames R) : Type 0
    where
      pub decoder : new.decoder ≡ old.decoder
      pub says : FindSays result new
