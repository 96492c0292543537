-- Frames of a stream in bytes: where one begins, and what a search for one answers.
use Rattle.std.specs.Prelude.{
  ◌≡◌,
  ◌⊎◌,
  ℕ,
  zero,
  suc,
  ◌+◌,
  ◌-◌,
  ◌*◌,
  ◌<◌,
  ◌≤◌,
  List,
  ◌++◌,
  drop,
  length,
  Option,
  None,
  Some,
  Result,
  Ok,
  Err,
  IfErr,
  IfOk,
}
use Rattle.std.specs.Option.{option_map}
use Rattle.claxon.specs.BlockInfo.{HeaderBytesFault, HeaderOf, SaysBlock}
use Rattle.claxon.specs.BlockInfos.{BlockInfo}
use Rattle.claxon.specs.Errors.{Error}
use Rattle.claxon.specs.Errors.TheVariants.{OutOfMemory}
use Rattle.claxon.specs.Fault.{Fault}
use Rattle.claxon.specs.Frame.{Block, Frame, FrameBytesFault, StreamFormat}
use Rattle.claxon.specs.FrameReader.{HeaderOfLargerBlock, block_view, stream_with}
use Rattle.claxon.specs.Prefix.{BeginsWith}
use Rattle.claxon.specs.Promises.{HasNeither, IsOutOfMemory}
use Rattle.claxon.specs.StreamInfos.{StreamInfo}
use Rattle.claxon_seek.specs.AtStart.{BeginsWithLength, HeaderIsThere, said_by}
use Rattle.claxon_seek.specs.declared.find.FrameThere.{FrameThere}
use Rattle.claxon_seek.specs.declared.find.FrameThere.TheVariants.{CutFrame, Faulty, Whole}
use Rattle.claxon_seek.specs.declared.find.HeaderThere.{HeaderThere}
use Rattle.claxon_seek.specs.declared.find.HeaderThere.TheVariants.{CutHeader, NotWanted, Wanted}
use Rattle.claxon_seek.specs.declared.search.FoundFrame.{FoundFrame}
use Rattle.claxon_seek.specs.declared.search.Search.{Search}
use Rattle.claxon_seek.specs.declared.search.Search.TheVariants.{Found, NotFound, OverBudget}

-- ---- the frames that are searched

-- what frames need of a streaminfo, if that is known
abbrev pub known_format : Option StreamInfo → Option StreamFormat
known_format known = option_map stream_with known

-- The block has the number of channels and the bit depth of the streaminfo, if that is known.
abbrev pub HasFormat : Option StreamInfo → BlockInfo → Type 0
HasFormat None block = Unit {0}
HasFormat (Some info) block =
    (block.channels ≡ info.channels) × (block.bit_depth ≡ info.bits_per_sample)

-- The block has this sample of each channel, if one is asked for.
abbrev pub HoldsSample : Option ℕ → BlockInfo → Type 0
HoldsSample None block = Unit {0}
HoldsSample (Some sample) block = (block.time ≤ sample) × (sample < block.time + block.duration)

-- ---- bytes that end too early

-- The bytes end within what may be a header: they begin with neither a header nor a fault of one.
abbrev pub EndsInHeader : Option StreamInfo → List ℕ → Type 0
EndsInHeader known bytes =
    HasNeither (HeaderOf (known_format known)) (HeaderBytesFault (known_format known)) bytes

-- The bytes end within what may be a frame.
abbrev pub EndsInFrame : Option StreamInfo → List ℕ → Type 0
EndsInFrame known bytes =
    HasNeither (Frame (known_format known)) (FrameBytesFault (known_format known)) bytes

-- It isn't decided whether a frame begins at the position: fewer than two bytes are left there, or
-- they end within a header or a frame.
abbrev pub IsUndecided : Option StreamInfo → List ℕ → ℕ → Type 0
IsUndecided known bytes at =
    (length bytes < at + 2)
    ⊎ (EndsInHeader known (drop at bytes) ⊎ EndsInFrame known (drop at bytes))

-- ---- the cost of a try

-- The bytes begin with a frame.
pub record BeginsWithFrame (stream : Option StreamFormat) (bytes : List ℕ) : Type 0 where
  pub block : Block
  pub frame : BeginsWith (Frame stream block) bytes

-- A frame begins there, and n is 0; or none does, and n bytes are read in vain: those of the fault,
-- or all where they end within what may be a frame.
abbrev pub WastesBytes : Option StreamInfo → List ℕ → ℕ → Type 0
WastesBytes known bytes n =
    (BeginsWithFrame (known_format known) bytes × (n ≡ 0))
    ⊎ (((f : Fault) × BeginsWithLength (FrameBytesFault (known_format known) f) bytes n)
    ⊎ (EndsInFrame known bytes × (n ≡ length bytes)))

-- ---- where frames begin, and what their headers cost

-- Frames with the streaminfo's number of channels and bit depth, whose block has this sample.
module _ (known : Option StreamInfo) (sample : Option ℕ) where
  -- The bytes begin with the header of such a frame.
  pub record WantedHeader (bytes : List ℕ) (info : BlockInfo) : Type 0 where
    pub format : HasFormat known info
    pub holds : HoldsSample sample info
    pub header : BeginsWith (HeaderOf (known_format known) info) bytes

  -- The bytes begin with such a frame.
  pub record WantedFrame (bytes : List ℕ) (info : BlockInfo) : Type 0 where
    pub wanted : WantedHeader bytes info
    pub frame : (block : Block) × BeginsWith (Frame (known_format known) block) bytes
        × SaysBlock info block

  -- No such frame begins at a position from one on and before another.
  abbrev pub NoFrameBetween : List ℕ → ℕ → ℕ → Type 0
  NoFrameBetween bytes from to =
      (at : ℕ) → from ≤ at → at < to → (info : BlockInfo) → WantedFrame (drop at bytes) info → ⊥

  -- No such frame begins at a position from this one on.
  abbrev pub NoFrameFrom : List ℕ → ℕ → Type 0
  NoFrameFrom bytes from =
      (at : ℕ) → from ≤ at → (info : BlockInfo) → WantedFrame (drop at bytes) info → ⊥

  -- After headers that cost `before` the bytes begin with one of which the block has no more
  -- samples, of all channels, than are left of the budget. With it n is the cost: these samples
  -- too, and the bytes of the frame if they were read in vain.
  pub record HeaderCost (bytes : List ℕ) (budget before n : ℕ) : Type 0 where
    pub info : BlockInfo
    pub wasted : ℕ
    pub header : WantedHeader bytes info
    pub fits : info.channels * info.duration ≤ budget - before
    pub wastes : WastesBytes known bytes wasted
    pub is : n ≡ before + info.channels * info.duration + wasted

  -- n is the cost of the headers that begin at the first count positions from this one on.
  abbrev pub HeaderCosts : List ℕ → ℕ → ℕ → ℕ → ℕ → Type 0
  HeaderCosts bytes from budget zero n = n ≡ 0
  HeaderCosts bytes from budget (suc count) n =
      (((info : BlockInfo) → WantedHeader (drop (from + count) bytes) info → ⊥)
      × HeaderCosts bytes from budget count n)
      ⊎ ((before : ℕ) × HeaderCosts bytes from budget count before
      × HeaderCost (drop (from + count) bytes) budget before n)

  -- A header begins at the position `to`, and its block has more samples than are left of the
  -- budget after the headers that begin before it, from one position on.
  pub record PassesBudget (bytes : List ℕ) (from : ℕ) (budget : ℕ) (to : ℕ) : Type 0 where
    pub before : ℕ
    pub last : BlockInfo
    pub after_from : from ≤ to
    pub header : WantedHeader (drop to bytes) last
    pub costs : HeaderCosts bytes from budget (to - from) before
    pub passes : budget - before < last.channels * last.duration

  -- Of the budget so much is left after the headers at the first count positions from this one on:
  -- nothing where they cost more.
  abbrev pub IsSpent : List ℕ → ℕ → ℕ → ℕ → ℕ → Type 0
  IsSpent bytes from count budget left =
      (n : ℕ) × HeaderCosts bytes from budget count n × (left ≡ budget - n)

  -- ---- what a search for the first one from a position on answers

  -- In all bytes that begin with these no such frame begins from one position on, before another.
  abbrev pub NoneWhateverFollows : List ℕ → ℕ → ℕ → Type 0
  NoneWhateverFollows bytes from to = (more : List ℕ) → NoFrameBetween (bytes ++ more) from to

  -- Everything that it answers, and what is left of the budget.
  abbrev pub FindGives : List ℕ → ℕ → ℕ → Result Search Error → ℕ → Type 0
  FindGives bytes from budget (Ok (Found at)) left =
      (from ≤ at.position) × WantedFrame (drop at.position bytes) at.block
      × NoFrameBetween bytes from at.position
      × IsSpent bytes from (at.position + 1 - from) budget left
  FindGives bytes from budget (Ok (NotFound undecided)) left =
      NoFrameFrom bytes from × IsSpent bytes from (length bytes - from) budget left
      × (from ≤ undecided) × NoneWhateverFollows bytes from undecided
      × ((length bytes ≤ undecided) ⊎ IsUndecided known bytes undecided)
  FindGives bytes from budget (Ok (OverBudget to)) left =
      NoFrameBetween bytes from to × PassesBudget bytes from budget to
      × IsSpent bytes from (to - from) budget left
  FindGives bytes from budget (Err e) left =
      IsOutOfMemory {A = Search} (Err e)
      × ((at : ℕ) × (info : BlockInfo) × (from ≤ at) × WantedHeader (drop at bytes) info
      × NoFrameBetween bytes from at)

  -- ---- parts of it

  -- The bytes begin with such a header, or with none whatever follows, or they end within one.
  abbrev pub WantedHeaderAtStart : List ℕ → HeaderThere → Type 0
  WantedHeaderAtStart bytes (Wanted header) =
      WantedHeader bytes (said_by header) × HeaderIsThere (known_format known) bytes header
  WantedHeaderAtStart bytes NotWanted =
      (more : List ℕ) (info : BlockInfo) → WantedHeader (bytes ++ more) info → ⊥
  WantedHeaderAtStart bytes CutHeader =
      ((info : BlockInfo) → WantedHeader bytes info → ⊥) × EndsInHeader known bytes

-- The bytes begin with a frame, or with a fault, of this length, and then with no frame whatever
-- follows, or they end within one. `OutOfMemory`, and no other Err, is returned only for one whose
-- header they begin with.
abbrev pub FrameIsAtStart : Option StreamInfo → List ℕ → Result FrameThere Error → Type 0
FrameIsAtStart known bytes (Ok (Whole len block)) =
    BeginsWithLength (Frame (known_format known) (block_view block)) bytes len
FrameIsAtStart known bytes (Ok (Faulty len)) =
    ((more : List ℕ) → BeginsWithFrame (known_format known) (bytes ++ more) → ⊥)
    × ((f : Fault) × BeginsWithLength (FrameBytesFault (known_format known) f) bytes len)
FrameIsAtStart known bytes (Ok CutFrame) =
    (BeginsWithFrame (known_format known) bytes → ⊥) × EndsInFrame known bytes
FrameIsAtStart known bytes (Err e) =
    IsOutOfMemory {A = FrameThere} (Err e)
    × BeginsWith (HeaderOfLargerBlock (known_format known) 0) bytes

-- how many of so many bytes were read in vain
abbrev pub wasted_by : FrameThere → ℕ → ℕ
wasted_by (Whole len block) count = 0
wasted_by (Faulty len) count = len
wasted_by CutFrame count = count

-- The search found a frame of which P holds.
abbrev pub IfFound : Result Search Error → (FoundFrame → Type 0) → Type 0
IfFound (Ok (Found at)) P = P at
IfFound _ P = Unit {0}

abbrev pub IsFoundAnd : Result Search Error → (FoundFrame → Type 0) → Type 0
IsFoundAnd (Ok (Found at)) P = P at
IsFoundAnd _ P = ⊥

-- The search found none, and P holds of the position that is undecided.
abbrev pub IfNotFound : Result Search Error → (ℕ → Type 0) → Type 0
IfNotFound (Ok (NotFound undecided)) P = P undecided
IfNotFound _ P = Unit {0}

abbrev pub IsNotFound : Result Search Error → Type 0
IsNotFound (Ok (NotFound undecided)) = Unit {0}
IsNotFound _ = ⊥

-- how many positions a search from this one on has passed
abbrev pub positions_read : List ℕ → ℕ → Search → ℕ
positions_read bytes from (Found at) = at.position + 1 - from
positions_read bytes from (NotFound undecided) = length bytes - from
positions_read bytes from (OverBudget to) = to - from

-- The clauses of a search for the first frame from a position on.
module _ (known : Option StreamInfo) (bytes : List ℕ) (from budget : ℕ)
    (result : Result Search Error) (left : ℕ) where
  -- The frame that is found is the first one.
  abbrev pub FoundIsFirst : Type 0
  FoundIsFirst = IfFound result (λ at.
      (from ≤ at.position) × WantedFrame known None (drop at.position bytes) at.block
      × NoFrameBetween known None bytes from at.position)

  -- The first one is found, or a header up to it passes the budget, or memory was refused.
  abbrev pub FirstIsFound : Type 0
  FirstIsFound = (at : ℕ) (info : BlockInfo) → from ≤ at
      → WantedFrame known None (drop at bytes) info → NoFrameBetween known None bytes from at
      → IsFoundAnd result (λ found. (found.position ≡ at) × (found.block ≡ info))
      ⊎ (((to : ℕ) × (to ≤ at) × PassesBudget known None bytes from budget to)
      ⊎ IsOutOfMemory result)

  -- `NotFound` says that there is none.
  abbrev pub NotFoundIsNone : Type 0
  NotFoundIsNone = IfNotFound result (λ undecided. NoFrameFrom known None bytes from)

  -- Its position is the end, or the bytes end within a header or a frame that begins there. Before
  -- it none begins, whatever follows.
  abbrev pub UndecidedIsFirst : Type 0
  UndecidedIsFirst = IfNotFound result (λ undecided. (from ≤ undecided)
      × NoneWhateverFollows known None bytes from undecided
      × ((length bytes ≤ undecided) ⊎ IsUndecided known bytes undecided))

  -- If there is none, that is said, or headers pass the budget, or memory was refused.
  abbrev pub NoneIsNotFound : Type 0
  NoneIsNotFound = NoFrameFrom known None bytes from → IsNotFound result
      ⊎ (((to : ℕ) × PassesBudget known None bytes from budget to) ⊎ IsOutOfMemory result)

  -- At a position that is over budget the headers pass it, and no frame begins before.
  abbrev pub StopsOverBudget : Type 0
  StopsOverBudget = (to : ℕ) → result ≡ Ok (OverBudget to)
      → NoFrameBetween known None bytes from to × PassesBudget known None bytes from budget to

  -- What all headers cost that were read is taken from the budget: those up to the frame that is
  -- found, or before the position that is over budget, or all.
  abbrev pub BudgetIsSpent : Type 0
  BudgetIsSpent =
      IfOk result (λ found. IsSpent known None bytes from (positions_read bytes from found) budget
      left)

  -- An Err is `OutOfMemory`, for a frame whose header is there, and no frame begins before it.
  abbrev pub FindOutOfMemoryAfterHeader : Type 0
  FindOutOfMemoryAfterHeader = IfErr result (λ e. (e ≡ OutOfMemory)
      × ((at : ℕ) × (info : BlockInfo) × (from ≤ at) × WantedHeader known None (drop at bytes) info
      × NoFrameBetween known None bytes from at))
