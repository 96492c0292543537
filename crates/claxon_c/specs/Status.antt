-- What calls return: a status, and a text that ends with a zero byte.
use Rattle.std.specs.Prelude.{
  ◌≡◌,
  ◌⊎◌,
  ℕ,
  ◌-◌,
  ◌<◌,
  ◌==◌,
  if◌then◌else◌,
  List,
  [],
  ◌∷◌,
  ◌++◌,
  codes,
  length,
  take,
  drop,
}
use Rattle.claxon.specs.Fault.{Fault, fault_text, is_unsupported}
use Rattle.claxon.specs.Errors.{Error}
use Rattle.claxon.specs.Errors.TheVariants.{IoError, FormatError, Unsupported, OutOfMemory}

abbrev pub ok : ℕ
ok = 0

abbrev pub format_error : ℕ
format_error = 1

abbrev pub unsupported : ℕ
unsupported = 2

abbrev pub input_ends : ℕ
input_ends = 3

abbrev pub out_of_memory : ℕ
out_of_memory = 4

abbrev pub no_more : ℕ
no_more = 5

abbrev pub buffer_too_small : ℕ
buffer_too_small = 6

abbrev pub over_budget : ℕ
over_budget = 7

abbrev pub need_more : ℕ
need_more = 100

-- as much of a text as the capacity allows, and a zero byte
abbrev pub zero_terminated : List ℕ → ℕ → List ℕ
zero_terminated text capacity = take (capacity - 1) text ++ 0 ∷ []

-- what a status means; 101 is that of `claxon_stream.h`
abbrev pub status_text : ℕ → List ℕ
status_text status =
    if status == ok then codes "ok" else
    if status == format_error then codes "the stream is ill-formed" else
    if status == unsupported then codes "the stream has something that isn't supported" else
    if status == input_ends then codes "the bytes end too early" else
    if status == out_of_memory then codes "out of memory" else
    if status == no_more then codes "there is no more" else
    if status == buffer_too_small then codes "the samples don't fit" else
    if status == over_budget then codes "the search stopped at its budget" else
    if status == need_more then codes "more bytes are needed" else
    if status == 101 then codes "reading or seeking failed" else
    codes "unknown status"

-- The buffer begins with that, if it isn't empty, and its rest is unchanged.
abbrev pub TextIsPut : List ℕ → List ℕ → List ℕ → Type 0
TextIsPut text old new =
    0 < length old
    → new ≡ zero_terminated text (length old) ++ drop (length (zero_terminated text (length old)))
    old

-- The status is that of the error, and its text is written.
abbrev pub ErrorIsReported : Error → ℕ → List ℕ → List ℕ → Type 0
ErrorIsReported (FormatError reason) status old new =
    (status ≡ format_error) × TextIsPut reason.now old new
ErrorIsReported (Unsupported feature) status old new =
    (status ≡ unsupported) × TextIsPut feature.now old new
ErrorIsReported (IoError cause) status old new =
    (status ≡ input_ends) × TextIsPut (codes "the bytes end") old new
ErrorIsReported OutOfMemory status old new =
    (status ≡ out_of_memory) × TextIsPut (codes "out of memory") old new

-- The text of an error that names no fault is written.
abbrev pub TextIsReported : ℕ → List ℕ → List ℕ → Type 0
TextIsReported status old new =
    (status ≡ input_ends → TextIsPut (codes "the bytes end") old new)
    × (status ≡ out_of_memory → TextIsPut (codes "out of memory") old new)

-- The status is that of the fault, and the fault's text is written.
abbrev pub FaultIsReported : Fault → ℕ → List ℕ → List ℕ → Type 0
FaultIsReported f status old new =
    (status ≡ (if is_unsupported f then unsupported else format_error))
    × TextIsPut (fault_text f) old new

-- the status says that there is a fault
abbrev pub IsFaultStatus : ℕ → Type 0
IsFaultStatus status = (status ≡ format_error) ⊎ (status ≡ unsupported)
