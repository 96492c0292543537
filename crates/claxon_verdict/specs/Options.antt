-- The arguments of the command `verify`.
use Rattle.std.specs.Prelude.{
  ◌≡◌,
  ◌⊎◌,
  ◌&&◌,
  ◌||◌,
  ◌-◌,
  ◌++◌,
  ◌≢◌,
  ◌<◌,
  ◌^◌,
  ℕ,
  Bool,
  true,
  false,
  not,
  List,
  [],
  ◌∷◌,
  bytes_eq,
  codes,
  get_or,
  length,
  map,
  if◌then◌else◌,
  option_copied,
  option_to_list,
  Option,
  None,
  Some,
  Result,
  Ok,
  Err,
  IfErr,
  IfOk,
  IsTrue,
}
use Rattle.std.specs.Borrow.{Bor}
use Rattle.std.specs.List.{list_any}
use Rattle.std.specs.Str.Parse.{IsNumeral, digits_value, without_leading_plus}
use Rattle.std.specs.String.{string_bytes}
use Rattle.std.specs.declared.string.String.{String}
use Rattle.claxon_command_line.specs.Arguments.{IsNoticeOf, end_of_options, has_hyphen, words_of}
use Rattle.claxon_command_line.specs.declared.arguments.Arguments.{Arguments}
use Rattle.claxon_command_line.specs.declared.arguments.Notice.{Notice}
use Rattle.claxon_command_line.specs.declared.arguments.Notice.TheVariants.{NotUtf8, Usage}
use Rattle.claxon_verdict.specs.declared.options.FileNames.{FileNames}
use Rattle.claxon_verdict.specs.declared.options.NamedFiles.{NamedFiles}
use Rattle.claxon_verdict.specs.declared.options.NamedFiles.TheVariants.{
  List as NamedInList,
  Operands as NamedByOperands,
}
use Rattle.claxon_verdict.specs.declared.options.Options.{Options}
use Rattle.claxon_verdict.specs.declared.options.VerifyArgument.{VerifyArgument}
use Rattle.claxon_verdict.specs.declared.options.VerifyArgument.TheVariants.{
  FilesFrom as FilesFromWord,
  Flag as FlagWord,
  Operand as OperandWord,
  Places as PlacesWord,
}
use Rattle.claxon_verdict.specs.declared.options.VerifyRequest.{VerifyRequest}

-- ---- what the words of a command line are

-- An argument: the name of a file, an option without a value, or `--files0-from` or `--places` with
-- its value, the word after it. None says that there is no such word.
pub data Argument : Type 0 where
  Operand : List ℕ → Argument
  Flag : List ℕ → Argument
  FilesFrom : Option (List ℕ) → Argument
  Places : Option (List ℕ) → Argument

-- where a word stands: after an option whose value it is, after the word `--`, or elsewhere
pub data Standing : Type 0 where
  Elsewhere : Standing
  AfterFilesFrom : Standing
  AfterPlaces : Standing
  AfterEnd : Standing

-- the arguments that these words are, where the first of them stands there
abbrev pub arguments_at : Standing → List (List ℕ) → List Argument
arguments_at Elsewhere [] = []
arguments_at AfterFilesFrom [] = FilesFrom None ∷ []
arguments_at AfterPlaces [] = Places None ∷ []
arguments_at AfterEnd [] = []
arguments_at Elsewhere (word ∷ words) =
    if not (has_hyphen word) then Operand word ∷ arguments_at Elsewhere words
    else (if bytes_eq word end_of_options then arguments_at AfterEnd words
    else (if bytes_eq word (codes "--files0-from") then arguments_at AfterFilesFrom words
    else (if bytes_eq word (codes "--places") then arguments_at AfterPlaces words
    else Flag word ∷ arguments_at Elsewhere words)))
arguments_at AfterFilesFrom (word ∷ words) =
    FilesFrom (Some word) ∷ arguments_at Elsewhere words
arguments_at AfterPlaces (word ∷ words) = Places (Some word) ∷ arguments_at Elsewhere words
arguments_at AfterEnd (word ∷ words) = Operand word ∷ arguments_at AfterEnd words

-- the arguments of a command line
abbrev pub arguments_of : {A : Type 0} → List (String A) → List Argument
arguments_of words = arguments_at Elsewhere (map string_bytes words)

-- ---- what arguments name

-- the files
abbrev pub operands_of : List Argument → List (List ℕ)
operands_of [] = []
operands_of (Operand name ∷ arguments) = name ∷ operands_of arguments
operands_of (Flag option ∷ arguments) = operands_of arguments
operands_of (FilesFrom list ∷ arguments) = operands_of arguments
operands_of (Places number ∷ arguments) = operands_of arguments

-- the lists of files
abbrev pub lists_of : List Argument → List (List ℕ)
lists_of [] = []
lists_of (Operand name ∷ arguments) = lists_of arguments
lists_of (Flag option ∷ arguments) = lists_of arguments
lists_of (FilesFrom list ∷ arguments) = option_to_list list ++ lists_of arguments
lists_of (Places number ∷ arguments) = lists_of arguments

-- This option is among them, in one of its spellings.
abbrev pub has_flag : List (List ℕ) → List Argument → Bool
has_flag names [] = false
has_flag names (Operand name ∷ arguments) = has_flag names arguments
has_flag names (Flag option ∷ arguments) =
    list_any (bytes_eq option) names || has_flag names arguments
has_flag names (FilesFrom list ∷ arguments) = has_flag names arguments
has_flag names (Places number ∷ arguments) = has_flag names arguments

-- the number that a word says
abbrev pub number_of : List ℕ → ℕ
number_of word = digits_value 10 (without_leading_plus word)

-- how many places are told after the first: so many, or one less than the last number says
abbrev pub more_places_of : ℕ → List Argument → ℕ
more_places_of more [] = more
more_places_of more (Operand name ∷ arguments) = more_places_of more arguments
more_places_of more (Flag option ∷ arguments) = more_places_of more arguments
more_places_of more (FilesFrom list ∷ arguments) = more_places_of more arguments
more_places_of more (Places None ∷ arguments) = more_places_of more arguments
more_places_of more (Places (Some number) ∷ arguments) =
    more_places_of (number_of number - 1) arguments

-- the spellings of each option that has no value
abbrev pub no_md5 : List (List ℕ)
no_md5 = codes "--no-md5" ∷ []

abbrev pub brief : List (List ℕ)
brief = codes "--brief" ∷ []

abbrev pub json : List (List ℕ)
json = codes "--json" ∷ []

abbrev pub summary : List (List ℕ)
summary = codes "--summary" ∷ []

abbrev pub quiet : List (List ℕ)
quiet = codes "-q" ∷ codes "--quiet" ∷ []

abbrev pub recursive : List (List ℕ)
recursive = codes "-r" ∷ codes "--recursive" ∷ []

-- The options are those before, with what the arguments name.
pub record AddOptions (arguments : List Argument) (old new : Options) : Type 0 where
  pub md5 : new.computes_md5 ≡ (old.computes_md5 && not (has_flag no_md5 arguments))
  pub is_brief : new.print.is_brief ≡ (old.print.is_brief || has_flag brief arguments)
  pub is_json : new.print.is_json ≡ (old.print.is_json || has_flag json arguments)
  pub has_summary : new.print.has_summary ≡ (old.print.has_summary || has_flag summary arguments)
  pub is_quiet : new.print.is_quiet ≡ (old.print.is_quiet || has_flag quiet arguments)
  pub is_recursive : new.is_recursive ≡ (old.is_recursive || has_flag recursive arguments)
  pub more_places : new.more_places ≡ more_places_of old.more_places arguments

-- the options where none is named
abbrev pub default_options : Options
default_options = record {
  computes_md5 = true;
  print = record { is_brief = false; is_json = false; is_quiet = false; has_summary = false };
  is_recursive = false;
  more_places = 999;
}

-- ---- which arguments are right

-- one of the options that have no value
abbrev pub is_flag : List ℕ → Bool
is_flag option =
    list_any (bytes_eq option) (no_md5 ++ brief ++ json ++ summary ++ quiet ++ recursive)

-- a number of places: one or more
abbrev pub IsPlaces : Option (List ℕ) → Type 0
IsPlaces None = ⊥
IsPlaces (Some word) =
    IsNumeral 10 (without_leading_plus word) × (number_of word < 2 ^ 64) × (0 < number_of word)

-- An argument is right, where a list was named before it or not.
abbrev pub IsRight : Bool → Argument → Type 0
IsRight has_list (Operand name) = Unit {0}
IsRight has_list (Flag option) = IsTrue (is_flag option)
IsRight has_list (FilesFrom None) = ⊥
IsRight has_list (FilesFrom (Some list)) = (has_list ≡ false) × (get_or list 0 1 ≢ 0)
IsRight has_list (Places number) = IsPlaces number

-- An argument isn't right, and this is printed for it: another option, a second list, one whose
-- name isn't UTF-8, a value that is missing, or one that is no number of places.
abbrev pub IsWrong : Bool → Argument → Notice → Type 0
IsWrong has_list (Operand name) notice = ⊥
IsWrong has_list (Flag option) notice = (is_flag option ≡ false) × IsNoticeOf option notice
IsWrong has_list (FilesFrom None) notice = notice ≡ Usage
IsWrong true (FilesFrom (Some list)) notice = notice ≡ Usage
IsWrong false (FilesFrom (Some list)) notice = (get_or list 0 1 ≡ 0) × (notice ≡ NotUtf8)
IsWrong has_list (Places number) notice = (IsPlaces number → ⊥) × (notice ≡ Usage)

-- A list was named by then.
abbrev pub has_list_after : Bool → Argument → Bool
has_list_after has_list (Operand name) = has_list
has_list_after has_list (Flag option) = has_list
has_list_after has_list (FilesFrom list) = true
has_list_after has_list (Places number) = has_list

-- Each argument is right.
abbrev pub AreRight : Bool → List Argument → Type 0
AreRight has_list [] = Unit {0}
AreRight has_list (argument ∷ arguments) =
    IsRight has_list argument × AreRight (has_list_after has_list argument) arguments

-- This is printed for the first argument that isn't right.
abbrev pub FirstIsWrong : Bool → List Argument → Notice → Type 0
FirstIsWrong has_list [] notice = ⊥
FirstIsWrong has_list (argument ∷ arguments) notice =
    IsWrong has_list argument notice
    ⊎ (IsRight has_list argument
    × FirstIsWrong (has_list_after has_list argument) arguments notice)

-- ---- the files

-- what is left
abbrev pub standing_of : Arguments → Standing
standing_of arguments = if arguments.has_options then Elsewhere else AfterEnd

abbrev pub arguments_left : Arguments → List Argument
arguments_left arguments = arguments_at (standing_of arguments) (words_of arguments)

abbrev pub names_left : FileNames → List (List ℕ)
names_left names = operands_of (arguments_left names.arguments)

-- how many operands there are
abbrev pub names_total : FileNames → ℕ
names_total names = names.count

-- There is one list and no operand, or there are operands and no list: these.
abbrev pub AreFiles : List (List ℕ) → List (List ℕ) → NamedFiles → Type 0
AreFiles lists operands (NamedInList name) = (lists ≡ name.now ∷ []) × (operands ≡ [])
AreFiles lists operands (NamedByOperands names) =
    (lists ≡ []) × (names_left names ≡ operands) × (names_total names ≡ length operands)
    × (0 < length operands)

-- There is neither, or there are both.
abbrev pub AreNoFiles : List (List ℕ) → List (List ℕ) → Type 0
AreNoFiles lists operands =
    ((lists ≡ []) × (operands ≡ [])) ⊎ ((0 < length lists) × (0 < length operands))

-- ---- the request

-- Each argument is right, and this is what they ask for.
pub record AsksFor (arguments : List Argument) (request : VerifyRequest) : Type 0 where
  pub right : AreRight false arguments
  pub files : AreFiles (lists_of arguments) (operands_of arguments) request.files
  pub options : AddOptions arguments default_options request.options

-- This is printed for an argument that isn't right, or else the usage line, as the arguments name
-- no files, or both a list and files.
abbrev pub IsRefused : List Argument → Notice → Type 0
IsRefused arguments notice =
    FirstIsWrong false arguments notice
    ⊎ (AreRight false arguments × AreNoFiles (lists_of arguments) (operands_of arguments)
    × (notice ≡ Usage))

-- An Ok is what the words ask for.
abbrev pub RequestIsSound : {A : Type 0} → List (String A) → Result VerifyRequest Notice → Type 0
RequestIsSound words r = IfOk r (λ request. AsksFor (arguments_of words) request)

-- An Err is what is printed for words that aren't right.
abbrev pub NoticeIsSound : {A : Type 0} → List (String A) → Result VerifyRequest Notice → Type 0
NoticeIsSound words r = IfErr r (λ notice. IsRefused (arguments_of words) notice)

-- ---- single calls

-- an argument of the program
abbrev pub argument_view : VerifyArgument → Argument
argument_view (OperandWord name) = Operand name.now
argument_view (FlagWord option) = Flag option.now
argument_view (FilesFromWord list) = FilesFrom (option_copied list)
argument_view (PlacesWord number) = Places (option_copied number)

-- An Ok is the value of an argument that is right, and an Err is printed for one that isn't.
abbrev pub ListIs : Bool → Option (List ℕ) → Result (Bor (List ℕ)) Notice → Type 0
ListIs has_list list (Ok name) = IsRight has_list (FilesFrom list) × (list ≡ Some name.now)
ListIs has_list list (Err notice) = IsWrong has_list (FilesFrom list) notice

-- the same of a number of places
abbrev pub MorePlacesAre : Option (List ℕ) → Result ℕ Notice → Type 0
MorePlacesAre number (Ok more) = IsPlaces number × (more ≡ more_places_of 0 (Places number ∷ []))
MorePlacesAre number (Err notice) = IsWrong false (Places number) notice

-- the same of an option without a value
abbrev pub WithFlagIs : List ℕ → Options → Result Options Notice → Type 0
WithFlagIs option old (Ok new) = IsTrue (is_flag option) × AddOptions (Flag option ∷ []) old new
WithFlagIs option old (Err notice) = IsWrong false (Flag option) notice

-- An Ok has the list, or the operands among these words, of which there are so many. An Err is the
-- usage line, of neither or both.
abbrev pub FilesAre : {A : Type 0} → List (String A) → Option (Bor (List ℕ)) → ℕ
    → Result NamedFiles Notice → Type 0
FilesAre words list count (Ok (NamedInList name)) = (list ≡ Some name) × (count ≡ 0)
FilesAre words list count (Ok (NamedByOperands names)) =
    (list ≡ None) × (names_total names ≡ count) × (0 < count)
    × (names_left names ≡ operands_of (arguments_of words))
FilesAre words None count (Err notice) = (notice ≡ Usage) × (count ≡ 0)
FilesAre words (Some name) count (Err notice) = (notice ≡ Usage) × (0 < count)
