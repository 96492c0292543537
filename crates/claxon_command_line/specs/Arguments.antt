-- The arguments of a command line.
use Rattle.std.specs.Prelude.{
  ◌≡◌,
  ◌⊎◌,
  ◌==◌,
  ◌&&◌,
  ℕ,
  ◌<◌,
  ◌≤◌,
  Bool,
  true,
  false,
  not,
  List,
  [],
  ◌∷◌,
  bytes_eq,
  codes,
  get_or,
  if◌then◌else◌,
  length,
  map,
  nat_le,
  Option,
  MatchOption,
  OnSome,
  Some,
  None,
  Result,
  MatchResult,
}
use Rattle.std.specs.Borrow.{Bor}
use Rattle.std.specs.String.{string_bytes}
use Rattle.std.specs.declared.string.String.{String}
use Rattle.claxon_command_line.specs.declared.arguments.Argument.{Argument}
use Rattle.claxon_command_line.specs.declared.arguments.Argument.TheVariants.{
  Operand,
  Option as OptionWord,
}
use Rattle.claxon_command_line.specs.declared.arguments.Arguments.{Arguments}
use Rattle.claxon_command_line.specs.declared.arguments.Operands.{Operands}
use Rattle.claxon_command_line.specs.declared.arguments.Notice.{Notice}
use Rattle.claxon_command_line.specs.declared.arguments.Notice.TheVariants.{
  Help,
  NotUtf8,
  UnknownCommand,
  UnknownOption,
  Usage,
  Version,
}

-- the words that are left
abbrev pub words_of : Arguments → List (List ℕ)
words_of a = map string_bytes a.words.now

-- their number
abbrev pub words_left : Arguments → ℕ
words_left a = length a.words.now

-- Fewer words are left after an argument.
abbrev pub TakesWord : {A : Type 0} → Option A → Arguments → Arguments → Type 0
TakesWord r old new = OnSome r (words_left new < words_left old)

-- the word that ends the options
abbrev pub end_of_options : List ℕ
end_of_options = codes "--"

-- A word that begins with a hyphen, which isn't all of it.
abbrev pub HasHyphen : List ℕ → Type 0
HasHyphen word = (get_or word 0 0 ≡ 45) × (2 ≤ length word)

-- the same as a test
abbrev pub has_hyphen : List ℕ → Bool
has_hyphen word = (get_or word 0 0 == 45) && nat_le 2 (length word)

-- Such a word other than `--`.
abbrev pub IsOption : List ℕ → Type 0
IsOption word = HasHyphen word × (word ≡ end_of_options → ⊥)

-- All words are left, and options may be among them.
abbrev pub AreArgumentsOf : {A : Type 0} → List (String A) → Arguments → Type 0
AreArgumentsOf words a = (words_of a ≡ map string_bytes words) × (a.has_options ≡ true)

-- The next word is taken; None says that there is none.
abbrev pub ValueIsSound : Arguments → Option (Bor (List ℕ)) → Arguments → Type 0
ValueIsSound old None new =
    (words_of old ≡ []) × (words_of new ≡ []) × (new.has_options ≡ old.has_options)
ValueIsSound old (Some word) new =
    (words_of old ≡ word.now ∷ words_of new) × (new.has_options ≡ old.has_options)

-- The next word is an option, where there may be one; or any other word but `--`, or that after
-- `--`, is an operand.
abbrev pub NextIsSound : Arguments → Option Argument → Arguments → Type 0
NextIsSound old None new =
    ((words_of old ≡ []) ⊎ ((old.has_options ≡ true) × (words_of old ≡ end_of_options ∷ [])))
    × (words_of new ≡ [])
NextIsSound old (Some (OptionWord word)) new =
    IsOption word.now × (old.has_options ≡ true) × (new.has_options ≡ true)
    × (words_of old ≡ word.now ∷ words_of new)
NextIsSound old (Some (Operand word)) new =
    ((old.has_options ≡ true → HasHyphen word.now → ⊥) × (new.has_options ≡ old.has_options)
    × (words_of old ≡ word.now ∷ words_of new))
    ⊎ ((old.has_options ≡ true) × (new.has_options ≡ false)
    × (words_of old ≡ end_of_options ∷ word.now ∷ words_of new))

-- `-h` or `--help`
abbrev pub AsksForHelp : List ℕ → Type 0
AsksForHelp option = (option ≡ codes "-h") ⊎ (option ≡ codes "--help")

-- `-V` or `--version`
abbrev pub AsksForVersion : List ℕ → Type 0
AsksForVersion option = (option ≡ codes "-V") ⊎ (option ≡ codes "--version")

-- These are options of each command, and any other is unknown.
abbrev pub IsNoticeOf : List ℕ → Notice → Type 0
IsNoticeOf option Help = AsksForHelp option
IsNoticeOf option Version = AsksForVersion option
IsNoticeOf option (UnknownOption name) =
    (name.now ≡ option) × (AsksForHelp option → ⊥) × (AsksForVersion option → ⊥)
IsNoticeOf option (UnknownCommand name) = ⊥
IsNoticeOf option NotUtf8 = ⊥
IsNoticeOf option Usage = ⊥

-- the operands among these words, where options may be among them or not
abbrev pub operands_at : Bool → List (List ℕ) → List (List ℕ)
operands_at false words = words
operands_at true [] = []
operands_at true (word ∷ words) =
    if not (has_hyphen word) then word ∷ operands_at true words
    else (if bytes_eq word end_of_options then words else operands_at true words)

-- the first option among them
abbrev pub first_option_at : Bool → List (List ℕ) → Option (List ℕ)
first_option_at false words = None
first_option_at true [] = None
first_option_at true (word ∷ words) =
    if not (has_hyphen word) then first_option_at true words
    else (if bytes_eq word end_of_options then None else Some word)

-- the operands and the first option of a command line
abbrev pub operands_of : {A : Type 0} → List (String A) → List (List ℕ)
operands_of words = operands_at true (map string_bytes words)

abbrev pub first_option_of : {A : Type 0} → List (String A) → Option (List ℕ)
first_option_of words = first_option_at true (map string_bytes words)

-- the operands that are left
abbrev pub operands_left : Operands → List (List ℕ)
operands_left operands =
    operands_at operands.arguments.has_options (words_of operands.arguments)

-- the number of operands in all
abbrev pub operands_total : Operands → ℕ
operands_total operands = operands.count

-- There is no option, and there is one operand or more: these.
pub record AreOperandsOf {A : Type 0} (words : List (String A)) (operands : Operands) : Type 0
  where
    pub no_option : first_option_of words ≡ None
    pub left : operands_left operands ≡ operands_of words
    pub total : operands_total operands ≡ length (operands_of words)
    pub one_or_more : 0 < length (operands_of words)

-- This is printed for the first option, or the usage line where there is no operand either.
abbrev pub IsNoticeOfWords : {A : Type 0} → List (String A) → Notice → Type 0
IsNoticeOfWords words notice =
    MatchOption (first_option_of words) ((operands_of words ≡ []) × (notice ≡ Usage))
    (λ option. IsNoticeOf option notice)

-- An Ok has the operands, and an Err is what is printed for words that aren't right.
abbrev pub ParseIs : {A : Type 0} → List (String A) → Result Operands Notice → Type 0
ParseIs words r = MatchResult r (AreOperandsOf words) (IsNoticeOfWords words)
