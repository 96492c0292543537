-- Names that end with a zero byte, and names that aren't UTF-8.
use Rattle.std.specs.Prelude.{
  ◌≡◌,
  ◌≢◌,
  ◌⊎◌,
  ℕ,
  zero,
  suc,
  true,
  false,
  Bool,
  List,
  [],
  ◌∷◌,
  ◌++◌,
  All,
  codes,
  ◌==◌,
  if◌then◌else◌,
  drop,
  flat_map,
  get_or,
  length,
  replicate,
  string_bytes,
  take,
  IsUtf8,
  Option,
  None,
  Some,
  Result,
  IfOk,
}
use Rattle.std.specs.Borrow.{Bor}
use Rattle.std.specs.declared.alloc.AllocError.{AllocError}
use Rattle.std.specs.declared.string.String.{String}
use Rattle.std.specs.Str.Lossy.{after_first_chunk, utf8_invalid_len, utf8_valid_len}
use Rattle.claxon_input.specs.Source.{MeetsEof, Source, Takes}
use Rattle.claxon_command_line.specs.Text.{escaped_text, hex_byte}

-- no byte of a name is zero
abbrev pub HasNoZero : List ℕ → Type 0
HasNoZero name = All (λ b. b ≢ 0) name

-- zero bytes, which end empty names, and the bytes of a name after them
pub record BeginsName (bytes name : List ℕ) : Type 0 where
  pub empty_names : ℕ
  pub bytes_are : bytes ≡ replicate empty_names 0 ++ name
  pub has_no_zero : HasNoZero name

-- Just a name was consumed, with the empty ones before it and its zero byte.
pub record EndsWithZero {A : Type 0} (source : A → Source ℕ) (old new : A) (name : List ℕ) : Type 0
  where
    pub bytes : List ℕ
    pub begins : BeginsName bytes name
    pub taken : Takes (source old) (source new) (bytes ++ 0 ∷ [])

-- Just a name was consumed, with the empty ones before it, and then the input ends.
pub record EndsWithInput {A : Type 0} (source : A → Source ℕ) (old new : A) (name : List ℕ) : Type 0
  where
    pub middle : Source ℕ
    pub bytes : List ℕ
    pub begins : BeginsName bytes name
    pub taken : Takes (source old) middle bytes
    pub meets_eof : MeetsEof middle (source new) 1

-- true says that there is a name, with its zero byte or at the end of the input, and false that
-- there is none
abbrev pub ListedNameIsRead : {A : Type 0} → (A → Source ℕ) → A → Bool → A → List ℕ → Type 0
ListedNameIsRead source old true new name =
    (name ≢ []) × (EndsWithZero source old new name ⊎ EndsWithInput source old new name)
ListedNameIsRead source old false new name = (name ≡ []) × EndsWithInput source old new []

-- An Ok says what was read.
abbrev pub ReadNameIsSound : {A E : Type 0} → (A → Source ℕ) → A → Result Bool E → A → List ℕ
    → Type 0
ReadNameIsSound source old r new name = IfOk r (λ found. ListedNameIsRead source old found new name)

-- bytes by their numbers, each as `\xNN`
abbrev pub hex_escapes : List ℕ → List ℕ
hex_escapes bytes = flat_map (λ b. codes "\\x" ++ hex_byte b) bytes

-- a name as text where it is UTF-8; or else its front as text, the bytes after that, which aren't
-- UTF-8, by their numbers, and the rest in the same way, for at most k such parts
abbrev pub escaped_within : ℕ → List ℕ → List ℕ
escaped_within zero name = escaped_text name
escaped_within (suc k) name = let n = utf8_valid_len name in
    if n == length name then escaped_text name
    else escaped_text (take n name) ++ (hex_escapes (take (utf8_invalid_len (drop n name))
    (drop n name)) ++ escaped_within k (after_first_chunk name))

-- the same for all its parts
unfoldable pub escaped_bytes : List ℕ → List ℕ
escaped_bytes name = escaped_within (length name) name

-- An argument that is UTF-8 is the word itself. Any other one is shown after a zero byte.
pub record IsWordOf (argument word : List ℕ) : Type 0 where
  pub utf8 : IsUtf8 argument → word ≡ argument
  pub other : (IsUtf8 argument → ⊥) → word ≡ 0 ∷ escaped_bytes argument

-- An Ok is that word.
abbrev pub WordIsSound : {A : Type 0} → List ℕ → Result (String A) AllocError → Type 0
WordIsSound argument r = IfOk r (λ word. IsWordOf argument (string_bytes word))

-- What stands after the zero byte that a word begins with; None says that it begins with none.
abbrev pub NotUtf8NameIs : List ℕ → Option (Bor (List ℕ)) → Type 0
NotUtf8NameIs word None = get_or word 0 1 ≢ 0
NotUtf8NameIs word (Some name) = word ≡ 0 ∷ name.now
