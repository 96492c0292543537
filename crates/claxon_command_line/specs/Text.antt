-- Values as text.
use Rattle.std.specs.Prelude.{
  ◌≡◌,
  Bool,
  false,
  ℕ,
  ◌+◌,
  ◌*◌,
  ◌/◌,
  ◌%◌,
  Option,
  None,
  Some,
  List,
  [],
  ◌∷◌,
  ◌++◌,
  ◌==◌,
  ◌||◌,
  ◌&&◌,
  if◌then◌else◌,
  nat_lt,
  nat_le,
  flat_map,
  replicate,
  bytes_eq,
  codes,
  decimal,
  encode_utf8,
  string_bytes,
  Result,
  IfOk,
  OnOk,
}
use Rattle.std.specs.declared.alloc.AllocError.{AllocError}
use Rattle.std.specs.declared.string.String.{String}
use Rattle.std.specs.Fmt.{digit_glyph, digits}
use Rattle.std.specs.Str.{chars}

abbrev pub unknown_text : List ℕ
unknown_text = codes "unknown"

-- a number, or `unknown` where there is none
unfoldable pub number_text : Option ℕ → List ℕ
number_text None = unknown_text
number_text (Some n) = decimal n

-- a number of things, in the plural unless it is 1
unfoldable pub count_text : ℕ → List ℕ → List ℕ
count_text n thing = decimal n ++ codes " " ++ thing ++ (if n == 1 then [] else codes "s")

-- a number below 100 in two digits, and one below 1000 in three
unfoldable pub two_digits : ℕ → List ℕ
two_digits n = (48 + n / 10) ∷ (48 + n % 10) ∷ []

unfoldable pub three_digits : ℕ → List ℕ
three_digits n = (48 + n / 100) ∷ (48 + n / 10 % 10) ∷ (48 + n % 10) ∷ []

-- a time in milliseconds, as `h:mm:ss.mmm`
abbrev pub time_text : ℕ → List ℕ
time_text t = decimal (t / 3600000) ++ codes ":" ++ two_digits (t / 60000 % 60) ++ codes ":"
    ++ two_digits (t / 1000 % 60) ++ codes "." ++ three_digits (t % 1000)

-- the length of `samples` samples per channel at this sample rate, rounded down to milliseconds
unfoldable pub length_text : Option ℕ → ℕ → List ℕ
length_text None rate = unknown_text
length_text (Some samples) rate =
    if rate == 0 then unknown_text else time_text (samples * 1000 / rate)

-- a byte in two hexadecimal digits
abbrev pub hex_byte : ℕ → List ℕ
hex_byte b = digit_glyph false (b / 16) ∷ digit_glyph false (b % 16) ∷ []

-- an MD5 sum, which isn't known where all its bytes are 0
unfoldable pub md5_text : List ℕ → List ℕ
md5_text md5 = if bytes_eq md5 (replicate 16 0) then unknown_text else flat_map hex_byte md5

-- a character that may begin a line or control a terminal: a control character, a line separator
-- or a paragraph separator
abbrev pub is_control : ℕ → Bool
is_control c = nat_lt c 32 || (nat_le 127 c && nat_lt c 160) || c == 0x2028 || c == 0x2029

-- a character in UTF-8, escaped for one line: a backslash, a line feed, a carriage return and a tab
-- by a letter, another control character by its number
unfoldable pub escaped_char : ℕ → List ℕ
escaped_char c =
    if c == 0x5C then codes "\\\\"
    else if c == 0x0A then codes "\\n"
    else if c == 0x0D then codes "\\r"
    else if c == 0x09 then codes "\\t"
    else if is_control c then codes "\\u{" ++ digits 16 false c ++ codes "}"
    else encode_utf8 c

-- each character escaped
abbrev pub escaped_text : List ℕ → List ℕ
escaped_text text = flat_map escaped_char (chars text)

-- The text is these bytes.
abbrev pub IsText : {A : Type 0} → List ℕ → Result (String A) AllocError → Type 0
IsText bytes r = IfOk r (λ text. string_bytes text ≡ bytes)

-- An Ok added these bytes to the text.
abbrev pub Adds : {A : Type 0} → List ℕ → Result (Unit {0}) AllocError → String A → String A
    → Type 0
Adds bytes r old new = OnOk r (string_bytes new ≡ string_bytes old ++ bytes)

-- `NAME: value`
unfoldable pub line : List ℕ → List ℕ → List ℕ
line name value = name ++ codes ": " ++ value ++ codes "\n"
