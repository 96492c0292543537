-- Strings of JSON (RFC 8259, section 7).
use Rattle.std.specs.Prelude.{
  ℕ,
  List,
  ◌++◌,
  ◌==◌,
  if◌then◌else◌,
  nat_lt,
  flat_map,
  codes,
  encode_utf8,
}
use Rattle.std.specs.Str.{chars}
use Rattle.claxon_command_line.specs.Text.{hex_byte}

-- a character in UTF-8, escaped where it has to be: a quotation mark, a backslash, and each
-- character below 32, which has a letter or its number in four hexadecimal digits
unfoldable pub json_char : ℕ → List ℕ
json_char c =
    if c == 0x22 then codes "\\\""
    else if c == 0x5C then codes "\\\\"
    else if c == 0x0A then codes "\\n"
    else if c == 0x0D then codes "\\r"
    else if c == 0x09 then codes "\\t"
    else if c == 0x08 then codes "\\b"
    else if c == 0x0C then codes "\\f"
    else if nat_lt c 32 then codes "\\u00" ++ hex_byte c
    else encode_utf8 c

-- each character of a text, in this way
abbrev pub json_chars : List ℕ → List ℕ
json_chars text = flat_map json_char (chars text)

-- these between quotation marks
abbrev pub json_string : List ℕ → List ℕ
json_string text = codes "\"" ++ json_chars text ++ codes "\""
