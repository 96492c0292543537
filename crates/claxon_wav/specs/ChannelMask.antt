-- The channels of a WAV file, as the mask of WAVEFORMATEXTENSIBLE names them.
use Rattle.std.specs.Prelude.{
  ◌≡◌,
  ℕ,
  ◌+◌,
  ◌-◌,
  ◌^◌,
  ◌<◌,
  List,
  [],
  ◌∷◌,
  ◌++◌,
  codes,
  get_or,
  Option,
  None,
  Some,
}
use Rattle.claxon_format.specs.Tags.{values}
use Rattle.std.specs.Str.Parse.{IsNumeral, digits_value, without_leading_plus}

-- the bit of each channel
abbrev pub front_left : ℕ
front_left = 0x1

abbrev pub front_right : ℕ
front_right = 0x2

abbrev pub front_center : ℕ
front_center = 0x4

abbrev pub low_frequency : ℕ
low_frequency = 0x8

abbrev pub back_left : ℕ
back_left = 0x10

abbrev pub back_right : ℕ
back_right = 0x20

abbrev pub back_center : ℕ
back_center = 0x100

abbrev pub side_left : ℕ
side_left = 0x200

abbrev pub side_right : ℕ
side_right = 0x400

-- The masks of one to eight channels, as FLAC assigns them: RFC 9639, section 9.1.3. For five and
-- six channels the surround channels are the side channels.
abbrev pub default_channel_masks : List ℕ
default_channel_masks =
    front_center
    ∷ (front_left + front_right)
    ∷ (front_left + front_right + front_center)
    ∷ (front_left + front_right + back_left + back_right)
    ∷ (front_left + front_right + front_center + side_left + side_right)
    ∷ (front_left + front_right + front_center + low_frequency + side_left + side_right)
    ∷ (front_left + front_right + front_center + low_frequency + back_center + side_left
    + side_right)
    ∷ (front_left + front_right + front_center + low_frequency + back_left + back_right + side_left
    + side_right)
    ∷ []

-- the default mask for this number of channels
abbrev pub default_channel_mask : ℕ → ℕ
default_channel_mask channels = get_or default_channel_masks (channels - 1) 0

-- the given mask, or the default one for this number of channels
abbrev pub channel_mask_of : ℕ → Option ℕ → ℕ
channel_mask_of channels None = default_channel_mask channels
channel_mask_of channels (Some named) = named

-- ---- the mask that a tag names

-- the name of the tag
abbrev pub channel_mask_tag : List ℕ
channel_mask_tag = codes "WAVEFORMATEXTENSIBLE_CHANNEL_MASK"

-- the values of that tag
abbrev pub mask_values : List (List ℕ × List ℕ) → List (List ℕ)
mask_values tags = values channel_mask_tag tags

-- The text is this mask, in hexadecimal digits after "0x", of which a plus may be the first. It has
-- up to 32 bits, and isn't 0.
pub record NamesMask (text : List ℕ) (mask : ℕ) : Type 0 where
  pub digits : List ℕ
  pub text_is : text ≡ codes "0x" ++ digits
  pub numeral : IsNumeral 16 (without_leading_plus digits)
  pub mask_is : mask ≡ digits_value 16 (without_leading_plus digits)
  pub some : 0 < mask
  pub fits : mask < 2 ^ 32

-- It is the mask that the text names, or None where it names none.
abbrev pub IsMaskOf : List ℕ → Option ℕ → Type 0
IsMaskOf text None = (mask : ℕ) → NamesMask text mask → ⊥
IsMaskOf text (Some named) = NamesMask text named

-- It is the mask that the first of these values of the tag names, or None.
abbrev pub IsMaskOfTags : List (List ℕ) → Option ℕ → Type 0
IsMaskOfTags [] mask = mask ≡ None
IsMaskOfTags (value ∷ others) mask = IsMaskOf value mask
