-- Whole streams (RFC 9639, section 6): a head and frames. And the order in which samples are given.
use Rattle.std.specs.Prelude.{
  ◌≡◌,
  ℕ,
  Bool,
  false,
  List,
  [],
  ◌∷◌,
  ◌++◌,
  length,
  map,
  get_or,
  ℤ,
  pos,
  Some,
}
use Rattle.std.specs.List.{flat_map, range_with_len}
use Rattle.claxon_format.specs.Streaminfo.{Streaminfo}
use Rattle.claxon_format.specs.Frame.{StreamFormat, Block, Frames, NoFrameLeft}
use Rattle.claxon_format.specs.Heads.{Options, Head, HeadCode}

-- how many samples each channel has
abbrev pub duration_of : List (List ℤ) → ℕ
duration_of [] = 0
duration_of (c ∷ channels) = length c

-- sample i of each channel, in the order of the channels
abbrev pub samples_at : List (List ℤ) → ℕ → List ℤ
samples_at channels i = map (λ c. get_or c i (pos 0)) channels

-- the first sample of each channel, the second of each, and so on
abbrev pub interleave : List (List ℤ) → List ℤ
interleave channels = flat_map (samples_at channels) (range_with_len 0 (duration_of channels))

-- what frames need to know of their stream
abbrev pub stream_of : Streaminfo → StreamFormat
stream_of i =
    record {
      bit_depth = i.bit_depth;
      min_block_size = i.min_block_size;
      max_block_size = i.max_block_size;
    }

-- all blocks up to the first frame are read
abbrev pub with_samples : Bool → Options
with_samples wants_comment = record { metadata_only = false; wants_comment = wants_comment }

-- s is a head, the frames of these blocks, and r, which begins with no further frame
pub record IsStream (wants_comment : Bool) (s : List ℕ) (h : Head) (blocks : List Block)
    (r : List ℕ) : Type 0 where
  pub front : List ℕ
  pub frames : List ℕ
  pub head : HeadCode (with_samples wants_comment) h front
  pub joined : s ≡ front ++ frames
  pub blocks_are : Frames (Some (stream_of h.info)) frames blocks r
  pub complete : NoFrameLeft (Some (stream_of h.info)) r
