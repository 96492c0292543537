-- The lines that are printed about a stream.
use Rattle.std.specs.Prelude.{
  ◌≡◌,
  ◌⊎◌,
  ℕ,
  Option,
  None,
  Some,
  Result,
  IfErr,
  OnOk,
  List,
  ◌++◌,
  flat_map,
  codes,
}
use Rattle.std.specs.Borrow.{Bor}
use Rattle.std.specs.declared.alloc.AllocError.{AllocError}
use Rattle.std.specs.Io.KnownBytes.{Appends}
use Rattle.std.specs.declared.string.String.{String}
use Rattle.claxon.specs.FlacReader.{flac_streaminfo, tags_of, vendor_of}
use Rattle.claxon.specs.declared.reader.FlacReader.{FlacReader}
use Rattle.claxon.specs.Error.{IsIo}
use Rattle.claxon.specs.Errors.{Error}
use Rattle.claxon.specs.Errors.TheVariants.{OutOfMemory}
use Rattle.claxon.specs.StreamInfos.{StreamInfo}
use Rattle.claxon_write.specs.Written.{
  FailsToPut,
  OneFlushFailed,
  IsFlushed,
  IsUnflushed,
  NonePending,
  Puts,
  contents_with_pending,
  writer_contents,
}
use Rattle.claxon_write.specs.declared.output.Output.{Output}
use Rattle.claxon_command_line.specs.Text.{
  IsText,
  escaped_text,
  length_text,
  line,
  md5_text,
  number_text,
  unknown_text,
}

-- a line for each name and its number
abbrev pub numbers_text : List (Bor (List ℕ) × Option ℕ) → List ℕ
numbers_text numbers = flat_map (λ n. line n.0.now (number_text n.1)) numbers

-- the format, number and length of the samples
abbrev pub format_text : StreamInfo → List ℕ
format_text info = line (codes "sample_rate") (number_text (Some info.sample_rate))
    ++ line (codes "channels") (number_text (Some info.channels))
    ++ line (codes "bits_per_sample") (number_text (Some info.bits_per_sample))
    ++ line (codes "samples") (number_text info.samples)
    ++ line (codes "length") (length_text info.samples info.sample_rate)

-- the sizes of blocks and frames, and the MD5 sum of the samples
abbrev pub sizes_text : StreamInfo → List ℕ
sizes_text info = line (codes "min_block_size") (number_text (Some info.min_block_size))
    ++ line (codes "max_block_size") (number_text (Some info.max_block_size))
    ++ line (codes "min_frame_size") (number_text info.min_frame_size)
    ++ line (codes "max_frame_size") (number_text info.max_frame_size)
    ++ line (codes "md5sum") (md5_text info.md5sum)

abbrev pub vendor_text : Option (List ℕ) → List ℕ
vendor_text None = line (codes "vendor") unknown_text
vendor_text (Some vendor) = line (codes "vendor") (escaped_text vendor)

-- `tag: NAME=value`
abbrev pub tag_text : List ℕ × List ℕ → List ℕ
tag_text tag = line (codes "tag") (escaped_text tag.0 ++ codes "=" ++ escaped_text tag.1)

abbrev pub tags_text : List (List ℕ × List ℕ) → List ℕ
tags_text tags = flat_map tag_text tags

-- all the lines
abbrev pub facts_text : StreamInfo → Option (List ℕ) → List (List ℕ × List ℕ) → List ℕ
facts_text info vendor tags =
    format_text info ++ sizes_text info ++ vendor_text vendor ++ tags_text tags

-- the lines for a reader's head
abbrev pub facts_of : {R A : Type 0} → FlacReader R A → List ℕ
facts_of flac = facts_text (flac_streaminfo flac) (vendor_of flac) (tags_of flac)

-- An Ok is those lines.
abbrev pub FactsAreSound : {R A : Type 0} → FlacReader R A → Result (String A) AllocError → Type 0
FactsAreSound flac r = IsText (facts_of flac) r

-- An Ok wrote exactly those lines after the pending bytes, and then flushed. Nothing is pending
-- any more.
abbrev pub WriteFactsIsSound : {R W A : Type 0} → (W → Option (List ℕ)) → FlacReader R A
    → Result (Unit {0}) Error → Output W → Output W → Type 0
WriteFactsIsSound contents flac r old new =
    OnOk r (Puts contents (facts_of flac) old new × NonePending new × IsFlushed old new)

-- The flush failed, which was counted, after the pending bytes and these were written.
pub record FailsToFlushAfter {W : Type 0} (contents : W → Option (List ℕ)) (bytes : List ℕ)
    (error : Error) (old new : Output W) : Type 0 where
  pub is_io : IsIo error
  pub failed : OneFlushFailed old new
  pub flushed : IsFlushed old new
  pub written : Appends (contents_with_pending contents old) (writer_contents contents new) bytes

-- An Err is `OutOfMemory`, and nothing was put; a failed write, without a flush; or a failed
-- flush after all was written.
abbrev pub WriteFactsFaultIsSound : {R W A : Type 0} → (W → Option (List ℕ)) → FlacReader R A
    → Result (Unit {0}) Error → Output W → Output W → Type 0
WriteFactsFaultIsSound contents flac r old new =
    IfErr r (λ error. ((error ≡ OutOfMemory) × (new ≡ old))
    ⊎ ((FailsToPut contents (facts_of flac) error old new × IsUnflushed old new)
    ⊎ FailsToFlushAfter contents (facts_of flac) error old new))
