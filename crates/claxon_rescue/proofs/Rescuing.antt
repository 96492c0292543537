-- What is written of a damaged stream, step by step.
use Rattle.std.proofs.Common.{◌≡◌, ℕ, ◌+◌, ◌*◌, ◌<◌, ◌≤◌, pos, zero, suc, List, [], ◌∷◌, ◌++◌, length, replicate, Option, None, Some, refl, sym, ap, subst, ◌∙◌, append_assoc, append-nil, arith, length-append}
use Rattle.std.specs.Prelude.{All}
use Rattle.std.specs.Io.KnownBytes.{Appends}
use Rattle.std.proofs.KnownBytes.{Appends-trans}
use Rattle.std.proofs.lemmas.Grind.{flat_map-append}
use Rattle.std.proofs.lemmas.List.{length-replicate}
use Rattle.std.proofs.lemmas.List.Elements.{All-append, All-cons, All-nil}
use Rattle.std.proofs.lemmas.List.Sums.{sum_by-append}
use Rattle.claxon.specs.Bits.{FitsIn}
use Rattle.claxon.specs.Block.{BlockValue}
use Rattle.claxon.specs.Frame.{Block}
use Rattle.claxon.specs.FrameReader.{block_view}
use Rattle.claxon.specs.SampleRuns.{samples_of}
use Rattle.claxon.specs.StreamInfos.{StreamInfo}
use Rattle.claxon.specs.Streams.{interleave}
use Rattle.claxon_blocks.specs.HashBlock.{HashesToo}
use Rattle.claxon_md5.proofs.WholeBytes.{hashes_more}
use Rattle.claxon_md5.specs.declared.Md5.{Md5}
use Rattle.claxon_write.proofs.Counts.{none_failed_both, write_failed_after}
use Rattle.claxon_wav.specs.Convert.{HashesBlocks, PutsSamples, packed_blocks}
use Rattle.claxon_wav.specs.DataSize.{max_data_size}
use Rattle.claxon_rescue.specs.Losses.{HasNoted, missing_in, missing_of}
use Rattle.claxon_rescue.specs.PutSteps.{HashesGiven, IsFileOf, NeedsRoom, NotesRanges, StopsWriting}
use Rattle.claxon_rescue.specs.Rescue.{silent_block}
use Rattle.claxon_wav.specs.Samples.{bytes_of_sample, packed_samples, silence}
use Rattle.claxon_wav.specs.WaveFile.{block_align, sample_size}
use Rattle.claxon_wav.specs.Writer.{KeepsRoom, PutsBlock, PutsSilence, SameHeader, SamplesFit, Unflushed, output_contents, silent_bytes}
use Rattle.claxon_wav.specs.declared.error.Error.{Error}
use Rattle.claxon_wav.specs.declared.error.Error.TheVariants.{Claxon, Exists, OtherChannels, Output, SameFile, TooLong, Unsupported32Bit, WideSample}
use Rattle.claxon_wav.specs.declared.header.Layout.{Layout}
use Rattle.claxon_rescue.specs.declared.losses.LostRange.{LostRange}
use Rattle.claxon_rescue.specs.declared.losses.Losses.{Losses}
use Rattle.claxon_wav.specs.declared.writer.WavWriter.{WavWriter}
use Rattle.claxon_wav.proofs.Converting.{block_hashed, no_block_hashed, puts_more, puts_none, samples_both}
use Rattle.claxon_rescue.proofs.Silence.{interleave-zeros, packed-zeros, zeros_fit}

-- ---- blocks, one list after another

packed_both : (valid_bits : ℕ) (xs ys : List Block) → packed_blocks valid_bits (xs ++ ys) ≡ packed_blocks valid_bits xs ++ packed_blocks valid_bits ys
packed_both valid_bits xs ys = ap (packed_samples valid_bits) (samples_both xs ys) ∙ flat_map-append (bytes_of_sample (sample_size valid_bits) valid_bits) (samples_of xs) (samples_of ys)

length-packed_both : (valid_bits : ℕ) (xs ys : List Block) → length (packed_blocks valid_bits (xs ++ ys)) ≡ length (packed_blocks valid_bits xs) + length (packed_blocks valid_bits ys)
length-packed_both valid_bits xs ys = ap length (packed_both valid_bits xs ys) ∙ length-append (packed_blocks valid_bits xs) (packed_blocks valid_bits ys)

-- ---- silence

silent_packed : (valid_bits channels from count : ℕ) → 1 ≤ channels → 1 ≤ valid_bits → valid_bits ≤ 32 → packed_blocks valid_bits (silent_block channels from count ∷ []) ≡ replicate (count * channels * sample_size valid_bits) (silence (sample_size valid_bits))
silent_packed valid_bits channels from count some low high =
    let one : samples_of (silent_block channels from count ∷ []) ≡ replicate (count * channels) (pos 0) = append-nil (interleave (replicate channels (replicate count (pos 0)))) ∙ interleave-zeros channels count some in
    ap (packed_samples valid_bits) one ∙ packed-zeros valid_bits (count * channels) low high

-- how many bytes it has
pub length-silent : {W : Type 0} (x : WavWriter W) (info : StreamInfo) (from count : ℕ) → IsFileOf info x → length (packed_blocks x.layout.valid_bits (silent_block info.channels from count ∷ [])) ≡ count * block_align x.layout
length-silent x info from count is =
    let l = x.layout in
    let some : 1 ≤ info.channels = omega (arith, is.channels_are, l.some_channels) in
    let align : count * info.channels * sample_size l.valid_bits ≡ count * block_align l = ap (λ n. count * n * sample_size l.valid_bits) (sym is.channels_are) ∙ omega arith in
    ap length (silent_packed l.valid_bits info.channels from count some l.some_bits l.few_bits) ∙ length-replicate (count * info.channels * sample_size l.valid_bits) (silence (sample_size l.valid_bits)) ∙ align

module _ {W : Type 0} {contents : W → Option (List ℕ)} where
  pub puts_both : {xs ys : List Block} {x y z : WavWriter W} → PutsSamples contents xs x y → PutsSamples contents ys y z → PutsSamples contents (xs ++ ys) x z
  puts_both {xs = xs} {ys = ys} {x = x} {y = y} {z = z} h k =
      let l : y.layout ≡ x.layout = h.layout_is in
      let valid_bits = x.layout.valid_bits in
      let more : Appends (output_contents contents y) (output_contents contents z) (packed_blocks valid_bits ys) = subst (λ (m : Layout). Appends (output_contents contents y) (output_contents contents z) (packed_blocks m.valid_bits ys)) l k.bytes_are in
      let counted : z.written ≡ y.written + length (packed_blocks valid_bits ys) = subst (λ (m : Layout). z.written ≡ y.written + length (packed_blocks m.valid_bits ys)) l k.written_is in
      record {
        channels = All-append (λ (b : Block). length b.channels ≡ x.layout.channels) xs ys h.channels (subst (λ (m : Layout). All (λ (b : Block). length b.channels ≡ m.channels) ys) l k.channels);
        fit = subst (All (FitsIn valid_bits)) (sym (samples_both xs ys)) (All-append (FitsIn valid_bits) (samples_of xs) (samples_of ys) h.fit (subst (λ (m : Layout). All (FitsIn m.valid_bits) (samples_of ys)) l k.fit));
        bytes_are = subst (λ (s : List ℕ). Appends (output_contents contents x) (output_contents contents z) s) (sym (packed_both valid_bits xs ys)) (Appends-trans (output_contents contents x) (output_contents contents y) (output_contents contents z) (packed_blocks valid_bits xs) (packed_blocks valid_bits ys) h.bytes_are more);
        written_is = omega (arith, counted, h.written_is, length-packed_both valid_bits xs ys);
        announced_is = k.announced_is ∙ h.announced_is;
        layout_is = k.layout_is ∙ h.layout_is;
        none_failed = none_failed_both h.none_failed k.none_failed;
        unflushed = k.unflushed ∙ h.unflushed;
      }

  -- one block
  pub puts_one : {x y : WavWriter W} (block : BlockValue) → PutsBlock contents block x y → SamplesFit block x → SameHeader x y → Unflushed x y → PutsSamples contents (block_view block ∷ []) x y
  puts_one {x = x} block put fits same unflushed = puts_more block (puts_none x) put fits same unflushed

  -- silence
  pub puts_silence : {x y : WavWriter W} (info : StreamInfo) (from count : ℕ) → IsFileOf info x → PutsSilence contents count x y → SameHeader x y → Unflushed x y → PutsSamples contents (silent_block info.channels from count ∷ []) x y
  puts_silence {x = x} {y = y} info from count is put same unflushed =
      let l = x.layout in
      let channels = info.channels in
      let some : 1 ≤ channels = omega (arith, is.channels_are, l.some_channels) in
      let bytes = silent_packed l.valid_bits channels from count some l.some_bits l.few_bits in
      let align : count * channels * sample_size l.valid_bits ≡ count * block_align l = ap (λ n. count * n * sample_size l.valid_bits) (sym is.channels_are) ∙ omega arith in
      let all : packed_blocks l.valid_bits (silent_block channels from count ∷ []) ≡ silent_bytes l count = bytes ∙ ap (λ n. replicate n (silence (sample_size l.valid_bits))) align in
      let one : samples_of (silent_block channels from count ∷ []) ≡ replicate (count * channels) (pos 0) = append-nil (interleave (replicate channels (replicate count (pos 0)))) ∙ interleave-zeros channels count some in
      record {
        channels = All-cons (λ (b : Block). length b.channels ≡ l.channels) (silent_block channels from count) [] (length-replicate channels (replicate count (pos 0)) ∙ sym is.channels_are) (All-nil (λ (b : Block). length b.channels ≡ l.channels));
        fit = subst (All (FitsIn l.valid_bits)) (sym one) (zeros_fit l.valid_bits (count * channels));
        bytes_are = subst (λ (s : List ℕ). Appends (output_contents contents x) (output_contents contents y) s) (sym all) put.bytes_are;
        written_is = put.written_is ∙ ap (λ n. x.written + n) (sym (length-replicate (count * block_align l) (silence (sample_size l.valid_bits)))) ∙ ap (λ (s : List ℕ). x.written + length s) (sym all);
        announced_is = same.announced_is;
        layout_is = same.layout_is;
        none_failed = put.none_failed;
        unflushed = unflushed;
      }

-- ---- what is noted

pub notes_none : (losses : Losses) → NotesRanges [] losses losses
notes_none losses max_ranges before h = subst (λ (l : List LostRange). HasNoted max_ranges l losses) (sym (append-nil before)) h

pub notes_both : {xs ys : List LostRange} {x y z : Losses} → NotesRanges xs x y → NotesRanges ys y z → NotesRanges (xs ++ ys) x z
notes_both {xs = xs} {ys = ys} {z = z} h k max_ranges before noted = subst (λ (l : List LostRange). HasNoted max_ranges l z) (append_assoc before xs ys) (k max_ranges (before ++ xs) (h max_ranges before noted))

-- ---- what is hashed

hashed_both : (n : ℕ) (xs ys : List Block) (x y z : Option Md5) → HashesBlocks n xs x y → HashesBlocks n ys y z → HashesBlocks n (xs ++ ys) x z
hashed_both n xs ys None None z before more = more
hashed_both n xs ys None (Some y) z before more = absurd cc
hashed_both n xs ys (Some x) None z before more = absurd before
hashed_both n xs ys (Some x) (Some y) None before more = absurd more
hashed_both n xs ys (Some x) (Some y) (Some z) before more = hashes_more n (samples_of xs) (samples_of ys) (samples_of (xs ++ ys)) x y z (samples_both xs ys) before more

none_hashed : (n : ℕ) (xs : List Block) (x y : Option Md5) → x ≡ None → HashesBlocks n xs x y → y ≡ None
none_hashed n xs None y e h = h
none_hashed n xs (Some x) y e h = absurd cc

module _ {bit_depth : ℕ} where
  pub given_none : (x : Option Md5) → HashesGiven bit_depth [] [] x x
  given_none x = record { whole = λ e. no_block_hashed bit_depth x; torn = λ some. absurd (omega (arith, some)) }

  pub given_block : (block : BlockValue) (x y : Option Md5) → HashesToo bit_depth block x y → HashesGiven bit_depth [] (block_view block ∷ []) x y
  given_block block x y h = record { whole = λ e. block_hashed bit_depth [] block x x y (no_block_hashed bit_depth x) h; torn = λ some. absurd (omega (arith, some)) }

  pub given_torn : {lost : List LostRange} {blocks : List Block} {x y : Option Md5} → 0 < missing_in lost → y ≡ None → HashesGiven bit_depth lost blocks x y
  given_torn some none = record { whole = λ e. absurd (omega (arith, some, e)); torn = λ s. none }

  pub given_both : {ls ms : List LostRange} {xs ys : List Block} {x y z : Option Md5} → HashesGiven bit_depth ls xs x y → HashesGiven bit_depth ms ys y z → HashesGiven bit_depth (ls ++ ms) (xs ++ ys) x z
  given_both {ls = ls} {ms = ms} {xs = xs} {ys = ys} {x = x} {y = y} {z = z} h k =
      let sum : missing_in (ls ++ ms) ≡ missing_in ls + missing_in ms = sum_by-append missing_of ls ms in
      record {
        whole = λ e. hashed_both bit_depth xs ys x y z (h.whole (omega (arith, e, sum))) (k.whole (omega (arith, e, sum)));
        torn = λ some. torn some sum (missing_in ms) refl;
      }
    where
      torn : 0 < missing_in (ls ++ ms) → missing_in (ls ++ ms) ≡ missing_in ls + missing_in ms → (m : ℕ) → m ≡ missing_in ms → z ≡ None
      torn some sum zero e = none_hashed bit_depth ys y z (h.torn (omega (arith, some, sum, e))) (k.whole (sym e))
      torn some sum (suc m) e = k.torn (omega (arith, e))

-- ---- what isn't written

module _ {W : Type 0} where
  later_room : (xs ys : List Block) (x y : WavWriter W) → KeepsRoom x y → NeedsRoom ys y → NeedsRoom (xs ++ ys) x
  later_room xs ys x y keeps h = record {
    before = xs ++ h.before;
    block = h.block;
    after = h.after;
    is_there = ap (λ (l : List Block). xs ++ l) h.is_there ∙ sym (append_assoc xs h.before (h.block ∷ h.after));
    full = λ room. h.full (keeps (length (interleave h.block.channels)) room);
  }

  -- what stops after other blocks were written
  pub stops_after : {contents : W → Option (List ℕ)} (xs ys : List Block) (x y z : WavWriter W) (e : Error) → PutsSamples contents xs x y → KeepsRoom x y → StopsWriting ys e y z → StopsWriting (xs ++ ys) e x z
  stops_after xs ys x y z TooLong h keeps stops =
      let more = subst (λ (m : Layout). max_data_size < y.written + length (packed_blocks m.valid_bits ys)) h.layout_is stops in
      omega (arith, more, h.written_is, length-packed_both x.layout.valid_bits xs ys)
  stops_after xs ys x y z (Output cause) h keeps stops = write_failed_after h.none_failed stops
  stops_after xs ys x y z (Claxon cause) h keeps stops = (stops.0, later_room xs ys x y keeps stops.1)
  stops_after xs ys x y z OtherChannels h keeps stops = absurd stops
  stops_after xs ys x y z WideSample h keeps stops = absurd stops
  stops_after xs ys x y z Unsupported32Bit h keeps stops = absurd stops
  stops_after xs ys x y z SameFile h keeps stops = absurd stops
  stops_after xs ys x y z Exists h keeps stops = absurd stops

  -- what stops before others that would be more
  pub stops_before : (xs ys : List Block) (x z : WavWriter W) (e : Error) → StopsWriting xs e x z → StopsWriting (xs ++ ys) e x z
  stops_before xs ys x z TooLong stops = omega (arith, stops, length-packed_both x.layout.valid_bits xs ys)
  stops_before xs ys x z (Output cause) stops = stops
  stops_before xs ys x z (Claxon cause) stops = let h = stops.1 in (stops.0, record { before = h.before; block = h.block; after = h.after ++ ys; is_there = ap (λ (l : List Block). l ++ ys) h.is_there ∙ append_assoc h.before (h.block ∷ h.after) ys; full = h.full })
  stops_before xs ys x z OtherChannels stops = absurd stops
  stops_before xs ys x z WideSample stops = absurd stops
  stops_before xs ys x z Unsupported32Bit stops = absurd stops
  stops_before xs ys x z SameFile stops = absurd stops
  stops_before xs ys x z Exists stops = absurd stops
