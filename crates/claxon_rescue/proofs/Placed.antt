-- Frames that are written at their times, and those that are not.
use Rattle.std.proofs.Common.{◌≡◌, inl, inr, ℕ, ◌+◌, ◌-◌, ◌<◌, ℤ, pos, zero, suc, get_or, List, [], ◌∷◌, ◌++◌, length, Option, Some, refl, sym, ap, subst, ◌∙◌, arith, append-nil}
use Rattle.std.specs.Prelude.{All, IsErrAnd, Result, Err}
use Rattle.std.specs.List.{flat_map, range_with_len}
use Rattle.std.proofs.lemmas.List.Concat.{flat_map-cons}
use Rattle.std.proofs.lemmas.List.Elements.{All-append, All-cons, All-head, All-nil, All-tail}
use Rattle.std.proofs.lemmas.Nat.{pow_pos}
use Rattle.claxon.specs.Bits.{FitsIn}
use Rattle.claxon.specs.Block.{BlockValue}
use Rattle.claxon.specs.FrameReader.{block_view}
use Rattle.claxon.specs.StreamInfos.{StreamInfo}
use Rattle.claxon.specs.Streams.{duration_of, interleave, samples_at}
use Rattle.claxon_blocks.specs.HashBlock.{HashesToo}
use Rattle.claxon_md5.specs.declared.Md5.{Md5}
use Rattle.claxon_recovery.specs.declared.part.FrameThere.{FrameThere}
use Rattle.claxon_wav.specs.Convert.{PutsSamples}
use Rattle.std.proofs.lemmas.List.Sums.{sum_by-cons}
use Rattle.claxon_rescue.specs.Losses.{NotesRange, missing_in, missing_of}
use Rattle.claxon_rescue.specs.PutSteps.{HashesGiven, IsFileOf, NotesRanges, PutsFrame, PutsGap, StopsAtFrame, StopsWriting}
use Rattle.claxon_rescue.specs.Rescue.{GivesFrame, gap_blocks, gap_ranges}
use Rattle.claxon_rescue.specs.Times.{IsGapAmong, IsKept, due_after, left_out}
use Rattle.claxon_rescue.specs.Waiting.{waiting_frames}
use Rattle.claxon_wav.specs.DataSize.{max_data_size}
use Rattle.claxon_wav.specs.Samples.{packed_samples}
use Rattle.claxon_wav.specs.WavError.{IsMemory}
use Rattle.claxon_wav.specs.Writer.{BlockErrorKeeps, ExplainsBlockError, HasRoomFor, KeepsRoom, SameHeader, SamplesFit}
use Rattle.claxon_wav.specs.declared.error.Error.{Error}
use Rattle.claxon_wav.specs.declared.error.Error.TheVariants.{Claxon, Exists, OtherChannels, Output, SameFile, TooLong, Unsupported32Bit, WideSample}
use Rattle.claxon_wav.specs.declared.header.Layout.{Layout}
use Rattle.claxon_rescue.specs.declared.due.Due.{Due}
use Rattle.claxon_rescue.specs.declared.due.Rules.{Rules}
use Rattle.claxon_rescue.specs.declared.losses.LostRange.{LostRange}
use Rattle.claxon_rescue.specs.declared.losses.Losses.{Losses}
use Rattle.claxon_rescue.specs.declared.parts.Rescue.{Rescue}
use Rattle.claxon_wav.specs.declared.writer.WavWriter.{WavWriter}
use Rattle.claxon_wav.proofs.Converting.{no_block_hashed, puts_none}
use Rattle.claxon_rescue.proofs.Rescuing.{given_block, given_both, given_none, notes_none, puts_both, stops_after, stops_before}

given_left_out : (rules : Rules) (due : Due) (there : FrameThere) (x : Option Md5) → HashesGiven rules.info.bits_per_sample (left_out rules due there ∷ []) [] x x
given_left_out rules due there x =
    let none : missing_in (left_out rules due there ∷ []) ≡ 0 = sum_by-cons missing_of (left_out rules due there) [] in
    record { whole = λ e. no_block_hashed rules.info.bits_per_sample x; torn = λ some. absurd (omega (arith, some, none)) }

module _ {W : Type 0} (contents : W → Option (List ℕ)) (rules : Rules) (there : FrameThere) (old : Rescue) where
  -- one that isn't kept
  pub frame_left_out : (new : Rescue) (file : WavWriter W) → (IsKept rules old.due there (waiting_frames old.waiting) → ⊥) → new.due ≡ old.due → waiting_frames new.waiting ≡ waiting_frames old.waiting → new.md5 ≡ old.md5 → NotesRange (left_out rules old.due there) old.losses new.losses → PutsFrame contents rules old new file file there
  frame_left_out new file other due waiting md5 notes = record {
    blocks = [];
    lost = left_out rules old.due there ∷ [];
    gives = inr (record { none = refl; same = due }, record { not_kept = other; lost_is = refl });
    same_waiting = waiting;
    puts = puts_none file;
    notes = notes;
    hashes = subst (λ (m : Option Md5). HashesGiven rules.info.bits_per_sample (left_out rules old.due there ∷ []) [] old.md5 m) (sym md5) (given_left_out rules old.due there old.md5);
  }

module _ {W : Type 0} (contents : W → Option (List ℕ)) (rules : Rules) (there : FrameThere) (gap : ℕ) (due : Due) (ahead : List FrameThere) (at : IsGapAmong rules due there ahead (Some gap)) where
  -- what it gives
  given : GivesFrame rules due there ahead (gap_blocks rules due (due.sample + gap) ++ block_view there.frame.block ∷ []) (gap_ranges due (due.sample + gap) there.start) (due_after due gap there)
  given = record {
    gap = gap;
    kept = at.0;
    time_is = at.1;
    blocks_are = refl;
    lost_are = refl;
    next_is = refl;
  }

  -- silence that wasn't written
  pub gap_before_stops : (before after : WavWriter W) (e : Error) → StopsWriting (gap_blocks rules due (due.sample + gap)) e before after → StopsAtFrame rules due before after there ahead e
  gap_before_stops before after e stops = (gap_blocks rules due (due.sample + gap) ++ block_view there.frame.block ∷ [], gap_ranges due (due.sample + gap) there.start, due_after due gap there, given, stops_before (gap_blocks rules due (due.sample + gap)) (block_view there.frame.block ∷ []) before after e stops)

  -- a block that wasn't written
  pub frame_stops : (before mid after : WavWriter W) (e : Error) → PutsSamples contents (gap_blocks rules due (due.sample + gap)) before mid → KeepsRoom before mid → StopsWriting (block_view there.frame.block ∷ []) e mid after → StopsAtFrame rules due before after there ahead e
  frame_stops before mid after e puts keeps stops = (gap_blocks rules due (due.sample + gap) ++ block_view there.frame.block ∷ [], gap_ranges due (due.sample + gap) there.start, due_after due gap there, given, stops_after (gap_blocks rules due (due.sample + gap)) (block_view there.frame.block ∷ []) before mid after e puts keeps stops)

  -- the block and what is missing before it were written
  pub placed : (old mid new : Rescue) (before between after : WavWriter W) → old.due ≡ due → waiting_frames old.waiting ≡ ahead → waiting_frames new.waiting ≡ waiting_frames mid.waiting → new.due ≡ due_after due gap there → new.losses ≡ mid.losses → PutsGap contents rules old mid before between (due.sample + gap) there.start → PutsSamples contents (block_view there.frame.block ∷ []) between after
      → HashesToo rules.info.bits_per_sample there.frame.block mid.md5 new.md5 → PutsFrame contents rules old new before after there
  placed old mid new before between after is waits waiting next losses puts block hashes = record {
    blocks = gap_blocks rules due (due.sample + gap) ++ block_view there.frame.block ∷ [];
    lost = gap_ranges due (due.sample + gap) there.start;
    gives = inl (subst (λ (l : List FrameThere). GivesFrame rules old.due there l (gap_blocks rules due (due.sample + gap) ++ block_view there.frame.block ∷ []) (gap_ranges due (due.sample + gap) there.start) new.due) (sym waits) (subst (λ (d : Due). GivesFrame rules old.due there ahead (gap_blocks rules due (due.sample + gap) ++ block_view there.frame.block ∷ []) (gap_ranges due (due.sample + gap) there.start) d) (sym next) (subst (λ (d : Due). GivesFrame rules d there ahead (gap_blocks rules due (due.sample + gap) ++ block_view there.frame.block ∷ []) (gap_ranges due (due.sample + gap) there.start) (due_after due gap there)) (sym is) given)));
    same_waiting = waiting ∙ puts.same_waiting;
    puts = puts_both (subst (λ (d : Due). PutsSamples contents (gap_blocks rules d (due.sample + gap)) before between) is puts.puts) block;
    notes = subst (λ (l : Losses). NotesRanges (gap_ranges due (due.sample + gap) there.start) old.losses l) (sym losses) (subst (λ (d : Due). NotesRanges (gap_ranges d (due.sample + gap) there.start) old.losses mid.losses) is puts.notes);
    hashes = subst (λ (l : List LostRange). HashesGiven rules.info.bits_per_sample l (gap_blocks rules due (due.sample + gap) ++ block_view there.frame.block ∷ []) old.md5 new.md5) (append-nil (gap_ranges due (due.sample + gap) there.start))
        (given_both (subst (λ (d : Due). HashesGiven rules.info.bits_per_sample (gap_ranges d (due.sample + gap) there.start) (gap_blocks rules d (due.sample + gap)) old.md5 mid.md5) is puts.hashes) (given_block there.frame.block mid.md5 new.md5 hashes));
  }

-- ---- samples that fit

zero_fits : (n : ℕ) → FitsIn n (pos 0)
zero_fits n = pow_pos (n - 1)

sample_fits : (n : ℕ) (c : List ℤ) (i : ℕ) → All (FitsIn n) c → FitsIn n (get_or c i (pos 0))
sample_fits n [] i h = zero_fits n
sample_fits n (x ∷ c) zero h = All-head (FitsIn n) x c h
sample_fits n (x ∷ c) (suc i) h = sample_fits n c i (All-tail (FitsIn n) x c h)

fit_at : (n : ℕ) (channels : List (List ℤ)) (i : ℕ) → All (All (FitsIn n)) channels → All (FitsIn n) (samples_at channels i)
fit_at n [] i h = All-nil (FitsIn n)
fit_at n (c ∷ channels) i h = All-cons (FitsIn n) (get_or c i (pos 0)) (samples_at channels i) (sample_fits n c i (All-head (All (FitsIn n)) c channels h)) (fit_at n channels i (All-tail (All (FitsIn n)) c channels h))

all_flat : {X A : Type 0} (P : A → Type 0) (f : X → List A) → ((x : X) → All P (f x)) → (xs : List X) → All P (flat_map f xs)
all_flat P f h [] = All-nil P
all_flat P f h (x ∷ xs) = subst (All P) (sym (flat_map-cons f x xs)) (All-append P (f x) (flat_map f xs) (h x) (all_flat P f h xs))

pub all_fit : (n : ℕ) (channels : List (List ℤ)) → All (All (FitsIn n)) channels → All (FitsIn n) (interleave channels)
all_fit n channels h = all_flat (FitsIn n) (samples_at channels) (λ i. fit_at n channels i h) (range_with_len 0 (duration_of channels))

pub same_file : {W : Type 0} (info : StreamInfo) (before after : WavWriter W) → SameHeader before after → IsFileOf info before → IsFileOf info after
same_file info before after same is = record {
  channels_are = ap (λ (l : Layout). l.channels) same.layout_is ∙ is.channels_are;
  valid_bits_are = ap (λ (l : Layout). l.valid_bits) same.layout_is ∙ is.valid_bits_are;
}

-- why a block wasn't written
pub block_stops : {W : Type 0} (contents : W → Option (List ℕ)) (info : StreamInfo) (block : BlockValue) (before after : WavWriter W) → IsFileOf info before → length block.channels ≡ info.channels → SamplesFit block before → (e : Error) → ExplainsBlockError block before e
    → (IsErrAnd (let r : Result (Unit {0}) Error = Err e in r) IsMemory → HasRoomFor (length (interleave block.channels)) before → ⊥) → (after.written ≡ before.written) × BlockErrorKeeps contents block e before after → StopsWriting (block_view block ∷ []) e before after
block_stops contents info block before after is channels fit TooLong explains room keeps = subst (λ (s : List ℤ). max_data_size < before.written + length (packed_samples before.layout.valid_bits s)) (sym (append-nil (interleave block.channels))) explains
block_stops contents info block before after is channels fit (Output cause) explains room keeps = keeps.1.1
block_stops contents info block before after is channels fit (Claxon cause) explains room keeps = elim explains [ inl m ↦ (m, record { before = []; block = block_view block; after = []; is_there = refl; full = room m }) | inr f ↦ absurd f ]
block_stops contents info block before after is channels fit OtherChannels explains room keeps = explains (channels ∙ sym is.channels_are)
block_stops contents info block before after is channels fit WideSample explains room keeps = explains fit
block_stops contents info block before after is channels fit Unsupported32Bit explains room keeps = absurd (elim explains [ inl m ↦ m | inr f ↦ f ])
block_stops contents info block before after is channels fit SameFile explains room keeps = elim explains [ inl m ↦ m | inr f ↦ f ]
block_stops contents info block before after is channels fit Exists explains room keeps = elim explains [ inl m ↦ m | inr f ↦ f ]
