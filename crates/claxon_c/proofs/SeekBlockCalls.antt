-- What the call returns that seeks to a sample and decodes its block.
use Rattle.std.proofs.Common.{◌≡◌, inl, inr, ℕ, ℤ, ◌+◌, ◌*◌, ◌<◌, ◌≤◌, List, drop, length, Option, Some, refl, sym, ap, subst, arith, length-append}
use Rattle.std.proofs.lemmas.List.{length-drop}
use Rattle.claxon.specs.FrameReader.{block_view}
use Rattle.claxon.specs.StreamInfos.{StreamInfo}
use Rattle.claxon.specs.Streams.{duration_of}
use Rattle.claxon_seek.specs.Find.{WantedFrame}
use Rattle.claxon_seek.specs.SeekBlock.{HasBlock}
use Rattle.claxon_seek.specs.declared.search.FoundBlock.{FoundBlock}
use Rattle.claxon_seek.proofs.BlockSearches.{frame_is_inside}
use Rattle.claxon_c.specs.declared.heads.ClaxonInfo.{ClaxonInfo}
use Rattle.claxon_c.specs.declared.next_block.ClaxonBlock.{ClaxonBlock}
use Rattle.claxon_c.specs.Info.{known_info}
use Rattle.claxon_c.specs.NextBlock.{InterleavedArePut, ShowsInfo}
use Rattle.claxon_c.specs.Seek.{CSeekBlockIsComplete, CSeekBlockIsSound, CSeekBlockIsTooLarge, CSeekNoMoreFitsBudget, CSeekNoMoreIsNone, CSeekNoneIsNoMore, CSeekOutOfMemoryAfterHeader, CSeekStopsOverBudget, IsGiven, IsSeekBlockStatus, SeekBlockIsKept, ShowsFrame}
use Rattle.claxon_c.specs.Status.{buffer_too_small, ok}
use Rattle.claxon_c.proofs.BlockCalls.{says_block}
use Rattle.claxon_c.proofs.SeekCalls.{CSeekPromises}

-- all clauses of it
pub record CSeekBlockPromises (info : ClaxonInfo) (bytes : List ℕ) (sample budget status from to : ℕ) (block shown : ClaxonBlock) (old new : List ℤ) : Type 0 where
  pub is_sound : CSeekBlockIsSound info bytes sample status to shown old new
  pub is_too_large : CSeekBlockIsTooLarge info bytes sample status to shown (length old)
  pub is_complete : CSeekBlockIsComplete info bytes sample status
  pub no_more_is_none : CSeekNoMoreIsNone info bytes sample status
  pub none_is_no_more : CSeekNoneIsNoMore info bytes sample status
  pub is_seek_block_status : IsSeekBlockStatus status
  pub stops_over_budget : CSeekStopsOverBudget info bytes sample status budget
  pub no_more_fits_budget : CSeekNoMoreFitsBudget info bytes sample status budget
  pub out_of_memory_after_header : CSeekOutOfMemoryAfterHeader info bytes sample status
  pub is_kept : SeekBlockIsKept status from to block shown old new

-- a frame that is found
module _ (known : Option StreamInfo) (bytes : List ℕ) (sample : ℕ) (found : FoundBlock) (wanted : WantedFrame known (Some sample) (drop found.frame.position bytes) found.frame.block) (there : HasBlock known bytes found) where
  -- its header says how large its block is
  says_size : (length found.block.channels ≡ found.frame.block.channels) × (duration_of found.block.channels ≡ found.frame.block.duration)
  says_size =
      let k = says_block _ (drop found.frame.position bytes) found.frame.block (block_view found.block) wanted.wanted.header (there.0, there.1, there.2, there.3) in
      (sym k.channels, sym k.duration_is)

  pub channels_said : length found.block.channels ≡ found.frame.block.channels
  channels_said = says_size.0

  pub duration_said : duration_of found.block.channels ≡ found.frame.block.duration
  duration_said = says_size.1

  -- it ends before the bytes do
  pub ends_inside : found.frame.position + found.len ≤ length bytes
  ends_inside =
      let inside = frame_is_inside known bytes found.frame.position sample found.frame.block wanted in
      omega (arith, inside, there.4, ap length there.3, length-append there.0 there.1, length-drop found.frame.position bytes)

module _ (info : ClaxonInfo) (bytes : List ℕ) (sample budget from : ℕ) (block : ClaxonBlock) (old : List ℤ) where
  -- another status than those of a frame
  pub nothing_given : (status : ℕ) → (status ≡ ok → ⊥) → (status ≡ buffer_too_small → ⊥) → CSeekPromises info bytes sample budget status from from block block → CSeekBlockPromises info bytes sample budget status from from block block old old
  nothing_given status not_ok not_small k = record {
    is_sound = λ is. absurd (not_ok is);
    is_too_large = λ is. absurd (not_small is);
    is_complete = λ n said after frame. elim (k.is_complete n said after frame) [ inl is ↦ absurd (not_ok is) | inr up ↦ inr up ];
    no_more_is_none = k.no_more_is_none;
    none_is_no_more = k.none_is_no_more;
    is_seek_block_status = inl k.is_search_status;
    stops_over_budget = k.stops_over_budget;
    no_more_fits_budget = k.no_more_fits_budget;
    out_of_memory_after_header = k.out_of_memory_after_header;
    is_kept = record { frame = λ other. (refl, refl); samples = λ other. refl };
  }

  module _ (found : FoundBlock) (after : info.first_frame ≤ found.frame.position) (wanted : WantedFrame (known_info info) (Some sample) (drop found.frame.position bytes) found.frame.block) (there : HasBlock (known_info info) bytes found)
      (shown : ClaxonBlock) (new : List ℤ) where
    abbrev rest : List ℕ
    rest = drop found.frame.position bytes

    abbrev Promised : ℕ → ℕ → Type 0
    Promised status to = CSeekBlockPromises info bytes sample budget status from to block shown old new

    shows_frame : ShowsInfo found.frame.block shown → ShowsFrame info (Some sample) rest shown
    shows_frame shows = record { said = found.frame.block; frame = wanted; shows = shows }

    -- its samples are stored
    stored : (to : ℕ) → ShowsInfo found.frame.block shown → to ≡ found.frame.position + found.len → length found.block.channels * duration_of found.block.channels ≤ length old → InterleavedArePut found.block.channels old new → Promised ok to
    stored to shows is fits put = record {
      is_sound = λ q. record {
        at = found.frame.position;
        after_first = after;
        shows = shows_frame shows;
        block = block_view found.block;
        count = found.len;
        frame = there;
        after = is;
        fits = fits;
        samples = put;
      };
      is_too_large = λ q. absurd cc;
      is_complete = λ n said later frame. inl (inl refl);
      no_more_is_none = λ q. absurd cc;
      none_is_no_more = λ none. absurd (none found.frame.position after found.frame.block wanted);
      is_seek_block_status = inl (inl refl);
      stops_over_budget = λ q. absurd cc;
      no_more_fits_budget = λ q. absurd cc;
      out_of_memory_after_header = λ q. absurd cc;
      is_kept = record { frame = λ other. absurd (other (inl refl)); samples = λ other. absurd (other refl) };
    }

    -- they don't fit
    too_large : (to : ℕ) → ShowsInfo found.frame.block shown → to ≡ found.frame.position → length old < found.frame.block.channels * found.frame.block.duration → new ≡ old → Promised buffer_too_small to
    too_large to shows is larger same = record {
      is_sound = λ q. absurd cc;
      is_too_large = λ q. (
        subst (λ (n : ℕ). info.first_frame ≤ n) (sym is) after,
        subst (λ (n : ℕ). ShowsFrame info (Some sample) (drop n bytes) shown) (sym is) (shows_frame shows),
        rw (shows.channels, shows.duration_is) larger,
      );
      is_complete = λ n said later frame. inl (inr refl);
      no_more_is_none = λ q. absurd cc;
      none_is_no_more = λ none. absurd (none found.frame.position after found.frame.block wanted);
      is_seek_block_status = inr refl;
      stops_over_budget = λ q. absurd cc;
      no_more_fits_budget = λ q. absurd cc;
      out_of_memory_after_header = λ q. absurd cc;
      is_kept = record { frame = λ other. absurd (other (inr refl)); samples = λ other. same };
    }

    pub block_given : (status to : ℕ) → IsGiven found status to shown old new → Promised status to
    block_given status to given = elim given.fits_or_not [
      | inl k ↦ subst (λ (s : ℕ). Promised s to) (sym k.0) (stored to given.shows k.1 k.2 k.3)
      | inr k ↦ subst (λ (s : ℕ). Promised s to) (sym k.0) (too_large to given.shows k.1 k.2 k.3)
    ]
