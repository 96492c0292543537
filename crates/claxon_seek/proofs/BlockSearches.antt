-- A frame with a sample at a position, and its block.
use Rattle.std.proofs.Common.{◌≡◌, ℕ, ◌≤◌, List, [], drop, length, Option, None, Some, refl, sym, ap, subst, append-nil, arith, inl, inr}
use Rattle.std.specs.Prelude.{Ok, Err}
use Rattle.std.proofs.lemmas.Bool.{cases_lt}
use Rattle.claxon.specs.Block.{BlockValue}
use Rattle.claxon.specs.BlockInfos.{BlockInfo}
use Rattle.claxon.specs.Errors.{Error}
use Rattle.claxon.specs.Errors.TheVariants.{OutOfMemory}
use Rattle.claxon.specs.Promises.{IsOutOfMemory}
use Rattle.claxon.specs.StreamInfos.{StreamInfo}
use Rattle.claxon_seek.specs.Find.{BeginsWithFrame, FindGives, FrameIsAtStart, WantedFrame, WantedHeader, WantedHeaderAtStart, known_format}
use Rattle.claxon_seek.specs.Seek.{SeekGives, found_at, stopped_at}
use Rattle.claxon_seek.specs.SeekBlock.{BlockThere, searched}
use Rattle.claxon_seek.specs.declared.at_start.HeaderInBytes.{HeaderInBytes}
use Rattle.claxon_seek.specs.declared.find.FrameThere.{FrameThere}
use Rattle.claxon_seek.specs.declared.find.FrameThere.TheVariants.{CutFrame, Faulty, Whole}
use Rattle.claxon_seek.specs.declared.find.HeaderThere.{HeaderThere}
use Rattle.claxon_seek.specs.declared.find.HeaderThere.TheVariants.{CutHeader, NotWanted, Wanted}
use Rattle.claxon_seek.specs.declared.search.BlockSearch.{BlockSearch}
use Rattle.claxon_seek.specs.declared.search.BlockSearch.TheVariants.{Found, NotFound, OverBudget}
use Rattle.claxon_seek.specs.declared.search.FoundBlock.{FoundBlock}
use Rattle.claxon_seek.proofs.Searches.{frame_is_wanted, frame_of_wanted, header_longer, none_at_end, one_more, whole_there}

-- a search for the first frame with the sample
module _ (known : Option StreamInfo) (bytes : List ℕ) (first sample budget left : ℕ) where
  -- that one will do, unless the search stopped before it
  pub first_will_do : (x : BlockSearch) → ((to : ℕ) → x ≡ OverBudget to → ⊥) → FindGives known (Some sample) bytes first budget (searched (Ok x)) left → SeekGives known bytes first sample budget (searched (Ok x))
  first_will_do (Found found) other g = (g.0, g.1)
  first_will_do (NotFound undecided) other g = (g.0, (left, g.1), (g.2, g.3, g.4))
  first_will_do (OverBudget to) other g = absurd (other to refl)

  pub first_refused : (e : Error) → FindGives known (Some sample) bytes first budget (searched (Err e)) left → SeekGives known bytes first sample budget (searched (Err e))
  first_refused e g = (g.0, (g.1.0, g.1.1, g.1.2, g.1.3))

module _ (known : Option StreamInfo) (bytes : List ℕ) (at sample : ℕ) where
  -- no such header
  pub no_header_there : (h : HeaderThere) → ((header : HeaderInBytes) → h ≡ Wanted header → ⊥) → WantedHeaderAtStart known (Some sample) (drop at bytes) h → BlockThere known bytes at sample (Ok None)
  no_header_there (Wanted header) other there = absurd (other header refl)
  no_header_there NotWanted other there = λ info frame. there [] info (header_longer known (Some sample) (drop at bytes) [] info frame.wanted)
  no_header_there CutHeader other there = λ info frame. there.0 info frame.wanted

  -- no frame
  pub no_frame_there : (f : FrameThere) → ((len : ℕ) (block : BlockValue) → f ≡ Whole len block → ⊥) → FrameIsAtStart known (drop at bytes) (Ok f) → BlockThere known bytes at sample (Ok None)
  no_frame_there (Whole len block) other there = absurd (other len block refl)
  no_frame_there (Faulty len) other there = λ info frame. there.0 [] (subst (BeginsWithFrame (known_format known)) (sym (append-nil (drop at bytes))) (frame_of_wanted known (Some sample) (drop at bytes) info frame))
  no_frame_there CutFrame other there = λ info frame. there.0 (frame_of_wanted known (Some sample) (drop at bytes) info frame)

  -- a frame
  pub block_is_there : (info : BlockInfo) (len : ℕ) (block : BlockValue) → WantedHeader known (Some sample) (drop at bytes) info → FrameIsAtStart known (drop at bytes) (Ok (Whole len block))
      → BlockThere known bytes at sample (Ok (Some (record { frame = record { position = at; block = info }; len = len; block = block })))
  block_is_there info len block wanted h = (refl, frame_is_wanted known (Some sample) (drop at bytes) info wanted (whole_there known (drop at bytes) len block h), h)

  -- memory was refused
  pub refused_there : (info : BlockInfo) (e : Error) → WantedHeader known (Some sample) (drop at bytes) info → FrameIsAtStart known (drop at bytes) (Err e) → BlockThere known bytes at sample (Err e)
  refused_there info e wanted h = let is : e ≡ OutOfMemory = cc in (ap (λ (x : Error). Err x) is, (info, wanted))

  -- it begins before the end
  pub header_is_inside : (info : BlockInfo) → WantedHeader known (Some sample) (drop at bytes) info → at ≤ length bytes
  header_is_inside info wanted = elim (cases_lt (length bytes) at) [
    | inl lt ↦ absurd (none_at_end known (Some sample) bytes at info (omega (arith, lt)) wanted)
    | inr le ↦ le
  ]

  pub frame_is_inside : (info : BlockInfo) → WantedFrame known (Some sample) (drop at bytes) info → at ≤ length bytes
  frame_is_inside info frame = header_is_inside info frame.wanted

  module _ (first budget : ℕ) (after : first ≤ at) where
    pub gives_there : (found : FoundBlock) → BlockThere known bytes at sample (Ok (Some found)) → SeekGives known bytes first sample budget (Ok (found_at found.frame))
    gives_there found there = (subst (λ (n : ℕ). first ≤ n) (sym there.0) after, subst (λ (n : ℕ). WantedFrame known (Some sample) (drop n bytes) found.frame.block) (sym there.0) there.1)

    pub memory_there : (e : Error) → BlockThere known bytes at sample (Err e) → SeekGives known bytes first sample budget (Err e)
    memory_there e there = (ap (λ (x : Error). Err x) (memory_is e there.0), (at, there.1.0, after, there.1.1))
      where
        memory_is : (e : Error) → IsOutOfMemory {A = Option FoundBlock} (Err e) → e ≡ OutOfMemory
        memory_is e is = cc

  -- a search stopped there, where no frame begins
  pub stopped_there : (first budget left : ℕ) → FindGives known (Some sample) bytes first budget (Ok (stopped_at at)) left → BlockThere known bytes at sample (Ok None) → SeekGives known bytes first sample budget (Ok (stopped_at at))
  stopped_there first budget left g none = (one_more known (Some sample) bytes first budget bytes at g.0 none, g.1)
