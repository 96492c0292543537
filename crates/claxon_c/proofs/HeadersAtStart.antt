-- The header that bytes in memory begin with.
use Rattle.std.proofs.Common.{◌≡◌, ℕ, ◌*◌, ◌<◌, List, Option, None, Some, refl, sym, subst, ◌∙◌}
use Rattle.std.specs.Prelude.{Ok, Err}
use Rattle.claxon.specs.BlockInfo.{HeaderAnswer, HeaderOf, block_info}
use Rattle.claxon.specs.BlockInfos.{BlockInfo}
use Rattle.claxon.specs.Errors.{Error}
use Rattle.claxon.specs.Frame.{StreamFormat}
use Rattle.claxon.specs.FrameReader.{HeaderOfLargerBlock}
use Rattle.claxon.specs.Prefix.{BeginsWith}
use Rattle.claxon.proofs.BlockInfo.{headers_unambiguous}
use Rattle.claxon_seek.specs.AtStart.{HeaderAtStart}
use Rattle.claxon_c.specs.NextBlock.{HasLarger, HeaderOrNone}

module _ (stream : Option StreamFormat) (bytes : List ℕ) where
  -- what is said of a block there is said of it by each header
  pub same_said : (x y : BlockInfo) → BeginsWith (HeaderOf stream x) bytes → BeginsWith (HeaderOf stream y) bytes → x ≡ y
  same_said x y (t, m, c, e) (u, n, d, f) = ((headers_unambiguous stream).one_code x y t u m n c d (sym e ∙ f)).0

  -- an answer says whether there is one
  pub header_of_ok : (found : Option BlockInfo) → HeaderAtStart stream bytes (Ok found) → HeaderOrNone stream bytes found
  header_of_ok (Some info) h = h.sound
  header_of_ok None h = λ info begins. h.complete info begins

  pub no_header_of_err : (e : Error) → HeaderAtStart stream bytes (let r : HeaderAnswer = Err e in r) → HeaderOrNone stream bytes None
  no_header_of_err e h = λ info begins. h.complete info begins

  module _ (capacity : ℕ) where
    -- what the header of a larger block says
    pub larger_says : BeginsWith (HeaderOfLargerBlock stream capacity) bytes → (info : BlockInfo) × BeginsWith (HeaderOf stream info) bytes × (capacity < info.channels * info.duration)
    larger_says (t, rest, (h, code, larger), e) = (block_info stream h, (t, rest, (h, code, refl), e), larger)

    -- a header that says so is one
    pub says_larger : (info : BlockInfo) → BeginsWith (HeaderOf stream info) bytes → capacity < info.channels * info.duration → BeginsWith (HeaderOfLargerBlock stream capacity) bytes
    says_larger info (t, rest, (h, code, is), e) larger = (t, rest, (h, code, subst (λ (x : BlockInfo). capacity < x.channels * x.duration) is larger), e)

    -- there is none of a larger block
    pub not_larger_there : (header : Option BlockInfo) → HeaderOrNone stream bytes header → (HasLarger capacity header → ⊥) → BeginsWith (HeaderOfLargerBlock stream capacity) bytes → ⊥
    not_larger_there None none fits larger = let k = larger_says larger in none k.0 k.1
    not_larger_there (Some info) there fits larger =
        let k = larger_says larger in
        fits (subst (λ (x : BlockInfo). capacity < x.channels * x.duration) (same_said k.0 info k.1 there) k.2)
