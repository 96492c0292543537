-- Frames whose blocks have one size.
use Rattle.std.proofs.Common.{◌≡◌, inr, ℕ, zero, suc, ◌+◌, ◌<◌, Bool, true, false, List, [], ◌∷◌, length, refl, sym, ap, ◌∙◌, arith}
use Rattle.std.specs.Prelude.{◌==◌, Some, None, if◌then◌else◌, slice_get}
use Rattle.std.proofs.lemmas.Bool.{eqb-true, false≢true}
use Rattle.claxon.specs.DecodedFrame.{FrameValue}
use Rattle.claxon.specs.MetadataBlock.{info_view}
use Rattle.claxon.specs.StreamInfos.{StreamInfo}
use Rattle.claxon.specs.Streaminfo.{Streaminfo}
use Rattle.claxon_stream_seek.specs.Timeline.{IsFrame, IsSteady, Placed}
use Rattle.claxon_verify.specs.RightStream.{AreInOrder, frame_duration}
use Rattle.claxon_verify.specs.Verify.{sizes_from}
use Rattle.claxon_timelines.specs.RightTimelines.{HasOneBlockSize}
use Rattle.claxon_timelines.proofs.Numbers.{fixed_numbers}
use Rattle.claxon_timelines.proofs.PlacedFrames.{IsPlaceOf}

some_none : {X : Type 0} (x : X) → Some x ≡ None → ⊥
some_none x e = absurd cc

-- all but the last have this size
of_one_size : (size : ℕ) (frames : List FrameValue) → sizes_from size frames ≡ None → (i : ℕ) (f : FrameValue) → slice_get frames i ≡ Some f → i + 1 < length frames → frame_duration f ≡ size
of_one_size size [] none i f e lt = absurd (omega (arith, lt))
of_one_size size (g ∷ []) none i f e lt = absurd (omega (arith, lt))
of_one_size size (g ∷ next ∷ frames) none i f e lt = go (λ rest i e lt. of_one_size size (next ∷ frames) rest i f e lt) (frame_duration g == size) refl none i e lt
  where
    go : (sizes_from size (next ∷ frames) ≡ None → (i : ℕ) → slice_get (next ∷ frames) i ≡ Some f → i + 1 < length (next ∷ frames) → frame_duration f ≡ size)
        → (b : Bool) → (frame_duration g == size) ≡ b → (if b then sizes_from size (next ∷ frames) else Some (record { first = size; other = frame_duration g })) ≡ None
        → (i : ℕ) → slice_get (g ∷ next ∷ frames) i ≡ Some f → i + 1 < length (g ∷ next ∷ frames) → frame_duration f ≡ size
    go later false is none i e lt = absurd (some_none _ none)
    go later true is none zero e lt = let same : g ≡ f = cc in sym (ap frame_duration same) ∙ eqb-true (frame_duration g) size is
    go later true is none (suc i) e lt = later none i e (omega (arith, lt))

sizes_of : (v : Bool) (size : ℕ) (frames : List FrameValue) → v ≡ false → (if v then None else sizes_from size frames) ≡ None → sizes_from size frames ≡ None
sizes_of false size frames e none = none
sizes_of true size frames e none = absurd (false≢true (sym e))

pub steady : (info : Streaminfo) (known : StreamInfo) (frames : List FrameValue) (placed : List Placed) → info_view known ≡ info → AreInOrder info frames → HasOneBlockSize info frames
    → ((i : ℕ) (x : Placed) → IsFrame placed i x → IsPlaceOf frames i x) → length placed ≡ length frames → IsSteady placed (Some known)
steady info known [] placed is next one places many = record {
  size = 0;
  same = λ i x e lt. absurd (omega (arith, lt, many));
  as_known = λ sizes. (inr (fixed_numbers info [] placed next one.fixed places), λ more. absurd (omega (arith, more, many)));
}
steady info known (first ∷ frames) placed is next one places many = record {
  size = frame_duration first;
  same = λ i x e lt. let p = places i x e in p.long ∙ of_one_size (frame_duration first) (first ∷ frames) sizes i p.frame p.is (omega (arith, lt, many));
  as_known = λ same. (
    inr (fixed_numbers info (first ∷ frames) placed next one.fixed places),
    λ more. ap (λ (j : Streaminfo). j.min_block_size) is ∙ sym (one.said (sym (ap (λ (j : Streaminfo). j.min_block_size) is) ∙ same ∙ ap (λ (j : Streaminfo). j.max_block_size) is) (omega (arith, more, many))),
  );
}
  where
    not_variable : first.info.is_variable ≡ false
    not_variable = go first.info.is_variable refl
      where
        go : (v : Bool) → first.info.is_variable ≡ v → first.info.is_variable ≡ false
        go true e = absurd (one.fixed (ap Some e))
        go false e = e

    sizes : sizes_from (frame_duration first) (first ∷ frames) ≡ None
    sizes = sizes_of first.info.is_variable (frame_duration first) (first ∷ frames) not_variable one.same
