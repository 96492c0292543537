-- The block sizes of frames, one after another.
use Rattle.std.proofs.Common.{◌≡◌, ℕ, Bool, true, false, List, [], ◌∷◌, ◌++◌, refl, sym, ap, ◌∙◌}
use Rattle.std.specs.Prelude.{◌==◌, Option, None, Some, if◌then◌else◌}
use Rattle.claxon.specs.BlockInfos.{BlockInfo}
use Rattle.claxon.specs.DecodedFrame.{FrameValue}
use Rattle.claxon_verify.specs.RightStream.{frame_duration}
use Rattle.claxon_verify.specs.Verify.{changed_size, sizes_from}
use Rattle.claxon_verify.specs.Walk.{AreSizesOf, differing_sizes, last_size, or_else}
use Rattle.claxon_report.specs.declared.report.BlockSizes.{BlockSizes}
use Rattle.claxon_verify.specs.declared.sizes.SizesSoFar.{SizesSoFar}

-- ---- one frame more

last_push : (first : FrameValue) (frames : List FrameValue) (frame : FrameValue) → last_size first (frames ++ frame ∷ []) ≡ frame_duration frame
last_push first [] frame = refl
last_push first (next ∷ frames) frame = last_push next frames frame

-- of a choice that begins alike
chosen : (b : Bool) (x y z : Option BlockSizes) (sizes : BlockSizes) → x ≡ or_else y z → (if b then x else Some sizes) ≡ or_else (if b then y else Some sizes) z
chosen true x y z sizes e = e
chosen false x y z sizes e = refl

sizes_push : (size : ℕ) (first : FrameValue) (frames : List FrameValue) (frame : FrameValue) → sizes_from size (first ∷ (frames ++ frame ∷ [])) ≡ or_else (sizes_from size (first ∷ frames)) (differing_sizes false size (last_size first frames))
sizes_push size first [] frame = refl
sizes_push size first (next ∷ frames) frame = chosen (frame_duration first == size) _ _ _ _ (sizes_push size next frames frame)

changed_push : (first : FrameValue) (frames : List FrameValue) (frame : FrameValue) → changed_size (first ∷ (frames ++ frame ∷ [])) ≡ or_else (changed_size (first ∷ frames)) (differing_sizes first.info.is_variable (frame_duration first) (last_size first frames))
changed_push first frames frame = go first.info.is_variable (sizes_from (frame_duration first) (first ∷ (frames ++ frame ∷ []))) (sizes_from (frame_duration first) (first ∷ frames)) (frame_duration first) (last_size first frames) (sizes_push (frame_duration first) first frames frame)
  where
    go : (b : Bool) (x y : Option BlockSizes) (size last : ℕ) → x ≡ or_else y (differing_sizes false size last) → (if b then (let o : Option BlockSizes = None in o) else x) ≡ or_else (if b then None else y) (differing_sizes b size last)
    go true x y size last e = refl
    go false x y size last e = e

no_change : (frame : FrameValue) → changed_size (frame ∷ []) ≡ None
no_change frame = go frame.info.is_variable
  where
    go : (b : Bool) → (if b then (let o : Option BlockSizes = None in o) else None) ≡ None
    go true = refl
    go false = refl

-- ---- the sizes so far

same_some : (n m : ℕ) → Some n ≡ Some m → n ≡ m
same_some n m e = cc

pub changed_of : (frames : List FrameValue) (sizes : SizesSoFar) → AreSizesOf frames sizes → sizes.changed ≡ changed_size frames
changed_of [] sizes are = are.1
changed_of (first ∷ frames) sizes are = are.3

module _ (header : BlockInfo) (duration : ℕ) (old new : SizesSoFar) (frame : FrameValue) (is : frame.info ≡ header) (long : frame_duration frame ≡ duration) where
  variable_is : header.is_variable ≡ frame.info.is_variable
  variable_is = ap (λ (h : BlockInfo). h.is_variable) (sym is)

  -- after no frame
  pub first_size : (frames : List FrameValue) → old.first ≡ None → new.first ≡ Some duration → new.is_variable ≡ header.is_variable → new.last ≡ duration → new.changed ≡ None → AreSizesOf frames old → AreSizesOf (frames ++ frame ∷ []) new
  first_size [] none first variable last changed are = (first ∙ ap (λ (n : ℕ). Some n) (sym long), variable ∙ variable_is, last ∙ sym long, changed ∙ sym (no_change frame))
  first_size (f ∷ frames) none first variable last changed are = absurd (let z : Some (frame_duration f) ≡ None = sym are.0 ∙ none in cc)

  -- after a frame
  pub next_size : (frames : List FrameValue) (size : ℕ) → old.first ≡ Some size → new.first ≡ Some size → new.is_variable ≡ old.is_variable → new.last ≡ duration → new.changed ≡ or_else old.changed (differing_sizes old.is_variable size old.last) → AreSizesOf frames old → AreSizesOf (frames ++ frame ∷ []) new
  next_size [] size some first variable last changed are = absurd (let z : Some size ≡ None = sym some ∙ are.0 in cc)
  next_size (f ∷ frames) size some first variable last changed are =
      let same : size ≡ frame_duration f = same_some size (frame_duration f) (sym some ∙ are.0) in
      let d : differing_sizes old.is_variable size old.last ≡ differing_sizes f.info.is_variable (frame_duration f) (last_size f frames) = ap (λ (b : Bool). differing_sizes b size old.last) are.1 ∙ ap (λ (n : ℕ). differing_sizes f.info.is_variable n old.last) same ∙ ap (differing_sizes f.info.is_variable (frame_duration f)) are.2 in (
        first ∙ sym some ∙ are.0,
        variable ∙ are.1,
        last ∙ sym long ∙ sym (last_push f frames frame),
        changed ∙ ap (λ (o : Option BlockSizes). or_else o (differing_sizes old.is_variable size old.last)) are.3 ∙ ap (or_else (changed_size (f ∷ frames))) d ∙ sym (changed_push f frames frame),
      )
