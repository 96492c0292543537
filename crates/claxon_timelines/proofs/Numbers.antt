-- Frames in order, by their numbers.
use Rattle.std.proofs.Common.{◌≡◌, inl, inr, ℕ, zero, suc, ◌<◌, Bool, true, false, List, [], ◌∷◌, ◌++◌, length, refl, sym, ap, subst, ◌∙◌, append-nil, append_assoc, arith}
use Rattle.std.specs.Prelude.{◌⊎◌, ◌≢◌, Some, slice_get, take}
use Rattle.std.specs.List.{sum_by}
use Rattle.std.proofs.lemmas.Bool.{false≢true}
use Rattle.std.proofs.lemmas.Option.{slice_get_within}
use Rattle.claxon.specs.BlockInfos.{BlockInfo}
use Rattle.claxon.specs.DecodedFrame.{FrameValue}
use Rattle.claxon.specs.Streaminfo.{Streaminfo}
use Rattle.claxon_stream_seek.specs.Timeline.{IsFixed, IsFrame, IsOfOldEncoder, IsVariable, Placed, begins_at}
use Rattle.claxon_verify.specs.RightStream.{AreInOrder, AreNextAfter, IsNextAfter, frame_duration, number_of, strategy_after}
use Rattle.claxon_timelines.proofs.PlacedFrames.{IsPlaceOf}

-- each frame is the next one after those before it
next_after : (info : Streaminfo) (before frames : List FrameValue) → AreNextAfter info before frames → (i : ℕ) (f : FrameValue) → slice_get frames i ≡ Some f → IsNextAfter info (before ++ take i frames) f
next_after info before [] next i f e = absurd cc
next_after info before (g ∷ frames) next zero f e =
    let same : g ≡ f = cc in
    subst (λ (z : List FrameValue). IsNextAfter info z f) (sym (append-nil before)) (subst (λ (z : FrameValue). IsNextAfter info before z) same next.0)
next_after info before (g ∷ frames) next (suc i) f e =
    subst (λ (z : List FrameValue). IsNextAfter info z f) (append_assoc before (g ∷ []) (take i frames)) (next_after info (before ++ g ∷ []) frames next.1 i f e)

taken : {X : Type 0} (xs : List X) (i : ℕ) → i < length xs → length (take i xs) ≡ i
taken xs zero lt = refl
taken [] (suc i) lt = absurd (omega (arith, lt))
taken (x ∷ xs) (suc i) lt = ap suc (taken xs i (omega (arith, lt)))

-- the blocking strategy and the coded number of a frame, where the first frame has this strategy
abbrev Numbered : List FrameValue → Bool → ℕ → BlockInfo → Type 0
Numbered frames v i info = (info.is_variable ≡ v) × (info.number ≡ number_of v (take i frames))

numbered : (info : Streaminfo) (first : FrameValue) (frames : List FrameValue) → AreInOrder info (first ∷ frames) → (i : ℕ) (f : FrameValue) → slice_get (first ∷ frames) i ≡ Some f → Numbered (first ∷ frames) first.info.is_variable i f.info
numbered info first frames next zero f e =
    let same : first ≡ f = cc in
    let none = none_before first.info.is_variable in
    subst (λ (z : FrameValue). Numbered (first ∷ frames) first.info.is_variable zero z.info) same (refl, next.0.2 ∙ sym none)
  where
    none_before : (v : Bool) → number_of v [] ≡ 0
    none_before true = refl
    none_before false = refl
numbered info first frames next (suc i) f e =
    let n = next_after info [] (first ∷ frames) next (suc i) f e in
    (n.1, n.2)

-- frame i has the number that its strategy says
at_place : (info : Streaminfo) (first : FrameValue) (frames : List FrameValue) (placed : List Placed) → AreInOrder info (first ∷ frames) → ((i : ℕ) (x : Placed) → IsFrame placed i x → IsPlaceOf (first ∷ frames) i x)
    → (v : Bool) → first.info.is_variable ≡ v → (i : ℕ) (x : Placed) → IsFrame placed i x → Numbered (first ∷ frames) v i x.info
at_place info first frames placed next places v e i x f =
    let p = places i x f in
    subst (λ (b : Bool). Numbered (first ∷ frames) b i x.info) e
    (subst (λ (z : BlockInfo). Numbered (first ∷ frames) first.info.is_variable i z) (sym p.info) (numbered info first frames next i p.frame p.is))

-- by the number of frames, where the block size isn't variable
pub fixed_numbers : (info : Streaminfo) (frames : List FrameValue) (placed : List Placed) → AreInOrder info frames → strategy_after frames ≢ Some true
    → ((i : ℕ) (x : Placed) → IsFrame placed i x → IsPlaceOf frames i x) → IsFixed placed
fixed_numbers info [] placed next fixed places i x e = let p = places i x e in let z = p.is in absurd cc
fixed_numbers info (first ∷ frames) placed next fixed places i x e = go first.info.is_variable refl
  where
    go : (v : Bool) → first.info.is_variable ≡ v → (x.info.is_variable ≡ false) × (x.info.number ≡ i)
    go true v = absurd (fixed (ap Some v))
    go false v =
        let n = at_place info first frames placed next places false v i x e in
        let p = places i x e in
        (n.0, n.1 ∙ taken (first ∷ frames) i (slice_get_within (first ∷ frames) i p.frame p.is))

some_is : (b c : Bool) → Some b ≡ Some c → b ≡ c
some_is b c e = cc

-- they are numbered in one of these ways
pub numbers : (info : Streaminfo) (frames : List FrameValue) (placed : List Placed) → AreInOrder info frames
    → ((i : ℕ) (x : Placed) → IsFrame placed i x → IsPlaceOf frames i x) → ((i : ℕ) → begins_at placed i ≡ sum_by frame_duration (take i frames))
    → IsVariable placed ⊎ (IsOfOldEncoder placed ⊎ IsFixed placed)
numbers info [] placed next places begins = inr (inr (fixed_numbers info [] placed next (λ e. absurd cc) places))
numbers info (first ∷ frames) placed next places begins = go first.info.is_variable refl
  where
    go : (v : Bool) → first.info.is_variable ≡ v → IsVariable placed ⊎ (IsOfOldEncoder placed ⊎ IsFixed placed)
    go true v = inl (λ i x e. let n = at_place info first frames placed next places true v i x e in (n.0, n.1 ∙ sym (begins i)))
    go false v = inr (inr (fixed_numbers info (first ∷ frames) placed next (λ e. let z = sym v ∙ some_is first.info.is_variable true e in absurd (false≢true z)) places))
