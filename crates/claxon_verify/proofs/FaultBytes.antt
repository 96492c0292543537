-- The first bytes of a fault.
use Rattle.std.proofs.Common.{◌≡◌, inl, inr, ℕ, ◌*◌, ◌<◌, ◌≤◌, List, ◌∷◌, ◌++◌, length, take, drop, refl, sym, ap, subst, ◌∙◌, arith}
use Rattle.std.proofs.lemmas.Bool.{cases_lt}
use Rattle.std.proofs.lemmas.List.{length-take, take-append-drop, take-append-le, take_at}
use Rattle.std.proofs.lemmas.List.Elements.{All-take}
use Rattle.claxon.specs.Bits.{bits_of}
use Rattle.claxon.proofs.Bytes.{bits_of-append, byte_split, length-bits_of}
use Rattle.claxon_blocks.specs.FirstBytes.{AreFirst, kept_of}
use Rattle.claxon_blocks.specs.declared.frames.FrameError.{FrameError}
use Rattle.claxon_blocks.specs.declared.frames.first_bytes.FirstBytes.{FirstBytes}
use Rattle.claxon_verify.specs.Trailing.{AreBytes, AreFirstTwo, IsOfFault, IsOfTail, KeepsAFrame, KeepsTwo}
use Rattle.claxon_verify.specs.declared.trailing.BytesAfter.{BytesAfter}
use Rattle.claxon_verify.proofs.SameBytes.{Byte}
use Rattle.claxon_verify.proofs.Tails.{any_after}
use Rattle.claxon.specs.Error.{IsFault}
use Rattle.claxon.specs.Fault.{SyncMissing}

-- ---- two bytes

two_same : (xs ys : List ℕ) → bits_of xs ≡ bits_of ys → 2 ≤ length ys → (2 ≤ length xs) × (bits_of (take 2 ys) ≡ bits_of (take 2 xs))
two_same xs ys e two =
    let long : length (take 2 ys) ≡ 2 = omega (arith, two, length-take 2 ys) in
    let both = e ∙ ap bits_of (sym (take-append-drop 2 ys)) ∙ bits_of-append (take 2 ys) (drop 2 ys) in
    let split = byte_split xs (bits_of (take 2 ys)) (bits_of (drop 2 ys)) 2 both (length-bits_of (take 2 ys) ∙ ap (λ (n : ℕ). 8 * n) long) in
    (split.within, sym split.front)

-- Where two bytes or more are kept, the first two stand there.
two_first : (first : FirstBytes) (s n : List ℕ) → AreFirst first s n → 2 ≤ length (kept_of first) → AreFirstTwo first (take 2 s)
two_first first s n h two =
    let u = h.begin.0 in
    let same = two_same u (kept_of first) h.begin.2 two in
    let some = same.0 in
    let front : take 2 s ≡ take 2 u = ap (take 2) h.begin.3 ∙ take-append-le 2 u h.begin.1 some in
    let a : length (take 2 s) ≡ 2 = ap length front ∙ omega (arith, some, length-take 2 u) in
    (a, two, same.1 ∙ ap bits_of (sym front))

-- ---- a fault

module _ (fault : FrameError) (old new : BytesAfter) (more n : List ℕ) (bytes : AreBytes (more ++ n)) (t : List ℕ) (tail : IsOfTail t old) where
  -- two were kept
  of_two : KeepsTwo fault.first old new → AreFirst fault.first (more ++ n) n → 2 ≤ length (kept_of fault.first) → (length (take 2 (more ++ n)) ≡ 2) × IsOfTail (t ++ take 2 (more ++ n)) new
  of_two two first some =
      let k = two_first fault.first (more ++ n) n first some in
      (k.0, two (take 2 (more ++ n)) (All-take Byte 2 (more ++ n) bytes) k t tail)

  pub no_sync_kept : KeepsTwo fault.first old new → (length (kept_of fault.first) < 2 → KeepsAFrame old new) → IsFault SyncMissing fault.error → IsOfFault fault more n → IsOfTail (t ++ more) new
  no_sync_kept two fewer says (inl (same, long, first)) = elim (cases_lt (length (kept_of fault.first)) 2) [
    | inl few ↦ absurd (let k = first.enough more refl (omega (arith, long)) in let i = length-take 16 more in omega (arith, few, k, i, long))
    | inr some ↦ (let k = of_two two first some in subst (λ (s : List ℕ). IsOfTail (t ++ s) new) (take_at more n 2 long) k.1)
  ]
  no_sync_kept two fewer says (inr (others, is, first)) = elim (cases_lt (length (kept_of fault.first)) 2) [
    | inl few ↦ subst (λ (s : List ℕ). IsOfTail (t ++ s) new) (sym is) (fewer few others t tail)
    | inr some ↦ (
        let k = of_two two (first says) some in
        let front : take 2 (more ++ n) ≡ 255 ∷ take 1 (others ++ n) = ap (λ (s : List ℕ). take 2 (s ++ n)) is in
        subst (λ (s : List ℕ). IsOfTail (t ++ s) new) (sym is) (any_after t (take 1 (others ++ n)) others new (subst (λ (s : List ℕ). IsOfTail (t ++ s) new) front k.1))
        )
  ]

  pub others_kept : KeepsAFrame old new → (IsFault SyncMissing fault.error → ⊥) → IsOfFault fault more n → IsOfTail (t ++ more) new
  others_kept frame not (inl (same, long, first)) = absurd (not same)
  others_kept frame not (inr (others, is, first)) = subst (λ (s : List ℕ). IsOfTail (t ++ s) new) (sym is) (frame others t tail)
