-- Whole runs.
use Rattle.std.specs.Prelude.{Option, IfSome}
use Rattle.claxon_seek.proofs.Searches.{known_depth}
use Rattle.std.proofs.Common.{◌≡◌, inl, inr, ℕ, zero, suc, ◌+◌, ◌%◌, ◌^◌, ◌<◌, ◌≤◌, List, [], ◌∷◌, ◌++◌, length, drop, Some, refl, sym, ap, subst, ◌∙◌, arith, length-append}
use Rattle.std.proofs.lemmas.Bool.{cases_lt}
use Rattle.std.proofs.lemmas.List.{append_cancel_left, drop_at}
use Rattle.claxon.specs.DecodedFrame.{FrameValue, decoded_view}
use Rattle.claxon.specs.ShownHead.{HasBitDepth}
use Rattle.claxon.specs.StreamInfos.{StreamInfo}
use Rattle.claxon.proofs.DecodedFrames.{decoded_unambiguous}
use Rattle.claxon_seek.specs.Find.{known_format}
use Rattle.claxon_recovery.specs.AtStart.{BeginsWithStreamFrame}
use Rattle.claxon_recovery.specs.Parts.{IsDamage, IsFramePart, IsPart, NoFrames, after_part}
use Rattle.claxon_recovery.specs.Runs.{AreAnswered, AreFrameParts, AreFrames, AreJoined, AreParts, AreSearched, SameParts}
use Rattle.claxon_recovery.specs.declared.part.Damage.{Damage}
use Rattle.claxon_recovery.specs.declared.part.FrameThere.{FrameThere}
use Rattle.claxon_recovery.specs.declared.part.Part.{Part}
use Rattle.claxon_recovery.specs.declared.part.Part.TheVariants.{Frame as FramePart, Damage as DamagePart}
use Rattle.claxon_recovery.proofs.FoundFrames.{frame_begins, frame_has_bytes}

-- ---- positions

pub parts_join : (info : Option StreamInfo) (start : ℕ) (s : List ℕ) (parts : List Part) → start < 2 ^ 64 → AreParts info start s parts → AreJoined start parts ((start + length s) % 2 ^ 64)
parts_join info start s [] small is = (let n = ap length is in omega (arith, n, small))
parts_join info start s (FramePart there ∷ parts) small (m, is, rest) =
    let n : length s ≡ length is.bytes + length m = ap length is.joined ∙ length-append is.bytes m in
    let same : (there.end + length m) % 2 ^ 64 ≡ (start + length s) % 2 ^ 64 = (let e = is.end_is in omega (arith, n, e)) in
    (is.start_is, subst (AreJoined there.end parts) same (parts_join info there.end m parts (let e = is.end_is in omega (arith, e)) rest))
parts_join info start s (DamagePart damage ∷ parts) small (m, is, rest) =
    let n : length s ≡ length is.bytes + length m = ap length is.joined ∙ length-append is.bytes m in
    let same : (damage.end + length m) % 2 ^ 64 ≡ (start + length s) % 2 ^ 64 = (let e = is.end_is in omega (arith, n, e)) in
    (is.start_is, subst (AreJoined damage.end parts) same (parts_join info damage.end m parts (let e = is.end_is in omega (arith, e)) rest))

module _ (info : Option StreamInfo) where
  -- ---- frames alone

  none_left : (start : ℕ) (m : List ℕ) (part : Part) → IsPart info start [] m (Some part) → ⊥
  none_left start m (FramePart there) is = frame_has_bytes info (decoded_view there.frame) is.bytes is.frame (let n = ap length is.joined in omega (arith, n, length-append is.bytes m))
  none_left start m (DamagePart damage) is = let n = ap length is.joined in let some = is.some in absurd (omega (arith, n, some, length-append is.bytes m))

  pub frames_alone : (start : ℕ) (s : List ℕ) (values : List FrameValue) (parts : List Part) → AreFrames info values s → AreAnswered info start s parts → AreFrameParts values parts
  frames_alone start s [] [] frames is = tt
  frames_alone start s [] (part ∷ parts) frames (m, is, finds, rest) = absurd (none_left start m part (subst (λ (l : List ℕ). IsPart info start l m (Some part)) frames is))
  frames_alone start s (value ∷ values) [] (t, rest, code, joined, few, frames) is = absurd (frame_has_bytes info value t code (let n = ap length (sym joined ∙ is) in omega (arith, n, length-append t rest)))
  frames_alone start s (value ∷ values) (part ∷ parts) (t, rest, code, joined, few, frames) (m, is, finds, answered) =
      let found = finds value t rest code joined few in
      let next = after_part start (Some part) in
      (found.0, frames_alone next rest values parts frames (subst (λ (l : List ℕ). AreAnswered info next l parts) found.1 answered))

  -- ---- one run

  fewer_than_all : (s : List ℕ) (n unsearched : ℕ) → NoFrames info s n unsearched → unsearched ≤ n
  fewer_than_all s zero unsearched h = omega (arith, h)
  fewer_than_all s (suc n) unsearched (inl h) = (let k = fewer_than_all s n unsearched h.1 in omega (arith, k))
  fewer_than_all s (suc n) unsearched (inr (fewer, e, may, h)) = (let k = fewer_than_all s n fewer h in omega (arith, k, e))

  none_before : (s : List ℕ) (n unsearched at : ℕ) → unsearched ≡ 0 → NoFrames info s n unsearched → at < n → BeginsWithStreamFrame info (drop at s) → ⊥
  none_before s zero unsearched at e h before frame = absurd (omega (arith, before))
  none_before s (suc n) unsearched at e (inl h) before frame = elim (cases_lt at n) [
    | inl lt ↦ none_before s n unsearched at e h.1 lt frame
    | inr le ↦ (let same : at ≡ n = omega (arith, le, before) in h.0 (subst (λ (k : ℕ). BeginsWithStreamFrame info (drop k s)) same frame))
  ]
  none_before s (suc n) unsearched at e (inr (fewer, more, may, h)) before frame = absurd (omega (arith, e, more))

  module _ (depth : IfSome info HasBitDepth) (s : List ℕ) (few : length s < 2 ^ 64) (start : ℕ) where
    -- where each position was searched
    no_frames : (m : List ℕ) (damage : Damage) → damage.unsearched ≡ 0 → (is : IsDamage info start s m damage) → (at : ℕ) → at < length is.bytes → BeginsWithStreamFrame info (drop at s) → ⊥
    no_frames m damage e is at before frame =
        let all = fewer_than_all s (length is.bytes) is.unsearched is.none in
        let n = ap length is.joined in
        let same = is.unsearched_is in
        let zero : is.unsearched ≡ 0 = omega (arith, all, n, few, e, same, length-append is.bytes m) in
        none_before s (length is.bytes) is.unsearched at zero is.none before frame

    -- damage is no shorter than other damage
    no_shorter : (a b : Damage) (m q : List ℕ) (is : IsDamage info start s m a) (other : IsDamage info start s q b) → b.unsearched ≡ 0 → length is.bytes < length other.bytes → ⊥
    no_shorter a b m q is other e shorter =
        let after : drop (length is.bytes) s ≡ m = ap (drop (length is.bytes)) is.joined ∙ drop_at is.bytes m (length is.bytes) refl in
        elim is.next [
          | inl none ↦ (let x = ap length is.joined in let y = ap length other.joined in let z = ap length none in
              omega (arith, x, y, z, shorter, length-append is.bytes m, length-append other.bytes q))
          | inr frame ↦ no_frames q b e other (length is.bytes) shorter (subst (BeginsWithStreamFrame info) (sym after) frame)
        ]

    same_damage : (a b : Damage) (m q : List ℕ) (is : IsDamage info start s m a) (other : IsDamage info start s q b) → a.unsearched ≡ 0 → b.unsearched ≡ 0 → length is.bytes ≡ length other.bytes
    same_damage a b m q is other e f = elim (cases_lt (length is.bytes) (length other.bytes)) [
      | inl lt ↦ absurd (no_shorter a b m q is other f lt)
      | inr le ↦ elim (cases_lt (length other.bytes) (length is.bytes)) [
        | inl lt ↦ absurd (no_shorter b a q m other is e lt)
        | inr ge ↦ omega (arith, le, ge)
      ]
    ]

    same_rest : (a b : Damage) (m q : List ℕ) (is : IsDamage info start s m a) (other : IsDamage info start s q b) → a.unsearched ≡ 0 → b.unsearched ≡ 0 → m ≡ q
    same_rest a b m q is other e f =
        let n = same_damage a b m q is other e f in
        sym (drop_at is.bytes m (length is.bytes) refl) ∙ ap (drop (length is.bytes)) (sym is.joined ∙ other.joined) ∙ drop_at other.bytes q (length is.bytes) (sym n)

    not_both : (there : FrameThere) (damage : Damage) (m q : List ℕ) → IsFramePart info start s m there → (other : IsDamage info start s q damage) → damage.unsearched ≡ 0 → ⊥
    not_both there damage m q is other e = no_frames q damage e other 0 other.some (frame_begins info (decoded_view there.frame) is.bytes is.frame s m is.joined)

    -- the same frame, and what is left after it
    same_frame : (a b : FrameThere) (m q : List ℕ) (is : IsFramePart info start s m a) (other : IsFramePart info start s q b) → (decoded_view a.frame ≡ decoded_view b.frame) × (is.bytes ≡ other.bytes)
    same_frame a b m q is other = (decoded_unambiguous (known_format info) (known_depth info depth)).one_code (decoded_view a.frame) (decoded_view b.frame) is.bytes other.bytes m q is.frame.0 other.frame.0 (sym is.joined ∙ other.joined)

  pub one_run : (start : ℕ) (s : List ℕ) (parts others : List Part) → IfSome info HasBitDepth → length s < 2 ^ 64 → AreParts info start s parts → AreParts info start s others → AreSearched parts → AreSearched others → SameParts parts others
  one_run start s [] [] depth few a b x y = tt
  one_run start s [] (part ∷ parts) depth few a (m, is, rest) x y = absurd (none_left start m part (subst (λ (l : List ℕ). IsPart info start l m (Some part)) a is))
  one_run start s (part ∷ parts) [] depth few (m, is, rest) b x y = absurd (none_left start m part (subst (λ (l : List ℕ). IsPart info start l m (Some part)) b is))
  one_run start s (FramePart a ∷ parts) (FramePart b ∷ others) depth few (m, is, rest) (q, other, more) x y =
      let same = same_frame depth s few start a b m q is other in
      let left : m ≡ q = append_cancel_left is.bytes m q (sym is.joined ∙ other.joined ∙ ap (λ (l : List ℕ). l ++ q) (sym same.1)) in
      let size = ap length same.1 in
      let end : a.end ≡ b.end = (let e = is.end_is in let f = other.end_is in omega (arith, e, f, size)) in
      let fewer : length m < 2 ^ 64 = (let n = ap length is.joined in omega (arith, n, few, length-append is.bytes m)) in
      ((is.start_is ∙ sym other.start_is, end, same.0), one_run a.end m parts others depth fewer rest (subst (λ (l : List ℕ). AreParts info a.end l others) (sym left) (subst (λ (n : ℕ). AreParts info n q others) (sym end) more)) x.1 y.1)
  one_run start s (DamagePart a ∷ parts) (DamagePart b ∷ others) depth few (m, is, rest) (q, other, more) x y =
      let size = same_damage depth s few start a b m q is other x.0 y.0 in
      let left = same_rest depth s few start a b m q is other x.0 y.0 in
      let end : a.end ≡ b.end = (let e = is.end_is in let f = other.end_is in omega (arith, e, f, size)) in
      let fewer : length m < 2 ^ 64 = (let n = ap length is.joined in omega (arith, n, few, length-append is.bytes m)) in
      ((is.start_is ∙ sym other.start_is, end), one_run a.end m parts others depth fewer rest (subst (λ (l : List ℕ). AreParts info a.end l others) (sym left) (subst (λ (n : ℕ). AreParts info n q others) (sym end) more)) x.1 y.1)
  one_run start s (FramePart a ∷ parts) (DamagePart b ∷ others) depth few (m, is, rest) (q, other, more) x y = absurd (not_both depth s few start a b m q is other y.0)
  one_run start s (DamagePart a ∷ parts) (FramePart b ∷ others) depth few (m, is, rest) (q, other, more) x y = absurd (not_both depth s few start b a q m other is x.0)
