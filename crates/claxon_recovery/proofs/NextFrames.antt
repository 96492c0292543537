-- The next frame of a stream, after any damage.
use Rattle.std.proofs.Common.{◌≡◌, ◌⊎◌, inl, inr, ℕ, zero, suc, ◌+◌, ◌%◌, ◌^◌, ◌≤◌, List, [], ◌++◌, length, drop, Option, None, Some, refl, sym, ap, subst, ◌∙◌, append_assoc, append-nil, arith, length-append}
use Rattle.std.proofs.lemmas.List.{drop-drop, drop_at}
use Rattle.claxon.specs.Errors.{Error}
use Rattle.claxon.specs.Errors.TheVariants.{OutOfMemory}
use Rattle.claxon.specs.Source.{Source}
use Rattle.claxon.specs.StreamInfos.{StreamInfo}
use Rattle.claxon_recovery.specs.AtStart.{BeginsWithStreamFrame}
use Rattle.claxon_recovery.specs.Budget.{CountsUnsearched}
use Rattle.claxon_recovery.specs.NextFrame.{IsNext, IsNextFrame, NoneIn}
use Rattle.claxon_recovery.specs.Parts.{Goes, IsPart, MayBePassed, NoFrames, PartFails, PartStops, SourceIsKnown, after_part, parts_budget, parts_known, parts_position, parts_source, unread}
use Rattle.claxon_recovery.specs.Window.{Reads}
use Rattle.claxon_recovery.specs.declared.part.Damage.{Damage}
use Rattle.claxon_recovery.specs.declared.part.FrameThere.{FrameThere}
use Rattle.claxon_recovery.specs.declared.part.Part.{Part}
use Rattle.claxon_recovery.specs.declared.part.Part.TheVariants.{Frame as FramePart, Damage as DamagePart}
use Rattle.claxon_recovery.specs.declared.parts.Parts.{Parts}
use Rattle.claxon_recovery.proofs.Reading.{fails_after, reads_both}

-- ---- positions at which no frame begins, one after another

module _ (info : Option StreamInfo) (s : List ℕ) where
  none_join : (n a k b : ℕ) → NoFrames info s n a → NoFrames info (drop n s) k b → NoFrames info s (n + k) (a + b)
  none_join n a zero b h none =
      let e : n ≡ n + 0 = omega arith in
      let same : a ≡ a + b = omega (arith, none) in
      subst (λ (m : ℕ). NoFrames info s m (a + b)) e (subst (λ (m : ℕ). NoFrames info s n m) same h)
  none_join n a (suc k) b h (inl more) =
      let e : suc (n + k) ≡ n + suc k = omega arith in
      let here : BeginsWithStreamFrame info (drop (n + k) s) → ⊥ = λ frame. more.0 (subst (BeginsWithStreamFrame info) (sym (drop-drop k n s)) frame) in
      subst (λ (m : ℕ). NoFrames info s m (a + b)) e (inl (here, none_join n a k b h more.1))
  none_join n a (suc k) b h (inr more) =
      let e : suc (n + k) ≡ n + suc k = omega arith in
      let count : a + b ≡ (a + more.0) + 1 = let one = more.1 in omega (arith, one) in
      let may : MayBePassed info (drop (n + k) s) = subst (MayBePassed info) (drop-drop k n s) more.2 in
      subst (λ (m : ℕ). NoFrames info s m (a + b)) e (inr (a + more.0, count, may, none_join n a k more.0 h more.3))

-- These bytes were passed, at which no frame begins.
pub record FrontPassed (info : Option StreamInfo) (start : ℕ) (s : List ℕ) (at : ℕ) (m : List ℕ) (count counter : ℕ) : Type 0 where
  pub front : List ℕ
  pub joined : s ≡ front ++ m
  pub none : NoneIn info s front count
  pub many : counter ≤ length front
  pub at_is : at % 2 ^ 64 ≡ (start + length front) % 2 ^ 64

-- So far there was damage alone.
pub record DamageSoFar {R : Type 0} (source : R → Source ℕ) (old now : Parts R) (counter : ℕ) : Type 0 where
  pub count : ℕ
  pub counted : CountsUnsearched count (parts_budget old) (parts_budget now)
  pub more : List ℕ
  pub reads : Reads (source (parts_source old)) (source (parts_source now)) more
  pub known_is : parts_known now ≡ parts_known old
  pub is : SourceIsKnown source old → FrontPassed (parts_known old) (parts_position old) (unread source old) (parts_position now) (unread source now) count counter

module _ {R : Type 0} {source : R → Source ℕ} {old mid : Parts R} {counter : ℕ} (h : DamageSoFar source old mid counter) where
  -- the first positions, and those of damage after them
  none_then : (more : List ℕ) (unsearched n : ℕ) → (p : FrontPassed (parts_known old) (parts_position old) (unread source old) (parts_position mid) (unread source mid) h.count counter) → NoFrames (parts_known old) (unread source mid) (length more) unsearched → n ≡ unsearched % 2 ^ 64 → NoneIn (parts_known old) (unread source old) (p.front ++ more) (h.count + n)
  none_then more unsearched n p none is =
      let info = parts_known old in
      let s = unread source old in
      let rest : drop (length p.front) s ≡ unread source mid = ap (drop (length p.front)) p.joined ∙ drop_at p.front (unread source mid) (length p.front) refl in
      let both = none_join info s (length p.front) p.none.unsearched (length more) unsearched p.none.none (subst (λ (z : List ℕ). NoFrames info z (length more) unsearched) (sym rest) none) in
      let same = p.none.count_is in
      record {
        unsearched = p.none.unsearched + unsearched;
        count_is = omega (arith, same, is);
        none = subst (λ (k : ℕ). NoFrames info s k (p.none.unsearched + unsearched)) (sym (length-append p.front more)) both;
      }

  module _ (new : Parts R) (same : parts_known new ≡ parts_known mid) where
    -- damage more
    pub damage_more : (damage : Damage) → Goes source mid new (λ s m. IsPart (parts_known mid) (parts_position mid) s m (Some (DamagePart damage))) → parts_position new ≡ damage.end → CountsUnsearched damage.unsearched (parts_budget mid) (parts_budget new) → DamageSoFar source old new (counter + 1)
    damage_more damage goes at counts =
        let c = h.counted in
        record {
          count = h.count + damage.unsearched;
          counted = omega (arith, c, counts);
          more = h.more ++ goes.more;
          reads = reads_both h.reads goes.reads;
          known_is = same ∙ h.known_is;
          is = λ known.
              let p = h.is known in
              let there = subst (λ (i : Option StreamInfo). IsPart i (parts_position mid) (unread source mid) (unread source new) (Some (DamagePart damage))) h.known_is (goes.is (h.reads.known known).known) in
              let n = length-append p.front there.bytes in
              let many = p.many in
              let some = there.some in
              let before = p.at_is in
              let end = there.end_is in
              record {
                front = p.front ++ there.bytes;
                joined = p.joined ∙ ap (λ (z : List ℕ). p.front ++ z) there.joined ∙ sym (append_assoc p.front there.bytes (unread source new));
                none = none_then there.bytes there.unsearched damage.unsearched p there.none there.unsearched_is;
                many = omega (arith, n, many, some);
                at_is = omega (arith, at, end, n, before);
              };
        }

    -- a frame
    pub frame_next : (there : FrameThere) → Goes source mid new (λ s m. IsPart (parts_known mid) (parts_position mid) s m (Some (FramePart there))) → CountsUnsearched 0 (parts_budget mid) (parts_budget new)
        → (count : ℕ) × CountsUnsearched count (parts_budget old) (parts_budget new) × Goes source old new (λ s m. IsNext (parts_known old) (parts_position old) s m count (Some there))
    frame_next there goes counts =
        let c = h.counted in (
          h.count,
          omega (arith, c, counts),
          record {
            more = h.more ++ goes.more;
            reads = reads_both h.reads goes.reads;
            is = λ known.
                let p = h.is known in
                let is = subst (λ (i : Option StreamInfo). IsPart i (parts_position mid) (unread source mid) (unread source new) (Some (FramePart there))) h.known_is (goes.is (h.reads.known known).known) in
                let before = p.at_is in
                let start = is.start_is in
                let end = is.end_is in
                record {
                  front = p.front;
                  bytes = is.bytes;
                  joined = p.joined ∙ ap (λ (z : List ℕ). p.front ++ z) is.joined;
                  none = p.none;
                  frame = is.frame;
                  start_is = omega (arith, start, before);
                  end_is = omega (arith, end, before);
                };
          },
        )

    -- the end
    pub none_next : Goes source mid new (λ s m. IsPart (parts_known mid) (parts_position mid) s m None) → CountsUnsearched 0 (parts_budget mid) (parts_budget new)
        → (count : ℕ) × CountsUnsearched count (parts_budget old) (parts_budget new) × Goes source old new (λ s m. IsNext (parts_known old) (parts_position old) s m count None)
    none_next goes counts =
        let c = h.counted in (
          h.count,
          omega (arith, c, counts),
          record {
            more = h.more ++ goes.more;
            reads = reads_both h.reads goes.reads;
            is = λ known.
                let p = h.is known in
                let end = goes.is (h.reads.known known).known in
                let whole : p.front ≡ unread source old = sym (append-nil p.front) ∙ ap (λ (z : List ℕ). p.front ++ z) (sym end.0) ∙ sym p.joined in
                (subst (λ (z : List ℕ). NoneIn (parts_known old) (unread source old) z h.count) whole p.none, end.1);
          },
        )

  -- ---- an Err

  pub next_stops : (new : Parts R) (e : Error) → PartStops source mid new e → (e ≡ OutOfMemory) ⊎ (PartFails source old new e ⊎ (SourceIsKnown source old → 2 ^ 64 ≤ length (unread source old) + 1))
  next_stops new e (inl m) = inl m
  next_stops new e (inr (inl f)) = inr (inl (record { is_io = f.is_io; fails = fails_after h.reads f.fails }))
  next_stops new e (inr (inr long)) = inr (inr (λ known.
      let p = h.is known in
      let n = ap length p.joined in
      let l = length-append p.front (unread source mid) in
      let many = long (h.reads.known known).known in
      omega (arith, n, l, many)))

  pub too_many : 2 ^ 64 ≤ counter + 1 → SourceIsKnown source old → 2 ^ 64 ≤ length (unread source old) + 1
  too_many all known =
      let p = h.is known in
      let n = ap length p.joined in
      let l = length-append p.front (unread source mid) in
      let many = p.many in
      omega (arith, n, l, many, all)
