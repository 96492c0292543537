-- A part of a stream, and what is left after it.
use Rattle.std.proofs.Common.{◌≡◌, inl, inr, ℕ, ◌^◌, ◌≤◌, List, [], ◌++◌, length, take, Some, None, refl, sym, ap, subst, ◌∙◌, arith, length-append}
use Rattle.std.specs.Prelude.{Ok, Err, Option, Result, IfSome}
use Rattle.std.specs.Global.{Global}
use Rattle.std.proofs.lemmas.List.{take_at}
use Rattle.claxon.specs.DecodedFrames.{DecodedFrame}
use Rattle.claxon.specs.Errors.{Error}
use Rattle.claxon.specs.ShownHead.{HasBitDepth}
use Rattle.claxon.specs.Source.{Source}
use Rattle.claxon.specs.StreamInfos.{StreamInfo}
use Rattle.claxon_seek.specs.AtStart.{BeginsWithLength}
use Rattle.claxon_recovery.specs.AtStart.{StreamFrame}
use Rattle.claxon_recovery.specs.Parts.{DamageGives, FrameIsFound, IsCause, IsDamage, PartErrIsExcused, PartGives, PartIsThere, PartStops, PassesBytes, SourceIsKnown, Stays, parts_known, parts_pending, parts_position, parts_source, unread}
use Rattle.claxon_recovery.specs.Window.{NothingIsLeft, bytes_left}
use Rattle.claxon_recovery.specs.declared.part.Cause.{Cause}
use Rattle.claxon_recovery.specs.declared.part.Damage.{Damage}
use Rattle.claxon_recovery.specs.declared.part.Part.{Part}
use Rattle.claxon_recovery.specs.declared.part.Part.TheVariants.{Frame as FramePart, Damage as DamagePart}
use Rattle.claxon_recovery.specs.declared.parts.Parts.{Parts}
use Rattle.claxon_recovery.proofs.FoundFrames.{frame_is_part}
use Rattle.claxon_recovery.proofs.Damages.{passed_reads, passed_unread, stays_unread}
use Rattle.claxon_recovery.proofs.Reading.{fails_after, reads_both}

module _ {R : Type 0} (source : R → Source ℕ) (old a : Parts R) (stays : Stays source old a) where
  pub end_part : parts_pending a ≡ [] → NothingIsLeft (source (parts_source old)) (source (parts_source a)) → PartGives source old a (Ok None)
  end_part none left = (
    record {
      more = stays.more;
      reads = stays.reads;
      is = λ known.
          let e : unread source a ≡ [] = ap (λ (l : List ℕ). l ++ bytes_left (source (parts_source a))) none ∙ left known in
          (stays_unread source old a stays known ∙ e, e);
    },
    stays.position_is,
  )

  module _ (len : ℕ) (frame : DecodedFrame Global) (there : BeginsWithLength (StreamFrame (parts_known old) frame) (parts_pending a) len) where
    pub frame_within : len ≤ length (parts_pending a)
    frame_within = let n = ap length there.3 in omega (arith, n, there.4, length-append there.0 there.1)

    pub frame_part : (b : Parts R) → PassesBytes len a b → PartGives source old b (Ok (Some (FramePart (record { start = parts_position a; end = parts_position b; frame = frame }))))
    frame_part b passes =
        let t = there.0 in
        let first : take len (parts_pending a) ≡ t = ap (take len) there.3 ∙ take_at t there.1 len (sym there.4) in (
          record {
            more = stays.more;
            reads = passed_reads source len old a b stays.more stays.reads passes;
            is = λ known. record {
              bytes = t;
              joined = stays_unread source old a stays known ∙ passed_unread source len a b passes frame_within ∙ ap (λ (l : List ℕ). l ++ unread source b) first;
              frame = there.2;
              start_is = stays.position_is;
              end_is = (let e = passes.position_is in let p = stays.position_is in omega (arith, e, p, there.4));
            };
          },
          refl,
        )

  module _ (b : Parts R) (cause : Cause) (same : parts_known a ≡ parts_known old) (is : SourceIsKnown source old → IsCause (parts_known old) cause (unread source a)) where
    pub damage_part : (damage : Damage) → DamageGives source a b cause (Ok damage) → PartGives source old b (Ok (Some (DamagePart damage)))
    damage_part damage gives = (
      record {
        more = stays.more ++ gives.0.more;
        reads = reads_both stays.reads gives.0.reads;
        is = λ known.
            let h = gives.0.is (stays.reads.known known).known (subst (λ (i : Option StreamInfo). IsCause i cause (unread source a)) (sym same) (is known)) in
            subst (λ (s : List ℕ). IsDamage (parts_known old) (parts_position old) s (unread source b) damage) (sym (stays_unread source old a stays known))
            (subst (λ (n : ℕ). IsDamage (parts_known old) n (unread source a) (unread source b) damage) stays.position_is
            (subst (λ (i : Option StreamInfo). IsDamage i (parts_position a) (unread source a) (unread source b) damage) same h));
      },
      gives.1,
    )

  pub stops_after : (b : Parts R) (e : Error) → PartStops source a b e → PartStops source old b e
  stops_after b e (inl m) = inl m
  stops_after b e (inr (inl f)) = inr (inl (record { is_io = f.is_io; fails = fails_after stays.reads f.fails }))
  stops_after b e (inr (inr long)) = inr (inr (λ known. subst (λ (s : List ℕ). 2 ^ 64 ≤ length s) (sym (stays_unread source old a stays known)) (long (stays.reads.known known).known)))

-- ---- the clauses of a call, from all that it answers

module _ {R : Type 0} (source : R → Source ℕ) (old : Parts R) where
  pub given_there : (b : Parts R) (r : Result (Option Part) Error) → PartGives source old b r → PartIsThere source old b r
  given_there b (Ok found) h = h
  given_there b (Err e) h = tt

  pub given_excused : (b : Parts R) (r : Result (Option Part) Error) → PartGives source old b r → PartErrIsExcused source old b r
  given_excused b (Ok found) h = tt
  given_excused b (Err e) h = h

  pub given_found : IfSome (parts_known old) HasBitDepth → (b : Parts R) (r : Result (Option Part) Error) → PartGives source old b r → FrameIsFound source old b r
  given_found depth b (Ok found) h = λ known value t rest code e few. frame_is_part (parts_known old) value t code depth (unread source old) rest e few (parts_position old) (unread source b) found (h.0.is known)
  given_found depth b (Err e) h = tt
