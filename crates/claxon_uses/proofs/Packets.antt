-- A packet that has to be exactly one frame.
use Rattle.std.proofs.Common.{◌≡◌, inl, inr, ℕ, ◌<◌, ◌≤◌, List, [], ◌∷◌, ◌++◌, length, drop, codes, Option, None, Some, sym, ap, subst, ◌∙◌, refl, arith, append-nil}
use Rattle.std.specs.Prelude.{Result, Ok, Err}
use Rattle.std.proofs.lemmas.List.{drop_all, length-drop}
use Rattle.claxon.specs.Frame.{StreamFormat, Frame}
use Rattle.claxon.specs.Errors.{Error}
use Rattle.claxon.specs.Errors.TheVariants.{OutOfMemory}
use Rattle.claxon.specs.Error.{IsFormatError}
use Rattle.claxon.specs.Promises.{Remains}
use Rattle.claxon.specs.State.{State}
use Rattle.claxon.specs.Block.{BlockValue}
use Rattle.claxon.specs.FrameReader.{ReadsFrame, block_view}
use Rattle.claxon.specs.Prefix.{BeginsWith}
use Rattle.claxon_uses.specs.Packets.{PacketFaultIsComplete, PacketIsComplete, HasMoreThanFrame, PacketIsSound, PacketFaultIsSound, PacketOutOfMemoryAfterHeader}
use Rattle.claxon.proofs.FramesInMemory.{SliceFramePromises}
use Rattle.claxon.proofs.OutOfMemory.{not_out_of_memory, same_out_of_memory}

-- all clauses of such a call
pub record PacketPromises (stream : Option StreamFormat) (packet : List ℕ) (r : Result BlockValue Error) : Type 0 where
  pub sound : PacketIsSound stream packet r
  pub complete : PacketIsComplete stream packet r
  pub refused : PacketFaultIsSound stream packet r
  pub named : PacketFaultIsComplete stream packet r
  pub memory : PacketOutOfMemoryAfterHeader stream packet r

-- another error isn't `OutOfMemory`
other_than_memory : {A : Type 0} (e : Error) (text : List ℕ) → IsFormatError e text → (let q : Result A Error = Err e in q) ≡ Err OutOfMemory → ⊥
other_than_memory e text is out_of_memory =
    let k : e ≡ OutOfMemory = cc in
    let none : IsFormatError OutOfMemory text = rw k at is in
    none

module _ (stream : Option StreamFormat) (packet : List ℕ) where
  -- a packet begins with all of it
  whole_begins : {C : List ℕ → Type 0} → C packet → BeginsWith C packet
  whole_begins c = (packet, [], c, sym (append-nil packet))

  -- the Err of the frame is returned
  pub packet_failed : (e : Error) → SliceFramePromises stream packet (Err e) → PacketPromises stream packet (Err e)
  packet_failed e m = record {
    sound = tt;
    complete = λ block c. elim (m.complete block (whole_begins c)) [ inl p ↦ absurd p | inr s ↦ inr (same_out_of_memory e s) ];
    refused = elim m.fault [ inl p ↦ inl p | inr (inl i) ↦ inr (inl i) | inr (inr f) ↦ inr (inr (inl f)) ];
    named = λ f c. elim (m.named f c) [ inl p ↦ inl p | inr s ↦ inr (same_out_of_memory e s) ];
    memory = λ s. m.memory (same_out_of_memory e s);
  }

  -- there is none
  pub packet_without : (e : Error) → SliceFramePromises stream packet (Ok None) → IsFormatError e (codes "packet without a frame") → PacketPromises stream packet (Err e)
  packet_without e m is = record {
    sound = tt;
    complete = λ block c. absurd (elim (m.complete block (whole_begins c)) [ inl p ↦ p | inr s ↦ not_out_of_memory None s ]);
    refused = inr (inr (inr (inl (m.eof.0 refl, is))));
    named = λ f c. absurd (elim (m.named f c) [ inl p ↦ p | inr s ↦ not_out_of_memory None s ]);
    memory = λ s. absurd (other_than_memory e (codes "packet without a frame") is s);
  }

  module _ (block : BlockValue) (slice : List ℕ) (at : ℕ) (a b : State ℕ) (start : Remains a packet) (left : Remains b (drop at slice)) (reads : ReadsFrame stream (Ok (Some block)) a b) (m : SliceFramePromises stream packet (Ok (Some block))) where
    -- what was consumed, and what is left
    taken : (t : List ℕ) × Frame stream (block_view block) t × (packet ≡ t ++ drop at slice)
    taken = let k = (reads.promises.is_sound start.known).1 in (k.0, k.1, sym start.are ∙ k.2 ∙ ap (λ (z : List ℕ). k.0 ++ z) left.are)

    -- nothing follows the frame
    pub packet_whole : length slice ≤ at → PacketPromises stream packet (Ok block)
    packet_whole past =
        let none : drop at slice ≡ [] = drop_all at slice past in
        let k = taken in
        let whole : k.0 ≡ packet = sym (k.2 ∙ ap (λ (z : List ℕ). k.0 ++ z) none ∙ append-nil k.0) in
        record {
          sound = subst (λ (z : List ℕ). Frame stream (block_view block) z) whole k.1;
          complete = λ other c. elim (m.complete other (whole_begins c)) [ inl p ↦ inl p | inr s ↦ absurd (not_out_of_memory (Some block) s) ];
          refused = tt;
          named = λ f c. elim (m.named f c) [ inl p ↦ inl p | inr s ↦ absurd (not_out_of_memory (Some block) s) ];
          memory = λ s. absurd (not_out_of_memory block s);
        }

    more_than : (rest : List ℕ) → drop at slice ≡ rest → 0 < length rest → (e : Error) → IsFormatError e (codes "packet of more than a frame") → HasMoreThanFrame stream packet e
    more_than [] is some e k = absurd (omega arith)
    more_than (byte ∷ rest) is some e k = let w = taken in ((block_view block, w.0, byte, rest, w.1, w.2 ∙ ap (λ (z : List ℕ). w.0 ++ z) is), k)

    -- bytes follow it
    pub packet_of_more : at < length slice → (e : Error) → IsFormatError e (codes "packet of more than a frame") → PacketPromises stream packet (Err e)
    packet_of_more before e is =
        let some : 0 < length (drop at slice) = omega (arith, length-drop at slice) in
        record {
          sound = tt;
          complete = λ other c. absurd (elim (reads.promises.is_complete other packet [] c (record { known = start.known; are = start.are ∙ sym (append-nil packet) })) [
            | inl p ↦ (let none : drop at slice ≡ [] = sym left.are ∙ p.1.are in omega (arith, ap length none))
            | inr (inl s) ↦ not_out_of_memory (Some block) s
            | inr (inr f) ↦ f.0
          ]);
          refused = inr (inr (inr (inr (more_than (drop at slice) refl some e is))));
          named = λ f c. absurd (elim (m.named f c) [ inl p ↦ p | inr s ↦ not_out_of_memory (Some block) s ]);
          memory = λ s. absurd (other_than_memory e (codes "packet of more than a frame") is s);
        }
