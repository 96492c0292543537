-- The frame that comes next is the part.
use Rattle.std.specs.Prelude.{IfSome}
use Rattle.std.proofs.Common.{◌≡◌, inl, ℕ, ◌<◌, ◌≤◌, List, [], ◌++◌, length, drop, take, Option, Some, None, refl, sym, ap, subst, ◌∙◌, arith}
use Rattle.std.proofs.lemmas.List.{append_cancel_left, take-append-drop, take-append-le, take_at}
use Rattle.claxon.specs.BlockInfo.{HeaderOf}
use Rattle.claxon.specs.DecodedFrame.{FrameValue, decoded_view}
use Rattle.claxon.specs.Frame.{StreamFormat}
use Rattle.claxon.specs.Prefix.{BeginsWith}
use Rattle.claxon.specs.ShownHead.{HasBitDepth}
use Rattle.claxon.specs.StreamInfos.{StreamInfo}
use Rattle.claxon.proofs.BlockInfo.{header_has_two_bytes}
use Rattle.claxon.proofs.DecodedFrames.{decoded_unambiguous}
use Rattle.claxon_seek.specs.Find.{known_format}
use Rattle.claxon_seek.proofs.Searches.{begins_longer, frame_is_wanted, known_depth}
use Rattle.claxon_recovery.specs.AtStart.{BeginsWithStreamFrame, NoFrameWhateverFollows, StreamFrameCode}
use Rattle.claxon_recovery.specs.Kept.{most_kept}
use Rattle.claxon_recovery.specs.Parts.{IsCause, IsFrameOf, IsPart}
use Rattle.claxon_recovery.specs.declared.part.Cause.{Cause}
use Rattle.claxon_recovery.specs.declared.part.Cause.TheVariants.{Cut, Fault, OtherFormat, TooLong}
use Rattle.claxon_recovery.specs.declared.part.Part.{Part}
use Rattle.claxon_recovery.specs.declared.part.Part.TheVariants.{Frame as FramePart, Damage as DamagePart}
use Rattle.claxon_recovery.proofs.Beginnings.{early_is_none, fault_is_none, frame_longer, other_is_none}

module _ (info : Option StreamInfo) (value : FrameValue) (t : List ℕ) (code : StreamFrameCode info value t) where
  abbrev stream : Option StreamFormat
  stream = known_format info

  begins : (s rest : List ℕ) → s ≡ t ++ rest → BeginsWithStreamFrame info s
  begins s rest e =
      let header : BeginsWith (HeaderOf stream value.info) s = subst (BeginsWith (HeaderOf stream value.info)) (sym e) (begins_longer t rest code.0.1) in
      (value.info, frame_is_wanted info None s value.info (record { format = code.1; holds = tt; header = header }) (record { block = value.block; frame = (t, rest, code.0.0, e) }))

  pub frame_begins : (s rest : List ℕ) → s ≡ t ++ rest → BeginsWithStreamFrame info s
  frame_begins s rest e = begins s rest e

  pub frame_has_bytes : length t ≡ 0 → ⊥
  frame_has_bytes none = let h = code.0.1 in header_has_two_bytes stream value.info h.0 h.1 h.2 (subst (λ (l : List ℕ). length l < 2) h.3 (omega (arith, none)))

  -- bytes that are long enough begin with it too
  begins_front : (front more rest : List ℕ) → front ++ more ≡ t ++ rest → length t ≤ length front → BeginsWithStreamFrame info front
  begins_front front more rest e le =
      let n = length t in
      let same : take n front ≡ t = sym (take-append-le n front more le) ∙ ap (take n) e ∙ take_at t rest n refl in
      begins front (drop n front) (sym (take-append-drop n front) ∙ ap (λ (l : List ℕ). l ++ drop n front) same)

  module _ (depth : IfSome info HasBitDepth) (s rest : List ℕ) (e : s ≡ t ++ rest) (few : length t ≤ most_kept info) where
    whatever : NoFrameWhateverFollows info s → ⊥
    whatever none = none [] (frame_longer info s [] (begins s rest e))

    no_cause : (cause : Cause) → IsCause info cause s → ⊥
    no_cause (Fault error) is = whatever (fault_is_none info depth error s is)
    no_cause (OtherFormat block) is = whatever (other_is_none info block s is)
    no_cause Cut is = early_is_none info s is (begins s rest e)
    no_cause TooLong is = early_is_none info is.front is.ends (begins_front is.front is.rest rest (sym is.joined ∙ e) (let n = is.long in omega (arith, n, few)))

    pub frame_is_part : (start : ℕ) (m : List ℕ) (found : Option Part) → IsPart info start s m found → IsFrameOf value found × (m ≡ rest)
    frame_is_part start m None is = absurd (early_is_none info s (inl (let n = ap length is.0 in omega (arith, n))) (begins s rest e))
    frame_is_part start m (Some (DamagePart damage)) is = absurd (no_cause damage.cause is.cause)
    frame_is_part start m (Some (FramePart there)) is =
        let same = (decoded_unambiguous stream (known_depth info depth)).one_code (decoded_view there.frame) value is.bytes t m rest is.frame.0 code.0 (sym is.joined ∙ e) in
        (same.0, append_cancel_left t m rest (ap (λ (l : List ℕ). l ++ m) (sym same.1) ∙ sym is.joined ∙ e))
