-- Bytes from the place on that goes on, one part after another.
use Rattle.std.proofs.Common.{◌≡◌, ◌⊎◌, inl, inr, ℕ, ◌+◌, ◌%◌, ◌^◌, ◌<◌, Bool, true, false, List, [], ◌∷◌, ◌++◌, length, None, Some, refl, sym, ap, ap₂, subst, ◌∙◌, arith, append_assoc, append-nil, length-append}
use Rattle.std.specs.Prelude.{◌==◌, ◌≢◌, Option, Ok, Err, Result, if◌then◌else◌, nat_lt}
use Rattle.std.proofs.lemmas.List.{drop_at, take_at}
use Rattle.std.proofs.lemmas.List.Elements.{All-drop, All-take}
use Rattle.claxon.specs.Streaminfo.{Streaminfo}
use Rattle.claxon_blocks.specs.declared.frames.FrameError.{FrameError}
use Rattle.claxon_report.specs.Places.{begun_or, fills, goes_on, goes_on_after, judged, other_stream, returns, scan_frame, scan_part}
use Rattle.claxon_verify.specs.Trailing.{AreBytes, EndsWithTail, IsOfTail, KeepsIfBegun, KeepsLast, KeepsMore, TailOf, TrailingIs, TrailingOf}
use Rattle.claxon_report.specs.declared.due.Due.{Due}
use Rattle.claxon_report.specs.declared.due.FoundFrame.{FoundFrame}
use Rattle.claxon_report.specs.declared.place.Damage.{Damage}
use Rattle.claxon_report.specs.declared.place.Damage.TheVariants.{Fault, Repeated}
use Rattle.claxon_report.specs.declared.scan.Begun.{Begun}
use Rattle.claxon_report.specs.declared.scan.Ended.{Ended}
use Rattle.claxon_report.specs.declared.scan.Scan.{Scan}
use Rattle.claxon_report.specs.declared.scan.Scanned.{Scanned}
use Rattle.claxon_report.specs.declared.report.Trailing.{Trailing}
use Rattle.claxon_verify.specs.declared.trailing.BytesAfter.{BytesAfter}
use Rattle.claxon_verify.specs.declared.walk.ByteRange.{ByteRange}
use Rattle.claxon_verify.specs.declared.walk.Walk.{Walk}

-- ---- the place that goes on

-- After a part at this byte none goes on, or that which went on, or one that begins there.
abbrev pub GoesOn : ℕ → Option Begun → Option Begun → Type 0
GoesOn byte old new = (new ≡ None) ⊎ ((here : Begun) × (here.byte ≡ byte) × (new ≡ Some (begun_or old here)))

chosen : (b : Bool) (byte : ℕ) (old : Option Begun) (x y : Scanned) → GoesOn byte old x.scan.begun → GoesOn byte old y.scan.begun → GoesOn byte old (if b then x else y).scan.begun
chosen true byte old x y h k = h
chosen false byte old x y h k = k

on_order : (info : Streaminfo) (byte : ℕ) (frame : FoundFrame) (due : Due) (ended : Option Ended) (begun : Option Begun) → GoesOn byte begun (goes_on_after info byte frame due ended begun).scan.begun
on_order info byte frame due ended (Some begun) = inl refl
on_order info byte frame due ended None =
    chosen (frame.header.number == due.number) byte None _ _ (inl refl) (chosen (fills ended due.number frame.header.number) byte None _ _ (inl refl) (inl refl))

frame_judged : (info : Streaminfo) (byte : ℕ) (frame : FoundFrame) (scan : Scan) (why : Option Damage) → GoesOn byte scan.begun (judged info byte frame scan why).scan.begun
frame_judged info byte frame scan (Some damage) = inr (record { byte = byte; sample = scan.due.sample; damage = damage }, refl, refl)
frame_judged info byte frame scan None =
    chosen (nat_lt frame.header.number scan.due.number) byte scan.begun _ _
    (chosen (returns scan.ended frame.header.number) byte scan.begun _ _ (inl refl) (inr (record { byte = byte; sample = scan.due.sample; damage = Repeated }, refl, refl)))
    (on_order info byte frame scan.due scan.ended scan.begun)

pub frame_goes_on : (info : Streaminfo) (byte : ℕ) (frame : FoundFrame) (scan : Scan) → GoesOn byte scan.begun (scan_frame info byte frame scan).scan.begun
frame_goes_on info byte frame scan = frame_judged info byte frame scan (other_stream info scan.due frame)

pub part_goes_on : (info : Streaminfo) (scan : Scan) (byte : ℕ) (what : Result FoundFrame FrameError) → GoesOn byte scan.begun (scan_part info scan byte what).scan.begun
part_goes_on info scan byte (Ok frame) = frame_goes_on info byte frame scan
part_goes_on info scan byte (Err why) = inr (record { byte = byte; sample = scan.due.sample; damage = Fault why }, refl, refl)

-- none begins
pub same_goes_on : (byte : ℕ) (begun : Option Begun) → GoesOn byte begun begun
same_goes_on byte None = inl refl
same_goes_on byte (Some begun) = inr (record begun { byte = byte }, refl, refl)

-- ---- one part more

pub no_tail : (start : ℕ) (s : List ℕ) (at : ℕ) (after : BytesAfter) → at ≡ start % 2 ^ 64 → IsOfTail [] after → TailOf start s at s None after
no_tail start s at after is kept = record {
  front = [];
  tail = [];
  joined = refl;
  at_is = omega (arith, is);
  kept = kept;
  none = λ e. refl;
  place = λ place e. absurd cc;
}

-- the place that goes on
pub place_byte : {start : ℕ} {s : List ℕ} {at : ℕ} {m : List ℕ} {old : Option Begun} {after : BytesAfter} (h : TailOf start s at m old after) (before : Option Begun) → old ≡ before → (here : Begun) → here.byte ≡ at → (begun_or before here).byte ≡ (start + length h.front) % 2 ^ 64
place_byte h None e here is = (let none = ap length (h.none e) in let a = h.at_is in omega (arith, is, none, a))
place_byte h (Some begun) e here is = h.place begun e

module _ {start : ℕ} {s : List ℕ} {at : ℕ} {m : List ℕ} {old : Option Begun} {after : BytesAfter} (h : TailOf start s at m old after) (more n : List ℕ) (joined : m ≡ more ++ n) (next : ℕ) (next_is : next ≡ (at + length more) % 2 ^ 64) (new_after : BytesAfter) where
  passed : s ≡ (h.front ++ (h.tail ++ more)) ++ n
  passed =
      h.joined ∙ ap (λ (l : List ℕ). h.front ++ (h.tail ++ l)) joined ∙ ap (λ (l : List ℕ). h.front ++ l) (sym (append_assoc h.tail more n)) ∙ sym (append_assoc h.front (h.tail ++ more) n)

  after_none : IsOfTail [] new_after → TailOf start s next n None new_after
  after_none kept = record {
    front = h.front ++ (h.tail ++ more);
    tail = [];
    joined = passed;
    at_is = (let e = h.at_is in omega (arith, next_is, e, length-append h.front (h.tail ++ more), length-append h.tail more));
    kept = kept;
    none = λ e. refl;
    place = λ place e. absurd cc;
  }

  after_some : (place : Begun) → place.byte ≡ (start + length h.front) % 2 ^ 64 → IsOfTail (h.tail ++ more) new_after → TailOf start s next n (Some place) new_after
  after_some place byte kept = record {
    front = h.front;
    tail = h.tail ++ more;
    joined = passed ∙ append_assoc h.front (h.tail ++ more) n;
    at_is = (let e = h.at_is in omega (arith, next_is, e, length-append h.tail more));
    kept = kept;
    none = λ e. absurd cc;
    place = λ other e. (let same : place ≡ other = cc in subst (λ (p : Begun). p.byte ≡ (start + length h.front) % 2 ^ 64) same byte);
  }

  pub tail_more : (new : Option Begun) → GoesOn at old new → KeepsIfBegun new more after new_after → TailOf start s next n new new_after
  tail_more None goes keeps = after_none keeps
  tail_more (Some place) (inl e) keeps = absurd cc
  tail_more (Some place) (inr (here, is, e)) keeps =
      let same : begun_or old here ≡ place = cc in
      after_some place (subst (λ (p : Begun). p.byte ≡ (start + length h.front) % 2 ^ 64) same (place_byte h old refl here is)) (keeps h.tail h.kept)

-- ---- bytes

abbrev Byte : ℕ → Type 0
Byte y = y < 256

pub bytes_before : (t n : List ℕ) → AreBytes (t ++ n) → AreBytes t
bytes_before t n h = subst AreBytes (take_at t n (length t) refl) (All-take Byte (length t) (t ++ n) h)

pub bytes_after : (t n : List ℕ) → AreBytes (t ++ n) → AreBytes n
bytes_after t n h = subst AreBytes (drop_at t n (length t) refl) (All-drop Byte (length t) (t ++ n) h)

-- what is left is bytes
pub left_bytes : {start : ℕ} {s : List ℕ} {at : ℕ} {m : List ℕ} {begun : Option Begun} {after : BytesAfter} → TailOf start s at m begun after → AreBytes s → AreBytes m
left_bytes {m = m} h bytes = bytes_after h.tail m (bytes_after h.front (h.tail ++ m) (subst AreBytes h.joined bytes))

-- ---- the last bytes

pub none_last : (span : ByteRange) (last : ℕ) (after : BytesAfter) → span.start ≡ span.end → KeepsLast span last after after
none_last span last after e [] is t tail = subst (λ (s : List ℕ). IsOfTail s after) (sym (append-nil t)) tail
none_last span last after e (byte ∷ others) is t tail = absurd (is.0 e)

pub one_last : (span : ByteRange) (last : ℕ) (old new : BytesAfter) → span.start ≢ span.end → KeepsMore (last ∷ []) old new → KeepsLast span last old new
one_last span last old new ne keeps [] is t tail = absurd (ne is)
one_last span last old new ne keeps (byte ∷ others) is t tail = subst (λ (l : List ℕ). IsOfTail (t ++ l) new) (ap₂ (λ (y : ℕ) (l : List ℕ). y ∷ l) is.1 (sym is.2)) (keeps t tail)

-- ---- the end

-- where no part is left
pub ends_with_tail : {start : ℕ} {s : List ℕ} {at : ℕ} {begun : Option Begun} {after : BytesAfter} → TailOf start s at [] begun after → EndsWithTail ⊥ start s begun after
ends_with_tail h place e = (h.tail, record { front = h.front; joined = h.joined ∙ ap (λ (l : List ℕ). h.front ++ l) (append-nil h.tail); position_is = h.place place e }, inl h.kept)

told_here : {A : Type 0} (failed : Type 0) (samples : Option ℕ) (walk : Walk A) (start : ℕ) (s : List ℕ) → EndsWithTail failed start s walk.scan.begun walk.after → (o : Option Trailing) → TrailingOf samples walk o → TrailingIs failed samples walk.scan start s walk.end o
told_here failed samples walk start s tail None none = none
told_here failed samples walk start s tail (Some kind) (begun, goes_on, fault, is) =
    let k = tail begun goes_on in
    (begun, goes_on, fault, k.0, k.1, elim k.2 [ inl kept ↦ inl (is k.0 kept) | inr f ↦ inr f ])

pub told : {A : Type 0} (failed : Type 0) (samples : Option ℕ) (walk : Walk A) (scan : Scan) (start : ℕ) (s : List ℕ) (end : ℕ) → walk.scan ≡ scan → walk.end ≡ end → EndsWithTail failed start s walk.scan.begun walk.after → (o : Option Trailing) → TrailingOf samples walk o → TrailingIs failed samples scan start s end o
told failed samples walk scan start s end scan_is end_is tail o of =
    subst (λ (k : ℕ). TrailingIs failed samples scan start s k o) end_is (subst (λ (z : Scan). TrailingIs failed samples z start s walk.end o) scan_is (told_here failed samples walk start s tail o of))
