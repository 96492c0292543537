-- The bytes that are read on, and those that a window holds.
use Rattle.std.proofs.Common.{◌≡◌, ℕ, ◌-◌, ◌≤◌, Bool, List, [], ◌++◌, length, take, drop, refl, sym, ap, subst, ◌∙◌, append_assoc, append-nil, length-append, arith}
use Rattle.std.specs.Prelude.{replicate}
use Rattle.std.proofs.lemmas.List.{take-append-drop, take-append-le, take-take, take_all, take_at, drop_at, length-replicate}
use Rattle.claxon.specs.Prefix.{BeginsWith}
use Rattle.claxon_seek.proofs.Searches.{begins_longer}
use Rattle.claxon_stream.specs.Held.{StandsIn, ends_there, held_from}
use Rattle.claxon_stream.proofs.HeldBytes.{held_after, known}
use Rattle.claxon_seekable.specs.Window.{ReadsOn}

pub same_bytes : (xs : List ℕ) → ReadsOn xs xs
same_bytes xs = record { more = []; is = sym (append-nil xs) }

pub then_more : {a b c : List ℕ} → ReadsOn a b → ReadsOn b c → ReadsOn a c
then_more {a = a} h k = record { more = h.more ++ k.more; is = k.is ∙ ap (λ (l : List ℕ). l ++ k.more) h.is ∙ append_assoc a h.more k.more }

pub goes_on : (old new : List ℕ) → take (length old) new ≡ old → ReadsOn old new
goes_on old new front = record { more = drop (length old) new; is = sym (take-append-drop (length old) new) ∙ ap (λ (l : List ℕ). l ++ drop (length old) new) front }

pub begins_on : {C : List ℕ → Type 0} {a b : List ℕ} → ReadsOn a b → BeginsWith C a → BeginsWith C b
begins_on {C = C} {a = a} h begins = subst (BeginsWith C) (sym h.is) (begins_longer a h.more begins)

pub longer : {a b : List ℕ} → ReadsOn a b → length a ≤ length b
longer {a = a} {b = b} h = omega (arith, ap length h.is ∙ length-append a h.more)

-- a buffer that was made longer, at a place after its front
module _ (old zeros : List ℕ) (size : ℕ) (long : length old ≤ size) where
  front_of : (resized : List ℕ) → resized ≡ take size old ++ zeros → take (length old) resized ≡ old
  front_of resized e =
      let whole : take size old ≡ old = take_all size old long in
      ap (take (length old)) (e ∙ ap (λ (l : List ℕ). l ++ zeros) whole) ∙ take_at old zeros (length old) refl

  -- and read into after its front, and cut
  pub read_after_front : (resized now buffer more items : List ℕ) (len cap total : ℕ) → resized ≡ take size old ++ zeros → now ≡ resized → len ≡ length old → take len buffer ≡ take len now → len ≤ length buffer → len ≤ cap → len ≤ total
      → items ≡ take total (take cap (buffer ++ more)) → ReadsOn old items
  read_after_front resized now buffer more items len cap total e same count kept within fits bound is =
      let cut : take len items ≡ take len (buffer ++ more) = ap (take len) is ∙ take-take len total (take cap (buffer ++ more)) bound ∙ take-take len cap (buffer ++ more) fits in
      let read : take len items ≡ take len resized = cut ∙ take-append-le len buffer more within ∙ kept ∙ ap (take len) same in
      let front : take (length old) items ≡ old = subst (λ (n : ℕ). take n items ≡ take n resized) count read ∙ front_of resized e in
      goes_on old items front

-- ---- what is held

-- from the first position on all is
pub held_here : (at position : ℕ) (bytes : List ℕ) → at ≡ position → held_from at position bytes ≡ bytes
held_here at position bytes here =
    let none : position - at ≡ 0 = omega (arith, here) in
    held_after at position bytes (omega (arith, here)) ∙ ap (λ (n : ℕ). drop n bytes) none

pub ends_here : (at position : ℕ) (bytes : List ℕ) (is_end : Bool) → at ≡ position → ends_there at position is_end ≡ is_end
ends_here at position bytes is_end here = known at position bytes is_end (omega (arith, here))

-- a stream in which the bytes stand
pub stream_of : ℕ → List ℕ → List ℕ
stream_of at bytes = replicate at 0 ++ bytes

pub stands_in : (at : ℕ) (bytes : List ℕ) (is_end : Bool) → StandsIn (stream_of at bytes) at bytes is_end
unfolding stream_of
stands_in at bytes is_end = record {
  after = [];
  are = drop_at (replicate at 0) bytes at (omega (arith, length-replicate {A = ℕ} at 0)) ∙ sym (append-nil bytes);
  last = λ e. refl;
}
