-- What is noted of frames and faults, one after another.
use Rattle.std.proofs.Common.{◌≡◌, ◌≢◌, ◌<◌, ◌+◌, ◌%◌, ◌^◌, ℕ, Bool, true, false, List, [], ◌∷◌, ◌++◌, length, inl, inr, refl, sym, ap, arith, subst, ◌∙◌, append_assoc}
use Rattle.std.specs.Prelude.{◌||◌, ◌↔◌, IsTrue, map, Option, Ok, Err}
use Rattle.std.specs.List.{list_any}
use Rattle.std.proofs.lemmas.Bool.{false≢true}
use Rattle.std.proofs.lemmas.List.{append-nil, map-append}
use Rattle.std.proofs.lemmas.List.Folds.{list_any-append}
use Rattle.claxon.specs.DecodedFrame.{FrameValue, FrameWithHeader, decoded_view}
use Rattle.claxon.specs.DecodedFrames.{DecodedFrame}
use Rattle.claxon.specs.Error.{is_io}
use Rattle.claxon.specs.Errors.{Error}
use Rattle.claxon.specs.Errors.TheVariants.{FormatError, IoError, OutOfMemory, Unsupported}
use Rattle.claxon.specs.Fault.{Fault}
use Rattle.claxon.specs.Frame.{FrameBytesFault, StreamFormat}
use Rattle.claxon.specs.Streaminfo.{Streaminfo}
use Rattle.claxon_verify.specs.Notes.{FrameSizes, NotesFault, NotesFrame, NothingNoted, but_last, bytes_between, frame_size_of, is_large_block, is_other_frame_size, is_small_block, other_block_size, other_frame_size}
use Rattle.claxon_verify.specs.RightStream.{frame_duration}
use Rattle.claxon_verify.specs.Verify.{FrameOrFault, FrameOrFaultBytes, frames_of}
use Rattle.claxon_verify.specs.Walk.{IsFailedRead}
use Rattle.claxon_verify.specs.declared.walk.Walk.{Walk}

-- ---- sizes, one after another

but_last_push : (sizes : List ℕ) (size : ℕ) → but_last (sizes ++ size ∷ []) ≡ sizes
but_last_push [] size = refl
but_last_push (first ∷ []) size = refl
but_last_push (first ∷ next ∷ sizes) size = ap (λ (z : List ℕ). first ∷ z) (but_last_push (next ∷ sizes) size)

or_false : (b : Bool) → (b || false) ≡ b
or_false true = refl
or_false false = refl

any_push : (test : ℕ → Bool) (sizes : List ℕ) (size : ℕ) → list_any test (sizes ++ size ∷ []) ≡ (list_any test sizes || test size)
any_push test sizes size = list_any-append test sizes (size ∷ []) ∙ ap (λ (b : Bool). list_any test sizes || b) (or_false (test size))

regrouped : (large small short more : Bool) → (((large || small) || short) || more) ≡ ((large || more) || (small || short))
regrouped true small short more = refl
regrouped false true short true = refl
regrouped false true short false = refl
regrouped false false true true = refl
regrouped false false true false = refl
regrouped false false false true = refl
regrouped false false false false = refl

-- whether a size is small, where the last one counts too
abbrev pub SmallSizes : Streaminfo → List ℕ → Bool → Type 0
SmallSizes info sizes is_short = list_any (is_small_block info) sizes ≡ (list_any (is_small_block info) (but_last sizes) || is_short)

module _ (info : Streaminfo) (sizes : List ℕ) (size : ℕ) where
  small_push : SmallSizes info (sizes ++ size ∷ []) (is_small_block info size)
  small_push = any_push (is_small_block info) sizes size ∙ ap (λ (z : List ℕ). list_any (is_small_block info) z || is_small_block info size) (sym (but_last_push sizes size))

  -- the size before it isn't the last one any more
  block_push : (is_short : Bool) → SmallSizes info sizes is_short → ((other_block_size info sizes || is_short) || is_large_block info size) ≡ other_block_size info (sizes ++ size ∷ [])
  block_push is_short small =
      regrouped (list_any (is_large_block info) sizes) (list_any (is_small_block info) (but_last sizes)) is_short (is_large_block info size)
      ∙ ap (λ (b : Bool). (list_any (is_large_block info) sizes || is_large_block info size) || b) (sym small ∙ ap (list_any (is_small_block info)) (sym (but_last_push sizes size)))
      ∙ ap (λ (b : Bool). b || list_any (is_small_block info) (but_last (sizes ++ size ∷ []))) (sym (any_push (is_large_block info) sizes size))

-- ---- the walk

-- The frames so far have these block sizes and these frame sizes.
pub record SizesNoted {A : Type 0} (info : Streaminfo) (blocks sizes : List ℕ) (walk : Walk A) : Type 0 where
  pub block_size : walk.notes.has_other_block_size ≡ other_block_size info blocks
  pub small : SmallSizes info blocks walk.is_short
  pub frame_size : walk.notes.has_other_frame_size ≡ other_frame_size info sizes

pub none_noted : {A : Type 0} (info : Streaminfo) (walk : Walk A) → NothingNoted walk → SizesNoted info [] [] walk
none_noted info walk none = record { block_size = none.block_size; small = sym none.short; frame_size = none.frame_size }

pub frame_noted : {A B : Type 0} {info : Streaminfo} {frame : DecodedFrame B} {start end : ℕ} {old new : Walk A} {blocks sizes : List ℕ} → SizesNoted info blocks sizes old → NotesFrame info frame start end old new → SizesNoted info (blocks ++ frame_duration (decoded_view frame) ∷ []) (sizes ++ bytes_between start end ∷ []) new
frame_noted {info = info} {frame = frame} {start = start} {end = end} {old = old} {new = new} {blocks = blocks} {sizes = sizes} h n =
    let size = frame_duration (decoded_view frame) in
    record {
      block_size = n.sizes.block_size ∙ ap (λ (b : Bool). (b || old.is_short) || is_large_block info size) h.block_size ∙ block_push info blocks size old.is_short h.small;
      small = subst (SmallSizes info (blocks ++ size ∷ [])) (sym n.short) (small_push info blocks size);
      frame_size = n.sizes.frame_size ∙ ap (λ (b : Bool). b || is_other_frame_size info (bytes_between start end)) h.frame_size ∙ sym (any_push (is_other_frame_size info) sizes (bytes_between start end));
    }

-- nothing of it changed
pub sizes_kept : {A : Type 0} {info : Streaminfo} {old new : Walk A} {blocks sizes : List ℕ} → SizesNoted info blocks sizes old → new.notes.has_other_block_size ≡ old.notes.has_other_block_size → new.is_short ≡ old.is_short → new.notes.has_other_frame_size ≡ old.notes.has_other_frame_size → SizesNoted info blocks sizes new
sizes_kept {info = info} {blocks = blocks} h block short frame = record {
  block_size = block ∙ h.block_size;
  small = subst (SmallSizes info blocks) (sym short) h.small;
  frame_size = frame ∙ h.frame_size;
}

-- ---- the sizes of frames

pub sizes_push : (stream : Option StreamFormat) (parts : List FrameOrFault) (s m : List ℕ) (sizes : List ℕ) → FrameSizes stream s parts m sizes → (part : FrameOrFault) (t n : List ℕ) → FrameOrFaultBytes stream part t → m ≡ t ++ n → FrameSizes stream s (parts ++ part ∷ []) n (sizes ++ frame_size_of part t)
sizes_push stream [] s m sizes h part t n bytes joined = (t, n, [], bytes, h.0 ∙ joined, (refl, refl), ap (λ (z : List ℕ). z ++ frame_size_of part t) h.1 ∙ sym (append-nil (frame_size_of part t)))
sizes_push stream (first ∷ parts) s m sizes h part t n bytes joined = (
  h.0,
  h.1,
  h.2 ++ frame_size_of part t,
  h.3,
  h.4,
  sizes_push stream parts h.1 m h.2 h.5 part t n bytes joined,
  ap (λ (z : List ℕ). z ++ frame_size_of part t) h.6 ∙ append_assoc (frame_size_of first h.0) h.2 (frame_size_of part t),
)

pub size_is : (start end size : ℕ) → start < 2 ^ 64 → end % 2 ^ 64 ≡ (start + size) % 2 ^ 64 → bytes_between start end ≡ size % 2 ^ 64
size_is start end size fits e = omega arith

-- ---- frames and faults so far

-- a note that isn't there
pub not_so : {P : Type 0} (note : Bool) → note ≡ false → (P → ⊥) → IsTrue note ↔ P
not_so note none not = (λ t. absurd (false≢true (sym none ∙ t)), λ p. absurd (not p))

not_there : (note : Bool) → (IsTrue note → ⊥) → note ≡ false
not_there true not = absurd (not refl)
not_there false not = refl

not_failed : (e : Error) → is_io e ≡ false → IsFailedRead e → ⊥
not_failed (IoError cause) io h = absurd cc
not_failed (FormatError text) io h = h
not_failed (Unsupported text) io h = h
not_failed OutOfMemory io h = h

-- They were noted: no byte is left so far, no read failed, and nothing had to be searched.
pub record NotedSoFar {A : Type 0} (stream : Option StreamFormat) (info : Streaminfo) (s m : List ℕ) (parts : List FrameOrFault) (walk : Walk A) : Type 0 where
  pub sizes : List ℕ
  pub sizes_are : FrameSizes stream s parts m sizes
  pub noted : SizesNoted info (map frame_duration (frames_of parts)) sizes walk
  pub none_left : walk.notes.has_byte_left ≡ false
  pub none_failed : walk.notes.has_failed_read ≡ false
  pub searched : walk.notes.has_unsearched ≡ false

pub nothing_so_far : {A : Type 0} (stream : Option StreamFormat) (info : Streaminfo) (s : List ℕ) (walk : Walk A) → NothingNoted walk → NotedSoFar stream info s s [] walk
nothing_so_far stream info s walk none = record {
  sizes = [];
  sizes_are = (refl, refl);
  noted = none_noted info walk none;
  none_left = none.byte_left;
  none_failed = none.failed_read;
  searched = none.searched;
}

module _ {A : Type 0} {stream : Option StreamFormat} {info : Streaminfo} {s m : List ℕ} {parts : List FrameOrFault} {old new : Walk A} (h : NotedSoFar stream info s m parts old) (t n : List ℕ) (joined : m ≡ t ++ n) where
  pub frame_so_far : {B : Type 0} {frame : DecodedFrame B} {start end : ℕ} → FrameWithHeader stream (decoded_view frame) t → start < 2 ^ 64 → end % 2 ^ 64 ≡ (start + length t) % 2 ^ 64 → NotesFrame info frame start end old new → (let part : FrameOrFault = Ok (decoded_view frame) in frames_of (parts ++ part ∷ []) ≡ frames_of parts ++ decoded_view frame ∷ [])
      → (let part : FrameOrFault = Ok (decoded_view frame) in NotedSoFar stream info s n (parts ++ part ∷ []) new)
  frame_so_far {frame = frame} {start = start} {end = end} bytes fits moved notes frames_are =
      let part : FrameOrFault = Ok (decoded_view frame) in
      let blocks : map frame_duration (frames_of (parts ++ part ∷ [])) ≡ map frame_duration (frames_of parts) ++ frame_duration (decoded_view frame) ∷ [] =
      ap (map frame_duration) frames_are ∙ map-append frame_duration (frames_of parts) (decoded_view frame ∷ []) in
      record {
        sizes = h.sizes ++ frame_size_of part t;
        sizes_are = sizes_push stream parts s m h.sizes h.sizes_are part t n bytes joined;
        noted = subst (λ (z : List ℕ). SizesNoted info z (h.sizes ++ frame_size_of part t) new) (sym blocks) (subst (λ (k : ℕ). SizesNoted info (map frame_duration (frames_of parts) ++ frame_duration (decoded_view frame) ∷ []) (h.sizes ++ k ∷ []) new) (size_is start end (length t) fits moved) (frame_noted h.noted notes));
        none_left = notes.sizes.byte_left;
        none_failed = notes.sizes.failed_read ∙ h.none_failed;
        searched = notes.sizes.searched ∙ h.searched;
      }

  pub fault_so_far : (f : Fault) (error : Error) → FrameBytesFault stream f t → is_io error ≡ false → NotesFault error old new → (let part : FrameOrFault = Err f in frames_of (parts ++ part ∷ []) ≡ frames_of parts) → (let part : FrameOrFault = Err f in NotedSoFar stream info s n (parts ++ part ∷ []) new)
  fault_so_far f error bytes io notes frames_are =
      let part : FrameOrFault = Err f in
      record {
        sizes = h.sizes ++ [];
        sizes_are = sizes_push stream parts s m h.sizes h.sizes_are part t n bytes joined;
        noted = subst (λ (fs : List FrameValue). SizesNoted info (map frame_duration fs) (h.sizes ++ []) new) (sym frames_are) (subst (λ (z : List ℕ). SizesNoted info (map frame_duration (frames_of parts)) z new) (sym (append-nil h.sizes)) (sizes_kept h.noted notes.block_size notes.short notes.frame_size));
        none_left = notes.byte_left ∙ h.none_left;
        none_failed = not_there new.notes.has_failed_read (λ t. elim (notes.failed_read.0 t) [ inl failed ↦ false≢true (sym h.none_failed ∙ failed) | inr failed ↦ not_failed error io failed ]);
        searched = notes.searched ∙ h.searched;
      }

-- ---- the end

-- of fewer than two bytes one is left exactly where the positions differ
pub one_left : (start front byte end : ℕ) (rest : List ℕ) → byte ≡ (start + front) % 2 ^ 64 → end ≡ (start + (front + length rest)) % 2 ^ 64 → length rest < 2 → (byte ≢ end) ↔ (rest ≢ [])
one_left start front byte end [] e f few = (λ n. absurd (n (omega arith)), λ n. absurd (n refl))
one_left start front byte end (x ∷ rest) e f few = (λ n z. cc, λ n z. omega arith)
