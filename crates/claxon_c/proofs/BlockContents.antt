-- The content of a metadata block in memory.
use Rattle.std.proofs.Common.{◌≡◌, ◌⊎◌, inl, inr, ℕ, ◌≤◌, ◌-◌, Bool, true, false, not, eqb, List, ◌++◌, length, refl, sym, subst, ◌∙◌, arith, Bor, min}
use Rattle.std.specs.Prelude.{Result, Ok, Err, IfOk}
use Rattle.std.specs.Io.Cursor.{cursor_position, cursor_inner}
use Rattle.std.proofs.lemmas.Bool.{cases_lt, eqb-true, ltb-true, ltb-false, lt-ltb, le-ltb}
use Rattle.claxon.specs.Fault.{Fault}
use Rattle.claxon.specs.Metadata.{max_content_bytes}
use Rattle.claxon.specs.MetadataBlocks.{Body, BodyFault, Content}
use Rattle.claxon.specs.Error.{IsFault}
use Rattle.claxon.specs.Promises.{CodeIsComplete, CodeIsSound, FaultIsComplete, FaultIsSound, IsOutOfMemory, Remains}
use Rattle.claxon.specs.Errors.{Error}
use Rattle.claxon.proofs.InMemory.{cursor_just_out_of_memory, new_cursor_remains}
use Rattle.claxon.specs.MetadataBlock.{MayAllocate, MayRunOutOfMemory}
use Rattle.claxon.specs.VorbisComment.{HasVendorLength, OutOfMemoryAfterVendorLength}
use Rattle.claxon.specs.OtherErrors.{IfOtherErr}
use Rattle.claxon.specs.Prefix.{BeginsWith}
use Rattle.claxon.proofs.FramesInMemory.{Slice, begins_with_consumed, slice_state}
use Rattle.claxon_c.specs.Contents.{BodyIsRead, comment_type, streaminfo_type}
use Rattle.claxon_seek.proofs.AtStart.{shown_bytes}

-- ---- a length above the greatest u32 is like it

-- equal, or both at least the greatest u32
abbrev AreLike : ℕ → ℕ → Type 0
AreLike m n = (m ≡ n) ⊎ ((4294967295 ≤ m) × (4294967295 ≤ n))

abbrev IsReadType : ℕ → Type 0
IsReadType type = (type ≡ streaminfo_type) ⊎ (type ≡ comment_type)

pub like_least : (m n : ℕ) → m ≡ min n 4294967295 → AreLike m n
like_least m n e = elim (cases_lt 4294967295 n) [
  | inl large ↦ inr (omega (arith, e), omega (arith, e))
  | inr small ↦ inl (omega (arith, e))
]

is_not_34 : (n : ℕ) → 4294967295 ≤ n → not (eqb n 34) ≡ true
is_not_34 n large = go (eqb n 34) refl
  where
    go : (b : Bool) → eqb n 34 ≡ b → not b ≡ true
    go true e = absurd (let k = eqb-true n 34 e in omega arith)
    go false e = refl

-- neither is the length of a content
no_body : (type m : ℕ) (c : Content) (t : List ℕ) → IsReadType type → 4294967295 ≤ m → Body type m c t → ⊥
no_body type m c t (inl is) large body = let b = subst (λ (z : ℕ). Body z m c t) is body in omega (arith, b.0)
no_body type m c t (inr is) large body = let b = subst (λ (z : ℕ). Body z m c t) is body in omega (arith, b.1.4)

pub like_body : (type m n : ℕ) (c : Content) (t : List ℕ) → IsReadType type → AreLike m n → Body type m c t → Body type n c t
like_body type m n c t is (inl e) body = subst (λ (z : ℕ). Body type z c t) e body
like_body type m n c t is (inr large) body = absurd (no_body type m c t is large.0 body)

streaminfo_fault : (m n : ℕ) (f : Fault) (t : List ℕ) → 4294967295 ≤ m → 4294967295 ≤ n → BodyFault streaminfo_type m f t → BodyFault streaminfo_type n f t
streaminfo_fault m n f t large also (inl (b, is, t-is)) = inl (is_not_34 n also, is, t-is)
streaminfo_fault m n f t large also (inr (b, is)) = absurd (let k = is_not_34 m large in let j : true ≡ false = sym k ∙ b in cc)

comment_fault : (m n : ℕ) (f : Fault) (t : List ℕ) → 4294967295 ≤ m → 4294967295 ≤ n → BodyFault comment_type m f t → BodyFault comment_type n f t
comment_fault m n f t large also (inl (b, is, t-is)) = absurd (let k = ltb-true m 8 b in omega arith)
comment_fault m n f t large also (inr (b, inl (d, is, t-is))) = inr (le-ltb n 8 (omega arith), inl (lt-ltb max_content_bytes n (omega arith), is, t-is))
comment_fault m n f t large also (inr (b, inr (d, is))) = absurd (let k = ltb-false max_content_bytes m d in omega arith)

pub like_fault : (type m n : ℕ) (f : Fault) (t : List ℕ) → IsReadType type → AreLike m n → BodyFault type m f t → BodyFault type n f t
like_fault type m n f t is (inl e) body = subst (λ (z : ℕ). BodyFault type z f t) e body
like_fault type m n f t (inl is) (inr large) body = subst (λ (z : ℕ). BodyFault z n f t) (sym is) (streaminfo_fault m n f t large.0 large.1 (subst (λ (z : ℕ). BodyFault z m f t) is body))
like_fault type m n f t (inr is) (inr large) body = subst (λ (z : ℕ). BodyFault z n f t) (sym is) (comment_fault m n f t large.0 large.1 (subst (λ (z : ℕ). BodyFault z m f t) is body))

other_way : (m n : ℕ) → AreLike m n → AreLike n m
other_way m n (inl e) = inl (sym e)
other_way m n (inr large) = inr (large.1, large.0)

like_memory : (type m n : ℕ) (s : List ℕ) → AreLike m n → MayAllocate type m → (type ≡ 4 → HasVendorLength (m - 8) s) → MayRunOutOfMemory type n s
like_memory type m n s (inl e) may vendor = subst (λ (z : ℕ). MayRunOutOfMemory type z s) e (may, vendor)
like_memory type m n s (inr large) may vendor = absurd (omega (arith, may.1, large.0))

-- ---- nothing was read before

module _ {A : Type 0} (view : A → Content) (type m : ℕ) (bytes : Bor (List ℕ)) (a b : Slice) (at : cursor_position a ≡ 0) (inner : cursor_inner a ≡ bytes) (is : IsReadType type) (like : AreLike m (length bytes.now)) where
  remains : Remains (slice_state a) bytes.now
  remains = new_cursor_remains shown_bytes a bytes at inner

  there : (t rest : List ℕ) → bytes.now ≡ t ++ rest → Remains (slice_state a) (t ++ rest)
  there t rest e = record { known = remains.known; are = remains.are ∙ e }

  body_begins : (c : Content) → BeginsWith (Body type m c) bytes.now → BeginsWith (Body type (length bytes.now) c) bytes.now
  body_begins c begins = (begins.0, begins.1, like_body type m (length bytes.now) c begins.0 is like begins.2, begins.3)

  fault_begins : (f : Fault) → BeginsWith (BodyFault type m f) bytes.now → BeginsWith (BodyFault type (length bytes.now) f) bytes.now
  fault_begins f begins = (begins.0, begins.1, like_fault type m (length bytes.now) f begins.0 is like begins.2, begins.3)

  body_is_sound : (r : Result A Error) → CodeIsSound view r (Body type m) (slice_state a) (slice_state b) → IfOk r (λ x. BeginsWith (Body type (length bytes.now) (view x)) bytes.now)
  body_is_sound (Ok x) h = body_begins (view x) (begins_with_consumed (slice_state a) (slice_state b) bytes.now remains h)
  body_is_sound (Err e) h = tt

  fault_is_sound : (r : Result A Error) → FaultIsSound r (BodyFault type m) (slice_state a) (slice_state b) → IfOtherErr r (λ e. (f : Fault) × IsFault f e × BeginsWith (BodyFault type (length bytes.now) f) bytes.now)
  fault_is_sound (Ok x) h = tt
  fault_is_sound (Err e) h = elim h [
    | inl p ↦ inl p
    | inr (inl i) ↦ inr (inl i)
    | inr (inr k) ↦ inr (inr (let f = k remains.known in (f.0, f.1, fault_begins f.0 (begins_with_consumed (slice_state a) (slice_state b) bytes.now remains f.2))))
  ]

  pub body_is_read : (r : Result A Error) → CodeIsSound view r (Body type m) (slice_state a) (slice_state b) → CodeIsComplete view r (Body type m) (slice_state a) (slice_state b)
      → FaultIsSound r (BodyFault type m) (slice_state a) (slice_state b) → FaultIsComplete r (BodyFault type m) (slice_state a) (slice_state b)
      → (IsOutOfMemory r → MayAllocate type m) → (type ≡ 4 → OutOfMemoryAfterVendorLength (m - 8) r (slice_state a)) → BodyIsRead view type bytes.now r
  body_is_read r sound complete fault named may vendor = record {
    sound = body_is_sound r sound;
    complete = λ c begins. elim (complete c begins.0 begins.1 (like_body type (length bytes.now) m c begins.0 is (other_way m (length bytes.now) like) begins.2) (there begins.0 begins.1 begins.3)) [
      | inl p ↦ inl p.0
      | inr x ↦ inr (cursor_just_out_of_memory shown_bytes r a b x)
    ];
    fault = fault_is_sound r fault;
    named = λ f begins. elim (named f begins.0 begins.1 (like_fault type (length bytes.now) m f begins.0 is (other_way m (length bytes.now) like) begins.2) (there begins.0 begins.1 begins.3)) [
      | inl p ↦ inl p.0
      | inr x ↦ inr (cursor_just_out_of_memory shown_bytes r a b x)
    ];
    memory = λ s. like_memory type m (length bytes.now) bytes.now like (may s) (λ e. subst (HasVendorLength (m - 8)) remains.are (vendor e s remains.known));
  }
