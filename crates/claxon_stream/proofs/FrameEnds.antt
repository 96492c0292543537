-- The end of a frame, by the CRC-16 of its bytes.
use Rattle.std.proofs.Common.{◌≡◌, ◌⊎◌, inl, inr, ℕ, ◌+◌, ◌-◌, ◌<◌, ◌≤◌, Bool, true, false, List, [], ◌∷◌, ◌++◌, length, get_or, take, drop, replicate, Option, refl, sym, ap, subst, ◌∙◌, append_assoc, append-nil, arith, length-append, length-drop, take-add}
use Rattle.std.proofs.lemmas.Bool.{cases_lt, false≢true}
use Rattle.std.proofs.lemmas.List.{take-append-drop, take-append-le, take-take, take_all, take_at, take_more, take_rest}
use Rattle.claxon_format.proofs.Division.{divide-append, zeros-small}
use Rattle.claxon.specs.Bits.{Bits, bits_of}
use Rattle.claxon.specs.Crc.{HasCrc16, crc16, divide, divide_step}
use Rattle.claxon.specs.CrcUpdate.{update_crc16}
use Rattle.claxon.specs.Frame.{Block, Frame, NoFrameLeft, StreamFormat}
use Rattle.claxon.proofs.CrcUpdate.{continues_16, update_crc-append, update_crc-none}
use Rattle.claxon.proofs.FormatLaws.{frames_have_crc}
use Rattle.claxon.proofs.SampleRuns.{short_no_fault, short_no_frame}
use Rattle.claxon_stream.specs.Event.{IsOpen}
use Rattle.claxon_stream.specs.FrameEnd.{Knows, StartKnows, StartsWith}
use Rattle.claxon_stream.specs.SumThrough.{IsSummed}
use Rattle.claxon_stream.specs.declared.ending.FrameEnd.{FrameEnd}

-- ---- the law of the format

-- bits that leave no remainder have the CRC 0
zero_crc : (s : Bits) → HasCrc16 s → crc16 s ≡ 0
unfolding crc16
zero_crc s none =
    divide-append 16 0x18005 0 s (replicate 16 false) ∙ ap (λ (r : ℕ). divide 16 0x18005 r (replicate 16 false)) none ∙ zeros-small 16 0x18005 (omega arith) (omega arith) (omega arith) 16 0 (omega arith) ∙ omega arith

-- a frame ends only where its CRC is 0
pub frame_ends_at_zero : (stream : Option StreamFormat) (block : Block) (t : List ℕ) → Frame stream block t → crc16 (bits_of t) ≡ 0
frame_ends_at_zero stream block t code = zero_crc (bits_of t) (frames_have_crc.frames stream block (bits_of t) code)

no_bytes_zero : crc16 (bits_of []) ≡ 0
unfolding crc16 bits_of divide divide_step
no_bytes_zero = refl

-- ---- parts of lists

-- what is left of a part, where more is taken
pub part_first : (n : ℕ) (t u : List ℕ) → length t ≤ n → (rest : List ℕ) × (take n (t ++ u) ≡ t ++ rest)
part_first n t u h =
    let s = take n (t ++ u) in
    (drop (length t) s, sym (take-append-drop (length t) s) ∙ ap (λ (x : List ℕ). x ++ drop (length t) s) (take-take (length t) n (t ++ u) h ∙ take_at t u (length t) refl))

-- ---- the sum, byte by byte

module _ (crc : ℕ) (was_zero : Bool) (bytes : List ℕ) where
  -- the first i bytes are summed
  pub record SummedTo (i sum : ℕ) (is_zero : Bool) : Type 0 where
    pub is : sum ≡ update_crc16 crc (take i bytes)
    pub never : is_zero ≡ false → (was_zero ≡ false) × ((k : ℕ) → k < i → update_crc16 crc (take (k + 1) bytes) ≡ 0 → ⊥)
    pub once : is_zero ≡ true → (was_zero ≡ true) ⊎ ((k : ℕ) × (k < i) × (update_crc16 crc (take (k + 1) bytes) ≡ 0))

  pub none_summed : SummedTo 0 crc was_zero
  none_summed = record {
    is = sym (update_crc-none 16 0x18005 crc);
    never = λ e. (e, λ k lt zero. absurd (omega (arith, lt)));
    once = λ e. inl e;
  }

  module _ (i sum next : ℕ) (z : Bool) (inside : i < length bytes) (h : SummedTo i sum z) (updated : (more : List ℕ) → update_crc16 next more ≡ update_crc16 sum (get_or bytes i 0 ∷ more)) where
    next_sum : next ≡ update_crc16 crc (take (i + 1) bytes)
    next_sum =
        let byte = get_or bytes i 0 in
        sym (update_crc-none 16 0x18005 next) ∙ updated [] ∙ ap (λ (c : ℕ). update_crc16 c (byte ∷ [])) h.is ∙ update_crc-append 16 0x18005 (take i bytes) (byte ∷ []) crc ∙ ap (update_crc16 crc) (sym (take_more bytes i 0 inside))

    pub zero_summed : next ≡ 0 → SummedTo (i + 1) next true
    zero_summed zero = record {
      is = next_sum;
      never = λ e. absurd (false≢true (sym e));
      once = λ e. inr (i, omega arith, sym next_sum ∙ zero);
    }

    pub other_summed : (next ≡ 0 → ⊥) → SummedTo (i + 1) next z
    other_summed other = record {
      is = next_sum;
      never = λ e. let n = h.never e in (
        n.0,
        λ k lt zero. elim (cases_lt k i) [
          | inl less ↦ n.1 k less zero
          | inr le ↦ (let same : k ≡ i = omega (arith, lt, le) in other (next_sum ∙ subst (λ (j : ℕ). update_crc16 crc (take (j + 1) bytes) ≡ 0) same zero))
        ],
      );
      once = λ e. elim (h.once e) [ inl p ↦ inl p | inr q ↦ inr (q.0, omega (arith, q.1), q.2) ];
    }

  pub all_summed : (i sum : ℕ) (z : Bool) → length bytes ≤ i → i ≤ length bytes → SummedTo i sum z → IsSummed crc was_zero bytes sum z
  all_summed i sum z past inside h =
      let all : take i bytes ≡ bytes = take_all i bytes past in
      record {
        is = h.is ∙ ap (update_crc16 crc) all;
        never = λ e. let n = h.never e in (n.0, λ k lt zero. n.1 k (omega (arith, lt, past)) zero);
        once = λ e. elim (h.once e) [ inl p ↦ inl p | inr q ↦ inr (q.0, omega (arith, q.1, inside), q.2) ];
      }

-- the same of the bytes from an index on, at once
pub updated_by_rest : (crc next n : ℕ) (bytes : List ℕ) → ((more : List ℕ) → update_crc16 next more ≡ update_crc16 crc (take (length bytes - n) (drop n bytes) ++ more)) → next ≡ update_crc16 crc (drop n bytes)
updated_by_rest crc next n bytes updated =
    sym (update_crc-none 16 0x18005 next) ∙ updated [] ∙ ap (update_crc16 crc) (append-nil (take (length bytes - n) (drop n bytes)) ∙ take_rest bytes n)

-- ---- what is known

pub nothing_noted : (e : FrameEnd) → e.tried ≡ 0 → e.summed ≡ 0 → e.crc ≡ 0 → e.is_near ≡ false → StartKnows e
nothing_noted e tried summed crc near stream depth bytes =
    let none : take 0 bytes ≡ [] = refl in
    let few : length (take 0 bytes) < 2 = omega arith in
    let no_tried : take e.tried bytes ≡ [] = ap (λ (n : ℕ). take n bytes) tried in
    let no_summed : take e.summed bytes ≡ [] = ap (λ (n : ℕ). take n bytes) summed in
    record {
      tried = subst (IsOpen stream) (sym no_tried) (record {
        no_code = λ block t rest code is. short_no_frame stream [] (omega arith) block t rest code is;
        no_fault = λ f t rest bad is. short_no_fault stream depth [] (omega arith) f t rest bad is;
      });
      crc = crc ∙ sym (ap (λ (s : List ℕ). crc16 (bits_of s)) no_summed ∙ no_bytes_zero);
      far = λ is. subst (NoFrameLeft stream) (sym no_summed) (short_no_frame stream [] (omega arith));
      near = λ is. absurd (false≢true (sym near ∙ is));
    }

module _ (stream : Option StreamFormat) (bytes front : List ℕ) (start : StartsWith bytes front) where
  -- the first of the bytes, as far as they are in the front
  pub first_are : (n : ℕ) → n ≤ length front → take n bytes ≡ take n front
  first_are n h = ap (take n) start.1 ∙ take-append-le n front start.0 h

  pub front_is : take (length front) bytes ≡ front
  front_is = first_are (length front) (omega arith) ∙ take_all (length front) front (omega arith)

  -- the front is the first of the bytes that are more
  front_within : (n : ℕ) → length front ≤ n → (rest : List ℕ) × (take n bytes ≡ front ++ rest)
  front_within n h = let k = part_first n front start.0 h in (k.0, ap (take n) start.1 ∙ k.1)

  -- no frame in them, and so none in the front
  pub no_frame_in_front : (n : ℕ) → length front ≤ n → NoFrameLeft stream (take n bytes) → NoFrameLeft stream front
  no_frame_in_front n h none block t u code is =
      let k = front_within n h in
      none block t (u ++ k.0) code (k.1 ∙ ap (λ (s : List ℕ). s ++ k.0) is ∙ append_assoc t u k.0)

  module _ (old : FrameEnd) (known : Knows stream bytes old) (more : old.summed ≤ length front) where
    first_summed : take old.summed bytes ≡ take old.summed front
    first_summed = first_are old.summed more

    -- the CRC after the first count bytes after those that were summed
    crc_after : (count : ℕ) → update_crc16 old.crc (take count (drop old.summed front)) ≡ crc16 (bits_of (take (old.summed + count) front))
    crc_after count =
        ap (λ (c : ℕ). update_crc16 c (take count (drop old.summed front))) (known.crc ∙ ap (λ (s : List ℕ). crc16 (bits_of s)) first_summed)
        ∙ continues_16 (take old.summed front) (take count (drop old.summed front))
        ∙ ap (λ (s : List ℕ). crc16 (bits_of s)) (sym (take-add old.summed count front))

    crc_of_front : update_crc16 old.crc (drop old.summed front) ≡ crc16 (bits_of (take (length front) bytes))
    crc_of_front =
        let left = drop old.summed front in
        ap (λ (c : ℕ). update_crc16 c left) (known.crc ∙ ap (λ (s : List ℕ). crc16 (bits_of s)) first_summed)
        ∙ continues_16 (take old.summed front) left
        ∙ ap (λ (s : List ℕ). crc16 (bits_of s)) (take-append-drop old.summed front ∙ sym front_is)

    -- no frame ends where the CRC isn't 0
    no_frame_by_crc : NoFrameLeft stream (take old.summed bytes) → ((k : ℕ) → k < length (drop old.summed front) → update_crc16 old.crc (take (k + 1) (drop old.summed front)) ≡ 0 → ⊥) → NoFrameLeft stream front
    no_frame_by_crc before never block t u code is = elim (cases_lt old.summed (length t)) [
      | inl lt ↦ (let k = length t - old.summed - 1 in
          let long : length front ≡ length t + length u = ap length is ∙ length-append t u in
          let there : old.summed + (k + 1) ≡ length t = omega (arith, lt) in
          let whole : take (old.summed + (k + 1)) front ≡ t = ap (λ (n : ℕ). take n front) there ∙ ap (take (length t)) is ∙ take_at t u (length t) refl in
          never k (omega (arith, lt, long, length-drop old.summed front)) (crc_after (k + 1) ∙ ap (λ (s : List ℕ). crc16 (bits_of s)) whole ∙ frame_ends_at_zero stream block t code))
      | inr le ↦ (let k = part_first old.summed t u le in
          before block t k.0 code (first_summed ∙ ap (take old.summed) is ∙ k.1))
    ]

    pub known_by_sum : (crc : ℕ) (is_near : Bool) → IsSummed old.crc old.is_near (drop old.summed front) crc is_near → Knows stream bytes (record { tried = old.tried; summed = length front; crc = crc; is_near = is_near })
    known_by_sum crc is_near h = record {
      tried = known.tried;
      crc = h.is ∙ crc_of_front;
      far = λ e. let n = h.never e in subst (NoFrameLeft stream) (sym front_is) (no_frame_by_crc (known.far n.0) n.1);
      near = λ e. elim (h.once e) [
        | inl p ↦ (let z = known.near p in (z.0, z.1, omega (arith, z.2, more), z.3))
        | inr q ↦ (let inside : old.summed + (q.0 + 1) ≤ length front = omega (arith, q.1, length-drop old.summed front) in
            (old.summed + (q.0 + 1), omega arith, inside, ap (λ (s : List ℕ). crc16 (bits_of s)) (first_are (old.summed + (q.0 + 1)) inside) ∙ sym (crc_after (q.0 + 1)) ∙ q.2))
      ];
    }

    pub known_by_try : (crc : ℕ) → crc ≡ update_crc16 old.crc (drop old.summed front) → IsOpen stream front → Knows stream bytes (record { tried = length front; summed = length front; crc = crc; is_near = false })
    known_by_try crc sum none = record {
      tried = subst (IsOpen stream) (sym front_is) none;
      crc = sum ∙ crc_of_front;
      far = λ e. subst (NoFrameLeft stream) (sym front_is) none.no_code;
      near = λ e. absurd (false≢true e);
    }
