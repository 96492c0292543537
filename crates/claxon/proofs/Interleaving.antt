-- Samples that are stored interleaved, by index.
use Rattle.std.proofs.Common.{◌≡◌, ◌⊎◌, inl, inr, ℕ, zero, suc, ◌+◌, ◌-◌, ◌*◌, ◌<◌, ◌≤◌, List, [], ◌∷◌, ◌++◌, ◌%◌, ◌/◌, ◌^◌, append_assoc, length-append, length, take, drop, get_or, refl, sym, ap, subst, ◌∙◌, arith, ℤ, pos, Fits}
use Rattle.std.specs.Prelude.{Some, slice_get, slice_set}
use Rattle.std.specs.Int.{to_le_bytes, w32, w64}
use Rattle.std.specs.List.{between, flat_map, range_with_len}
use Rattle.std.proofs.lemmas.List.{append-nil, length-map, map_more, take-map, take_all, take_more, drop_all, take-append-drop, take-take, drop-drop, drop-take, drop-append-le, length-take, length-drop}
use Rattle.std.proofs.lemmas.Slice.{take-put_mid, take-put_mid_below, drop-put_mid}
use Rattle.std.proofs.lemmas.Grind.{flat_map-append}
use Rattle.std.proofs.lemmas.List.Edits.{get_or-between}
use Rattle.std.proofs.lemmas.Option.{get_or_from_slice_get, slice_get_within}
use borrow.Rule.Slice.PartMut.{put_mid}
use Rattle.claxon_format.specs.Streams.{duration_of, interleave, samples_at}
use Rattle.claxon.specs.Interleave.{PutAfter, nth_chunk, interleave_range, sample_itself, stored_between}

-- ---- ranges of interchannel samples

-- two adjacent ranges
pub range_more : (channels : List (List ℤ)) (from n m : ℕ) → interleave_range channels from (n + m) ≡ interleave_range channels from n ++ interleave_range channels (from + n) m
unfolding interleave_range
range_more channels from n m = more (samples_at channels) n from m
  where
    more : (f : ℕ → List ℤ) (n from m : ℕ) → flat_map f (range_with_len from (n + m)) ≡ flat_map f (range_with_len from n) ++ flat_map f (range_with_len (from + n) m)
    more f zero from m =
        let a : 0 + m ≡ m = omega arith in
        let b : from + 0 ≡ from = omega arith in
        rw (a, b) refl
    more f (suc n) from m =
        let a : suc n + m ≡ suc (n + m) = omega arith in
        let b : from + 1 + n ≡ from + suc n = omega arith in
        rw a (ap (λ (z : List ℤ). f from ++ z) (more f n (from + 1) m ∙ ap (λ (k : ℕ). flat_map f (range_with_len (from + 1) n) ++ flat_map f (range_with_len k m)) b) ∙ sym (append_assoc (f from) (flat_map f (range_with_len (from + 1) n)) (flat_map f (range_with_len (from + suc n) m))))

pub range_none : (channels : List (List ℤ)) (from : ℕ) → interleave_range channels from 0 ≡ []
unfolding interleave_range
range_none channels from = refl

pub range_all : (channels : List (List ℤ)) → interleave_range channels 0 (duration_of channels) ≡ interleave channels
unfolding interleave_range
range_all channels = refl

range_one : (channels : List (List ℤ)) (i : ℕ) → interleave_range channels i 1 ≡ samples_at channels i
unfolding interleave_range
range_one channels i = append-nil (samples_at channels i)

-- the next interchannel sample
range_next : (channels : List (List ℤ)) (i : ℕ) → interleave_range channels 0 (i + 1) ≡ interleave_range channels 0 i ++ samples_at channels i
range_next channels i =
    let z : 0 + i ≡ i = omega arith in
    range_more channels 0 i 1 ∙ ap (λ (j : ℕ). interleave_range channels 0 i ++ interleave_range channels j 1) z ∙ ap (λ (s : List ℤ). interleave_range channels 0 i ++ s) (range_one channels i)

range_of_one : (c : List ℤ) (n : ℕ) → n ≤ length c → interleave_range (c ∷ []) 0 n ≡ take n c
range_of_one c zero le = range_none (c ∷ []) 0
range_of_one c (suc n) le =
    let on : n + 1 ≡ suc n = omega arith in
    ap (interleave_range (c ∷ []) 0) (sym on) ∙ range_next (c ∷ []) n ∙ ap (λ (z : List ℤ). z ++ get_or c n (pos 0) ∷ []) (range_of_one c n (omega (arith, le))) ∙ sym (take_more c n (pos 0) (omega (arith, le))) ∙ ap (λ (k : ℕ). take k c) on

-- ---- a part of each channel

-- the interleaved parts are a range of the whole
parts_of : (channels parts : List (List ℤ)) (from n : ℕ) → ((i : ℕ) → i < n → samples_at parts i ≡ samples_at channels (from + i)) → interleave_range parts 0 n ≡ interleave_range channels from n
unfolding interleave_range
parts_of channels parts from n h = same n 0 from (λ i lt. let e : 0 + i ≡ i = omega arith in ap (samples_at parts) e ∙ h i lt)
  where
    same : (n a b : ℕ) → ((i : ℕ) → i < n → samples_at parts (a + i) ≡ samples_at channels (b + i)) → flat_map (samples_at parts) (range_with_len a n) ≡ flat_map (samples_at channels) (range_with_len b n)
    same zero a b h = refl
    same (suc n) a b h =
        let p : a + 0 ≡ a = omega arith in
        let q : b + 0 ≡ b = omega arith in
        let first : samples_at parts a ≡ samples_at channels b = sym (ap (samples_at parts) p) ∙ h 0 (omega arith) ∙ ap (samples_at channels) q in
        let rest = same n (a + 1) (b + 1) (λ i lt. let e : a + 1 + i ≡ a + suc i = omega arith in let f : b + suc i ≡ b + 1 + i = omega arith in ap (samples_at parts) e ∙ h (suc i) (omega arith) ∙ ap (samples_at channels) f) in
        ap (λ (z : List ℤ). z ++ flat_map (samples_at parts) (range_with_len (a + 1) n)) first ∙ ap (λ (z : List ℤ). samples_at channels b ++ z) rest

alone : (channels : List (List ℤ)) (c : List ℤ) → length channels ≡ 1 → slice_get channels 0 ≡ Some c → channels ≡ c ∷ []
alone [] c len found = absurd (omega (arith, len))
alone (x ∷ []) c len found = ap (λ (z : List ℤ). z ∷ []) (get_or_from_slice_get (x ∷ []) 0 c [] found)
alone (x ∷ y ∷ zs) c len found = absurd (omega (arith, len))

both_of : (channels : List (List ℤ)) (c d : List ℤ) → length channels ≡ 2 → slice_get channels 0 ≡ Some c → slice_get channels 1 ≡ Some d → channels ≡ c ∷ d ∷ []
both_of [] c d len found also = absurd (omega (arith, len))
both_of (x ∷ []) c d len found also = absurd (omega (arith, len))
both_of (x ∷ y ∷ []) c d len found also = ap (λ (z : List ℤ). z ∷ y ∷ []) (get_or_from_slice_get (x ∷ y ∷ []) 0 c [] found) ∙ ap (λ (z : List ℤ). c ∷ z ∷ []) (get_or_from_slice_get (x ∷ y ∷ []) 1 d [] also)
both_of (x ∷ y ∷ z ∷ zs) c d len found also = absurd (omega (arith, len))

in_part : (c s : List ℤ) (from to i : ℕ) → s ≡ between from to c → i < to - from → get_or s i (pos 0) ≡ get_or c (from + i) (pos 0)
in_part c s from to i part lt = ap (λ (z : List ℤ). get_or z i (pos 0)) part ∙ get_or-between c from to i (pos 0) (omega arith)

pub mono_part : (channels : List (List ℤ)) (c s : List ℤ) (from to n : ℕ) → length channels ≡ 1 → slice_get channels 0 ≡ Some c → s ≡ between from to c → n ≡ to - from → length s ≡ n → s ≡ interleave_range channels from n
mono_part channels c s from to n len found part n-is all =
    sym (range_of_one s n (omega (arith, all)) ∙ take_all n s (omega (arith, all)))
    ∙ parts_of channels (s ∷ []) from n (λ i lt.
    ap (λ (x : ℤ). x ∷ []) (in_part c s from to i part (omega arith)) ∙ ap (λ (z : List (List ℤ)). samples_at z (from + i)) (sym (alone channels c len found)))

pub stereo_part : (channels : List (List ℤ)) (c d s t : List ℤ) (from to n : ℕ) → length channels ≡ 2 → slice_get channels 0 ≡ Some c → slice_get channels 1 ≡ Some d → s ≡ between from to c → t ≡ between from to d → n ≡ to - from → length s ≡ n
    → interleave_range (s ∷ t ∷ []) 0 (length s) ≡ interleave_range channels from n
stereo_part channels c d s t from to n len found also part other n-is all = ap (interleave_range (s ∷ t ∷ []) 0) all ∙ parts_of channels (s ∷ t ∷ []) from n (λ i lt.
    ap (λ (x : ℤ). x ∷ get_or t i (pos 0) ∷ []) (in_part c s from to i part (omega arith)) ∙ ap (λ (x : ℤ). get_or c (from + i) (pos 0) ∷ x ∷ []) (in_part d t from to i other (omega arith))
    ∙ ap (λ (z : List (List ℤ)). samples_at z (from + i)) (sym (both_of channels c d len found also)))

-- ---- the units of samples

-- samples as themselves
pub all_themselves : (xs : List ℤ) → flat_map sample_itself xs ≡ xs
all_themselves [] = refl
all_themselves (x ∷ xs) = ap (λ (z : List ℤ). x ∷ z) (all_themselves xs)

pub one_place : (place : List ℤ) (y x : ℤ) → length place ≡ 1 → y ≡ x → slice_set place 0 y ≡ sample_itself x
one_place [] y x len is = absurd (omega (arith, len))
one_place (a ∷ []) y x len is = ap sample_itself is
one_place (a ∷ b ∷ place) y x len is = absurd (omega (arith, len))

pub two_places : (place : List ℤ) (y z x w : ℤ) → length place ≡ 2 → y ≡ x → z ≡ w → slice_set (slice_set place 0 y) 1 z ≡ sample_itself x ++ sample_itself w
two_places [] y z x w len first second = absurd (omega (arith, len))
two_places (a ∷ []) y z x w len first second = absurd (omega (arith, len))
two_places (a ∷ b ∷ []) y z x w len first second = ap (λ (k : ℤ). k ∷ z ∷ []) first ∙ ap (λ (k : ℤ). x ∷ k ∷ []) second
two_places (a ∷ b ∷ c ∷ place) y z x w len first second = absurd (omega (arith, len))

-- all of a place is replaced
pub whole_place : {U : Type 0} (place put units : List U) (n : ℕ) → length place ≡ n → put ≡ units → put ++ drop n place ≡ units
whole_place place put units n len is = ap (λ z. put ++ z) (drop_all n place (omega (arith, len))) ∙ append-nil put ∙ is

-- two 32-bit numbers as one 64-bit number
pub pair_bytes : (low high n : ℕ) → low < 2 ^ 32 → high < 2 ^ 32 → n ≡ high * 2 ^ 32 + low → to_le_bytes w64 n ≡ to_le_bytes w32 low ++ to_le_bytes w32 high
pair_bytes low high n l h n-is =
    let a : n % 256 ≡ low % 256 = omega arith in
    let b : n / 256 % 256 ≡ low / 256 % 256 = omega arith in
    let c : n / 65536 % 256 ≡ low / 65536 % 256 = omega arith in
    let d : n / 16777216 % 256 ≡ low / 16777216 % 256 = omega arith in
    let e : n / 4294967296 % 256 ≡ high % 256 = omega arith in
    let f : n / 1099511627776 % 256 ≡ high / 256 % 256 = omega arith in
    let g : n / 281474976710656 % 256 ≡ high / 65536 % 256 = omega arith in
    let i : n / 72057594037927936 % 256 ≡ high / 16777216 % 256 = omega arith in
    rw (a, b, c, d, e, f, g, i) refl

one_more : (i n : ℕ) → (i + 1) * n ≡ i * n + n
one_more i n = grind arith

-- a chunk begins after the one before it
apart : (size k i : ℕ) → k < i → k * size + size ≤ i * size
apart size k i lt = grind (arith, lt)

pub chunk_in_bounds : (size i n len : ℕ) → i < n → len ≡ n * size → i * size + size ≤ len
chunk_in_bounds size i n len lt e = grind (arith, apart size i n lt)

-- the units of one more sample
pub stored_more : {U : Type 0} (units : ℤ → List U) (samples : List ℤ) (i n k : ℕ) (buffer put : List U) → i < length samples → i * n ≤ length buffer → length put ≡ n → put ≡ units (get_or samples i (pos 0)) → take (i * n) buffer ≡ flat_map units (take i samples)
    → take ((i + 1) * n) (put_mid (i * n) k buffer put) ≡ flat_map units (take (i + 1) samples)
stored_more {U} units samples i n k buffer put lt inside len is so_far =
    let x = get_or samples i (pos 0) in
    let all : (i + 1) * n ≡ i * n + length put = omega (arith, one_more i n, len) in
    take-put_mid (i * n) k buffer put ((i + 1) * n) all inside ∙ ap (λ (z : List U). z ++ put) so_far
    ∙ ap (λ (z : List U). flat_map units (take i samples) ++ z) (is ∙ sym (append-nil (units x)))
    ∙ sym (ap (flat_map units) (take_more samples i (pos 0) lt) ∙ flat_map-append units (take i samples) (x ∷ []))

pub all_stored : {U : Type 0} (units : ℤ → List U) (samples : List ℤ) (i n : ℕ) (buffer : List U) → i ≡ length samples → length buffer ≡ length samples * n → take (i * n) buffer ≡ flat_map units (take i samples) → buffer ≡ flat_map units samples
all_stored units samples i n buffer i-is len so_far =
    let whole : length buffer ≤ i * n = grind arith in
    sym (take_all (i * n) buffer whole) ∙ so_far ∙ ap (flat_map units) (take_all i samples (omega (arith, i-is)))

-- no range yet, and all
pub no_range : {U : Type 0} (units : ℤ → List U) (channels : List (List ℤ)) (width : ℕ) (buffer : List U) → take (0 * width) buffer ≡ flat_map units (interleave_range channels 0 0)
no_range units channels width buffer = let none : 0 * width ≡ 0 = omega arith in ap (λ (k : ℕ). take k buffer) none ∙ sym (ap (flat_map units) (range_none channels 0))

pub all_ranges : {U : Type 0} (units : ℤ → List U) (channels : List (List ℤ)) (width n i : ℕ) (buffer : List U) → length buffer ≡ n * width → i ≡ n → take (i * width) buffer ≡ flat_map units (interleave_range channels 0 i) → buffer ≡ flat_map units (interleave_range channels 0 n)
all_ranges units channels width n i buffer len same so_far = sym (take_all (n * width) buffer (omega (arith, len))) ∙ subst (λ (z : ℕ). take (z * width) buffer ≡ flat_map units (interleave_range channels 0 z)) same so_far

-- ---- chunks, each of an interchannel sample

-- units are put into another chunk
other_chunk : {U : Type 0} (width k i at n : ℕ) (buffer put : List U) → (k < i) ⊎ (i < k) → at + n ≤ width → n ≡ length put → i * width + at + n ≤ length buffer → nth_chunk width k (put_mid (i * width + at) n buffer put) ≡ nth_chunk width k buffer
other_chunk width k i at n buffer put (inl lt) small len inside =
    let past : k * width + width ≤ i * width + at = omega (arith, apart width k i lt) in
    let here : i * width + at ≤ length buffer = omega arith in
    sym (drop-take (k * width) width (put_mid (i * width + at) n buffer put)) ∙ ap (drop (k * width)) (take-put_mid_below (i * width + at) n buffer put (k * width + width) past here) ∙ drop-take (k * width) width buffer
other_chunk width k i at n buffer put (inr lt) small len inside =
    let past : i * width + at + n ≤ k * width = omega (arith, apart width i k lt) in
    let here : i * width + at ≤ length buffer = omega arith in
    ap (take width) (drop-put_mid (i * width + at) n buffer put (k * width) past here (sym len))

-- units are put after the first units of a chunk
this_chunk : {U : Type 0} (width i at n : ℕ) (buffer put : List U) → at + n ≤ width → n ≡ length put → i * width + at + n ≤ length buffer → PutAfter width at i put buffer (put_mid (i * width + at) n buffer put)
this_chunk {U} width i at n buffer put small len inside =
    let start = i * width in
    let new = put_mid (start + at) n buffer put in
    let all = at + length put in
    let within : all ≤ width = omega arith in
    let prefix : at ≤ width = omega arith in
    let here : start + at ≤ length buffer = omega arith in
    let ends : start + all ≡ start + at + length put = omega arith in
    let inside_front : start ≤ length (take (start + at) buffer) = omega (arith, length-take (start + at) buffer) in
    take-take all width (drop start new) within ∙ sym (drop-take start all new) ∙ ap (drop start) (take-put_mid (start + at) n buffer put (start + all) ends here)
    ∙ drop-append-le start (take (start + at) buffer) put inside_front ∙ ap (λ (z : List U). z ++ put) (drop-take start at buffer ∙ sym (take-take at width (drop start buffer) prefix))

put_same : {U : Type 0} (width at k : ℕ) (put a b c d : List U) → nth_chunk width k a ≡ nth_chunk width k b → nth_chunk width k c ≡ nth_chunk width k d → PutAfter width at k put a c → PutAfter width at k put b d
put_same {U} width at k put a b c d e f h = sym (ap (take (at + length put)) f) ∙ h ∙ ap (λ (z : List U). take at z ++ put) e

below_or : (k i : ℕ) → k < i + 1 → (k < i) ⊎ (k ≡ i)
below_or k i lt = grind arith

-- the place of a sample's units in a chunk
pub place_in_chunk : (size ch channels : ℕ) → ch < channels → size * ch + size ≤ size * channels
place_in_chunk size ch channels lt = grind (arith, apart size ch channels lt)

-- the offset in bytes of a place in a buffer of elements of n bytes
pub offset_fits : (at len n : ℕ) → at ≤ len → len * n < 2 ^ 63 → Fits w64 (at * n)
offset_fits at len n le few = let scaled : at * n ≤ len * n = grind (arith, le) in omega (arith, scaled, few)

module _ {U : Type 0} (units : ℤ → List U) where
  -- In the first i chunks the samples of one channel were put after those before, and the other chunks are unchanged.
  pub record ChannelSoFar (width at i : ℕ) (samples : List ℤ) (old new : List U) : Type 0 where
    pub put : (k : ℕ) → k < i → PutAfter width at k (units (get_or samples k (pos 0))) old new
    pub left : (k : ℕ) → i ≤ k → nth_chunk width k new ≡ nth_chunk width k old

  pub channel_none : (width at : ℕ) (samples : List ℤ) (buffer : List U) → ChannelSoFar width at 0 samples buffer buffer
  channel_none width at samples buffer = record { put = λ k lt. absurd (omega arith); left = λ k le. refl }

  -- Each chunk begins with the units of the first ch channels.
  pub record ChannelsPutSoFar (channels : List (List ℤ)) (size width from n ch : ℕ) (buffer : List U) : Type 0 where
    pub prefixes : (i : ℕ) → i < n → take (size * ch) (nth_chunk width i buffer) ≡ flat_map units (take ch (samples_at channels (from + i)))

  pub before_channels : (channels : List (List ℤ)) (size width from n : ℕ) (buffer : List U) → ChannelsPutSoFar channels size width from n 0 buffer
  before_channels channels size width from n buffer = record {
    prefixes = λ i lt. let none : size * 0 ≡ 0 = omega arith in ap (λ (k : ℕ). take k (nth_chunk width i buffer)) none;
  }

  put_more : (width at i n k : ℕ) (samples : List ℤ) (old buffer put : List U) → (k < i) ⊎ (k ≡ i) → put ≡ units (get_or samples i (pos 0)) → at + n ≤ width → n ≡ length put → i * width + at + n ≤ length buffer → ChannelSoFar width at i samples old buffer
      → PutAfter width at k (units (get_or samples k (pos 0))) old (put_mid (i * width + at) n buffer put)
  put_more width at i n k samples old buffer put (inl lt) same fits len inside h =
      put_same width at k (units (get_or samples k (pos 0))) old old buffer (put_mid (i * width + at) n buffer put) refl (sym (other_chunk width k i at n buffer put (inl lt) fits len inside)) (h.put k lt)
  put_more width at i n k samples old buffer put (inr e) same fits len inside h =
      let new = put_mid (i * width + at) n buffer put in
      let here : PutAfter width at i put old new = put_same width at i put buffer old new new (h.left i (omega arith)) refl (this_chunk width i at n buffer put fits len inside) in
      let named : PutAfter width at i (units (get_or samples i (pos 0))) old new = subst (λ (z : List U). PutAfter width at i z old new) same here in
      subst (λ (j : ℕ). PutAfter width at j (units (get_or samples j (pos 0))) old new) (sym e) named

  more_put : (width at i n : ℕ) (samples : List ℤ) (old buffer put : List U) → put ≡ units (get_or samples i (pos 0)) → n ≡ length put → at + n ≤ width → i * width + width ≤ length buffer → ChannelSoFar width at i samples old buffer
      → ChannelSoFar width at (i + 1) samples old (put_mid (i * width + at) n buffer put)
  more_put width at i n samples old buffer put same len fits inside h =
      let in_bounds : i * width + at + n ≤ length buffer = omega arith in
      record {
        put = λ k lt. put_more width at i n k samples old buffer put (below_or k i lt) same fits len in_bounds h;
        left = λ k le. other_chunk width k i at n buffer put (inr (omega arith)) fits len in_bounds ∙ h.left k (omega arith);
      }

  pub channel_more : (width at i : ℕ) {start n : ℕ} (samples : List ℤ) (old buffer put : List U) → put ≡ units (get_or samples i (pos 0)) → n ≡ length put → at + n ≤ width → i * width + width ≤ length buffer → ChannelSoFar width at i samples old buffer → start ≡ i * width + at
      → ChannelSoFar width at (i + 1) samples old (put_mid start n buffer put)
  channel_more width at i {start} {n} samples old buffer put same len fits inside h chunk =
      subst (λ (k : ℕ). ChannelSoFar width at (i + 1) samples old (put_mid k n buffer put)) (sym chunk) (more_put width at i n samples old buffer put same len fits inside h)

  whole_chunks : (channels : List (List ℤ)) (width n from : ℕ) (buffer : List U) → length buffer ≡ n * width → ((i : ℕ) → i < n → nth_chunk width i buffer ≡ flat_map units (samples_at channels (from + i))) → buffer ≡ flat_map units (interleave_range channels from n)
  whole_chunks channels width zero from buffer len h = none_of buffer (omega (arith, len)) ∙ sym (ap (flat_map units) (range_none channels from))
    where
      none_of : (xs : List U) → length xs ≡ 0 → xs ≡ []
      none_of [] e = refl
      none_of (x ∷ xs) e = absurd (omega (arith, e))
  whole_chunks channels width (suc n) from buffer len h =
      let at : ℕ → List U = λ k. flat_map units (samples_at channels k) in
      let many : suc n * width ≡ width + n * width = grind arith in
      let none : 0 ≡ 0 * width = omega arith in
      let here : from + 0 ≡ from = omega arith in
      let first : take width buffer ≡ at from = ap (λ (k : ℕ). take width (drop k buffer)) none ∙ h 0 (omega arith) ∙ ap at here in
      let rest = whole_chunks channels width n (from + 1) (drop width buffer) (omega (arith, many, length-drop width buffer)) (λ i lt.
      let past : width + i * width ≡ suc i * width = grind arith in
      let next : from + suc i ≡ from + 1 + i = omega arith in
      ap (take width) (drop-drop (i * width) width buffer ∙ ap (λ (k : ℕ). drop k buffer) past) ∙ h (suc i) (omega arith) ∙ ap at next) in
      let both : interleave_range channels from (suc n) ≡ samples_at channels from ++ interleave_range channels (from + 1) n = let e : suc n ≡ 1 + n = omega arith in ap (interleave_range channels from) e ∙ range_more channels from 1 n ∙ ap (λ (z : List ℤ). z ++ interleave_range channels (from + 1) n) (range_one channels from) in
      sym (take-append-drop width buffer) ∙ ap (λ (z : List U). z ++ drop width buffer) first ∙ ap (λ (z : List U). at from ++ z) rest
      ∙ sym (ap (flat_map units) both ∙ flat_map-append units (samples_at channels from) (interleave_range channels (from + 1) n))

-- `units` are those of a sample, whose number is `size`.
module _ {U : Type 0} (units : ℤ → List U) (size : ℕ) (sized : (x : ℤ) → length (units x) ≡ size) where
  -- one more interchannel sample of two channels
  pub stereo_more : (s t : List ℤ) (i width k : ℕ) {x y : ℤ} {start : ℕ} (buffer put : List U) → width ≡ 2 * size → i * width ≤ length buffer → put ≡ units x ++ units y → x ≡ get_or s i (pos 0) → y ≡ get_or t i (pos 0) → start ≡ i * width
      → take (i * width) buffer ≡ flat_map units (interleave_range (s ∷ t ∷ []) 0 i) → take ((i + 1) * width) (put_mid start k buffer put) ≡ flat_map units (interleave_range (s ∷ t ∷ []) 0 (i + 1))
  stereo_more s t i width k {x} {y} {start} buffer put width-is here put-is x-is y-is starts so_far =
      let channels = s ∷ t ∷ [] in
      let len : length put ≡ width = omega (arith, width-is, ap length put-is, length-append (units x) (units y), sized x, sized y) in
      let all : (i + 1) * width ≡ i * width + length put = omega (arith, one_more i width, len) in
      let last : put ≡ flat_map units (samples_at channels i) = put-is ∙ ap (λ (z : List U). units x ++ z) (sym (append-nil (units y))) ∙ ap (λ (z : ℤ). flat_map units (z ∷ y ∷ [])) x-is ∙ ap (λ (z : ℤ). flat_map units (get_or s i (pos 0) ∷ z ∷ [])) y-is in
      ap (λ (z : ℕ). take ((i + 1) * width) (put_mid z k buffer put)) starts ∙ take-put_mid (i * width) k buffer put ((i + 1) * width) all here ∙ ap (λ (z : List U). z ++ put) so_far ∙ ap (λ (z : List U). flat_map units (interleave_range channels 0 i) ++ z) last
      ∙ sym (ap (flat_map units) (range_next channels i) ∙ flat_map-append units (interleave_range channels 0 i) (samples_at channels i))

  -- one more channel
  pub channel_after : (channels : List (List ℤ)) (width from to n ch : ℕ) (channel s : List ℤ) (old new : List U) → slice_get channels ch ≡ Some channel → s ≡ between from to channel → from + n ≤ to → n ≡ length s → ChannelsPutSoFar units channels size width from n ch old
      → ((i : ℕ) → i < length s → PutAfter width (size * ch) i (units (get_or s i (pos 0))) old new) → ChannelsPutSoFar units channels size width from n (ch + 1) new
  channel_after channels width from to n ch channel s old new found part in_time len h put = record {
    prefixes = λ i lt.
        let x = get_or s i (pos 0) in
        let j = from + i in
        let inside : ch < length channels = slice_get_within channels ch channel found in
        let value : get_or (get_or channels ch []) j (pos 0) ≡ x = sym (ap (λ (z : List ℤ). get_or z i (pos 0)) part ∙ get_or-between channel from to i (pos 0) (omega arith) ∙ ap (λ (z : List ℤ). get_or z j (pos 0)) (sym (get_or_from_slice_get channels ch channel [] found))) in
        let prefix : take (ch + 1) (samples_at channels j) ≡ take ch (samples_at channels j) ++ x ∷ [] =
        take-map (λ c. get_or c j (pos 0)) (ch + 1) channels ∙ map_more (λ c. get_or c j (pos 0)) channels ch [] inside ∙ ap (λ (z : List ℤ). z ++ get_or (get_or channels ch []) j (pos 0) ∷ []) (sym (take-map (λ c. get_or c j (pos 0)) ch channels)) ∙ ap (λ (z : ℤ). take ch (samples_at channels j) ++ z ∷ []) value in
        let more : size * (ch + 1) ≡ size * ch + size = grind arith in
        let size_is : size * (ch + 1) ≡ size * ch + length (units x) = omega (arith, more, sized x) in
        ap (λ (k : ℕ). take k (nth_chunk width i new)) size_is ∙ put i (omega arith) ∙ ap (λ (z : List U). z ++ units x) (h.prefixes i lt)
        ∙ sym (ap (flat_map units) prefix ∙ flat_map-append units (take ch (samples_at channels j)) (x ∷ []) ∙ ap (λ (z : List U). flat_map units (take ch (samples_at channels j)) ++ z) (append-nil (units x)));
  }

  pub after_channels : (channels : List (List ℤ)) (width n from ch : ℕ) (buffer : List U) → length buffer ≡ n * (size * length channels) → width ≡ size * length channels → length channels ≤ ch → ChannelsPutSoFar units channels size width from n ch buffer → buffer ≡ flat_map units (interleave_range channels from n)
  after_channels channels width n from ch buffer len width-is all h = whole_chunks units channels width n from buffer (len ∙ ap (λ (k : ℕ). n * k) (sym width-is)) (λ i lt.
      let chunk = nth_chunk width i buffer in
      let samples = samples_at channels (from + i) in
      let most : size * length channels ≤ size * ch = grind (arith, all) in
      let short : length chunk ≤ size * ch = omega (arith, width-is, most, length-take width (drop (i * width) buffer)) in
      let few : length samples ≤ ch = omega (arith, all, length-map channels (λ (c : List ℤ). get_or c (from + i) (pos 0))) in
      sym (take_all (size * ch) chunk short) ∙ h.prefixes i lt ∙ ap (flat_map units) (take_all ch samples few))

-- all samples, as themselves
pub all_interleaved : (channels : List (List ℤ)) (n : ℕ) → n ≡ duration_of channels → stored_between sample_itself channels 0 n ≡ interleave channels
all_interleaved channels n n-is =
    let whole : n - 0 ≡ duration_of channels = omega (arith, n-is) in
    all_themselves (interleave_range channels 0 (n - 0)) ∙ ap (interleave_range channels 0) whole ∙ range_all channels
