-- Subframes read one after another into one slice.
use Rattle.std.proofs.Common.{◌≡◌, ℕ, zero, suc, ◌+◌, ◌-◌, ◌*◌, ◌<◌, ◌≤◌, Bool, true, ltb, List, [], ◌∷◌, ◌++◌, length, take, drop, get_or, refl, sym, ap, subst, ◌∙◌, arith, ℤ}
use Rattle.std.proofs.lemmas.Bool.{lt-ltb}
use Rattle.std.proofs.lemmas.List.{append-nil, take_all, length-append, length-take-le, length-drop, length-replicate, drop_all, drop_more, take-append-drop, take-append-le, drop-append-le}
use borrow.Rule.Slice.PartMut.{put_mid, same_len_mid}
use Rattle.claxon_format.specs.Bits.{Bits}
use Rattle.claxon_format.specs.read.Reading.{Reading, Done, each_at}
use Rattle.claxon_format.specs.read.Subframe.{subframe_at}
use Rattle.claxon_input.specs.declared.error.Error.{Error}
use Rattle.claxon_input.specs.State.{State}
use Rattle.claxon_input.specs.Gives.{Consumes, Stops}
use Rattle.claxon_input.proofs.FieldLoops.{with_front, front_none, regroup}
use Rattle.claxon_input.proofs.ConsecutiveCalls.{consumes_then, consumes_map, consumes_none, stops_after, StopsWith}
use Rattle.claxon_frame.specs.FrameHeader.{channels_of, subframe_bit_depths}
use Rattle.claxon_format.specs.read.Frame.{coded_channels_at}
use Rattle.claxon_frame.specs.Block.{chunks}
use Rattle.claxon_frame.specs.declared.frame.header.parts.ChannelAssignment.{ChannelAssignment}
use Rattle.claxon_frame.specs.declared.frame.header.parts.ChannelAssignment.TheVariants.{Independent, LeftSideStereo, RightSideStereo, MidSideStereo}
use Rattle.claxon_frame.proofs.ChannelsInBuffer.{chunk_ends}
use Rattle.claxon_subframe.proofs.PartitionLoop.{length-range, front_replaced}

-- there is a bit depth for each channel
pub length-subframe_bit_depths : (assignment : ChannelAssignment) (bits : ℕ) → 1 ≤ channels_of assignment → channels_of assignment ≤ 8 → length (subframe_bit_depths assignment bits) ≡ channels_of assignment
length-subframe_bit_depths (Independent n) bits some few =
    let b : ltb (n - 1) 8 ≡ true = lt-ltb _ _ (omega arith) in
    rw b (length-replicate (n - 1 + 1) bits ∙ omega arith)
length-subframe_bit_depths LeftSideStereo bits some few = refl
length-subframe_bit_depths RightSideStereo bits some few = refl
length-subframe_bit_depths MidSideStereo bits some few = refl

-- ---- chunks of a prefix

chunks_front : (k n : ℕ) (xs ys : List ℤ) → k * n ≤ length xs → chunks k n (xs ++ ys) ≡ chunks k n xs
chunks_front zero n xs ys h = refl
chunks_front (suc k) n xs ys h =
    let le : n ≤ length xs = omega (arith, h) in
    let more = chunks_front k n (drop n xs) ys (omega (arith, h, length-drop n xs)) in
    rw (take-append-le n xs ys le, drop-append-le n xs ys le, more) refl

-- one more chunk
chunks_more : (k n : ℕ) (xs ys : List ℤ) → length xs ≡ k * n → length ys ≡ n → chunks (suc k) n (xs ++ ys) ≡ chunks k n xs ++ ys ∷ []
chunks_more zero n [] ys h e = ap (λ (t : List ℤ). t ∷ []) (take_all n ys (omega arith))
chunks_more zero n (x ∷ xs) ys h e = absurd (omega (arith, h))
chunks_more (suc k) n xs ys h e =
    let le : n ≤ length xs = omega (arith, h) in
    let more = chunks_more k n (drop n xs) ys (omega (arith, h, length-drop n xs)) e in
    rw (take-append-le n xs ys le, drop-append-le n xs ys le) (ap (λ (t : List (List ℤ)). take n xs ∷ t) more)

-- n samples that are put in from `start` on are the next chunk
put_chunk : (k n start : ℕ) (xs ys : List ℤ) → start ≡ k * n → start + n ≤ length xs → length ys ≡ n → chunks (k + 1) n (put_mid start (start + n - start) xs ys) ≡ chunks k n xs ++ ys ∷ []
put_chunk k n start xs ys place fits e =
    let here = front_replaced start n xs ys fits (e ∙ sym (length-range start n xs fits)) in
    let front : length (take start xs) ≡ k * n = length-take-le start xs (omega arith) ∙ place in
    let new = put_mid start (start + n - start) xs ys in
    let one : k + 1 ≡ suc k = omega arith in
    let len : length (take (start + n) (put_mid start (start + n - start) xs ys)) ≡ start + n = ap length here ∙ length-append (take start xs) ys ∙ omega arith in
    let split : chunks (suc k) n (take (start + n) new ++ drop (start + n) new) ≡ chunks (suc k) n (take (start + n) new) = chunks_front (suc k) n (take (start + n) new) (drop (start + n) new) (omega arith) in
    let whole : chunks k n (take start xs ++ drop start xs) ≡ chunks k n (take start xs) = chunks_front k n (take start xs) (drop start xs) (omega arith) in
    ap (λ (m : ℕ). chunks m n new) one ∙ ap (chunks (suc k) n) (sym (take-append-drop (start + n) new)) ∙ split ∙ ap (chunks (suc k) n) here
    ∙ chunks_more k n (take start xs) ys front e ∙ ap (λ (t : List (List ℤ)). t ++ ys ∷ []) (sym whole ∙ ap (chunks k n) (take-append-drop start xs))

-- ---- the loop over the channels

-- i of the channels, of which there are so many, were read and put into xs, up to `start`
pub record ChannelsSoFar (ws : List ℕ) (count size i start : ℕ) (xs : List ℤ) (old new : State Bool) : Type 0 where
  pub depths : length ws ≡ count
  pub place : start ≡ i * size
  pub whole : length xs ≡ count * size
  pub so_far : Consumes old new (λ s m. coded_channels_at size ws s ≡ with_front (chunks i size xs) (coded_channels_at size (drop i ws) m))

pub channels_begin : (ws : List ℕ) (count size : ℕ) (xs : List ℤ) (a : State Bool) → length ws ≡ count → length xs ≡ count * size → ChannelsSoFar ws count size 0 0 xs a a
channels_begin ws count size xs a n e = record { depths = n; place = omega arith; whole = e; so_far = consumes_none a _ (sym (front_none (coded_channels_at size ws a.remaining))) }

-- the next channel fits into the buffer
chunk_in_buffer : (i n size start len : ℕ) → i < n → start ≡ i * size → len ≡ n * size → start + size ≤ len
chunk_in_buffer i n size start len lt place whole = let e = chunk_ends n size i lt in omega arith

pub channels_fit : {ws : List ℕ} {count size i start : ℕ} {xs : List ℤ} {a b : State Bool} → i < count → ChannelsSoFar ws count size i start xs a b → start + size ≤ length xs
channels_fit {count = count} {size = size} {i = i} {start = start} {xs = xs} lt h = chunk_in_buffer i count size start (length xs) lt h.place h.whole

subframes_more : (ws : List ℕ) (size i w : ℕ) (front : List (List ℤ)) (ys : List ℤ) (s m : Bits) (total : Reading Bool (List (List ℤ))) → i < length ws → get_or ws i 0 ≡ w → subframe_at w size s ≡ Done ys m
    → with_front front (coded_channels_at size (drop i ws) s) ≡ total → with_front (front ++ ys ∷ []) (coded_channels_at size (drop (i + 1) ws) m) ≡ total
unfolding coded_channels_at each_at
subframes_more ws size i w front ys s m total lt here e so_far =
    let one : with_front front (coded_channels_at size (drop i ws) s) ≡ with_front (front ++ ys ∷ []) (coded_channels_at size (drop (i + 1) ws) m)
    = rw (drop_more ws i 0 lt, here, e) (regroup front ys (coded_channels_at size (drop (i + 1) ws) m)) in
    sym one ∙ so_far

pub channels_next : {ws : List ℕ} {count size i start : ℕ} {xs : List ℤ} (w : ℕ) (ys : List ℤ) {a b c : State Bool} → i < count → get_or ws i 0 ≡ w → ChannelsSoFar ws count size i start xs a b
    → length ys ≡ length (take (start + size - start) (drop start xs)) → Consumes b c (λ s m. subframe_at w (length (take (start + size - start) (drop start xs))) s ≡ Done ys m)
    → ChannelsSoFar ws count size (i + 1) (start + size) (put_mid start (start + size - start) xs ys) a c
channels_next {ws = ws} {size = size} {i = i} {start = start} {xs = xs} w ys {a = a} {b = b} {c = c} lt here h e k =
    let fits = channels_fit lt h in
    let n = length-range start size xs fits in
    let q : Consumes b c (λ s m. subframe_at w size s ≡ Done ys m) = subst (λ (z : ℕ). Consumes b c (λ s m. subframe_at w z s ≡ Done ys m)) n k in
    let p = h.place in
    record {
      depths = h.depths;
      place = omega arith;
      whole = same_len_mid start (start + size - start) xs ys e ∙ h.whole;
      so_far = consumes_then _ h.so_far q (λ x y. rw (put_chunk i size start xs ys h.place fits (e ∙ n)) (sym (subframes_more ws size i w (chunks i size xs) ys _ _ (coded_channels_at size ws a.remaining) (omega (arith, lt, h.depths)) here y (sym x))));
    }

channels_stop : (ws : List ℕ) (size i w : ℕ) (front : List (List ℤ)) → i < length ws → get_or ws i 0 ≡ w → StopsWith (subframe_at w size) (λ m. with_front front (coded_channels_at size (drop i ws) m))
unfolding coded_channels_at each_at
channels_stop ws size i w front lt here = record { fault = λ s f rest e. rw (drop_more ws i 0 lt, here, e) refl; incomplete = λ s e. rw (drop_more ws i 0 lt, here, e) refl }

pub channels_err : {ws : List ℕ} {count size i start : ℕ} {xs : List ℤ} {e : Error} (w : ℕ) {a b c : State Bool} → i < count → get_or ws i 0 ≡ w → ChannelsSoFar ws count size i start xs a b
    → Stops e (subframe_at w (length (take (start + size - start) (drop start xs)))) b c → Stops e (coded_channels_at size ws) a c
channels_err {ws = ws} {size = size} {i = i} {start = start} {xs = xs} {e = e} w {b = b} {c = c} lt here h k =
    let n = length-range start size xs (channels_fit lt h) in
    stops_after h.so_far (channels_stop ws size i w (chunks i size xs) (omega (arith, lt, h.depths)) here) (subst (λ (z : ℕ). Stops e (subframe_at w z) b c) n k)

subframes_done : (ws : List ℕ) (size i : ℕ) (front : List (List ℤ)) (m : Bits) (total : Reading Bool (List (List ℤ))) → length ws ≤ i → total ≡ with_front front (coded_channels_at size (drop i ws) m) → total ≡ Done front m
unfolding coded_channels_at each_at
subframes_done ws size i front m total le e =
    let one : with_front front (coded_channels_at size (drop i ws) m) ≡ Done front m = rw (drop_all i ws le) (ap (λ (t : List (List ℤ)). Done t m) (append-nil front)) in
    e ∙ one

pub channels_end : {ws : List ℕ} {count size i start : ℕ} {xs : List ℤ} {a b : State Bool} → i ≡ count → ChannelsSoFar ws count size i start xs a b → Consumes a b (λ s m. coded_channels_at size ws s ≡ Done (chunks count size xs) m)
channels_end {ws = ws} {size = size} {i = i} {xs = xs} {a = a} {b = b} e h =
    let n = h.depths in
    consumes_map _ h.so_far (λ p. subframes_done ws size i (chunks i size xs) b.remaining (coded_channels_at size ws a.remaining) (omega arith) p ∙ ap (λ (j : ℕ). Done (chunks j size xs) b.remaining) e)
