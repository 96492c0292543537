-- The calls that read a frame, one after another.
use Rattle.std.proofs.Common.{◌≡◌, ℕ, ◌-◌, ◌*◌, ◌≤◌, arith, ◌<◌, true, ltb, List, [], ◌∷◌, ◌++◌, refl, sym, ap, subst, ◌∙◌, ℤ, append-nil}
use Rattle.std.proofs.lemmas.Bool.{lt-ltb}
use Rattle.std.specs.Prelude.{Result, Ok, Err, Option, None, Some}
use Rattle.claxon_format.specs.Fault.{FrameCrc}
use Rattle.claxon_format.specs.Frame.{Block, IsBitDepth, StreamFormat, known_bit_depth}
use Rattle.claxon_format.specs.read.Frame.{frame_bytes_at, block_from, subframes_at, Start, start_at}
use Rattle.claxon_format.specs.read.Bytes.{crc_at}
use Rattle.claxon_format.specs.FrameWriter.{channel_count}
use Rattle.claxon_format.specs.read.Reading.{Reading, Done, bind, done, taken}
use Rattle.claxon_format.specs.Stereo.{bit_depths}
use Rattle.claxon_format.proofs.Laws.{taken_is}
use Rattle.claxon_input.specs.declared.error.Error.{Error}
use Rattle.claxon_input.specs.declared.error.Error.TheVariants.{IoError, FormatError, Unsupported, OutOfMemory}
use Rattle.claxon_input.specs.CrcUpdate.{update_crc16}
use Rattle.claxon_input.specs.Source.{IsKnown, Source, with_value}
use Rattle.claxon_input.specs.State.{State, values_at_eof, remaining_as}
use Rattle.claxon_input.specs.Gives.{Consumes, Stops, IsRest, or_eof, GivesOrEofOrOutOfMemory, GivesOrOutOfMemory}
use Rattle.claxon_input.proofs.RunningReaders.{source_crc_of_taken}
use Rattle.claxon_input.proofs.CrcUpdate.{determines_crc16, update_crc-taken}
use Rattle.claxon_input.proofs.States.{bytes_of_source}
use Rattle.claxon_input.proofs.ConsecutiveCalls.{StopsAs, consumes_known, consumes_map, consumes_none, consumes_then, out_of_memory_later, stops_as}
use Rattle.claxon_input.specs.Error.{is_out_of_memory}
use Rattle.claxon_frame.specs.FrameStart.{stream_format_view}
use Rattle.claxon_frame.specs.FrameReader.{BufferTooSmall}
use Rattle.claxon_frame.specs.FrameHeader.{channels_of, channel_code}
use Rattle.claxon_frame.specs.StartedFrame.{RestTooSmall, Started, rest_at, started_at, whole_answer}
use Rattle.claxon_frame.specs.declared.frame.header.parts.ChannelAssignment.{ChannelAssignment}
use Rattle.claxon_frame.specs.declared.frame.header.parts.ChannelAssignment.TheVariants.{Independent, LeftSideStereo, RightSideStereo, MidSideStereo}
use Rattle.claxon_frame.specs.declared.frame.header.parts.KnownStreamFormat.{KnownStreamFormat}
use Rattle.claxon_frame.proofs.StartedFrames.{frame_is_both, rest_after, rest_stops, start_of_started, started_from}
use Rattle.claxon_input.proofs.FieldOrEof.{after_first, enough, found, some_ok, some_read, some_stops}

-- ---- a header through a CRC-16 reader, whose CRC starts with the frame

-- the bytes of a source with a CRC-16
abbrev pub bytes_with_crc16 : ℕ → Source ℕ → State ℕ
bytes_with_crc16 crc s = bytes_of_source (with_value (update_crc16 crc) s)

pub started_consumes : (stream : Option StreamFormat) (start : Start) (first last crc : ℕ) (s t : Source ℕ) → first ≡ 0 → crc ≡ last → crc < 65536 → Consumes (bytes_with_crc16 first s) (bytes_with_crc16 last t) (λ s m. or_eof 2 (start_at stream) s ≡ Done (Some start) m)
    → Consumes (bytes_with_crc16 first s) (bytes_with_crc16 last t) (λ s m. or_eof 2 (started_at stream) s ≡ Done (Some (record { start = start; crc = crc })) m)
started_consumes stream start first last crc s t zero same small h =
    consumes_known _ h (λ known p.
    let all = (bytes_with_crc16 first s).remaining in
    let left = (bytes_with_crc16 last t).remaining in
    let q = some_read 2 (start_at stream) all start left p in
    let low : last < 65536 = rw (← same) small in
    let covers = source_crc_of_taken determines_crc16 s t last low (subst (λ (n : ℕ). Consumes (bytes_with_crc16 n s) (bytes_with_crc16 last t) (λ s m. or_eof 2 (start_at stream) s ≡ Done (Some start) m)) zero h) known in
    enough 2 (started_at stream) all q.0 ∙ ap found (started_from stream all (record { start = start; crc = crc }) left q.1 (same ∙ covers)))

-- ---- the rest through one whose CRC goes on

-- the bytes that remain, where they are known
abbrev bytes_of_all : Option (List ℕ) → List ℕ
bytes_of_all = remaining_as (λ all. all)

crc_is_updated : (p q : Option (List ℕ)) (c crc : ℕ) (u v : List ℕ → List ℕ) → c < 65536 → crc < 65536 → IsKnown p → IsKnown q → IsRest (bytes_of_all p) (bytes_of_all q)
    → values_at_eof q (λ xs. update_crc16 crc xs ∷ v xs) ≡ values_at_eof p (λ xs. update_crc16 c xs ∷ u xs) → crc ≡ update_crc16 c (taken (bytes_of_all p) (bytes_of_all q))
unfolding IsRest
crc_is_updated None q c crc u v low small t k r e = absurd t
crc_is_updated (Some all) None c crc u v low small t k r e = absurd k
crc_is_updated (Some all) (Some rest) c crc u v low small t k r e =
    let both : update_crc16 crc (rest ++ []) ∷ v (rest ++ []) ≡ update_crc16 c (all ++ []) ∷ u (all ++ []) = ap (λ (h : List ℕ → List ℕ). h []) e in
    let first : update_crc16 crc (rest ++ []) ≡ update_crc16 c (all ++ []) = cc in
    let same : update_crc16 crc rest ≡ update_crc16 c (r.0 ++ rest) = ap (update_crc16 crc) (sym (append-nil rest)) ∙ first ∙ ap (update_crc16 c) (append-nil all ∙ r.1) in
    update_crc-taken 16 0x18005 (omega arith) (omega arith) (omega arith) r.0 rest c crc refl (omega arith) low small same ∙ ap (update_crc16 c) (sym (taken_is all r.0 rest r.1))

crc_of_rest : (c crc : ℕ) (s t : Source ℕ) {P : List ℕ → List ℕ → Type 0} → c < 65536 → crc < 65536 → Consumes (bytes_with_crc16 c s) (bytes_with_crc16 crc t) P → IsKnown s.remaining → crc ≡ update_crc16 c (taken (bytes_of_all s.remaining) (bytes_of_all t.remaining))
unfolding IsRest
crc_of_rest c crc s t low small h known =
    let k = h.known known in
    crc_is_updated s.remaining t.remaining c crc s.values t.values low small known k.known (k.rest (bytes_of_all s.remaining) ([], refl)) k.values

module _ (started : Started) where
  -- the reader of the subframes
  abbrev subframes_of : List ℕ → Reading ℕ (List (List ℤ))
  subframes_of = subframes_at started.start.size (bit_depths started.start.channel_code started.start.bit_depth)

  -- the subframes are invalid or incomplete
  pub subframes_stop : {e : Error} {a b : State ℕ} → Stops e subframes_of a b → Stops e (rest_at started) a b
  subframes_stop {a = a} k = stops_as (consumes_none a (λ s m. StopsAs (subframes_of m) (rest_at started s)) (rest_stops started a.remaining)) k

  module _ (channels : List (List ℤ)) (first crc : ℕ) (s t : Source ℕ) (same : first ≡ started.crc) (low : first < 65536) (small : crc < 65536) (h : Consumes (bytes_with_crc16 first s) (bytes_with_crc16 crc t) (λ s m. subframes_of s ≡ Done channels m)) where
    before_crc : Consumes (bytes_with_crc16 first s) (bytes_with_crc16 crc t) (λ s m. rest_at started s ≡ bind (crc_at 2 crc FrameCrc m) (λ u. done (block_from started.start channels)))
    before_crc =
        consumes_known _ h (λ known p.
        rest_after started (bytes_of_all s.remaining) (bytes_of_all t.remaining) channels p
        ∙ ap (λ (n : ℕ). bind (crc_at 2 n FrameCrc (bytes_of_all t.remaining)) (λ u. done (block_from started.start channels))) (sym (crc_of_rest first crc s t low small h known ∙ ap (λ (n : ℕ). update_crc16 n (taken (bytes_of_all s.remaining) (bytes_of_all t.remaining))) same)))

    -- the CRC is wrong or incomplete
    pub footer_stops : {e : Error} {b : State ℕ} → Stops e (crc_at 2 crc FrameCrc) (bytes_with_crc16 crc t) b → Stops e (rest_at started) (bytes_with_crc16 first s) b
    footer_stops k = stops_as (consumes_map _ before_crc (λ p. record { fault = λ f rest q. p ∙ rw q refl; incomplete = λ q. p ∙ rw q refl })) k

    pub rest_consumes : {b : State ℕ} → Consumes (bytes_with_crc16 crc t) b (λ s m. crc_at 2 crc FrameCrc s ≡ Done tt m) → Consumes (bytes_with_crc16 first s) b (λ s m. rest_at started s ≡ Done (block_from started.start channels) m)
    rest_consumes k = consumes_then _ before_crc k (λ p q. p ∙ rw q refl)

-- ---- the bit depth of a stream

pub stream_is_bit_depth : (format : Option KnownStreamFormat) → IsBitDepth (known_bit_depth (stream_format_view format))
stream_is_bit_depth None = tt
stream_is_bit_depth (Some format) = (format.min_bits, format.max_bits)

-- ---- out of memory

-- the number of channels of a channel code
pub channel_count_is : (assignment : ChannelAssignment) → 1 ≤ channels_of assignment → channels_of assignment ≤ 8 → channel_count (channel_code assignment) ≡ channels_of assignment
channel_count_is (Independent n) some few =
    let b : ltb (n - 1) 8 ≡ true = lt-ltb _ _ (omega arith) in
    rw b (omega arith)
channel_count_is LeftSideStereo some few = refl
channel_count_is RightSideStereo some few = refl
channel_count_is MidSideStereo some few = refl

-- there is no memory for the samples
pub memory_refused : {X A Y : Type 0} (view : A → Y) {r : Result A Error} (read : List X → Reading X Y) {e : Error} (a : State X) → (y : Error) × (r ≡ Err y) × (y ≡ e) → is_out_of_memory e ≡ true → GivesOrOutOfMemory view r read a a
memory_refused view read {e} a p m = rw (p.1, p.2 ∙ go e m) (record { consumed = consumes_none a (λ s m. Unit {0}) tt })
  where
    go : (e : Error) → is_out_of_memory e ≡ true → e ≡ OutOfMemory
    go OutOfMemory m = refl
    go (IoError cause) m = absurd cc
    go (FormatError text) m = absurd cc
    go (Unsupported text) m = absurd cc

-- and then nothing was consumed
pub too_small : (started : Started) (a : State ℕ) (capacity n : ℕ) → n ≡ channel_count started.start.channel_code → capacity < n * started.start.size → RestTooSmall started capacity a a
too_small started a capacity n e small = record { nothing = consumes_none a (λ s m. s ≡ m) refl; small = rw (← e) small }

-- ---- a header, and then the rest

module _ (stream : Option StreamFormat) (started : Started) {a b : State ℕ} (h : Consumes a b (λ s m. or_eof 2 (started_at stream) s ≡ Done (Some started) m)) where
  -- the rest is read as the frame is
  rest_follows : Consumes a b (λ s m. or_eof 2 (frame_bytes_at stream) s ≡ found (rest_at started m))
  rest_follows = after_first 2 (started_at stream) (frame_bytes_at stream) (rest_at started) (frame_is_both stream started) h

  -- what the rest gives, the frame gives
  pub frame_consumes : {c : State ℕ} {block : Block} → Consumes b c (λ s m. rest_at started s ≡ Done block m) → Consumes a c (λ s m. or_eof 2 (frame_bytes_at stream) s ≡ Done (Some block) m)
  frame_consumes k = some_ok 2 (frame_bytes_at stream) (rest_at started) rest_follows k

  pub frame_stops : {c : State ℕ} {e : Error} → Stops e (rest_at started) b c → Stops e (or_eof 2 (frame_bytes_at stream)) a c
  frame_stops k = some_stops 2 (frame_bytes_at stream) (rest_at started) rest_follows k

  pub start_consumes : Consumes a b (λ s m. or_eof 2 (start_at stream) s ≡ Done (Some started.start) m)
  start_consumes = consumes_map _ h (λ p. let q = some_read 2 (started_at stream) a.remaining started b.remaining p in enough 2 (start_at stream) a.remaining q.0 ∙ ap found (start_of_started stream started a.remaining b.remaining q.1))

  pub buffer_too_small : {c : State ℕ} (capacity : ℕ) → RestTooSmall started capacity b c → BufferTooSmall stream capacity a c
  buffer_too_small capacity k = record {
    start = started.start;
    header = consumes_then _ h k.nothing (λ p q. subst (λ (m : List ℕ). start_at stream a.remaining ≡ Done started.start m) q (start_of_started stream started a.remaining b.remaining (some_read 2 (started_at stream) a.remaining started b.remaining p).1));
    small = k.small;
  }

  -- whatever the rest gives
  pub frame_gives : {A : Type 0} (view : A → Block) (r : Result A Error) (c : State ℕ) → GivesOrOutOfMemory view r (rest_at started) b c → GivesOrEofOrOutOfMemory 2 view (whole_answer r) (frame_bytes_at stream) a c
  frame_gives view (Ok x) c k = frame_consumes k
  frame_gives view (Err OutOfMemory) c k = out_of_memory_later h k
  frame_gives view (Err (IoError cause)) c k = frame_stops k
  frame_gives view (Err (FormatError text)) c k = frame_stops k
  frame_gives view (Err (Unsupported text)) c k = frame_stops k
