-- Blocks that are read and gathered one after another.
use Rattle.std.proofs.Common.{◌≡◌, inl, inr, ℕ, ◌+◌, ◌*◌, ◌≤◌, ◌^◌, true, false, List, [], ◌∷◌, ◌++◌, length, Option, None, Some, refl, sym, ap, subst, ◌∙◌, arith, length-append}
use Rattle.std.specs.Prelude.{All, Result, Ok, Err}
use Rattle.std.proofs.lemmas.List.Elements.{All-nil, All-push, All-weaker}
use Rattle.claxon.specs.Frame.{StreamFormat, Block}
use Rattle.claxon.specs.read.Frame.{frame_bytes_at}
use Rattle.claxon.specs.read.Reading.{Reading}
use Rattle.claxon.specs.Streams.{interleave, duration_of}
use Rattle.claxon.proofs.Streams.{length-interleave}
use Rattle.claxon.specs.State.{State}
use Rattle.claxon.specs.Errors.{Error}
use Rattle.claxon.specs.Errors.TheVariants.{IoError, FormatError, Unsupported, OutOfMemory}
use Rattle.claxon.proofs.ConsecutiveCalls.{stops_loans}
use Rattle.claxon.specs.Gives.{GivesOrEofOrOutOfMemory, or_eof}
use Rattle.claxon.specs.Block.{BlockValue}
use Rattle.claxon.specs.FrameReader.{HeaderOfLargerBlock, OutOfMemoryBeyondCapacity, ReadsFrame, block_view}
use Rattle.claxon.specs.Promises.{Consumed}
use Rattle.claxon.specs.SampleRuns.{ConsumesFrames, samples_of}
use Rattle.claxon.proofs.SamplesInTurn.{reads_as}
use Rattle.claxon.proofs.SampleRuns.{samples_add, takes_none, takes_more}
use Rattle.claxon_write.specs.Decoded.{IsLimit, Gathers, FailsToWrite, HasAtMost, StopsAtLargerBlock, last_bytes}
use Rattle.claxon_write.specs.SampleBytes.{bytes_of_samples}
use Rattle.claxon_write.specs.Capacity.{capacity}
use Rattle.claxon_write.specs.Written.{AppendsAllBut, FailsToPut, IsUnflushed, Puts, writer_contents, pending}
use Rattle.claxon_write.specs.declared.output.Output.{Output}
use Rattle.claxon_write.proofs.Puts.{puts_none, puts_both, puts_as, fails_after, fails_close}
use Rattle.claxon_write.proofs.SampleBytes.{bytes_append}

pub record GatheredSoFar {W : Type 0} (contents : W → Option (List ℕ)) (stream : Option StreamFormat) (n size : ℕ) (old new : State ℕ) (before after : Output W) : Type 0 where
  pub blocks : List Block
  pub frames : ConsumesFrames stream blocks old new
  pub count : n ≡ length (samples_of blocks)
  pub at_most : All (HasAtMost size) blocks
  pub puts : Puts contents (bytes_of_samples (samples_of blocks)) before after

-- the same for an equal stream and an equal result
pub reads_with : {stream known : Option StreamFormat} {r q : Result (Option BlockValue) Error} {a b : State ℕ} → stream ≡ known → r ≡ q → ReadsFrame stream r a b → ReadsFrame known q a b
reads_with {q = q} {a = a} {b = b} e f h = subst (λ (z : Option StreamFormat). ReadsFrame z q a b) e (reads_as f h)

more_bytes : (blocks : List Block) (block : BlockValue) → bytes_of_samples (samples_of blocks) ++ bytes_of_samples (interleave block.channels) ≡ bytes_of_samples (samples_of (blocks ++ block_view block ∷ []))
more_bytes blocks block = sym (ap bytes_of_samples (samples_add blocks (block_view block)) ∙ bytes_append (samples_of blocks) (interleave block.channels))

last_more : (blocks : List Block) (b : Block) → last_bytes (blocks ++ b ∷ []) ≡ length (bytes_of_samples (interleave b.channels))
last_more [] b = refl
last_more (x ∷ []) b = refl
last_more (x ∷ y ∷ blocks) b = last_more (y ∷ blocks) b

-- the number of samples of a block
size_at_most : (block : BlockValue) {size : ℕ} → length block.channels * duration_of block.channels ≤ size → HasAtMost size (block_view block)
size_at_most block {size = size} fits =
    let l = length-interleave block.channels in
    let k : length (interleave block.channels) ≡ length block.channels * duration_of block.channels = l ∙ omega arith in
    omega (arith, k, fits)

more_count : (blocks : List Block) (block : BlockValue) (n len : ℕ) → n ≡ length (samples_of blocks) → len ≡ length block.channels * duration_of block.channels → n + len ≡ length (samples_of (blocks ++ block_view block ∷ []))
more_count blocks block n len e f =
    let l = length-interleave block.channels in
    let m : length (samples_of blocks ++ interleave block.channels) ≡ length (samples_of blocks) + length (interleave block.channels) = length-append (samples_of blocks) (interleave block.channels) in
    let k : length (interleave block.channels) ≡ len = l ∙ omega (arith, f) in
    omega (arith, e, k) ∙ sym (ap length (samples_add blocks (block_view block)) ∙ m)

-- a block in a buffer of this capacity, after blocks in smaller ones
more_at_most : (blocks : List Block) (block : BlockValue) (small size : ℕ) → small ≤ size → All (HasAtMost small) blocks → length block.channels * duration_of block.channels ≤ size → All (HasAtMost size) (blocks ++ block_view block ∷ [])
more_at_most blocks block small size le h fits = All-push (HasAtMost size) blocks (block_view block) (All-weaker (HasAtMost small) (HasAtMost size) (λ b few. larger (length (interleave b.channels)) few) blocks h) (size_at_most block fits)
  where
    larger : (n : ℕ) → n ≤ small → n ≤ size
    larger n few = omega arith

module _ {W : Type 0} {contents : W → Option (List ℕ)} {stream : Option StreamFormat} where
  pub gathered_none : (size : ℕ) (a : State ℕ) (o : Output W) → GatheredSoFar contents stream 0 size a a o o
  unfolding bytes_of_samples
  gathered_none size a o = record { blocks = []; frames = takes_none stream a; count = refl; at_most = All-nil (HasAtMost size); puts = puts_none o }

  pub gathered_more : {n len small size : ℕ} (block : BlockValue) {a b c : State ℕ} {x y z : Output W} → len ≡ length block.channels * duration_of block.channels → GatheredSoFar contents stream n small a b x y → ReadsFrame stream (Ok (Some block)) b c
      → Puts contents (bytes_of_samples (interleave block.channels)) y z → (length block.channels * duration_of block.channels ≤ size) × (small ≤ size) → GatheredSoFar contents stream (n + len) size a c x z
  gathered_more {n = n} {len = len} {small = small} {size = size} block len-is h k p fits = record {
    blocks = h.blocks ++ block_view block ∷ [];
    frames = takes_more block h.frames k;
    count = more_count h.blocks block n len h.count len-is;
    at_most = more_at_most h.blocks block small size fits.1 h.at_most fits.0;
    puts = puts_as (more_bytes h.blocks block) (puts_both h.puts p);
  }

  pub gathered_as : {n m size : ℕ} {a b : State ℕ} {x y : Output W} → n ≡ m → GatheredSoFar contents stream n size a b x y → GatheredSoFar contents stream m size a b x y
  gathered_as {size = size} {a = a} {b = b} {x = x} {y = y} e h = subst (λ (k : ℕ). GatheredSoFar contents stream k size a b x y) e h

  pub gathered_end : {n size : ℕ} {a b c : State ℕ} {x y : Output W} → GatheredSoFar contents stream n size a b x y → ReadsFrame stream (Ok None) b c → Gathers contents stream None n a c x y
  gathered_end {b = b} h k = record { blocks = h.blocks; ends = record { between = b; blocks_are = h.frames; last = k }; count = h.count; puts = h.puts }

  -- memory was refused at a block that the buffer has no capacity for
  pub gathered_memory : {n size : ℕ} {known : Option StreamFormat} {r : Result (Option BlockValue) Error} {a b c : State ℕ} {x y : Output W} → known ≡ stream → OutOfMemoryBeyondCapacity known size r b c → {fault : Error} → r ≡ Err fault → GatheredSoFar contents stream n size a b x y
      → Some fault ≡ Some OutOfMemory → StopsAtLargerBlock stream a c
  gathered_memory {size = size} {b = b} {c = c} same header {fault = fault} is h out =
      let refused : fault ≡ OutOfMemory = cc in
      record {
        blocks = h.blocks;
        size = size;
        between = b;
        frames = h.frames;
        at_most = h.at_most;
        header = subst (λ (z : Option StreamFormat). Consumed b c (HeaderOfLargerBlock z size)) same (header (is ∙ ap (λ (z : Error). Err z) refused));
      }

  pub gathered_fault : {n size : ℕ} {error : Error} {a b c : State ℕ} {x y : Output W} → GatheredSoFar contents stream n size a b x y → ReadsFrame stream (Err error) b c → Gathers contents stream (Some error) n a c x y
  gathered_fault {b = b} h k = record { blocks = h.blocks; ends = inl (record { between = b; blocks_are = h.frames; last = k }); count = h.count; puts = h.puts }

  pub gathered_limit : {n len size : ℕ} {error : Error} (block : BlockValue) {a b c : State ℕ} {x y : Output W} → IsLimit error → len ≡ length block.channels * duration_of block.channels → 2 ^ 64 ≤ n + len → GatheredSoFar contents stream n size a b x y
      → ReadsFrame stream (Ok (Some block)) b c → Gathers contents stream (Some error) n a c x y
  gathered_limit {n = n} {len = len} block limit len-is many h k = record {
    blocks = h.blocks;
    ends = inr (record { is_limit = limit; last = block_view block; frames = takes_more block h.frames k; many = (let e = more_count h.blocks block n len h.count len-is in omega (arith, many, e)) });
    count = h.count;
    puts = h.puts;
  }

  pub gathered_fails : {n size : ℕ} {error : Error} (block : BlockValue) {a b c : State ℕ} {x y z : Output W} → GatheredSoFar contents stream n size a b x y → ReadsFrame stream (Ok (Some block)) b c
      → FailsToPut contents (bytes_of_samples (interleave block.channels)) error y z → IsUnflushed x z → FailsToWrite contents stream error a c x z
  gathered_fails block {a = a} {c = c} {x = x} {z = z} h k f u =
      let p = fails_after h.puts f in
      let m : ℕ = length (bytes_of_samples (interleave block.channels)) in
      let close = fails_close h.puts f in
      record {
        is_io = p.is_io;
        failed = p.failed;
        unflushed = u;
        blocks = h.blocks ++ block_view block ∷ [];
        takes = inl (takes_more block h.frames k);
        prefix = subst (λ (j : ℕ). AppendsAllBut (capacity + j) (writer_contents contents x) (writer_contents contents z) (pending x ++ bytes_of_samples (samples_of (h.blocks ++ block_view block ∷ [])))) (sym (last_more h.blocks (block_view block)))
            (subst (λ (l : List ℕ). AppendsAllBut (capacity + m) (writer_contents contents x) (writer_contents contents z) (pending x ++ l)) (more_bytes h.blocks block) close);
        none_pending = p.none_pending;
      }
