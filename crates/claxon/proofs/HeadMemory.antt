-- Where the reader of a head can run out of memory: before that, the marker and whole blocks were consumed.
use Rattle.std.proofs.Common.{◌≡◌, Bool, true, false, cond, List, [], ◌∷◌, ◌++◌, Option, refl, sym, ap, subst, ◌∙◌, append-nil, append_assoc}
use Rattle.std.specs.Prelude.{Result, Err, ℕ}
use Rattle.claxon_format.specs.Comments.{Comment}
use Rattle.claxon_format.specs.Fault.{Fault, SecondComment, SecondStreaminfo}
use Rattle.claxon_format.specs.Heads.{Marker, found_with, is_info, is_second, stream_marker}
use Rattle.claxon_format.specs.Metadata.{BlockHeader, BlockHeaderCode}
use Rattle.claxon_format.specs.MetadataBlocks.{BlockCode, MetadataBlock}
use Rattle.claxon_format.specs.read.Reading.{Done, Faulty, Reading, Incomplete, bind, done, test}
use Rattle.claxon_format.specs.Codes.{Each}
use Rattle.claxon_format.specs.read.Heads.{marker_at}
use Rattle.claxon_format.specs.read.MetadataBlocks.{block_at}
use Rattle.claxon_format.proofs.Heads.{Reads-marker}
use Rattle.claxon_format.proofs.MetadataBlocks.{Reads-block}
use Rattle.claxon_input.specs.declared.error.Error.{Error}
use Rattle.claxon_input.specs.declared.error.Error.TheVariants.{OutOfMemory}
use Rattle.claxon_input.specs.Gives.{Stops, Consumes}
use Rattle.claxon_input.specs.Promises.{IsOutOfMemory}
use Rattle.claxon_input.proofs.Memory.{stops_not_out_of_memory}
use Rattle.claxon_input.specs.State.{State, RemainingIsKnown}
use Rattle.claxon_metadata.specs.MetadataBlock.{MayRunOutOfMemory, OutOfMemoryAfterBlockHeader}
use Rattle.claxon.specs.ReadHead.{MemoryMayBeNeeded, OutOfMemoryAfterBlocks, other_at}

-- ---- whole blocks

each_both : {A X : Type 0} (Code : A → List X → Type 0) (xs ys : List A) (t u : List X) → Each Code xs t → Each Code ys u → Each Code (xs ++ ys) (t ++ u)
each_both Code [] ys t u h k = subst (λ (z : List _). Each Code ys (z ++ u)) (sym h) k
each_both Code (x ∷ xs) ys t u h k = (h.0, h.1 ++ u, h.2, each_both Code xs ys h.1 u h.3 k, ap (λ (z : List _). z ++ u) h.4 ∙ append_assoc h.0 h.1 u)

-- s is whole blocks, one after another, and then m
abbrev pub ConsumesBlocks : List ℕ → List ℕ → Type 0
ConsumesBlocks s m = (blocks : List MetadataBlock) × (t : List ℕ) × Each BlockCode blocks t × (s ≡ t ++ m)

pub consumes_no_blocks : (s : List ℕ) → ConsumesBlocks s s
consumes_no_blocks s = ([], [], refl, refl)

pub consumes_blocks_both : {s m n : List ℕ} → ConsumesBlocks s m → ConsumesBlocks m n → ConsumesBlocks s n
consumes_blocks_both {n = n} h k =
    (h.0 ++ k.0, h.1 ++ k.1, each_both BlockCode h.0 k.0 h.1 k.1 h.2 k.2, h.3 ∙ ap (λ (z : List ℕ). h.1 ++ z) k.3 ∙ sym (append_assoc h.1 k.1 n))

-- a block that was read
pub consumes_block : (b : MetadataBlock) (s m : List ℕ) → block_at s ≡ Done b m → ConsumesBlocks s m
consumes_block b s m e = let k = Reads-block.takes s b m e in (b ∷ [], k.0, (k.0, [], k.1, refl, sym (append-nil k.0)), k.2)

tested_rest : (p q : Bool) (f g : Fault) (y z : Bool × Option Comment) (rest m : List ℕ) → cond p (Faulty f rest) (cond q (Faulty g rest) (Done y rest)) ≡ Done z m → rest ≡ m
tested_rest true q f g y z rest m e = absurd cc
tested_rest false true f g y z rest m e = absurd cc
tested_rest false false f g y z rest m e = cc

-- a block after the streaminfo that was read
pub consumes_other_block : (found : Option Comment) (y : Bool × Option Comment) (s m : List ℕ) → other_at found s ≡ Done y m → ConsumesBlocks s m
unfolding other_at
consumes_other_block found y s m e = go (block_at s) refl e
  where
    go : (x : Reading ℕ MetadataBlock) → block_at s ≡ x
        → bind x (λ b. test (is_info b.content) SecondStreaminfo (test (is_second found b.content) SecondComment (done (b.is_last, found_with found b.content)))) ≡ Done y m → ConsumesBlocks s m
    go (Done b rest) q e =
        let same = tested_rest (is_info b.content) (is_second found b.content) SecondStreaminfo SecondComment (b.is_last, found_with found b.content) y rest m e in
        consumes_block b s m (q ∙ ap (λ (z : List ℕ). Done b z) same)
    go (Faulty f rest) q e = absurd cc
    go Incomplete q e = absurd cc

-- ---- out of memory

error_is_out_of_memory : {A : Type 0} (r : Result A Error) (e : Error) → (y : Error) × (r ≡ Err y) × (y ≡ e) → r ≡ Err OutOfMemory → e ≡ OutOfMemory
error_is_out_of_memory r e p h =
    let both : Err p.0 ≡ Err OutOfMemory = sym p.1 ∙ h in
    let same : p.0 ≡ OutOfMemory = cc both in
    sym p.2 ∙ same

-- s begins with the header of a block that may run out of memory
abbrev HeaderMayRunOutOfMemory : List ℕ → Type 0
HeaderMayRunOutOfMemory s = (h : BlockHeader) × (x : List ℕ) × (rest : List ℕ) × BlockHeaderCode h x × MayRunOutOfMemory h.type h.length rest × (s ≡ x ++ rest)

-- after a front and whole blocks
needed_at_header : {Front : List ℕ → Type 0} (front : List ℕ) {s u m : List ℕ} → Front front → s ≡ front ++ u → ConsumesBlocks u m → HeaderMayRunOutOfMemory m → MemoryMayBeNeeded Front s
needed_at_header front is e h k = record {
  front = front;
  blocks = h.0;
  before = h.1;
  header = k.0;
  code = k.1;
  content = k.2;
  front_is = is;
  blocks_are = h.2;
  header_is = k.3;
  allocates = k.4;
  joined = e ∙ ap (λ (z : List ℕ). front ++ z) (h.3 ∙ ap (λ (z : List ℕ). h.1 ++ z) k.5);
}

-- after a front and more blocks
needed_after_blocks : {Front : List ℕ → Type 0} (front : List ℕ) {s u m : List ℕ} → Front front → s ≡ front ++ u → ConsumesBlocks u m → MemoryMayBeNeeded (λ t. t ≡ []) m → MemoryMayBeNeeded Front s
needed_after_blocks front is e h k =
    let rest : List ℕ = k.before ++ (k.code ++ k.content) in
    let there = k.joined ∙ ap (λ (z : List ℕ). z ++ rest) k.front_is in
    needed_at_header front is e (h.0 ++ k.blocks, h.1 ++ k.before, each_both BlockCode h.0 k.blocks h.1 k.before h.2 k.blocks_are, h.3 ∙ ap (λ (z : List ℕ). h.1 ++ z) there ∙ sym (append_assoc h.1 k.before (k.code ++ k.content))) (k.header, k.code, k.content, k.header_is, k.allocates, refl)

-- a call that allocates nothing isn't out of memory
pub never_out_of_memory_without_allocation : {A X Y : Type 0} {r : Result A Error} {e : Error} {read : List X → Reading X Y} {a b : State X} → (y : Error) × (r ≡ Err y) × (y ≡ e) → Stops e read a b → IsOutOfMemory r → ⊥
never_out_of_memory_without_allocation {r = r} {e = e} {read = read} {a = a} {b = b} p h out_of_memory =
    let refused : e ≡ OutOfMemory = error_is_out_of_memory r e p out_of_memory in
    let no : true ≡ false = rw refused at (stops_not_out_of_memory e read a b h) in
    absurd cc

-- at the next block
pub out_of_memory_here : {A : Type 0} (a : State ℕ) {r : Result A Error} {e : Error} → (y : Error) × (r ≡ Err y) × (y ≡ e) → (e ≡ OutOfMemory → RemainingIsKnown a → HeaderMayRunOutOfMemory a.remaining) → OutOfMemoryAfterBlockHeader r a
out_of_memory_here a {r = r} {e = e} p h out_of_memory is_known = h (error_is_out_of_memory r e p out_of_memory) is_known

-- after blocks that were consumed
pub out_of_memory_after_blocks : {A : Type 0} (a b : State ℕ) {r : Result A Error} {e : Error} → (y : Error) × (r ≡ Err y) × (y ≡ e) → Consumes a b ConsumesBlocks → (e ≡ OutOfMemory → RemainingIsKnown b → HeaderMayRunOutOfMemory b.remaining) → OutOfMemoryAfterBlocks r a
out_of_memory_after_blocks a b {r = r} {e = e} p w h out_of_memory is_known =
    let x = w.known is_known in
    needed_at_header [] refl refl x.is (h (error_is_out_of_memory r e p out_of_memory) x.known)

-- after the marker
pub out_of_memory_after_marker : {A : Type 0} (a b : State ℕ) {r : Result A Error} {e : Error} → (y : Error) × (r ≡ Err y) × (y ≡ e) → Consumes a b (λ s m. marker_at s ≡ Done stream_marker m) → (e ≡ OutOfMemory → RemainingIsKnown b → HeaderMayRunOutOfMemory b.remaining)
    → IsOutOfMemory r → RemainingIsKnown a → MemoryMayBeNeeded (Marker stream_marker) a.remaining
out_of_memory_after_marker a b {r = r} {e = e} p w h out_of_memory is_known =
    let x = w.known is_known in
    let k = Reads-marker.takes a.remaining stream_marker b.remaining x.is in
    needed_at_header k.0 k.1 k.2 (consumes_no_blocks b.remaining) (h (error_is_out_of_memory r e p out_of_memory) x.known)

-- after the marker and a block
pub out_of_memory_after_first : {A : Type 0} (block : MetadataBlock) (a b c : State ℕ) {r : Result A Error} {e : Error} → (y : Error) × (r ≡ Err y) × (y ≡ e) → Consumes a b (λ s m. marker_at s ≡ Done stream_marker m)
    → Consumes b c (λ s m. block_at s ≡ Done block m) → (e ≡ OutOfMemory → RemainingIsKnown c → MemoryMayBeNeeded (λ t. t ≡ []) c.remaining) → IsOutOfMemory r → RemainingIsKnown a → MemoryMayBeNeeded (Marker stream_marker) a.remaining
out_of_memory_after_first block a b c {r = r} {e = e} p w v h out_of_memory is_known =
    let x = w.known is_known in
    let y = v.known x.known in
    let k = Reads-marker.takes a.remaining stream_marker b.remaining x.is in
    needed_after_blocks k.0 k.1 k.2 (consumes_block block b.remaining c.remaining y.is) (h (error_is_out_of_memory r e p out_of_memory) y.known)
