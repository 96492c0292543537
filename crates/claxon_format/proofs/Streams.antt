-- A stream has one reading. And the position of each sample among the interleaved samples.
use Rattle.std.proofs.Common.{◌≡◌, ℕ, zero, suc, ◌+◌, ◌*◌, ◌<◌, ◌≤◌, Bool, true, false, cond, eqb, List, [], ◌∷◌, ◌++◌, length, map, refl, sym, ap, subst, ◌∙◌, arith, ℤ, pos}
use Rattle.std.specs.Prelude.{get_or, Some}
use Rattle.std.specs.List.{flat_map, range_with_len}
use Rattle.std.proofs.lemmas.List.{append_cancel_left, length-append, length-map}
use Rattle.claxon_format.specs.Codes.{Mapped}
use Rattle.claxon_format.specs.Metadata.{Bytes}
use Rattle.claxon_format.specs.Streaminfo.{Streaminfo, StreaminfoCode}
use Rattle.claxon_format.specs.Comments.{CommentCode}
use Rattle.claxon_format.specs.MetadataBlocks.{Content, Info, Padding, Comments, Reserved, ApplicationBody, skipped, is_padding, Body, InfoBody}
use Rattle.claxon_format.specs.Frame.{Block, IsBitDepth, Frames, NoFrameLeft}
use Rattle.claxon_format.specs.Heads.{Options, Head, HeadCode, HeadFault}
use Rattle.claxon_format.specs.read.Heads.{head_at}
use Rattle.claxon_format.specs.Streams.{duration_of, samples_at, interleave, stream_of, with_samples, IsStream}
use Rattle.claxon_format.proofs.Laws.{one_reading}
use Rattle.claxon_format.proofs.Heads.{Reads-head}
use Rattle.claxon_format.proofs.FrameBytes.{one_block_list}

-- ---- interleaved samples

get_left : {X : Type 0} (xs ys : List X) (k : ℕ) (d : X) → k < length xs → get_or (xs ++ ys) k d ≡ get_or xs k d
get_left [] ys k d lt = absurd (omega arith)
get_left (x ∷ xs) ys zero d lt = refl
get_left (x ∷ xs) ys (suc k) d lt = get_left xs ys k d (omega arith)

get_right : {X : Type 0} (xs ys : List X) (k j : ℕ) (d : X) → k ≡ length xs + j → get_or (xs ++ ys) k d ≡ get_or ys j d
get_right [] ys k j d e = ap (λ (i : ℕ). get_or ys i d) (e ∙ omega arith)
get_right (x ∷ xs) ys zero j d e = absurd (omega arith)
get_right (x ∷ xs) ys (suc k) j d e = get_right xs ys k j d (omega arith)

get_place : {X : Type 0} (f : ℕ → List X) (m : ℕ) (d : X) → ((i : ℕ) → length (f i) ≡ m) → (n a i k : ℕ) → i < n → k < m → get_or (flat_map f (range_with_len a n)) (i * m + k) d ≡ get_or (f (a + i)) k d
get_place f m d len zero a i k lt small = absurd (omega arith)
get_place f m d len (suc n) a zero k lt small =
    let e : 0 * m + k ≡ k = omega arith in
    let z : a + 0 ≡ a = omega arith in
    let l = len a in
    rw (e, z) (get_left (f a) (flat_map f (range_with_len (a + 1) n)) k d (omega arith))
get_place f m d len (suc n) a (suc i) k lt small =
    let l = len a in
    let e : suc i * m + k ≡ length (f a) + (i * m + k) = omega arith in
    let z : a + suc i ≡ a + 1 + i = omega arith in
    get_right (f a) (flat_map f (range_with_len (a + 1) n)) (suc i * m + k) (i * m + k) d e
    ∙ get_place f m d len n (a + 1) i k (omega arith) small ∙ ap (λ (q : ℕ). get_or (f q) k d) (sym z)

get_map : {X Y : Type 0} (f : X → Y) (xs : List X) (k : ℕ) (c : X) (d : Y) → k < length xs → get_or (map f xs) k d ≡ f (get_or xs k c)
get_map f [] k c d lt = absurd (omega arith)
get_map f (x ∷ xs) zero c d lt = refl
get_map f (x ∷ xs) (suc k) c d lt = get_map f xs k c d (omega arith)

pub interleaved : (channels : List (List ℤ)) (i k : ℕ) → i < duration_of channels → k < length channels → get_or (interleave channels) (i * length channels + k) (pos 0) ≡ get_or (get_or channels k []) i (pos 0)
interleaved channels i k lt small =
    get_place (samples_at channels) (length channels) (pos 0) (λ j. length-map channels (λ c. get_or c j (pos 0))) (duration_of channels) 0 i k lt small
    ∙ get_map (λ c. get_or c (0 + i) (pos 0)) channels k [] (pos 0) small ∙ ap (λ (q : ℕ). get_or (get_or channels k []) q (pos 0)) (omega arith)

length-places : {X : Type 0} (f : ℕ → List X) (m : ℕ) → ((i : ℕ) → length (f i) ≡ m) → (n a : ℕ) → length (flat_map f (range_with_len a n)) ≡ n * m
length-places f m len zero a = omega arith
length-places f m len (suc n) a =
    let l = len a in
    let k = length-places f m len n (a + 1) in
    length-append (f a) (flat_map f (range_with_len (a + 1) n)) ∙ omega arith

pub length-interleave : (channels : List (List ℤ)) → length (interleave channels) ≡ duration_of channels * length channels
length-interleave channels = length-places (samples_at channels) (length channels) (λ j. length-map channels (λ c. get_or c j (pos 0))) (duration_of channels) 0

-- ---- a stream has one reading

-- streaminfo has 1 to 32 bits per sample
info_bit_depth : (i : Streaminfo) (t : List ℕ) → StreaminfoCode i t → (1 ≤ i.bit_depth) × (i.bit_depth ≤ 32)
info_bit_depth i t c = (c.0.8, c.0.9)

not_skipped : (b : Bool) (n : ℕ) (i : Streaminfo) → Info i ≡ cond b (Padding n) Reserved → ⊥
not_skipped true n i e = cc
not_skipped false n i e = cc

info_body : (type n : ℕ) (i : Streaminfo) (t : List ℕ) → Body type n (Info i) t → StreaminfoCode i t
info_body type n i t c = go (eqb type 0) (eqb type 2) (eqb type 4) (eqb type 127) c
  where
    go : (p q r s : Bool) → cond p (InfoBody n) (cond q (ApplicationBody n) (cond r (Mapped Comments (CommentCode n)) (cond s (λ b t. ⊥) (Mapped (λ bytes. skipped type n) (Bytes n))))) (Info i) t → StreaminfoCode i t
    go true q r s c = let e : i ≡ c.1.0 = (let k = c.1.2 in cc) in subst (λ (z : Streaminfo). StreaminfoCode z t) (sym e) c.1.1
    go false true r s c = absurd (let k = c.6 in cc)
    go false false true s c = absurd (let k = c.2 in cc)
    go false false false true c = absurd c
    go false false false false c = absurd (not_skipped (is_padding type) n i c.2)

head_bit_depth : (o : Options) (h : Head) (t : List ℕ) → HeadCode o h t → IsBitDepth (Some h.info.bit_depth)
head_bit_depth o h t c =
    let block = c.6 in
    let is = c.8 in
    let body : Body block.0.type block.0.length (Info h.info) block.2 = subst (λ (z : Content). Body block.0.type block.0.length z block.2) is.info block.4 in
    info_bit_depth h.info block.2 (info_body block.0.type block.0.length h.info block.2 body)

-- two complete readings of a stream are equal
pub one_stream : (wants : Bool) (s : List ℕ) (h g : Head) (blocks others : List Block) (r q : List ℕ) → IsStream wants s h blocks r → IsStream wants s g others q → (h ≡ g) × (blocks ≡ others) × (r ≡ q)
one_stream wants s h g blocks others r q a b =
    let same = one_reading Head (head_at (with_samples wants)) (HeadCode (with_samples wants)) (HeadFault (with_samples wants)) (Reads-head (with_samples wants)) h g a.front b.front a.frames b.frames a.head b.head (sym a.joined ∙ b.joined) in
    let rest : a.frames ≡ b.frames = append_cancel_left a.front a.frames b.frames (sym a.joined ∙ b.joined ∙ ap (λ (z : List ℕ). z ++ b.frames) (sym same.1)) in
    let blocks_are : Frames (Some (stream_of h.info)) a.frames others q =
    subst (λ (z : Head). Frames (Some (stream_of z.info)) a.frames others q) (sym same.0) (subst (λ (z : List ℕ). Frames (Some (stream_of g.info)) z others q) (sym rest) b.blocks_are) in
    let complete : NoFrameLeft (Some (stream_of h.info)) q = subst (λ (z : Head). NoFrameLeft (Some (stream_of z.info)) q) (sym same.0) b.complete in
    let run = one_block_list (Some (stream_of h.info)) (head_bit_depth (with_samples wants) h a.front a.head) a.frames r q blocks others a.blocks_are a.complete blocks_are complete in
    (same.0, run.0, run.1)
