-- The reader of a metadata block's content, by the block's type.
use Rattle.std.proofs.Common.{◌≡◌, ◌≢◌, ◌≤◌, ◌-◌, ℕ, false, eqb, ltb, List, ◌++◌, refl, sym, ap, ◌∙◌}
use Rattle.std.proofs.lemmas.Bool.{le-ltb, ne_eqb}
use Rattle.claxon_format.specs.Metadata.{BlockHeader, BlockHeaderCode, max_content_bytes}
use Rattle.claxon_format.specs.MetadataBlocks.{Content, Info, Comments, skipped, BlockFault}
use Rattle.claxon_format.specs.read.Metadata.{block_header_at}
use Rattle.claxon_format.specs.read.MetadataBlocks.{info_body_at, application_at, body_at}
use Rattle.claxon_format.specs.read.Comments.{comment_at, vendor_length_at}
use Rattle.claxon_format.specs.Fault.{BlockType}
use Rattle.claxon_format.specs.read.Bytes.{big_at, bytes_at, skipped_at}
use Rattle.claxon_format.specs.read.Reading.{Reads, Reading, Done, Faulty, Incomplete, bind, done}
use Rattle.claxon_format.proofs.Comments.{Reads-vendor_length}
use Rattle.claxon_format.proofs.Metadata.{Reads-block_header}
use Rattle.claxon_format.proofs.MetadataBlocks.{Reads-block}
use Rattle.claxon_format.proofs.Laws.{Reads-map}
use Rattle.claxon_input.specs.Gives.{Consumes}
use Rattle.claxon_input.specs.State.{State}
use Rattle.claxon_input.proofs.ConsecutiveCalls.{consumes_map, StopsAs}
use Rattle.claxon_metadata.specs.VorbisComment.{HasVendorLength}
use Rattle.claxon_metadata.specs.MetadataBlock.{ContentCode, content_at}

-- if the first field is invalid or incomplete, so is the whole
pub stops_with : {X Y Z : Type 0} {x : Reading X Y} {whole : Reading X Z} (f : Y → List X → Reading X Z) → whole ≡ bind x f → StopsAs x whole
stops_with f e = record { fault = λ g rest q. e ∙ rw q refl; incomplete = λ q. e ∙ rw q refl }

-- if the application data is incomplete, so is the block
pub application_stops : {n id : ℕ} {a b : State ℕ} → 4 ≤ n → n ≤ max_content_bytes → Consumes a b (λ s m. big_at 4 s ≡ Done id m) → Consumes a b (λ s m. StopsAs (bytes_at (n - 4) m) (application_at n s))
unfolding application_at
application_stops {n = n} some small h =
    let enough : ltb n 4 ≡ false = le-ltb _ _ some in
    let fits : ltb max_content_bytes n ≡ false = le-ltb _ _ small in
    consumes_map _ h (λ p. record { fault = λ f rest q. rw (enough, fits, p, q) refl; incomplete = λ q. rw (enough, fits, p, q) refl })

pub body_info : (type n : ℕ) (s : List ℕ) → type ≡ 0 → body_at type n s ≡ bind (info_body_at n s) (λ i. done (Info i))
unfolding body_at
body_info type n s e = rw e refl

pub body_application : (type n : ℕ) (s : List ℕ) → type ≡ 2 → body_at type n s ≡ application_at n s
unfolding body_at
body_application type n s e = rw e refl

pub body_comment : (type n : ℕ) (s : List ℕ) → type ≡ 4 → body_at type n s ≡ bind (comment_at n s) (λ c. done (Comments c))
unfolding body_at
body_comment type n s e = rw e refl

pub body_invalid : (type n : ℕ) (s : List ℕ) → type ≡ 127 → body_at type n s ≡ Faulty BlockType s
unfolding body_at
body_invalid type n s e = rw e refl

-- the value of skipped bytes doesn't matter
regrouped : (x : Reading ℕ (List ℕ)) (content : Content) → bind x (λ bytes. done content) ≡ bind (bind x (λ (bytes : List ℕ). done (tt {0}))) (λ (u : Unit {0}). done content)
regrouped (Done bytes m) content = refl
regrouped (Faulty f m) content = refl
regrouped Incomplete content = refl

pub record IsSkipped (type : ℕ) : Type 0 where
  pub not_info : type ≢ 0
  pub not_application : type ≢ 2
  pub not_comment : type ≢ 4
  pub not_invalid : type ≢ 127

pub body_skipped : (type n : ℕ) (s : List ℕ) → IsSkipped type → body_at type n s ≡ bind (skipped_at n s) (λ u. done (skipped type n))
unfolding body_at skipped_at
body_skipped type n s h =
    let a : eqb type 0 ≡ false = ne_eqb _ _ h.not_info in
    let b : eqb type 2 ≡ false = ne_eqb _ _ h.not_application in
    let c : eqb type 4 ≡ false = ne_eqb _ _ h.not_comment in
    let d : eqb type 127 ≡ false = ne_eqb _ _ h.not_invalid in
    rw (a, b, c, d) (regrouped (bytes_at n s) (skipped type n))

-- a block without its last-block flag
pub Reads-content : Reads ℕ Content content_at ContentCode BlockFault
unfolding content_at
Reads-content = Reads-map (λ block. block.content) Reads-block

-- the header that was read has the length of the header that the bytes begin with
pub header_is : (found h : BlockHeader) (x rest : List ℕ) {s m : List ℕ} → BlockHeaderCode h x → s ≡ x ++ rest → block_header_at s ≡ Done found m → found.length ≡ h.length
header_is found h x rest code e read =
    let both : Done found _ ≡ Done h rest = sym (rw e at read) ∙ Reads-block_header.again h x rest code in
    let same : found ≡ h = cc both in
    ap (λ (b : BlockHeader). b.length) same

-- the bytes begin with the vendor length that was read from them
pub has_vendor_length : (most v : ℕ) (s m : List ℕ) → vendor_length_at most s ≡ Done v m → HasVendorLength most s
has_vendor_length most v s m e = let t = (Reads-vendor_length most).takes s v m e in (v, t.0, m, t.1, t.2)
