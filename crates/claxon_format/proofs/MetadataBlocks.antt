-- Metadata blocks, and their readers.
use Rattle.std.proofs.Common.{◌≡◌, ℕ, ◌+◌, ◌-◌, ◌≤◌, Bool, true, false, cond, not, eqb, ltb, List, ◌++◌, length, refl, ap, ◌∙◌, arith}
use Rattle.std.proofs.lemmas.Bool.{ltb-false, le-ltb, eqb-true, eq-eqb}
use Rattle.std.proofs.lemmas.List.{length-append}
use Rattle.claxon_format.specs.Fault.{StreaminfoLength, BlockType, ApplicationShort, ApplicationLarge}
use Rattle.claxon_format.specs.read.Reading.{Reads, and_then, done, test}
use Rattle.claxon_format.proofs.Laws.{Then, Reads-then, Reads-same, Reads-test, Reads-map, Reads-cond}
use Rattle.claxon_format.specs.Codes.{MeetsOr, Never, Mapped}
use Rattle.claxon_format.specs.Metadata.{Bytes, Big, max_content_bytes, BlockHeaderCode}
use Rattle.claxon_format.specs.read.Bytes.{bytes_at}
use Rattle.claxon_format.specs.Streaminfo.{Streaminfo, StreaminfoCode, StreaminfoFault}
use Rattle.claxon_format.specs.MetadataBlocks.{Content, Info, Application, Comments, InfoBody, ApplicationBody, skipped, Body, ApplicationFault, BodyFault, MetadataBlock, BlockCode, BlockFault}
use Rattle.claxon_format.specs.read.MetadataBlocks.{info_body_at, application_at, body_at, block_at}
use Rattle.claxon_format.proofs.Metadata.{Reads-bytes, Reads-big, big_length, Reads-block_header, no_fault_after}
use Rattle.claxon_format.proofs.Streaminfos.{Reads-streaminfo}
use Rattle.claxon_format.proofs.Comments.{Reads-comment, not_true, not_false}

-- ---- bodies

Reads-info_body : (n : ℕ) → Reads ℕ Streaminfo (info_body_at n) (λ i t. (not (eqb n 34) ≡ false) × StreaminfoCode i t) (MeetsOr (not (eqb n 34)) StreaminfoLength StreaminfoFault)
unfolding info_body_at
Reads-info_body n = Reads-test (not (eqb n 34)) StreaminfoLength (λ e. Reads-streaminfo)

Reads-info : (n : ℕ) → Reads ℕ Content (and_then (info_body_at n) (λ i. done (Info i))) (InfoBody n) (MeetsOr (not (eqb n 34)) StreaminfoLength StreaminfoFault)
Reads-info n =
    Reads-same (Reads-map Info (Reads-info_body n)) (λ b t c. (eqb-true n 34 (not_true _ c.1.0), (c.0, c.1.1, c.2)))
    (λ b t c. (c.1.0, (not_false _ (eq-eqb n 34 c.0), c.1.1), c.1.2)) (λ f t c. c) (λ f t c. c)

ApplicationTested : ℕ → Content → List ℕ → Type 0
ApplicationTested n b t = (ltb n 4 ≡ false) × ((ltb max_content_bytes n ≡ false) × Then (Big 4) (λ id. Mapped (λ bytes. Application id bytes) (Bytes (n - 4))) b t)

application_to : (n : ℕ) (b : Content) (t : List ℕ) → ApplicationTested n b t → ApplicationBody n b t
unfolding ApplicationTested
application_to n b t (short, (large, (id, x, u, code, (bytes, (len, u-is), b-is), t-is))) =
    let x-len = big_length 4 id x code in
    let joined : t ≡ x ++ bytes = t-is ∙ ap (λ (z : List ℕ). x ++ z) u-is in
    let total : length t ≡ length x + length bytes = ap length joined ∙ length-append x bytes in
    let a : 4 ≤ n = ltb-false _ _ short in
    (id, x, bytes, ltb-false _ _ large, omega arith, code, b-is, joined)

application_from : (n : ℕ) (b : Content) (t : List ℕ) → ApplicationBody n b t → ApplicationTested n b t
unfolding ApplicationTested
application_from n b t (id, x, bytes, most, len, code, b-is, t-is) =
    let x-len = big_length 4 id x code in
    let total : length t ≡ length x + length bytes = ap length t-is ∙ length-append x bytes in
    (le-ltb _ _ (omega arith), (le-ltb _ _ most, (id, x, bytes, code, (bytes, (omega arith, refl), b-is), t-is)))

pub Reads-application : (n : ℕ) → Reads ℕ Content (application_at n) (ApplicationBody n) (ApplicationFault n)
unfolding application_at ApplicationTested
Reads-application n =
    Reads-same (Reads-test (ltb n 4) ApplicationShort (λ p. Reads-test (ltb max_content_bytes n) ApplicationLarge (λ q.
    Reads-same (Reads-then (Reads-big 4) (λ id t c. Reads-map (λ bytes. Application id bytes) (Reads-bytes (n - 4)))) (λ b t c. c) (λ b t c. c) (no_fault_after (Big 4)) (λ f t c. absurd c))))
    (application_to n) (application_from n) (λ f t c. c) (λ f t c. c)

Reads-skipped : (type n : ℕ) → Reads ℕ Content (test (eqb type 127) BlockType (and_then (bytes_at n) (λ bytes. done (skipped type n)))) (cond (eqb type 127) (λ b t. ⊥) (Mapped (λ bytes. skipped type n) (Bytes n))) (MeetsOr (eqb type 127) BlockType Never)
Reads-skipped type n =
    Reads-same (Reads-test (eqb type 127) BlockType (λ e. Reads-map (λ bytes. skipped type n) (Reads-bytes n)))
    (λ b t c. rw c.0 c.1) (λ b t c. type_allowed (eqb type 127) b t c) (λ f t c. c) (λ f t c. c)
  where
    type_allowed : (q : Bool) (b : Content) (t : List ℕ) → cond q (λ b t. ⊥) (Mapped (λ bytes. skipped type n) (Bytes n)) b t → (q ≡ false) × Mapped (λ bytes. skipped type n) (Bytes n) b t
    type_allowed true b t c = absurd c
    type_allowed false b t c = (refl, c)

pub Reads-body : (type n : ℕ) → Reads ℕ Content (body_at type n) (Body type n) (BodyFault type n)
unfolding body_at
Reads-body type n =
    Reads-cond (eqb type 0) (λ e. Reads-info n) (λ e. Reads-cond (eqb type 2) (λ e. Reads-application n) (λ e. Reads-cond (eqb type 4) (λ e. Reads-map Comments (Reads-comment n)) (λ e. Reads-skipped type n)))

-- ---- blocks

BlockThen : MetadataBlock → List ℕ → Type 0
BlockThen = Then BlockHeaderCode (λ h. Mapped (λ content. record { is_last = h.is_last; content = content }) (Body h.type h.length))

block_to : (b : MetadataBlock) (t : List ℕ) → BlockThen b t → BlockCode b t
unfolding BlockThen
block_to b t (h, x, y, header, (content, body, b-is), t-is) = (h, x, y, header, rw b-is body, rw b-is refl, t-is)

block_from : (b : MetadataBlock) (t : List ℕ) → BlockCode b t → BlockThen b t
unfolding BlockThen
block_from b t (h, x, y, header, body, last, t-is) = (h, x, y, header, (b.content, body, ap (λ (q : Bool). record { is_last = q; content = b.content }) last), t-is)

pub Reads-block : Reads ℕ MetadataBlock block_at BlockCode BlockFault
unfolding block_at BlockThen
Reads-block =
    Reads-same (Reads-then Reads-block_header (λ h t c. Reads-map (λ content. record { is_last = h.is_last; content = content }) (Reads-body h.type h.length)))
    block_to block_from (λ f t c. c) (λ f t c. c)
