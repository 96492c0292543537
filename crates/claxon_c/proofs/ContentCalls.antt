-- What calls return that are passed the content of a metadata block.
use Rattle.std.proofs.Common.{◌≡◌, inl, inr, ℕ, ◌+◌, ◌*◌, List, [], ◌∷◌, ◌++◌, length, take, drop, refl, sym, ap, subst, ◌∙◌, arith, length-append, append-nil, append_assoc, Global}
use Rattle.std.specs.Prelude.{Ok, Err, string_bytes}
use Rattle.std.proofs.lemmas.List.{drop_at, length-map, take_at}
use Rattle.claxon.specs.Bits.{Bits, bits, Number}
use Rattle.claxon.specs.Codes.{Each}
use Rattle.claxon.specs.Comments.{Comment, CommentCode}
use Rattle.claxon.specs.Fault.{Fault}
use Rattle.claxon.specs.MetadataBlocks.{Body, BodyFault, Comments, Content, Info}
use Rattle.claxon.specs.Streaminfo.{Streaminfo, StreaminfoCode}
use Rattle.claxon.proofs.Bytes.{length-bits_of}
use Rattle.claxon.proofs.Metadata.{little_length}
use Rattle.claxon.proofs.Numbers.{length-bits}
use Rattle.claxon.specs.Errors.{Error}
use Rattle.claxon.specs.MetadataBlock.{HasBounds, MayRunOutOfMemory, info_view}
use Rattle.claxon.specs.TagEntries.{entry_view}
use Rattle.claxon.specs.VorbisComment.{comment_view}
use Rattle.claxon.specs.StreamInfos.{StreamInfo}
use Rattle.claxon.specs.VorbisComments.{VorbisComment}
use Rattle.claxon.specs.Prefix.{BeginsWith}
use Rattle.claxon.proofs.OutOfMemory.{not_out_of_memory, same_out_of_memory}
use Rattle.claxon_c.specs.declared.heads.ClaxonInfo.{ClaxonInfo}
use Rattle.claxon_c.specs.Contents.{BodyIsRead, CContentElseIoError, CContentFaultIsComplete, CContentFaultIsSound, CStreaminfoIsComplete, CStreaminfoIsSound, CVendorIsComplete, CVendorIsSound, ContentIsRead, ShowsStreaminfo, ShowsVendor, comment_type, streaminfo_type}
use Rattle.claxon_c.specs.Info.{InfoShows}
use Rattle.claxon_c.specs.Status.{ErrorIsReported, out_of_memory}
use Rattle.claxon_c.proofs.HeadCalls.{known}
use Rattle.claxon_c.proofs.Reports.{each_fault_reported, error_out_of_memory, fault_reported, io_error_reported, out_of_memory_reported}

-- ---- what is read is seen otherwise

module _ {A B Y : Type 0} (view : A → Y) (other : B → Y) (Code : Y → List ℕ → Type 0) (Bad : Fault → List ℕ → Type 0) (MayAllocate : Type 0) (content : List ℕ) where
  pub error_is_read : (e : Error) → ContentIsRead view Code Bad MayAllocate content (Err e) → ContentIsRead other Code Bad MayAllocate content (Err e)
  error_is_read e h = record {
    sound = tt;
    complete = λ y begins. elim (h.complete y begins) [ inl p ↦ absurd p | inr s ↦ inr (same_out_of_memory {A = A} {B = B} e s) ];
    fault = h.fault;
    named = λ f begins. elim (h.named f begins) [ inl p ↦ inl p | inr s ↦ inr (same_out_of_memory {A = A} {B = B} e s) ];
    memory = λ s. h.memory (same_out_of_memory {A = B} {B = A} e s);
  }

  pub value_is_read : (a : A) (b : B) → view a ≡ other b → ContentIsRead view Code Bad MayAllocate content (Ok a) → ContentIsRead other Code Bad MayAllocate content (Ok b)
  value_is_read a b same h = record {
    sound = subst (λ (y : Y). BeginsWith (Code y) content) same h.sound;
    complete = λ y begins. elim (h.complete y begins) [ inl p ↦ inl (sym same ∙ p) | inr s ↦ absurd (not_out_of_memory a s) ];
    fault = tt;
    named = λ f begins. elim (h.named f begins) [ inl p ↦ absurd p | inr s ↦ absurd (not_out_of_memory a s) ];
    memory = λ s. absurd (not_out_of_memory b s);
  }

-- ---- there is an error

module _ {A : Type 0} (view : A → Content) (type : ℕ) (content : List ℕ) (status : ℕ) (old new : List ℕ) (e : Error) (h : BodyIsRead view type content (Err e)) (reported : ErrorIsReported e status old new) where
  Bad : Fault → List ℕ → Type 0
  Bad f = BodyFault type (length content) f

  pub content_fault : CContentFaultIsSound type content status old new
  unfolding Bad
  content_fault = fault_reported status old new content Bad e reported h.fault

  pub content_named : CContentFaultIsComplete type content status old new
  unfolding Bad
  content_named f begins = each_fault_reported status old new content Bad e reported {A = A} f (h.named f begins)

  pub content_io : CContentElseIoError type content status
  unfolding Bad
  content_io n = io_error_reported status old new content Bad e reported h.fault n

  pub content_memory : status ≡ out_of_memory → MayRunOutOfMemory type (length content) content
  content_memory is = h.memory (error_out_of_memory status old new content Bad e reported is)

  pub content_out_of_memory : (y : Content) → BeginsWith (Body type (length content) y) content → status ≡ out_of_memory
  content_out_of_memory y begins = elim (h.complete y begins) [ inl p ↦ absurd p | inr s ↦ out_of_memory_reported status old new content Bad e reported s ]

-- ---- there is a value

module _ {A : Type 0} (view : A → Content) (type : ℕ) (content : List ℕ) (status : ℕ) (old new : List ℕ) (a : A) (h : BodyIsRead view type content (Ok a)) where
  pub same_content : (y : Content) → BeginsWith (Body type (length content) y) content → view a ≡ y
  same_content y begins = elim (h.complete y begins) [ inl p ↦ p | inr s ↦ absurd (not_out_of_memory a s) ]

  pub no_content_fault : CContentFaultIsComplete type content status old new
  no_content_fault f begins = absurd (elim (h.named f begins) [ inl p ↦ p | inr s ↦ not_out_of_memory a s ])

  pub content_io_ok : CContentElseIoError type content status
  content_io_ok n = absurd (n.no_code (view a) h.sound.0 h.sound.1 h.sound.2 h.sound.3)

-- ---- a code is the whole content

no_items : (xs : List ℕ) → length xs ≡ 0 → xs ≡ []
no_items [] e = refl
no_items (x ∷ xs) e = absurd cc

whole : (s t rest : List ℕ) → s ≡ t ++ rest → length t ≡ length s → s ≡ t
whole s t rest e len = let none : length rest ≡ 0 = omega (arith, ap length e, length-append t rest) in e ∙ ap (λ (z : List ℕ). t ++ z) (no_items rest none) ∙ append-nil t

all_of_it : (Code : List ℕ → Type 0) (s : List ℕ) → Code s → BeginsWith Code s
all_of_it Code s c = (s, [], c, sym (append-nil s))

-- ---- a streaminfo

field_length : (w x : ℕ) (rest : Bits) → length (bits w x ++ rest) ≡ w + length rest
field_length w x rest = length-append (bits w x) rest ∙ ap (λ (n : ℕ). n + length rest) (length-bits w x)

bytes_length : (xs : List ℕ) (t : Bits) → Each (Number 8) xs t → length t ≡ 8 * length xs
bytes_length [] t c = ap length c ∙ omega arith
bytes_length (x ∷ xs) t (p, q, (lt, p-is), rest, t-is) = omega (arith, ap length t-is, length-append p q, ap length p-is, length-bits 8 x, bytes_length xs q rest)

streaminfo_length : (i : Streaminfo) (t : List ℕ) → StreaminfoCode i t → length t ≡ 34
streaminfo_length i t ((md5, a, b, c, d, r, s, u, v, w, x, md5-len, each, t-is), sizes, small, frames, rates) =
    let fields = ap length t-is ∙ field_length 16 i.min_block_size _ ∙ ap (λ (n : ℕ). 16 + n) (field_length 16 i.max_block_size _ ∙ ap (λ (n : ℕ). 16 + n) (
    field_length 24 i.min_frame_size _ ∙ ap (λ (n : ℕ). 24 + n) (field_length 24 i.max_frame_size _ ∙ ap (λ (n : ℕ). 24 + n) (field_length 20 i.rate _ ∙ ap (λ (n : ℕ). 20 + n) (
    field_length 3 _ _ ∙ ap (λ (n : ℕ). 3 + n) (field_length 5 _ _ ∙ ap (λ (n : ℕ). 5 + n) (field_length 36 i.samples _))))))) in
    omega (arith, length-bits_of t, fields, bytes_length i.md5 md5 each, md5-len)

streaminfo_is_whole : (i : Streaminfo) (content : List ℕ) → BeginsWith (Body streaminfo_type (length content) (Info i)) content → StreaminfoCode i content
streaminfo_is_whole i content (t, rest, (len, (k, code, same)), e) =
    let is : k ≡ i = cc in
    let all : content ≡ t = whole content t rest e (omega (arith, len, streaminfo_length k t code)) in
    subst (λ (z : List ℕ). StreaminfoCode i z) (sym all) (subst (λ (z : Streaminfo). StreaminfoCode z t) is code)

pub streaminfo_begins : (i : Streaminfo) (content : List ℕ) → StreaminfoCode i content → BeginsWith (Body streaminfo_type (length content) (Info i)) content
streaminfo_begins i content code = all_of_it (Body streaminfo_type (length content) (Info i)) content (streaminfo_length i content code, (i, code, refl))

pub shows_streaminfo : (found : StreamInfo) (info : ClaxonInfo) (tags first : ℕ) → InfoShows found tags first info → tags ≡ 0 → first ≡ 0 → HasBounds found → ShowsStreaminfo (info_view found) info
shows_streaminfo found info tags first shows none start bounds = record {
  first_frame = shows.first_frame_is ∙ start;
  tags = shows.tags_are ∙ none;
  samples = shows.samples;
  rate = shows.rate;
  channels = shows.channels;
  bit_depth = shows.bit_depth;
  min_block_size = shows.min_block_size;
  max_block_size = shows.max_block_size;
  min_frame_size = shows.min_frame_size;
  max_frame_size = shows.max_frame_size;
  md5 = shows.md5;
  stream = known found info tags first shows bounds;
}

-- it needs no memory
pub no_streaminfo_memory : (content : List ℕ) → MayRunOutOfMemory streaminfo_type (length content) content → ⊥
no_streaminfo_memory content may = elim may.0.0 [ inl p ↦ absurd cc | inr p ↦ absurd cc ]

abbrev pub info_content : StreamInfo → Content
info_content found = Info (info_view found)

module _ (content : List ℕ) (found : StreamInfo) (info : ClaxonInfo) (h : BodyIsRead info_content streaminfo_type content (Ok found)) (shows : ShowsStreaminfo (info_view found) info) where
  pub streaminfo_sound : CStreaminfoIsSound content 0 info
  streaminfo_sound says = (info_view found, streaminfo_is_whole (info_view found) content h.sound, shows)

  pub streaminfo_complete : CStreaminfoIsComplete content 0 info
  streaminfo_complete i code =
      let same : Info (info_view found) ≡ Info i = same_content info_content streaminfo_type content 0 content content found h (Info i) (streaminfo_begins i content code) in
      let is : info_view found ≡ i = cc in
      (refl, subst (λ (z : Streaminfo). ShowsStreaminfo z info) is shows)

-- ---- comments

comment_is_whole : (c : Comment) (content : List ℕ) → BeginsWith (Body comment_type (length content) (Comments c)) content → CommentCode (length content) c content
comment_is_whole c content (t, rest, (d, code, same), e) =
    let is : d ≡ c = cc in
    let all : content ≡ t = whole content t rest e code.5 in
    subst (λ (z : List ℕ). CommentCode (length content) c z) (sym all) (subst (λ (z : Comment). CommentCode (length content) z t) is code)

pub comment_begins : (c : Comment) (content : List ℕ) → CommentCode (length content) c content → BeginsWith (Body comment_type (length content) (Comments c)) content
comment_begins c content code = all_of_it (Body comment_type (length content) (Comments c)) content (c, code, refl)

vendor_stands : (c : Comment) (content : List ℕ) (n : ℕ) → CommentCode n c content → take (length c.vendor) (drop 4 content) ≡ c.vendor
vendor_stands c content n (texts, x, y, z, most, len, (h, h-code, x-is), utf8, y-code, each, entries, is) =
    let joined : content ≡ h ++ (c.vendor ++ (y ++ z)) = is ∙ ap (λ (w : List ℕ). w ++ (y ++ z)) x-is ∙ append_assoc h c.vendor (y ++ z) in
    ap (λ (s : List ℕ). take (length c.vendor) (drop 4 s)) joined ∙ ap (take (length c.vendor)) (drop_at h (c.vendor ++ (y ++ z)) 4 (little_length 4 (length c.vendor) h h-code)) ∙ take_at c.vendor (y ++ z) (length c.vendor) refl

abbrev pub comment_content : VorbisComment Global → Content
comment_content found = Comments (comment_view found)

module _ (content : List ℕ) (found : VorbisComment Global) (count tags : ℕ) (h : BodyIsRead comment_content comment_type content (Ok found)) (count-is : count ≡ length (string_bytes found.vendor)) (tags-are : tags ≡ length found.comments.items) where
  shows_vendor : CommentCode (length content) (comment_view found) content → ShowsVendor (comment_view found) content 4 count tags
  shows_vendor code = record {
    at_is = refl;
    count_is = count-is;
    stands = ap (λ (n : ℕ). take n (drop 4 content)) count-is ∙ vendor_stands (comment_view found) content (length content) code;
    tags_are = tags-are ∙ sym (length-map found.comments.items entry_view);
  }

  pub vendor_sound : CVendorIsSound content 0 4 count tags
  vendor_sound says = let code = comment_is_whole (comment_view found) content h.sound in (comment_view found, code, shows_vendor code)

  pub vendor_complete : CVendorIsComplete content 0 4 count tags
  vendor_complete c code =
      let same : Comments (comment_view found) ≡ Comments c = same_content comment_content comment_type content 0 content content found h (Comments c) (comment_begins c content code) in
      let is : comment_view found ≡ c = cc in
      inl (refl, subst (λ (z : Comment). ShowsVendor z content 4 count tags) is (shows_vendor (comment_is_whole (comment_view found) content h.sound)))
