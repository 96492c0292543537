-- What a call returns for the frame at a position.
use Rattle.std.proofs.Common.{◌≡◌, inl, inr, ℕ, ℤ, ◌+◌, ◌-◌, ◌*◌, ◌<◌, List, length, take, drop, min, Option, None, Some, refl, sym, ap, subst, ◌∙◌, arith}
use Rattle.std.specs.Prelude.{Ok, Err, IfSome}
use Rattle.std.proofs.lemmas.List.{drop_all, length-drop, take_all}
use Rattle.std.proofs.lemmas.Bool.{cases_lt}
use Rattle.claxon.specs.Fault.{Fault}
use Rattle.claxon.specs.Frame.{StreamFormat, Block, Frame, FrameBytesFault}
use Rattle.claxon.specs.Block.{BlockValue}
use Rattle.claxon.specs.BlockInfo.{HeaderBytesFault, HeaderOf, SaysBlock}
use Rattle.claxon.specs.BlockInfos.{BlockInfo}
use Rattle.claxon.specs.FrameReader.{FrameAnswer, block_view}
use Rattle.claxon.specs.Prefix.{BeginsWith}
use Rattle.claxon.proofs.BlockInfo.{header_has_two_bytes, headers_unambiguous}
use Rattle.claxon.proofs.FrameHeaders.{frame_has_header, header_fault_is_frames}
use Rattle.claxon.proofs.OutOfMemory.{not_out_of_memory}
use Rattle.claxon_seek.specs.AtStart.{FrameAtStart}
use Rattle.claxon_c.specs.declared.heads.ClaxonInfo.{ClaxonInfo}
use Rattle.claxon_c.specs.declared.next_block.ClaxonBlock.{ClaxonBlock}
use Rattle.claxon_c.specs.Info.{known_stream}
use Rattle.claxon_c.specs.NextBlock.{BlockIsKept, CBlockElseIoError, CBlockFaultIsComplete, CBlockFaultIsSound, CBlockIsComplete, CBlockIsShown, CBlockIsSound, CBlockNoMoreIffEof, CBlockOutOfMemoryAfterHeader, CFrameHeaderFaultIsComplete, CHeaderIsShown, CSamplesAreGiven, CTooSmallIffLarger, IsAtEnd, IsBlockStatus, IsDecoded, IsRefused, IsTooSmall, HasLarger, HeaderOrNone, SampleOrder, NextBlock, PositionIsKept, ShowsInfo, TextIsKept}
use Rattle.claxon_c.specs.Status.{TextIsReported, buffer_too_small, ok}
use Rattle.claxon_c.proofs.HeadersAtStart.{larger_says, not_larger_there, same_said, says_larger}
use Rattle.claxon_c.proofs.Reports.{each_fault_reported, io_error_reported, fault_reported, just_error, error_out_of_memory, out_of_memory_reported, text_reported}

-- all clauses of it
pub record CBlockPromises (Put : SampleOrder) (info : ClaxonInfo) (bytes : List ℕ) (status from to : ℕ) (old new : List ℤ) (block shown : ClaxonBlock) (before after : List ℕ) : Type 0 where
  pub sound : CBlockIsSound info bytes from status to
  pub shown_is : CBlockIsShown info bytes from status shown
  pub header : CHeaderIsShown info bytes from status shown
  pub samples : CSamplesAreGiven info bytes from status Put old new
  pub complete : CBlockIsComplete info bytes from status
  pub too_small : CTooSmallIffLarger info bytes from status (length old)
  pub fault : CBlockFaultIsSound info bytes from status before after
  pub named : CBlockFaultIsComplete info bytes from status (length old) before after
  pub header_named : CFrameHeaderFaultIsComplete info bytes from status before after
  pub eof : CBlockNoMoreIffEof bytes from status
  pub io : CBlockElseIoError info bytes from status (length old)
  pub memory : CBlockOutOfMemoryAfterHeader info bytes from status
  pub text : TextIsReported status before after
  pub kept : PositionIsKept status from to old new
  pub block_kept : BlockIsKept status block shown
  pub text_kept : TextIsKept status before after

-- a position past the end is as good as the end
same_rest : (from start : ℕ) (bytes : List ℕ) → start ≡ min (length bytes) from → drop start bytes ≡ drop from bytes
same_rest from start bytes e = elim (cases_lt (length bytes) from) [
  | inr le ↦ (let s : start ≡ from = omega arith in ap (λ (n : ℕ). drop n bytes) s)
  | inl lt ↦ drop_all start bytes (omega arith) ∙ sym (drop_all from bytes (omega arith))
]

rest_there : (from start : ℕ) (bytes : List ℕ) → start ≡ min (length bytes) from → take (length bytes - start) (drop start bytes) ≡ drop from bytes
rest_there from start bytes e = take_all (length bytes - start) (drop start bytes) (omega (arith, length-drop start bytes)) ∙ same_rest from start bytes e

-- of the bytes from the position on
pub at_position : (known stream : Option StreamFormat) (bytes : List ℕ) (from start : ℕ) (r : FrameAnswer) (count : ℕ) → known ≡ stream → start ≡ min (length bytes) from → FrameAtStart known (take (length bytes - start) (drop start bytes)) r count
    → FrameAtStart stream (drop from bytes) r count
at_position known stream bytes from start r count e s h =
    subst (λ (z : List ℕ). FrameAtStart stream z r count) (rest_there from start bytes s) (subst (λ (z : Option StreamFormat). FrameAtStart z (take (length bytes - start) (drop start bytes)) r count) e h)

-- ---- a header, and the frame that it begins

module _ (stream : Option StreamFormat) (rest : List ℕ) where
  -- a header has no fault
  no_header_fault : (x : BlockInfo) (f : Fault) → BeginsWith (HeaderOf stream x) rest → BeginsWith (HeaderBytesFault stream f) rest → ⊥
  no_header_fault x f (t, m, c, e) (u, n, d, g) = (headers_unambiguous stream).no_fault x f t u m n c d (sym e ∙ g)

  -- its fault is one of the frame
  fault_of_frame : (f : Fault) → BeginsWith (HeaderBytesFault stream f) rest → BeginsWith (FrameBytesFault stream f) rest
  fault_of_frame f (t, m, c, e) = (t, m, header_fault_is_frames stream f t c, e)

  -- a header says how large the block of its frame is
  pub says_block : (x : BlockInfo) (b : Block) → BeginsWith (HeaderOf stream x) rest → BeginsWith (Frame stream b) rest → SaysBlock x b
  says_block x b header (t, m, c, e) =
      let k = frame_has_header stream b t m c in
      let there : BeginsWith (HeaderOf stream k.0) rest = (k.2.0, k.2.1, k.2.2, e ∙ k.2.3) in
      subst (λ (y : BlockInfo). SaysBlock y b) (same_said stream rest k.0 x there header) k.1

  two_bytes : (x : BlockInfo) → BeginsWith (HeaderOf stream x) rest → length rest < 2 → ⊥
  two_bytes x (t, m, c, e) few = header_has_two_bytes stream x t m c (subst (λ (s : List ℕ). length s < 2) e few)

-- ---- what is returned

module _ (Put : SampleOrder) (info : ClaxonInfo) (bytes : List ℕ) (from : ℕ) (old : List ℤ) (block shown : ClaxonBlock) (before after : List ℕ) where
  abbrev stream : Option StreamFormat
  stream = known_stream info

  abbrev rest : List ℕ
  rest = drop from bytes

  -- no frame was decoded
  refused : (status : ℕ) → IsRefused info bytes from (length old) status before after → shown ≡ block → CBlockPromises Put info bytes status from from old old block shown before after
  refused status r kept =
      let e = r.error in
      let h = r.refused in
      let reported = r.reported in
      let Bad : Fault → List ℕ → Type 0 = λ f. FrameBytesFault stream f in
      let no = just_error status before after e reported in
      let no_frame : IsBlockStatus status → ⊥ = λ says. elim says [ inl p ↦ no.0 p | inr p ↦ no.1.1 p ] in
      record {
        sound = λ p. absurd (no.0 p);
        shown_is = λ says b begins. absurd (no_frame says);
        header = λ says x begins. absurd (no_frame says);
        samples = λ says b begins. absurd (no_frame says);
        complete = λ b begins. inr (elim (h.complete b begins) [ inl p ↦ absurd p | inr s ↦ out_of_memory_reported status before after rest Bad e reported s ]);
        too_small = (λ p. absurd (no.1.1 p), λ larger. absurd (r.not_larger larger));
        fault = fault_reported status before after rest Bad e reported h.fault;
        named = λ fits f begins. each_fault_reported status before after rest Bad e reported {A = Option BlockValue} f (h.named f begins);
        header_named = λ f begins. elim (each_fault_reported status before after rest Bad e reported {A = Option BlockValue} f (h.named f (fault_of_frame stream rest f begins))) [
          | inl p ↦ p
          | inr s ↦ (let k = larger_says stream rest 0 (h.memory (error_out_of_memory status before after rest Bad e reported s)) in absurd (no_header_fault stream rest k.0 f k.1 begins))
        ];
        eof = (λ p. absurd (no.1.0 p), λ few. absurd (let q = h.eof.1 few in cc));
        io = λ fits some n. io_error_reported status before after rest Bad e reported h.fault n;
        memory = λ is. h.memory (error_out_of_memory status before after rest Bad e reported is);
        text = text_reported status before after e reported;
        kept = λ p. (refl, refl);
        block_kept = λ p. kept;
        text_kept = λ says. absurd (elim says [ inl p ↦ no_frame p | inr p ↦ no.1.0 p ]);
      }

  -- there are too few bytes for one
  at_end : (status : ℕ) → IsAtEnd info bytes from (length old) status → shown ≡ block → after ≡ before → CBlockPromises Put info bytes status from from old old block shown before after
  at_end status r kept same =
      let h = r.none in
      let is = r.status_is in
      let no_frame : IsBlockStatus status → ⊥ = λ says. elim says [ inl p ↦ absurd cc | inr p ↦ absurd cc ] in
      record {
        sound = λ p. absurd cc;
        shown_is = λ says b begins. absurd (no_frame says);
        header = λ says x begins. absurd (no_frame says);
        samples = λ says b begins. absurd (no_frame says);
        complete = λ b begins. absurd (elim (h.complete b begins) [ inl p ↦ p | inr s ↦ not_out_of_memory None s ]);
        too_small = (λ p. absurd cc, λ larger. absurd (r.not_larger larger));
        fault = λ says. absurd (elim says [ inl p ↦ absurd cc | inr p ↦ absurd cc ]);
        named = λ fits f begins. absurd (elim (h.named f begins) [ inl p ↦ p | inr s ↦ not_out_of_memory None s ]);
        header_named = λ f begins. absurd (elim (h.named f (fault_of_frame stream rest f begins)) [ inl p ↦ p | inr s ↦ not_out_of_memory None s ]);
        eof = (λ p. h.eof.0 refl, λ few. is);
        io = λ fits some n. absurd (omega (arith, some, h.eof.0 refl));
        memory = λ p. absurd cc;
        text = (λ p. absurd cc, λ p. absurd cc);
        kept = λ p. (refl, refl);
        block_kept = λ p. kept;
        text_kept = λ p. same;
      }

  -- its samples don't fit
  too_small : (status : ℕ) → IsTooSmall info bytes from (length old) status shown → after ≡ before → CBlockPromises Put info bytes status from from old old block shown before after
  too_small status r same =
      let is = r.status_is in
      let says = λ (b : Block) (begins : BeginsWith (Frame stream b) rest). says_block stream rest r.said b r.header begins in
      let larger = says_larger stream rest (length old) r.said r.header r.larger in
      record {
        sound = λ p. absurd cc;
        shown_is = λ q b begins. (let k = says b begins in record { time = r.shows.time ∙ k.time; channels = r.shows.channels ∙ k.channels; duration_is = r.shows.duration_is ∙ k.duration_is });
        header = λ q x begins. subst (λ (y : BlockInfo). ShowsInfo y shown) (same_said stream rest r.said x r.header begins) r.shows;
        samples = λ q b begins. (let k = says b begins in inr (is, rw (← k.channels, ← k.duration_is) r.larger));
        complete = λ b begins. inl (inr is);
        too_small = (λ p. larger, λ p. is);
        fault = λ q. absurd (elim q [ inl p ↦ absurd cc | inr p ↦ absurd cc ]);
        named = λ fits f begins. absurd (fits larger);
        header_named = λ f begins. absurd (no_header_fault stream rest r.said f r.header begins);
        eof = (λ p. absurd cc, λ few. absurd (two_bytes stream rest r.said r.header few));
        io = λ fits some n. absurd (fits larger);
        memory = λ p. absurd cc;
        text = (λ p. absurd cc, λ p. absurd cc);
        kept = λ p. (refl, refl);
        block_kept = λ no. absurd (no (inr is));
        text_kept = λ p. same;
      }

  -- one was decoded
  decoded : (found : BlockValue) (to : ℕ) (new : List ℤ) → IsDecoded info bytes from (length old) found to shown → after ≡ before → Put found.channels old new → CBlockPromises Put info bytes ok from to old new block shown before after
  decoded found to new r same put =
      let h = r.frame in
      let same_block : (b : Block) → BeginsWith (Frame stream b) rest → block_view found ≡ b = λ b begins. elim (h.complete b begins) [ inl p ↦ p | inr q ↦ absurd (not_out_of_memory (Some found) q) ] in
      let there : BeginsWith (Frame stream (block_view found)) rest = (h.sound.0, h.sound.1, h.sound.2, h.sound.3) in
      record {
        sound = λ q. (block_view found, h.sound.0, h.sound.1, h.sound.2, h.sound.3, r.after ∙ ap (λ (n : ℕ). from + n) h.sound.4);
        shown_is = λ q b begins. (let k = says_block stream rest r.said b r.header begins in record { time = r.shows.time ∙ k.time; channels = r.shows.channels ∙ k.channels; duration_is = r.shows.duration_is ∙ k.duration_is });
        header = λ q x begins. subst (λ (y : BlockInfo). ShowsInfo y shown) (same_said stream rest r.said x r.header begins) r.shows;
        samples = λ q b begins. inl (rw (← same_block b begins) (refl, r.fits, put));
        complete = λ b begins. inl (inl refl);
        too_small = (λ p. absurd cc, λ larger. absurd (r.not_larger larger));
        fault = λ q. absurd (elim q [ inl p ↦ absurd cc | inr p ↦ absurd cc ]);
        named = λ fits f begins. absurd (elim (h.named f begins) [ inl p ↦ p | inr q ↦ not_out_of_memory (Some found) q ]);
        header_named = λ f begins. absurd (elim (h.named f (fault_of_frame stream rest f begins)) [ inl p ↦ p | inr q ↦ not_out_of_memory (Some found) q ]);
        eof = (λ p. absurd cc, λ few. absurd (let q = h.eof.1 few in cc));
        io = λ fits some n. absurd (n.no_code (block_view found) h.sound.0 h.sound.1 h.sound.2 h.sound.3);
        memory = λ p. absurd cc;
        text = (λ p. absurd cc, λ p. absurd cc);
        kept = λ no. absurd (no refl);
        block_kept = λ no. absurd (no (inl refl));
        text_kept = λ p. same;
      }

  pub given : (found : BlockValue) (to : ℕ) (new : List ℤ) → NextBlock info bytes from (length old) (Ok found) to block shown before after → Put found.channels old new → CBlockPromises Put info bytes ok from to old new block shown before after
  given found to new h put = decoded found to new h.0 h.1 put

  pub not_given : (status to : ℕ) → NextBlock info bytes from (length old) (Err status) to block shown before after → CBlockPromises Put info bytes status from to old old block shown before after
  not_given status to (same, why) = rw same (elim why [
    | inl h ↦ too_small status h.0 h.1
    | inr (inl h) ↦ at_end status h.0 h.1 h.2
    | inr (inr h) ↦ refused status h.0 h.1
  ])

-- ---- the call that both share

module _ (info : ClaxonInfo) (bytes : List ℕ) (from capacity start : ℕ) (is : start ≡ min (length bytes) from) where
  -- of the bytes from the position on
  pub header_at_position : (known stream : Option StreamFormat) (header : Option BlockInfo) → known ≡ stream → HeaderOrNone known (take (length bytes - start) (drop start bytes)) header → HeaderOrNone stream (drop from bytes) header
  header_at_position known stream header same h =
      subst (λ (z : List ℕ). HeaderOrNone stream z header) (rest_there from start bytes is) (subst (λ (z : Option StreamFormat). HeaderOrNone z (take (length bytes - start) (drop start bytes)) header) same h)

  -- a header whose samples don't fit
  pub too_small_there : (header : Option BlockInfo) (shown : ClaxonBlock) → HeaderOrNone (known_stream info) (drop from bytes) header → HasLarger capacity header → IfSome header (λ said. ShowsInfo said shown) → IsTooSmall info bytes from capacity buffer_too_small shown
  too_small_there None shown none larger shows = absurd larger
  too_small_there (Some said) shown there larger shows = record {
    status_is = refl;
    said = said;
    header = there;
    larger = larger;
    shows = shows;
  }

  -- the position after the frame
  pub decoded_there : (found : BlockValue) (count : ℕ) (header : Option BlockInfo) (shown : ClaxonBlock) → FrameAtStart (known_stream info) (drop from bytes) (Ok (Some found)) count → HeaderOrNone (known_stream info) (drop from bytes) header → (HasLarger capacity header → ⊥)
      → IfSome header (λ said. ShowsInfo said shown) → IsDecoded info bytes from capacity found (start + count) shown
  decoded_there found count None shown h none fits shows =
      let t = h.sound in
      let k = frame_has_header (known_stream info) (block_view found) t.0 t.1 t.2 in
      absurd (none k.0 (k.2.0, k.2.1, k.2.2, t.3 ∙ k.2.3))
  decoded_there found count (Some said) shown h there fits shows =
      let stream = known_stream info in
      let rest = drop from bytes in
      let enough : length rest < 2 → ⊥ = λ few. (let q = h.eof.1 few in cc) in
      let t = h.sound in
      let k = says_block stream rest said (block_view found) there (t.0, t.1, t.2, t.3) in
      record {
        not_larger = not_larger_there stream rest capacity (Some said) there fits;
        fits = elim (cases_lt capacity (said.channels * said.duration)) [
          | inl lt ↦ absurd (fits lt)
          | inr le ↦ rw (← k.channels, ← k.duration_is) le
        ];
        count = count;
        frame = h;
        after = elim (cases_lt (length rest) 2) [
          | inr le ↦ omega (arith, is, le, length-drop from bytes)
          | inl lt ↦ absurd (enough lt)
        ];
        said = said;
        header = there;
        shows = shows;
      }
