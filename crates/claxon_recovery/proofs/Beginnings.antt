-- What bytes begin with, by their header and the rest of a frame.
use Rattle.std.proofs.Common.{◌≡◌, inl, inr, ℕ, ◌<◌, List, [], ◌++◌, length, Option, None, Some, refl, sym, subst, ◌∙◌, append-nil}
use Rattle.std.specs.Prelude.{Ok, Err, IfSome}
use Rattle.claxon.specs.Block.{BlockValue}
use Rattle.claxon.specs.BlockInfo.{HeaderOf}
use Rattle.claxon.specs.BlockInfos.{BlockInfo}
use Rattle.claxon.specs.Error.{IsIo}
use Rattle.claxon.specs.Errors.{Error}
use Rattle.claxon.specs.Errors.TheVariants.{IoError, OutOfMemory}
use Rattle.claxon.specs.Frame.{Frame, StreamFormat}
use Rattle.claxon.specs.FrameReader.{block_view}
use Rattle.claxon.specs.Prefix.{BeginsWith}
use Rattle.claxon.specs.ShownHead.{HasBitDepth}
use Rattle.claxon.specs.StreamInfos.{StreamInfo}
use Rattle.claxon.proofs.BlockInfo.{header_has_two_bytes, headers_unambiguous}
use Rattle.claxon.proofs.FormatLaws.{frames_unambiguous}
use Rattle.claxon.proofs.FrameHeaders.{frame_has_header}
use Rattle.claxon_seek.specs.AtStart.{BeginsWithLength, FaultIsTaken, FrameAtStart, HeaderAtStart, NoHeaderAtStart}
use Rattle.claxon_seek.specs.Find.{WantedHeader, known_format}
use Rattle.claxon_seek.proofs.Searches.{begins_longer, cut_by_io, frame_is_wanted, header_cut_by_io, header_longer, other_header, known_depth}
use Rattle.claxon_recovery.specs.AtStart.{BeginsWithStreamFrame, EndsEarly, FrameStands, HasFaultOf, HasOtherHeader, HeaderStands, NoFrameWhateverFollows, StreamFrame}
use Rattle.claxon_recovery.specs.declared.at_start.NoHeader.TheVariants.{CutHeader, Faulty}
use Rattle.claxon_recovery.specs.declared.at_start.RestHere.TheVariants.{Broken, CutFrame}

module _ (info : Option StreamInfo) where
  abbrev stream : Option StreamFormat
  stream = known_format info

  -- ---- more bytes

  pub fault_longer : (e : Error) (s more : List ℕ) → HasFaultOf info e s → HasFaultOf info e (s ++ more)
  fault_longer e s more h = (h.0, h.1, begins_longer s more h.2)

  pub other_longer : (block : BlockInfo) (s more : List ℕ) → HasOtherHeader info block s → HasOtherHeader info block (s ++ more)
  other_longer block s more h = (begins_longer s more h.0, h.1)

  pub frame_longer : (s more : List ℕ) → BeginsWithStreamFrame info s → BeginsWithStreamFrame info (s ++ more)
  frame_longer s more h =
      let w = h.1 in
      (h.0, record { wanted = header_longer info None s more h.0 w.wanted; frame = (w.frame.0, begins_longer s more w.frame.1, w.frame.2) })

  -- ---- no frame

  pub other_is_none : (block : BlockInfo) (s : List ℕ) → HasOtherHeader info block s → NoFrameWhateverFollows info s
  other_is_none block s h more frame = other_header info None s block h.0 (λ is. h.1 is.0) more frame.0 frame.1.wanted

  pub fault_is_none : IfSome info HasBitDepth → (e : Error) (s : List ℕ) → HasFaultOf info e s → NoFrameWhateverFollows info s
  fault_is_none depth e s h more frame =
      let bad = begins_longer s more h.2 in
      let code = frame.1.frame.1 in
      (frames_unambiguous stream (known_depth info depth)).no_fault frame.1.frame.0 h.0 code.0 bad.0 code.1 bad.1 code.2 bad.2 (sym code.3 ∙ bad.3)

  pub shown_is_none : (s : List ℕ) → NoHeaderAtStart s → NoFrameWhateverFollows info s
  shown_is_none s none more frame = none more stream frame.0 frame.1.wanted.header

  -- where nothing follows, none begins
  pub early_is_none : (s : List ℕ) → EndsEarly info s → BeginsWithStreamFrame info s → ⊥
  early_is_none s (inl few) frame = let h = frame.1.wanted.header in header_has_two_bytes stream frame.0 h.0 h.1 h.2 (subst (λ (l : List ℕ). length l < 2) h.3 few)
  early_is_none s (inr (inl cut)) frame = let h = frame.1.wanted.header in cut.no_code frame.0 h.0 h.1 h.2 h.3
  early_is_none s (inr (inr cut)) frame = let h = frame.1.frame.1 in cut.no_code frame.1.frame.0 h.0 h.1 h.2 h.3

  -- ---- a header

  pub header_fault : (s : List ℕ) (e : Error) → HeaderAtStart stream s (Err e) → (IsIo e → ⊥) → HeaderStands info s (Err (Faulty e))
  header_fault s e h no_io = elim h.fault [ inl io ↦ absurd (no_io io) | inr f ↦ f ]

  pub few_bytes : (s : List ℕ) → HeaderAtStart stream s (Ok None) → HeaderStands info s (Err CutHeader)
  few_bytes s h = inl (h.eof.0 refl)

  pub header_cut : (s : List ℕ) (cause : _) → HeaderAtStart stream s (Err (IoError cause)) → HeaderStands info s (Err CutHeader)
  header_cut s cause h = inr (header_cut_by_io info None s cause h).1

  -- the fault of a header is one of its frame
  pub fault_of_header : (e : Error) (s : List ℕ) → HeaderStands info s (Err (Faulty e)) → HasFaultOf info e s
  fault_of_header e s (f, is, (t, rest, (u, padding, bad, count, bits), joined)) = (f, is, (t, rest, (u, padding, inl (inl bad), count, bits), joined))

  -- ---- the rest of a frame

  pub rest_fault : (s : List ℕ) (len : ℕ) (e : Error) → FaultIsTaken {A = BlockValue} stream s (Err e) len → (e ≡ OutOfMemory → ⊥) → (IsIo e → ⊥) → FrameStands info s (Ok (Broken len e))
  rest_fault s len e t other no_io = elim t [ inl m ↦ absurd (other m) | inr (inl i) ↦ absurd (no_io i) | inr (inr f) ↦ f ]

  pub rest_cut : (s : List ℕ) (taken : ℕ) (cause : _) → FrameAtStart stream s (Err (IoError cause)) taken → FrameStands info s (Ok CutFrame)
  rest_cut s taken cause h = (cut_by_io info s taken cause h).1

  pub fault_of_rest : (e : Error) (s : List ℕ) (len : ℕ) → FrameStands info s (Ok (Broken len e)) → HasFaultOf info e s
  fault_of_rest e s len h = (h.0, h.1, (h.2.0, h.2.1, h.2.2, h.2.3))

  -- ---- a frame

  pub whole_is_frame : (s : List ℕ) (header : BlockInfo) (block : BlockValue) (len : ℕ) → WantedHeader info None s header → BeginsWithLength (Frame stream (block_view block)) s len → BeginsWithStreamFrame info s
  whole_is_frame s header block len wanted h = (header, frame_is_wanted info None s header wanted (record { block = block_view block; frame = (h.0, h.1, h.2, h.3) }))

  pub whole_with_header : (s : List ℕ) (header : BlockInfo) (block : BlockValue) (len : ℕ) → WantedHeader info None s header → BeginsWithLength (Frame stream (block_view block)) s len
      → BeginsWithLength (StreamFrame info (record { info = header; block = block })) s len
  whole_with_header s header block len wanted (t, rest, code, joined, count) =
      let k = frame_has_header stream (block_view block) t [] code in
      let own : BeginsWith (HeaderOf stream k.0) t = subst (BeginsWith (HeaderOf stream k.0)) (append-nil t) k.2 in
      let h = wanted.header in
      let a = begins_longer t rest own in
      let same : k.0 ≡ header = ((headers_unambiguous stream).one_code k.0 header a.0 h.0 a.1 h.1 a.2 h.2 (sym a.3 ∙ sym joined ∙ h.3)).0 in
      (t, rest, ((code, subst (λ (x : BlockInfo). BeginsWith (HeaderOf stream x) t) same own), wanted.format), joined, count)
