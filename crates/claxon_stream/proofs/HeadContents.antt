-- What is read of the content of a metadata block.
use Rattle.std.proofs.Common.{◌≡◌, ℕ, ◌-◌, min, true, false, List, refl, sym, ap, subst, ◌∙◌, Bor}
use Rattle.std.specs.Prelude.{Result, Ok, IsErrAnd}
use Rattle.std.specs.declared.io.Error as io
use Rattle.std.proofs.lemmas.Result.{err_from_is_err_and}
use Rattle.claxon.specs.Cursor.{cursor_source}
use Rattle.claxon.specs.Errors.{Error}
use Rattle.claxon.specs.Errors.TheVariants.{IoError}
use Rattle.claxon.specs.MetadataBlock.{MayRunOutOfMemory, content_view}
use Rattle.claxon.specs.MetadataBlocks.{skipped}
use Rattle.claxon.specs.MetadataBlockVariants.{MetadataBlock}
use Rattle.claxon.specs.Promises.{IsOutOfMemory, Remains}
use Rattle.claxon.specs.read.Bytes.{skipped_at}
use Rattle.claxon.specs.read.MetadataBlocks.{body_at}
use Rattle.claxon.specs.read.Reading.{Done, Incomplete}
use Rattle.claxon.specs.ReadMetadataBlock.{ContentIsRead, ContentOutOfMemoryAfterLengths}
use Rattle.claxon.specs.Source.{ReadFailedOrEof, Skips, Source}
use Rattle.claxon.specs.VorbisComment.{HasVendorLength}
use Rattle.claxon.proofs.ByteFields.{consumes_skipped, failure_or_skipped}
use Rattle.claxon.proofs.FramesInMemory.{Slice, slice_state}
use Rattle.claxon_stream.specs.HeadPart.{ContentIsReadAs, is_passed}
use Rattle.claxon_stream.proofs.HeadReading.{cut_short, reads_as}

abbrev slice_source : Slice → Source ℕ
slice_source = cursor_source (λ (s : Bor (List ℕ)). s.now)

module _ {A : Type 0} (type n : ℕ) (bytes : List ℕ) (a b : Slice) (remains : Remains (slice_state a) bytes) where
  memory_if : (r : Result (MetadataBlock A) Error) → ContentOutOfMemoryAfterLengths slice_source type n a r → IsOutOfMemory r → MayRunOutOfMemory type n bytes
  memory_if r h memory = (h.0 memory, λ four. subst (HasVendorLength (n - 8)) remains.are (h.1 four memory remains.known))

  pub content_read : is_passed type ≡ false → (r : Result (MetadataBlock A) Error) → ContentIsRead slice_source type n a r b → ContentOutOfMemoryAfterLengths slice_source type n a r → ContentIsReadAs type n bytes r
  content_read kept r h memory = rw kept (reads_as content_view (body_at type n) bytes a b remains r h (memory_if r memory))

  pub content_passed : (block : MetadataBlock A) (k : ℕ) → is_passed type ≡ true → k ≡ min n 1 → Skips (slice_source a) (slice_source b) k → content_view block ≡ skipped type n → ContentIsReadAs type n bytes (Ok block)
  content_passed block k passed count h is =
      let skip = (consumes_skipped slice_source k h).known remains.known in
      let there : skipped_at (min n 1) bytes ≡ Done tt (slice_state b).remaining = ap (λ (z : ℕ). skipped_at z bytes) (sym count) ∙ sym (ap (skipped_at k) remains.are) ∙ skip.is in
      rw (passed, is) ((slice_state b).remaining, rw there refl)

  pub content_cut : (r : Result (MetadataBlock A) Error) (k : ℕ) (cause : io.Error) → is_passed type ≡ true → k ≡ min n 1 → IsErrAnd r (λ e. e ≡ IoError cause) → ReadFailedOrEof (slice_source a) (slice_source b) k → ContentIsReadAs type n bytes r
  content_cut r k cause passed count err h =
      let is = err_from_is_err_and r err in
      let there : skipped_at (min n 1) bytes ≡ Incomplete = ap (λ (z : ℕ). skipped_at z bytes) (sym count) ∙ cut_short {A = MetadataBlock A} (λ x. tt {0}) (skipped_at k) bytes a b remains (failure_or_skipped slice_source k h) in
      rw (is.1, is.2) (rw passed (rw there refl))
