-- What is noted of parts of a stream, one after another.
use Rattle.std.proofs.Common.{◌≡◌, ℕ, true, false, List, [], ◌∷◌, ◌++◌, refl, sym, ap, subst, ◌∙◌}
use Rattle.std.specs.Prelude.{◌↔◌, IsTrue, map, Option, None}
use Rattle.std.proofs.lemmas.Bool.{false≢true}
use Rattle.std.proofs.lemmas.List.{append-nil, map-append}
use Rattle.claxon.specs.DecodedFrame.{FrameValue, decoded_view}
use Rattle.claxon.specs.Streaminfo.{Streaminfo}
use Rattle.claxon_recovery.specs.declared.part.Damage.{Damage}
use Rattle.claxon_recovery.specs.declared.part.FrameThere.{FrameThere}
use Rattle.claxon_recovery.specs.declared.part.Part.{Part}
use Rattle.claxon_recovery.specs.declared.part.Part.TheVariants.{Frame as IsFrame, Damage as IsDamage}
use Rattle.claxon_verify.specs.Notes.{NotesFrame, NothingNoted, bytes_between}
use Rattle.claxon_report.specs.Places.{FoundPart, begun_scan, scan_parts}
use Rattle.claxon_verify.specs.RightStream.{frame_duration}
use Rattle.claxon_verify.specs.VerifiedParts.{NotesDamage, NotesOfParts, ends_in_byte, is_byte_left, is_passed, part_frames, part_sizes}
use Rattle.claxon_report.specs.declared.report.BlockSizes.{BlockSizes}
use Rattle.claxon_report.specs.declared.report.Notes.{Notes}
use Rattle.claxon_report.specs.declared.scan.Scan.{Scan}
use Rattle.claxon_verify.specs.declared.walk.Walk.{Walk}
use Rattle.claxon_verify.proofs.Noting.{SizesNoted, frame_noted, none_noted, not_so, sizes_kept}

-- ---- one part more

sizes_append : (parts others : List Part) → part_sizes (parts ++ others) ≡ part_sizes parts ++ part_sizes others
sizes_append [] others = refl
sizes_append (IsFrame there ∷ parts) others = ap (λ (z : List ℕ). bytes_between there.start there.end ∷ z) (sizes_append parts others)
sizes_append (IsDamage damage ∷ parts) others = sizes_append parts others

ends_push : (parts : List Part) (part : Part) → ends_in_byte (parts ++ part ∷ []) ≡ is_passed part
ends_push [] part = refl
ends_push (first ∷ []) part = refl
ends_push (first ∷ next ∷ parts) part = ends_push (next ∷ parts) part

-- These parts were noted, and no read failed so far.
pub record PartsNoted {A : Type 0} (info : Streaminfo) (parts : List Part) (walk : Walk A) : Type 0 where
  pub noted : SizesNoted info (map frame_duration (part_frames parts)) (part_sizes parts) walk
  pub byte_left : IsTrue walk.notes.has_byte_left ↔ ((ends_in_byte parts ≡ true) × (walk.scan.begun ≡ None))
  pub none_failed : walk.notes.has_failed_read ≡ false

pub nothing_of_parts : {A : Type 0} (info : Streaminfo) (walk : Walk A) → NothingNoted walk → PartsNoted info [] walk
nothing_of_parts info walk none = record {
  noted = none_noted info walk none;
  byte_left = not_so walk.notes.has_byte_left none.byte_left (λ x. false≢true x.0);
  none_failed = none.failed_read;
}

module _ {A : Type 0} {info : Streaminfo} {parts : List Part} {old new : Walk A} (h : PartsNoted info parts old) where
  pub frame_part_so_far : (there : FrameThere) → NotesFrame info there.frame there.start there.end old new → (let part : Part = IsFrame there in part_frames (parts ++ part ∷ []) ≡ part_frames parts ++ decoded_view there.frame ∷ []) → (let part : Part = IsFrame there in PartsNoted info (parts ++ part ∷ []) new)
  frame_part_so_far there notes frames_are =
      let part : Part = IsFrame there in
      let size = frame_duration (decoded_view there.frame) in
      let blocks : map frame_duration (part_frames (parts ++ part ∷ [])) ≡ map frame_duration (part_frames parts) ++ size ∷ [] =
      ap (map frame_duration) frames_are ∙ map-append frame_duration (part_frames parts) (decoded_view there.frame ∷ []) in
      let sizes : part_sizes (parts ++ part ∷ []) ≡ part_sizes parts ++ bytes_between there.start there.end ∷ [] = sizes_append parts (part ∷ []) in
      record {
        noted = subst (λ (z : List ℕ). SizesNoted info z (part_sizes (parts ++ part ∷ [])) new) (sym blocks) (subst (λ (z : List ℕ). SizesNoted info (map frame_duration (part_frames parts) ++ size ∷ []) z new) (sym sizes) (frame_noted h.noted notes));
        byte_left = not_so new.notes.has_byte_left notes.sizes.byte_left (λ x. false≢true (sym (ends_push parts part) ∙ x.0));
        none_failed = notes.sizes.failed_read ∙ h.none_failed;
      }

  pub damage_so_far : (damage : Damage) → (is_byte_left damage ≡ true → new.scan ≡ old.scan) → NotesDamage damage old new → (let part : Part = IsDamage damage in part_frames (parts ++ part ∷ []) ≡ part_frames parts) → (let part : Part = IsDamage damage in PartsNoted info (parts ++ part ∷ []) new)
  damage_so_far damage passes notes frames_are =
      let part : Part = IsDamage damage in
      let last : ends_in_byte (parts ++ part ∷ []) ≡ is_byte_left damage = ends_push parts part in
      let sizes : part_sizes (parts ++ part ∷ []) ≡ part_sizes parts = sizes_append parts (part ∷ []) ∙ append-nil (part_sizes parts) in
      record {
        noted = subst (λ (fs : List FrameValue). SizesNoted info (map frame_duration fs) (part_sizes (parts ++ part ∷ [])) new) (sym frames_are) (subst (λ (z : List ℕ). SizesNoted info (map frame_duration (part_frames parts)) z new) (sym sizes) (sizes_kept h.noted notes.block_size notes.short notes.frame_size));
        byte_left = (
          λ t. let k = notes.byte_left.0 t in (last ∙ k.0, ap (λ (z : Scan). z.begun) (passes k.0) ∙ k.1),
          λ x. let e = sym last ∙ x.0 in notes.byte_left.1 (e, sym (ap (λ (z : Scan). z.begun) (passes e)) ∙ x.1),
        );
        none_failed = notes.failed_read ∙ h.none_failed;
      }

-- ---- the end

pub parts_noted : {A : Type 0} (info : Streaminfo) (parts : List Part) (found : List FoundPart) (walk : Walk A) → PartsNoted info parts walk → (scan_parts info (record { scan = begun_scan; places = [] }) found).scan.begun ≡ walk.scan.begun → NotesOfParts info parts found walk.notes
parts_noted info parts found walk h begun = record {
  block_size = h.noted.block_size;
  frame_size = h.noted.frame_size;
  byte_left = (λ t. let k = h.byte_left.0 t in (k.0, begun ∙ k.1), λ x. h.byte_left.1 (x.0, sym begun ∙ x.1));
  none_failed = h.none_failed;
}

-- another change of the block size is no note of these
pub same_notes : (info : Streaminfo) (parts : List Part) (found : List FoundPart) (notes others : Notes) (changed : Option BlockSizes) → others ≡ record notes { changed_block_size = changed } → NotesOfParts info parts found notes → NotesOfParts info parts found others
same_notes info parts found notes others changed same h = subst (NotesOfParts info parts found) (sym same) (record {
  block_size = h.block_size;
  frame_size = h.frame_size;
  byte_left = h.byte_left;
  none_failed = h.none_failed;
})
