use Rattle.std.proofs.Common.{ap, List, Option, Some, ◌∙◌, refl, subst, sym, ℕ}
use Rattle.std.specs.Prelude.{All}
use Rattle.std.proofs.lemmas.Result.{err_from_is_err_and}
use Rattle.claxon.specs.Bits.{FitsIn}
use Rattle.claxon.specs.Streams.{interleave}
use Rattle.claxon_rescue.specs.Losses.{NotesRange}
use Rattle.claxon_recovery.specs.declared.part.FrameThere.{FrameThere}
use Rattle.claxon_rescue.specs.Times.{IsGapAmong, IsKept, due_after}
use Rattle.claxon_rescue.specs.Waiting.{waiting_frames}
use Rattle.claxon_rescue.specs.declared.due.Due.{Due}
use Rattle.claxon_rescue.specs.declared.losses.LostRange.{LostRange}
use Rattle.claxon_rescue.proofs.Placed.{all_fit, block_stops, frame_left_out, frame_stops, gap_before_stops, placed, same_file}
use Rattle.claxon_rescue.proofs.Rescuing.{puts_one}
use Rattle.claxon_rescue.proofs.parts.Rescue.put_frame.Goals as goal

pub returns-in_default-clause-is_sound : goal.returns-in_default-clause-is_sound
returns-in_default-clause-is_sound g c =
    let rules = c.args.rules.now in
    let there = c.args.there.now in
    let old = c.args.self.now in
    let gives = subst (λ (o : Option ℕ). IsGapAmong rules old.due there c.frames.result.now o) c.in_default.is c.gap_among.ensures.is_gap_among in
    let none = subst (λ (l : List FrameThere). IsKept rules old.due there l → ⊥) c.frames.ensures.frames gives in
    frame_left_out g.W.Write.contents rules there old _ c.args.wav.now none refl refl refl (subst (λ (r : LostRange). NotesRange r old.losses c.note.new.self) c.left_out.ensures c.note.ensures.notes_range)

pub returns-in_err-put_gap-clause-fault_is_sound : goal.returns-in_err-put_gap-clause-fault_is_sound
returns-in_err-put_gap-clause-fault_is_sound g c =
    let p = err_from_is_err_and c.from_residual.result c.from_residual.ensures.1 in
    let at = subst (λ (l : List FrameThere). IsGapAmong c.args.rules.now c.args.self.now.due c.args.there.now l (Some c.in-Some.gap)) c.frames.ensures.frames c.in-Some.ensures.is_gap_among in
    rw (p.1, p.2) (gap_before_stops g.W.Write.contents c.args.rules.now c.args.there.now c.in-Some.gap c.args.self.now.due (waiting_frames c.args.self.now.waiting) at c.args.wav.now c.put_gap.new.wav c.in_err-put_gap.field-0.0 c.in_err-put_gap.ensures.fault_is_sound)

pub returns-in_err-put_block-clause-fault_is_sound : goal.returns-in_err-put_block-clause-fault_is_sound
returns-in_err-put_block-clause-fault_is_sound g c =
    let rules = c.args.rules.now in
    let there = c.args.there.now in
    let stream = c.requires.of_stream in
    let at = subst (λ (l : List FrameThere). IsGapAmong rules c.args.self.now.due there l (Some c.in-Some.gap)) c.frames.ensures.frames c.in-Some.ensures.is_gap_among in
    let mid = c.put_gap.new.wav in
    let file = same_file rules.info c.args.wav.now mid c.put_gap.ensures.same_header c.requires.is_file_of in
    let fit = subst (λ (n : ℕ). All (FitsIn n) (interleave there.frame.block.channels)) (sym file.valid_bits_are) (all_fit rules.info.bits_per_sample there.frame.block.channels stream.2) in
    let b = c.in_err-put_block.ensures in
    let p = err_from_is_err_and c.from_residual-in_err-put_block.result c.from_residual-in_err-put_block.ensures.1 in
    rw (p.1, p.2) (frame_stops g.W.Write.contents rules there c.in-Some.gap c.args.self.now.due (waiting_frames c.args.self.now.waiting) at c.args.wav.now mid c.put_block.new.self c.in_err-put_block.field-0.0 c.in_ok-put_gap.ensures.is_sound.puts c.put_gap.ensures.keeps_room
    (block_stops g.W.Write.contents rules.info there.frame.block mid c.put_block.new.self file stream.0 fit c.in_err-put_block.field-0.0 b.fault_is_sound b.has_memory b.fault_keeps))

pub returns-clause-is_sound : goal.returns-clause-is_sound
returns-clause-is_sound g c =
    let rules = c.args.rules.now in
    let there = c.args.there.now in
    let at = subst (λ (l : List FrameThere). IsGapAmong rules c.args.self.now.due there l (Some c.in-Some.gap)) c.frames.ensures.frames c.in-Some.ensures.is_gap_among in
    let b = c.in_ok-put_block.ensures in
    placed g.W.Write.contents rules there c.in-Some.gap c.args.self.now.due (waiting_frames c.args.self.now.waiting) at c.args.self.now c.put_gap.new.self _ c.args.wav.now c.put_gap.new.wav c.put_block.new.self refl refl refl (c.after-self.ensures ∙ ap (λ (d : Due). due_after d c.in-Some.gap there) c.in_ok-put_gap.ensures.is_sound.same_due) refl c.in_ok-put_gap.ensures.is_sound
    (puts_one there.frame.block b.is_sound b.fits b.same_header b.unflushed) c.hash.ensures.hashes_too
