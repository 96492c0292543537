use Rattle.std.proofs.Common.{◌≡◌, ◌≤◌, ◌∙◌, ap, rules as std_rules, subst, sym, [], ℕ, Some}
use Rattle.claxon.specs.ShownHead.{HasBitDepth}
use Rattle.claxon.specs.StreamInfos.{StreamInfo}
use Rattle.claxon_recovery.specs.Parts.{SourceIsKnown, unread}
use Rattle.claxon_rescue.specs.Losses.{HasNoted}
use Rattle.claxon_rescue.specs.RescueFile.{IsVerdictOnRescue, rules_of}
use Rattle.claxon_rescue.specs.RescuedStream.{AreParts, Rescues}
use Rattle.claxon_rescue.specs.declared.due.Rules.{Rules}
use Rattle.claxon_rescue.specs.declared.losses.Losses.{Losses}
use Rattle.std.specs.Io.KnownBytes.{Appends}
use Rattle.claxon_wav.specs.Conversion.{planned_bytes}
use Rattle.claxon_wav.specs.DataSize.{max_data_size}
use Rattle.claxon_wav.specs.WaveFile.{wave_file}
use Rattle.claxon_wav.proofs.Planned.{corrected_file, planned_file}
use Rattle.claxon_rescue.proofs.RescuedFiles.{announced_fits, file_of, same_some, verdict_on}
use Rattle.claxon_wav.proofs.SampleCounts.{counted}
use Rattle.claxon_rescue.proofs.rescue.rescue_file.Goals as goal

pub start-requires : goal.start-requires
start-requires g c = subst (λ (n : ℕ). n ≤ max_data_size) (sym c.unwrap_or.ensures) (announced_fits c.args.plan.announced c.args.plan.announced_fits)

pub write-requires : goal.write-requires
write-requires g c =
    let same = sym (ap (λ (r : Rules). r.info) c.rules_of-rules.ensures) in
    let layout = c.in_ok-start.ensures.is_sound.writes.layout_is ∙ c.new-wav.ensures.is_new_writer.layout_is in
    record {
      has_bit_depth = subst HasBitDepth same c.requires.has_bit_depth;
      is_file_of = file_of c.args.info c.args.plan c.rules_of-rules.result c.start.new.self (sym same) layout c.requires.is_plan_for;
      same_info = c.requires.same_info ∙ ap (λ (i : StreamInfo). Some i) same;
      at_start = c.requires.at_start;
      first = c.in_ok-rescue.ensures.due_is;
      none_waits = c.in_ok-rescue.ensures.none_wait;
    }

pub returns-clause-rescues_to : goal.returns-clause-rescues_to
returns-clause-rescues_to g c = λ info known.
    let contents = g.W.Write.contents in
    let plan = c.args.plan in
    let options = c.args.options in
    let all = c.in_ok-write.ensures.is_sound in
    let given = all.parts in
    let begun = c.in_ok-rescue.ensures in
    let rules_are = c.rules_of-rules.ensures in
    let same = ap (λ (r : Rules). r.info) rules_are in
    let begins = c.in_ok-start.ensures.is_sound in
    let fresh = c.new-wav.ensures.is_new_writer in
    let is = c.rescued_of.ensures in
    let count = counted contents given.blocks c.start.new.self all.put c.write.new.wav given.puts begins.writes.none_so_far all.right.written_is all.right.layout_is in
    let reference = c.into_output.ensures.is_output_of.same_reference ∙ (c.in_ok-write.ensures.same_output ∙ (c.in_ok-start.ensures.same_output ∙ fresh.counts.same_reference)) in
    let e = sym reference in
    let k = planned_file contents plan given.blocks c.new-wav.result c.start.new.self c.write.new.wav fresh.layout_is c.unwrap_or.result c.unwrap_or.ensures begins all.file in
    let w = c.into_output.ensures.is_output_of.writer in
    let j = rw (← w, fresh.counts.writer) at k in
    let n = corrected_file contents plan given.blocks c.new-wav.result c.start.new.self c.write.new.wav fresh.layout_is g.W.Seek.stream_position all.put c.unwrap_or.result c.unwrap_or.ensures begins given.puts all.ends in
    let m = rw (← w, fresh.counts.writer) at n in
    let left = c.file-2-1.given.1 e in
    let info_is : c.args.info ≡ info = same_some (sym c.requires.same_info ∙ known) in
    let kept = given.lost in
    let judged = c.rescued_of.result.conversion.md5 in
    record {
      parts = given.parts;
      blocks = given.blocks;
      lost = given.lost;
      are_parts = subst (λ (i : StreamInfo). SourceIsKnown g.R.ReadBytes.source c.args.parts.now → AreParts i options.start (unread g.R.ReadBytes.source c.args.parts.now) given.parts []) (same ∙ info_is) given.are_parts;
      rescues = subst (λ (i : StreamInfo). Rescues (rules_of i plan.layout options) options.start given.parts given.blocks kept) info_is (subst (λ (r : Rules). Rescues r options.start given.parts given.blocks given.lost) rules_are given.rescues);
      samples_are = is.samples_are ∙ c.samples-samples.ensures ∙ count;
      verdict = subst (λ (i : StreamInfo). IsVerdictOnRescue plan.computes_md5 i kept given.blocks judged) info_is (verdict_on plan.computes_md5 c.args.info c.rules_of-rules.result given.lost given.blocks c.in_ok-rescue.rescue.md5 c.write.new.self.md5 judged same begun.hashed given.hashes is.judged);
      noted = subst (λ (l : Losses). HasNoted options.max_ranges given.lost l) (sym is.losses_are) (given.notes options.max_ranges [] begun.noted);
      right = λ same. subst (λ (x : g.row.W.Denot). Appends (contents c.args.file.now) (contents x) (wave_file plan.layout (planned_bytes plan given.blocks))) (sym left) (j same);
      wrong = λ differ. search std_rules;
    }
