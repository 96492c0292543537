use Rattle.std.proofs.Common.{◌≡◌, ◌∙◌, arith, refl, subst, Option}
use Rattle.std.specs.Prelude.{Result, Ok}
use Rattle.std.proofs.lemmas.Result.{err_from_is_err_and}
use Rattle.claxon.specs.Errors.{Error as Cause}
use Rattle.claxon_command_line.proofs.Showing.{shown_quietly, shown_total_same}
use Rattle.claxon_recovery.specs.Parts.{PartIsThere, parts_memory}
use Rattle.claxon_recovery.specs.declared.part.Part.{Part}
use Rattle.claxon_seek.specs.BlockMemory.{MemoryIsCounted}
use Rattle.claxon_rescue.proofs.Placed.{same_file}
use Rattle.claxon_rescue.proofs.RescuedParts.{all_given, all_of_stream, count_stops, none_so_far, one_part, part_stops, read_stops, rest_stops, waiting_stops}
use Rattle.claxon_rescue.proofs.parts.Rescue.put_parts.Goals as goal

pub loop-init : goal.loop-init
loop-init g c = record {
  reference = refl;
  so_far = none_so_far g.R.ReadBytes.source g.W.Write.contents c.args.rules.now c.args.start c.args.parts.now c.args.wav.now c.args.self.now c.requires.at_start c.requires.same_info c.requires.first c.requires.none_waits;
  header = record { layout_is = refl; announced_is = refl };
  errors = refl;
  quiet = λ none. (refl, refl);
  shown = refl;
}

pub loop-preserved : goal.loop-preserved
loop-preserved g c =
    let v = c.loop.invariant in
    let p = c.in_ok-put_part.ensures in
    let there = subst (λ (o : Option Part). PartIsThere g.R.ReadBytes.source c.loop.parts c.next_part.new.self (Ok o)) c.in-Some.is c.in-Ok.ensures.part_is_there in
    let memory : parts_memory c.next_part.new.self ≡ parts_memory c.loop.parts = c.next_part.ensures.memory_is_counted.granted (λ m. let k = c.in-Ok.is in cc) in
    record {
      reference = c.put_part.ensures.same_output ∙ v.reference;
      so_far = one_part g.R.ReadBytes.source g.W.Write.contents c.args.rules.now c.args.start c.args.parts.now c.loop.parts c.args.wav.now c.loop.wav c.args.self.now c.loop.self c.loop.end c.loop.counter c.loop.invariant.so_far c.next_part.new.self c.in-Some.part c.put_part.new.wav c.put_part.new.self p.is_sound c.end_of-end.result there c.next_part.ensures.keeps_stream memory c.end_of-end.ensures c.put_part.ensures.keeps_room;
      header = record { layout_is = c.put_part.ensures.same_header.layout_is ∙ v.header.layout_is; announced_is = c.put_part.ensures.same_header.announced_is ∙ v.header.announced_is };
      errors = c.show.ensures.same_errors ∙ v.errors;
      quiet = shown_quietly c.args.progress.now c.loop.progress c.show.new.self _ v.quiet v.shown c.show.ensures.shows_percentage c.show.ensures.writes_only_changes;
      shown = shown_total_same c.loop.progress c.show.new.self _ c.show.ensures.shows_percentage ∙ v.shown;
    }

pub put_part-requires : goal.put_part-requires
put_part-requires g c = record {
  has_bit_depth = c.requires.has_bit_depth;
  is_file_of = same_file c.args.rules.now.info c.args.wav.now c.loop.wav c.loop.invariant.header c.requires.is_file_of;
  of_stream = all_of_stream g.R.ReadBytes.source g.W.Write.contents c.args.rules.now c.args.start c.args.parts.now c.loop.parts c.args.wav.now c.loop.wav c.args.self.now c.loop.self c.loop.end c.loop.counter c.loop.invariant.so_far;
}

pub put_waiting-requires-clause-of_stream : goal.put_waiting-requires-clause-of_stream
put_waiting-requires-clause-of_stream g c = all_of_stream g.R.ReadBytes.source g.W.Write.contents c.args.rules.now c.args.start c.args.parts.now c.loop.parts c.args.wav.now c.loop.wav c.args.self.now c.loop.self c.loop.end c.loop.counter c.loop.invariant.so_far

pub put_waiting-requires-in_default-clause-of_stream : goal.put_waiting-requires-in_default-clause-of_stream
put_waiting-requires-in_default-clause-of_stream g c = all_of_stream g.R.ReadBytes.source g.W.Write.contents c.args.rules.now c.args.start c.args.parts.now c.loop.parts c.args.wav.now c.loop.wav c.args.self.now c.loop.self c.loop.end c.loop.counter c.loop.invariant.so_far

pub returns-in-Err-clause-fault_is_sound : goal.returns-in-Err-clause-fault_is_sound
returns-in-Err-clause-fault_is_sound g c =
    let cause = c.in-Err.error in
    let counts = subst (λ (r : Result (Option Part) Cause). MemoryIsCounted r (parts_memory c.loop.parts) (parts_memory c.next_part.new.self)) c.in-Err.is c.next_part.ensures.memory_is_counted in
    read_stops g.R.ReadBytes.source g.W.Write.contents c.args.rules.now c.args.start c.args.parts.now c.loop.parts c.args.wav.now c.loop.wav c.args.self.now c.loop.self c.loop.end c.loop.counter c.loop.invariant.so_far c.next_part.new.self c.put_waiting.new.wav cause c.in-Err.ensures.err_is_excused counts c.from.result c.from.ensures

pub returns-in_err-put_part-clause-fault_is_sound : goal.returns-in_err-put_part-clause-fault_is_sound
returns-in_err-put_part-clause-fault_is_sound g c =
    let p = err_from_is_err_and c.from_residual-in_err-put_part.result c.from_residual-in_err-put_part.ensures.1 in
    rw (p.1, p.2) (part_stops g.R.ReadBytes.source g.W.Write.contents c.args.rules.now c.args.start c.args.parts.now c.loop.parts c.args.wav.now c.loop.wav c.args.self.now c.loop.self c.loop.end c.loop.counter c.loop.invariant.so_far c.next_part.new.self c.put_part.new.wav c.in_err-put_part.field-0.0 c.in_err-put_part.ensures.fault_is_sound)

pub returns-in_err-put_waiting-clause-fault_is_sound : goal.returns-in_err-put_waiting-clause-fault_is_sound
returns-in_err-put_waiting-clause-fault_is_sound g c =
    let p = err_from_is_err_and c.from_residual.result c.from_residual.ensures.1 in
    let none = subst (λ (o : Option Part). PartIsThere g.R.ReadBytes.source c.loop.parts c.next_part.new.self (Ok o)) c.in_default.is c.in-Ok.ensures.part_is_there in
    rw (p.1, p.2) (waiting_stops g.R.ReadBytes.source g.W.Write.contents c.args.rules.now c.args.start c.args.parts.now c.loop.parts c.args.wav.now c.loop.wav c.args.self.now c.loop.self c.loop.end c.loop.counter c.loop.invariant.so_far c.next_part.new.self c.put_waiting-in_default.new.wav c.in_err-put_waiting.field-0.0 none c.in_err-put_waiting.ensures.fault_is_sound)

pub returns-in_default-clause-is_sound : goal.returns-in_default-clause-is_sound
returns-in_default-clause-is_sound g c =
    let none = subst (λ (o : Option Part). PartIsThere g.R.ReadBytes.source c.loop.parts c.next_part.new.self (Ok o)) c.in_default.is c.in-Ok.ensures.part_is_there in
    all_given g.R.ReadBytes.source g.W.Write.contents c.args.rules.now c.args.start c.args.parts.now c.loop.parts c.args.wav.now c.loop.wav c.args.self.now c.loop.self c.loop.end c.loop.counter c.loop.invariant.so_far c.next_part.new.self c.put_waiting-in_default.new.wav c.put_rest.new.wav c.put_waiting-in_default.new.self c.put_rest.new.self none c.in_ok-put_waiting.ensures.is_sound c.put_waiting-in_default.ensures.keeps_room c.put_rest.result c.put_rest.ensures.is_sound

pub returns-in_default-clause-fault_is_sound : goal.returns-in_default-clause-fault_is_sound
returns-in_default-clause-fault_is_sound g c =
    let none = subst (λ (o : Option Part). PartIsThere g.R.ReadBytes.source c.loop.parts c.next_part.new.self (Ok o)) c.in_default.is c.in-Ok.ensures.part_is_there in
    rest_stops g.R.ReadBytes.source g.W.Write.contents c.args.rules.now c.args.start c.args.parts.now c.loop.parts c.args.wav.now c.loop.wav c.args.self.now c.loop.self c.loop.end c.loop.counter c.loop.invariant.so_far c.next_part.new.self c.put_waiting-in_default.new.wav c.put_rest.new.wav c.put_waiting-in_default.new.self c.put_rest.new.self none c.in_ok-put_waiting.ensures.is_sound c.put_waiting-in_default.ensures.keeps_room c.put_rest.result c.put_rest.ensures.fault_is_sound

pub returns-clause-fault_is_sound : goal.returns-clause-fault_is_sound
returns-clause-fault_is_sound g c = count_stops g.R.ReadBytes.source g.W.Write.contents c.args.rules.now c.args.start c.args.parts.now c.loop.parts c.args.wav.now c.loop.wav c.args.self.now c.loop.self c.loop.end c.loop.counter c.loop.invariant.so_far c.from-2.result (omega (arith, c.loop-test.false))
