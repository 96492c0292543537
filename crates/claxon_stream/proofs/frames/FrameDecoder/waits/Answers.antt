use Rattle.std.proofs.Common.{◌≡◌, ◌∙◌, inl, inr, drop, sym, subst, arith}
use Rattle.std.specs.Option.{option_map}
use Rattle.claxon.specs.FrameReader.{stream_with}
use Rattle.claxon_stream.specs.Budget.{IsSpent}
use Rattle.claxon_stream.specs.FrameDecoder.{IsDue}
use Rattle.claxon_stream.specs.Held.{ends_there, held_from}
use Rattle.claxon_stream.proofs.Notes.{fault_is_longer, is_not_due, not_due, starts_with_held}
use Rattle.claxon_stream.proofs.frames.FrameDecoder.waits.Goals as goal

pub returns-then-is_worth_a_try : goal.returns-then-is_worth_a_try
returns-then-is_worth_a_try c =
    let old = c.args.self.now in
    let rest = held_from c.args.at old.position c.args.bytes.now in
    let ends = ends_there c.args.at old.position c.args.is_end in
    let due : IsDue rest ends old c.is_due-is_due.result = rw (c.held_from-rest.ensures, c.ends_there-ends.ensures) at c.is_due-is_due.ensures in
    let w = rw c.held_from-rest.ensures at c.is_worth_a_try.ensures in
    record {
      position = w.position;
      wastes_nothing = rw w.budget (omega (arith, c.make_tries_good.ensures.wasted));
      charges_nothing = w.faults;
      tried = w.tried;
      summed = w.summed;
      keeps_notes = λ known all stands right.
          let start = starts_with_held all c.args.at old.position c.args.bytes.now c.args.is_end stands in
          rw w.position ((w.knows (option_map stream_with known) (drop old.position all) start right).0);
      needs = λ needed is. absurd cc;
      tries = λ none goes few known all stands right.
          let start = starts_with_held all c.args.at old.position c.args.bytes.now c.args.is_end stands in
          (w.knows (option_map stream_with known) (drop old.position all) start right).2 (is_not_due rest ends old c.is_due-is_due.result due goes few) c.if-is_worth_a_try.true;
    }

pub returns : goal.returns
returns c =
    let old = c.args.self.now in
    let w = rw c.held_from-rest.ensures at c.is_worth_a_try.ensures in
    let rest = held_from c.args.at old.position c.args.bytes.now in
    let ends = ends_there c.args.at old.position c.args.is_end in
    record {
      position = w.position;
      wastes_nothing = rw w.budget (omega (arith, c.make_tries_good.ensures.wasted));
      charges_nothing = w.faults;
      tried = w.tried;
      summed = w.summed;
      keeps_notes = λ known all stands right.
          let start = starts_with_held all c.args.at old.position c.args.bytes.now c.args.is_end stands in
          rw w.position ((w.knows (option_map stream_with known) (drop old.position all) start right).0);
      needs = λ needed is.
          let due = not_due rest ends old c.is_due-is_due.result (rw (c.held_from-rest.ensures, c.ends_there-ends.ensures) at c.is_due-is_due.ensures) (w.waits c.if-is_worth_a_try.false) in
          let count = rw (c.held_from-rest.ensures, w.position) at c.needed_after.ensures in
          let same : needed ≡ c.needed_after.result = cc in (
            same ∙ count,
            due.0,
            λ known. (
              λ all stands right waits.
                  let start = starts_with_held all c.args.at old.position c.args.bytes.now c.args.is_end stands in
                  elim ((w.knows (option_map stream_with known) (drop old.position all) start right).1 c.if-is_worth_a_try.false) [
                    | inl none ↦ inl none
                    | inr spent ↦ inr (subst IsSpent (sym w.budget) spent)
                  ],
              λ all stands right waits f t u bad there.
                  let start = starts_with_held all c.args.at old.position c.args.bytes.now c.args.is_end stands in
                  let longer = fault_is_longer (option_map stream_with known) old.end.tried (drop old.position all) rest start right.tried f t u bad there in
                  omega (arith, due.1, longer),
            ),
          );
      tries = λ none. absurd cc;
    }
