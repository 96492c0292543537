use Rattle.std.proofs.Common.{rules, arith}
use Rattle.std.proofs.lemmas.Grind.{common_steps}
use Rattle.claxon_c.proofs.search.next_find.Goals as goal

pub returns : goal.returns
returns c =
    let e = c.find_next-event.ensures in
    let w = c.find_next-within.ensures in
    let position = c.position-position.ensures in
    record {
      found = c.find_next-event.result;
      next = c.find_next-event.new.self;
      is_next = record {
        is_of_stream = e.is_of_stream;
        needs_more = e.needs_more;
        keeps_notes = e.keeps_notes;
        is_timely = e.is_timely;
        waste_is_in_vain = e.waste_is_in_vain;
      };
      timely = λ q. grind (arith, common_steps, position, c.is_full.ensures, c.lacks_end.ensures, c.if-not-lacks_end.false);
      too_long = λ q. record {
        found = c.find_next-within.result;
        next = c.find_next-within.new.self;
        is_next = record {
          is_of_stream = w.is_of_stream;
          needs_more = w.needs_more;
          keeps_notes = w.keeps_notes;
          is_timely = w.is_timely;
          waste_is_in_vain = w.waste_is_in_vain;
        };
        some = λ r. grind (arith, common_steps, c.finds_none.ensures, c.if-not-finds_none.false);
        none = λ r. record {
          decoder = c.new.result;
          no_faults = c.new.ensures.no_faults;
          goes_on = search rules;
          needed = search rules;
        };
      };
    }

pub returns-then-not-lacks_end : goal.returns-then-not-lacks_end
returns-then-not-lacks_end c = grind (arith, common_steps)

pub returns-then-not-finds_none : goal.returns-then-not-finds_none
returns-then-not-finds_none c = search rules
