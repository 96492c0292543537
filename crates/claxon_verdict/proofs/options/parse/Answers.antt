use Rattle.std.proofs.Common.{◌≡◌, ◌+◌, arith}
use Rattle.claxon_verdict.proofs.CommandLines.{
  after_flag,
  after_list,
  after_operand,
  after_places,
  asks_for,
}
use Rattle.claxon_verdict.proofs.options.parse.Goals as goal

pub loop-argument-preserved-in-Operand : goal.loop-argument-preserved-in-Operand
loop-argument-preserved-in-Operand c =
    let before = rw c.in-Some.ensures.gives at c.loop-argument.invariant.goes_on in
    let old = rw c.in-Operand.is at before in
    let count : c.saturating_add-count.result ≡ c.loop-argument.count + 1
    = omega (arith, c.in-Some.ensures.takes_word) in
    record {
      goes_on = rw count (after_operand old);
      bound = omega (arith, c.in-Some.ensures.takes_word);
    }

pub loop-argument-preserved-in-Flag : goal.loop-argument-preserved-in-Flag
loop-argument-preserved-in-Flag c =
    let before = rw c.in-Some.ensures.gives at c.loop-argument.invariant.goes_on in
    let old = rw c.in-Flag.is at before in
    let with_flag = c.in_ok-options-in-Flag.ensures.with_flag_is in
    record {
      goes_on = after_flag old with_flag.0 with_flag.1;
      bound = omega (arith, c.in-Some.ensures.takes_word);
    }

pub loop-argument-preserved-in-FilesFrom : goal.loop-argument-preserved-in-FilesFrom
loop-argument-preserved-in-FilesFrom c =
    let before = rw c.in-Some.ensures.gives at c.loop-argument.invariant.goes_on in
    let old = rw c.in-FilesFrom.is at before in
    let list = c.in_ok-list_name-in-FilesFrom.ensures.list_is in
    record {
      goes_on = after_list _ _ _ _ old c.is_some.ensures list.0 list.1;
      bound = omega (arith, c.in-Some.ensures.takes_word);
    }

pub loop-argument-preserved : goal.loop-argument-preserved
loop-argument-preserved c =
    let before = rw c.in-Some.ensures.gives at c.loop-argument.invariant.goes_on in
    let old = rw c.in-Places.is at before in
    let places = c.in_ok-options-in-Places.ensures.more_places_are in
    record {
      goes_on = after_places _ _ _ old places.0 places.1;
      bound = omega (arith, c.in-Some.ensures.takes_word);
    }

pub returns-clause-request_is_sound : goal.returns-clause-request_is_sound
returns-clause-request_is_sound c =
    let old = rw c.in_default.ensures.gives.0 at c.loop-argument.invariant.goes_on in
    asks_for c.args.words.now _ _ _ _ old c.in_ok-files.ensures.files_are
