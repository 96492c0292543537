use Rattle.std.proofs.Common.{◌∙◌, [], ◌∷◌, ◌++◌, ℤ, arith, length, length-append, ap, inl, rules, w32, Some}
use Rattle.std.proofs.lemmas.Int.{to_z-of_z}
use Rattle.std.proofs.lemmas.Result.{err_from_is_err_and}
use Rattle.std.specs.Iterator.Adapters.{take_count, take_source}
use Rattle.claxon.specs.FlacSamples.{have_failed}
use Rattle.claxon.proofs.SampleRuns.{gave_all, gave_more, gave_none}
use Rattle.claxon_uses.proofs.Collecting.{gave_as}
use Rattle.claxon_uses.proofs.FirstSamples.{given_first}
use Rattle.claxon_uses.proofs.samples.first_of.Goals as goal

pub loop-sample-init : goal.loop-sample-init
loop-sample-init g c =
    let same = ap take_source c.into_iter-sample-iterator.ensures.into_iter_gives ∙ c.take-sample-items.ensures.source in
    let many = ap take_count c.into_iter-sample-iterator.ensures.into_iter_gives ∙ c.take-sample-items.ensures.count in
    record {
      so_far = gave_as c.new-first.ensures.items (gave_none g.R.ReadBytes.source _ (ap have_failed same ∙ c.requires));
      count = omega (arith, many, ap length c.new-first.ensures.items);
    }

pub loop-sample-preserved : goal.loop-sample-preserved
loop-sample-preserved g c =
    let v = c.loop-sample.invariant in
    let step = c.in-Some.ensures.steps in
    let x = c.in_ok-sample.field-0 in
    let first = c.loop-sample.first.items in
    let same = to_z-of_z w32 x (search rules) in
    let items = c.in_ok-push.ensures.items ∙ ap (λ (z : ℤ). first ++ z ∷ []) same in
    record {
      so_far = gave_as items (gave_more g.R.ReadBytes.source v.so_far x (take_source c.next.new.self) (rw c.in_ok-sample.was at step.0));
      count = omega (arith, v.count, step.1, ap length items, length-append first (x ∷ []));
    }

pub returns-in_err-sample : goal.returns-in_err-sample
returns-in_err-sample g c =
    let v = c.loop-sample.invariant in
    let step = c.in-Some.ensures.steps in
    let same = ap take_source c.into_iter-sample-iterator.ensures.into_iter_gives ∙ c.take-sample-items.ensures.source in
    let p = err_from_is_err_and c.from_residual.result c.from_residual.ensures.1 in
    let error = c.in_err-sample.field-0.0 in
    let new = take_source c.next.new.self in
    let gave = gave_all g.R.ReadBytes.source v.so_far (Some error) new (rw c.in_err-sample.was at step.0) in
    rw (p.1, p.2) (record { ok = tt; err = inl (c.loop-sample.first.items, new, rw same at gave, omega (arith, v.count, step.1)) })

pub returns : goal.returns
returns g c =
    let v = c.loop-sample.invariant in
    let same = ap take_source c.into_iter-sample-iterator.ensures.into_iter_gives ∙ c.take-sample-items.ensures.source in
    let first = given_first g.R.ReadBytes.source c.args.count _ c.loop-sample.first.items (take_count c.loop-sample.sample-iterator) (take_source c.loop-sample.sample-iterator) (take_source c.next.new.self) v.so_far v.count c.in-None.ensures.steps in
    record { ok = rw same at first; err = tt }
