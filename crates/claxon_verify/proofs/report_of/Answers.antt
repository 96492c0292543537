use Rattle.std.proofs.Common.{◌≡◌, ◌++◌, ◌∙◌, ℕ, refl, subst}
use Rattle.std.specs.Prelude.{Option, None, Some}
use Rattle.std.specs.Option.{unwrap_or}
use Rattle.claxon.specs.MetadataBlock.{or_zero}
use Rattle.claxon_report.specs.Kept.{AreKept}
use Rattle.claxon_report.specs.Places.{ended_place, last_place, list_of}
use Rattle.claxon_report.specs.declared.place.Place.{Place}
use Rattle.claxon_report.proofs.Keeping.{keeps_both}
use Rattle.claxon_verify.proofs.report_of.Goals as goal

-- no number is 0
zero_or : (o : Option ℕ) → unwrap_or o 0 ≡ or_zero o
zero_or None = refl
zero_or (Some n) = refl

pub returns-clause-kept : goal.returns-clause-kept
returns-clause-kept g c = λ all k.
    let both = keeps_both (list_of c.finish.result.0) (list_of c.finish.result.1) c.args.walk.places c.with.result c.with-2.result c.with.ensures.keeps c.with-2.ensures.keeps in
    let kept = subst (λ (z : Option Place × Option Place). AreKept (all ++ (list_of z.0 ++ list_of z.1)) c.with-2.result.places.first c.with-2.result.places.more.items c.with-2.result.places.left_out) c.finish.ensures.are_last (both.keeps all k).are_kept in
    let same = c.unwrap_or.ensures ∙ zero_or c.args.info.samples in
    subst (λ (n : ℕ). AreKept (all ++ (list_of (ended_place c.args.walk.scan.ended) ++ list_of (last_place c.args.walk.end n c.args.walk.scan.due c.args.walk.scan.begun))) c.with-2.result.places.first c.with-2.result.places.more.items c.with-2.result.places.left_out) same kept

pub returns-clause-few : goal.returns-clause-few
returns-clause-few g c = (keeps_both (list_of c.finish.result.0) (list_of c.finish.result.1) c.args.walk.places c.with.result c.with-2.result c.with.ensures.keeps c.with-2.ensures.keeps).few
