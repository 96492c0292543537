use Rattle.claxon_report.proofs.Keeping.{keeps_none}
use Rattle.claxon_report.proofs.places.KeptPlaces.with.Goals as goal

pub returns-in-None : goal.returns-in-None
returns-in-None g c = record { keeps = rw c.in-None.is (keeps_none c.args.self) }

pub returns-in-Some : goal.returns-in-Some
returns-in-Some g c = record { keeps = rw c.in-Some.is c.with_place.ensures.keeps }
