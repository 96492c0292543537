use Rattle.std.proofs.Common.{[], List, ◌++◌, ap, refl, sym}
use Rattle.claxon_report.specs.declared.place.Place.{Place}
use Rattle.claxon_report.proofs.places.KeptPlaces.new.Goals as goal

pub returns-clause-keeps : goal.returns-clause-keeps
returns-clause-keeps g c = record { are_kept = record { others = []; are = sym (ap (λ (z : List Place). z ++ []) c.new.ensures.items); left_out_is = refl; some = λ e. refl }; none_left_out = λ e. refl }
