use Rattle.std.proofs.Common.{◌≡◌, ◌<◌, false, List, [], ◌∷◌, ◌++◌, length, refl, subst}
use Rattle.std.specs.Prelude.{IsTrue, ◌↔◌}
use Rattle.claxon_report.specs.declared.place.Place.{Place}
use Rattle.claxon_report.proofs.Keeping.{first_are, more_few, more_kept, no_first}
use Rattle.claxon_report.proofs.places.KeptPlaces.with_place.Goals as goal

pub returns-in-None : goal.returns-in-None
returns-in-None g c = record {
  keeps = record {
    keeps = λ all k. record {
      are_kept = record {
        others = k.are_kept.others;
        are = first_are all c.args.self.places.more.items k.are_kept.others c.args.self.places.first c.args.place c.in-None.is (k.are_kept.some c.in-None.is) k.are_kept.are;
        left_out_is = k.are_kept.left_out_is;
        some = λ e. no_first c.args.place e (all ++ c.args.place ∷ []);
      };
      none_left_out = k.none_left_out;
    };
    more = refl;
    few = λ few. few;
  };
}

pub returns-in-Some : goal.returns-in-Some
returns-in-Some g c =
    let room : IsTrue c.has_room-is_room.result ↔ ((c.args.self.is_full ≡ false) × (length c.args.self.places.more.items < c.args.self.more)) = subst (λ (z : List Place). IsTrue c.has_room-is_room.result ↔ ((c.args.self.is_full ≡ false) × (length z < c.args.self.more))) c.as_slice.ensures.value c.has_room-is_room.ensures in
    let pushes = c.push-items.ensures.pushes in
    record {
      keeps = record {
        keeps = λ all k.
            let m = more_kept c.args.self c.in-Some.first c.args.place c.in-Some.is c.has_room-is_room.result room c.push-items.result.is_pushed c.push-items.result.items.items _ pushes.yes pushes.no c.one_unless-one_more.ensures all k in
            record { are_kept = m.0; none_left_out = m.1 };
        more = refl;
        few = more_few c.args.self c.in-Some.first c.args.place c.in-Some.is c.has_room-is_room.result room c.push-items.result.is_pushed c.push-items.result.items.items pushes.yes pushes.no;
      };
    }
