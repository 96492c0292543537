use Rattle.std.proofs.Common.{rules}
use Rattle.claxon_verify.proofs.Noted.{noted_through}
use Rattle.claxon_verify.proofs.Verified.{places_through, promised_through, same_input}
use Rattle.claxon_verify.proofs.FramesTrailed.{frames_through}
use Rattle.claxon_verify.proofs.verify_exact.Goals as goal

pub returns-clause-promises : goal.returns-clause-promises
returns-clause-promises g c =
    let at = c.new-input.ensures.inner in
    let n = same_input g.R.ReadBytes.source _ c.new-input.result c.verify_counted.new.input at c.verify_counted.ensures.loans in
    let k = promised_through g.R.ReadBytes.source _ c.new-input.result c.verify_counted.new.input at c.args.computes_md5 c.verify_counted.result c.verify_counted.ensures.promises in
    search rules

pub returns-clause-places_are_counted : goal.returns-clause-places_are_counted
returns-clause-places_are_counted g c =
    let at = c.new-input.ensures.inner in
    let n = same_input g.R.ReadBytes.source _ c.new-input.result c.verify_counted.new.input at c.verify_counted.ensures.loans in
    let k = places_through g.R.ReadBytes.source _ c.new-input.result c.verify_counted.new.input at c.args.computes_md5 c.verify_counted.result c.verify_counted.ensures.places_are_counted in
    search rules

pub returns-clause-keeps_at_most : goal.returns-clause-keeps_at_most
returns-clause-keeps_at_most g c = c.verify_counted.ensures.keeps_at_most

pub returns-clause-notes_are_exact : goal.returns-clause-notes_are_exact
returns-clause-notes_are_exact g c =
    let at = c.new-input.ensures.inner in
    let n = same_input g.R.ReadBytes.source _ c.new-input.result c.verify_counted.new.input at c.verify_counted.ensures.loans in
    let k = noted_through g.R.ReadBytes.source _ c.new-input.result c.verify_counted.new.input at c.verify_counted.result c.verify_counted.ensures.notes_are_exact in
    search rules

pub returns-clause-trailing_is_told : goal.returns-clause-trailing_is_told
returns-clause-trailing_is_told g c =
    let at = c.new-input.ensures.inner in
    let n = same_input g.R.ReadBytes.source _ c.new-input.result c.verify_counted.new.input at c.verify_counted.ensures.loans in
    let k = frames_through g.R.ReadBytes.source _ c.new-input.result c.verify_counted.new.input at c.args.computes_md5 c.verify_counted.result c.verify_counted.ensures.trailing_is_told in
    search rules
