use Rattle.std.proofs.Common.{ap, append-nil, append_assoc, map-id, sym, ◌∙◌, ◌++◌, string_bytes}
use Rattle.std.proofs.lemmas.Grind.{flat_map-append}
use Rattle.std.proofs.lemmas.Iterator.{YieldsList-from_chars}
use Rattle.std.proofs.lemmas.Iterator.Consumers.{YieldsList-end}
use Rattle.std.specs.Prelude.{flat_map}
use Rattle.claxon_command_line.specs.Json.{json_char}
use Rattle.claxon_command_line.proofs.json.push_json_chars.Goals as goal

pub loop-c-preserved : goal.loop-c-preserved
loop-c-preserved g c = rw (flat_map-append, append-nil, ← append_assoc, ← c.loop-c.invariant) c.in_ok-push_json_char.ensures.adds

pub returns : goal.returns
returns g c =
    let done = YieldsList-end (YieldsList-from_chars c.args.s.now c.utf8.s cc) c.loop-c.yielded _ c.loop-c.yielded_by _ _ c.in-None.is c.next.ensures.steps in
    record { adds = c.loop-c.invariant ∙ ap (λ cs. string_bytes c.args.text.now ++ flat_map json_char cs) (sym (map-id c.loop-c.yielded) ∙ done.0) }
