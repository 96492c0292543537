use Rattle.std.proofs.Common.{append-nil, append_assoc, sym, ◌∙◌}
use Rattle.claxon_command_line.proofs.EscapedNames.{escaped_none, escaped_part}
use Rattle.claxon_command_line.proofs.names.escaped_bytes.Goals as goal

pub loop-chunk-preserved : goal.loop-chunk-preserved
loop-chunk-preserved g c =
    let steps = c.in-Some.ensures.steps in
    let text = escaped_part _ _ _ _ steps.0 steps.3.0 steps.3.1 steps.2 in
    rw (c.in_ok-push_hex_escapes.ensures.adds, c.in_ok-push_str.ensures.bytes, c.as_str.ensures.value, c.in_ok-escaped_text.ensures.is_text, c.valid.ensures, c.invalid.ensures)
    (simp append_assoc (rw text at c.loop-chunk.invariant))

pub returns : goal.returns
returns g c = record { is_text = sym (append-nil _) ∙ rw (escaped_none _ c.in-None.ensures.steps.0) at c.loop-chunk.invariant }
