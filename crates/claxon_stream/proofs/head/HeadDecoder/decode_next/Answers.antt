use Rattle.std.proofs.Common.{◌≡◌, ◌<◌, ◌≤◌, ℕ, true, false, List, length, sym, subst, ◌∙◌, arith}
use Rattle.std.proofs.lemmas.Bool.{false≢true}
use Rattle.claxon_stream.specs.HeadDecoder.{HeadEventIs}
use Rattle.claxon_stream.specs.HeadState.{head_event_of, needs, state_after_found}
use Rattle.claxon_stream.specs.Held.{ends_there, held_from}
use Rattle.claxon_stream.proofs.HeadEvents.{event_bounds, found_fits, head_event_is, head_event_of_all, read_on_is}
use Rattle.claxon_stream.proofs.HeldBytes.{held_stands}
use Rattle.claxon_stream.proofs.head.HeadDecoder.decode_next.Goals as goal
use Rattle.claxon_stream.proofs.head.HeadDecoder.decode_next.Goals.{else-rest-needed-via-then-rest-needed+else-not-ends, else-rest-needed-via-else-rest-needed}

pub after-requires : goal.after-requires
after-requires g c =
    let s = c.args.self.now in
    found_fits s c.args.at c.args.bytes.now c.requires.fits (rw c.position-position.ensures at c.position-position.type_inv) c.part_at_start-found.result (rw (c.held_from-rest.ensures, c.position-position.ensures) at c.part_at_start-found.ensures.is_read)

pub returns-then-not-ends-clause-is_sound : goal.returns-then-not-ends-clause-is_sound
returns-then-not-ends-clause-is_sound g c =
    let s = c.args.self.now in
    let rest = held_from c.args.at s.position c.args.bytes.now in
    let short : length rest < c.needed_bytes-needed.result = rw (c.held_from-rest.ensures, c.position-position.ensures) at c.if-rest-needed.true in
    let ends_is = rw c.position-position.ensures at c.ends_there-ends.ensures in
    rw (c.read_on.ensures, c.position-position.ensures) (read_on_is g.row.A.Denot s rest c.needed_bytes-needed.result (ends_there c.args.at s.position c.args.is_end) c.needed_bytes-needed.ensures short (sym ends_is ∙ c.if-not-ends.true))

pub returns : goal.returns
returns g c =
    let at = c.args.at in
    let s = c.args.self.now in
    let bytes = c.args.bytes.now in
    let rest = held_from at s.position bytes in
    let ends = ends_there at s.position c.args.is_end in
    let found = c.part_at_start-found.result in
    let e = rw (c.held_from-rest.ensures, c.position-position.ensures) at c.part_at_start-found.ensures in
    let enough : ends ≡ false → needs s ≤ length rest = λ goes_on. elim c.else-rest-needed.branch [
      | else-rest-needed-via-then-rest-needed+else-not-ends w ↦ absurd (false≢true (sym goes_on ∙ sym (rw c.position-position.ensures at c.ends_there-ends.ensures) ∙ w.if-not-ends.false))
      | else-rest-needed-via-else-rest-needed w ↦ (let long = rw (c.held_from-rest.ensures, c.position-position.ensures) at w.if-rest-needed.false in omega (arith, long, c.needed_bytes-needed.ensures))
    ] in
    let sound = head_event_is s rest found ends enough e.is_read in
    rw (c.event_of.ensures, c.after.ensures) (record {
      is_sound = sound;
      is_of_stream = λ all stands answer. let k = held_stands all at s.position bytes c.args.is_end stands in
          subst (λ (z : List ℕ). HeadEventIs s z true (head_event_of s found) (state_after_found s found)) (sym k.1) (head_event_of_all s (state_after_found s found) rest k.0 ends k.2 (head_event_of s found) answer sound);
      has_bounds = event_bounds s rest found e.has_bounds;
    })
