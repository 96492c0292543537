use Rattle.std.proofs.lemmas.Result.{err_from_is_err_and}
use Rattle.claxon.specs.ReadHead.{options_view}
use Rattle.claxon_uses.proofs.StreamTags.{no_tags, tags_answered, options_alone}
use Rattle.claxon_uses.proofs.tags.stream_tags.Goals as goal

pub returns-in_err-flac : goal.returns-in_err-flac
returns-in_err-flac g c =
    let p = err_from_is_err_and c.from_residual.result c.from_residual.ensures.1 in
    let e = c.in_err-flac.ensures in
    let options = c.head_options.result in
    let alone = options_alone options c.head_options.ensures.only c.head_options.ensures.comment in
    let k = no_tags {A = g.row.A.Denot} g.R.Read.remaining c.args.reader (options_view options) alone c.in_err-flac.field-0.0 e.is_complete e.fault_is_sound e.fault_is_complete in
    rw (p.1, p.2) (record { are_sound = k.sound; are_complete = k.complete; fault_is_sound = k.fault; fault_is_complete = k.named })

pub returns : goal.returns
returns g c =
    let e = c.in_ok-flac.ensures in
    let options = c.head_options.result in
    let alone = options_alone options c.head_options.ensures.only c.head_options.ensures.comment in
    let k = tags_answered g.R.Read.remaining c.args.reader (options_view options) alone c.in_ok-flac.flac e.is_sound e.is_complete e.fault_is_complete c.tag_lines.result c.tag_lines.ensures.lines c.tag_lines.ensures.memory in
    record { are_sound = k.sound; are_complete = k.complete; fault_is_sound = k.fault; fault_is_complete = k.named }
