use Rattle.std.proofs.Common.{refl, rules}
use Rattle.std.specs.Prelude.{Result, Option, Ok, None, Some}
use Rattle.std.proofs.lemmas.Result.{err_from_is_err_and}
use Rattle.claxon_format.specs.Fault.{HeaderCrc}
use Rattle.claxon_format.specs.read.Bytes.{crc_at, big_at}
use Rattle.claxon_format.specs.read.Reading.{and_then, done}
use Rattle.claxon_input.specs.CrcUpdate.{update_crc8}
use Rattle.claxon_input.specs.State.{bytes_in}
use Rattle.claxon_input.specs.declared.error.Error.{Error}
use Rattle.claxon_input.proofs.ConsecutiveCalls.{stops_after, consumes_map, consumes_none}
use Rattle.claxon_format.specs.read.Header.{fields_at, fields_with_crc_at}
use Rattle.claxon_frame.specs.FrameStart.{fields_view}
use Rattle.claxon_frame.specs.declared.frame.header.parts.HeaderFields.{HeaderFields}
use Rattle.claxon_input.proofs.FieldOrEof.{exit_or_eof, first_stops, some_ok, some_stops}
use Rattle.claxon_frame.proofs.HeaderCrc.{header_crc_next}
use Rattle.claxon_frame.proofs.CrcOverBorrow.{gives_or_eof_through}
use Rattle.claxon_frame.proofs.frame.header.read_fields_with_crc.Goals as goal

pub returns-in_err-fields : goal.returns-in_err-fields
unfolding fields_with_crc_at
returns-in_err-fields g c = record {
  gives =
      let h = exit_or_eof 2 fields_view fields_with_crc_at (err_from_is_err_and c.from_residual.result c.from_residual.ensures.1)
      (first_stops 2 (fields_at big_at) fields_with_crc_at (record { fault = λ s f rest e. rw e refl; incomplete = λ s e. rw e refl }) c.in_err-fields.ensures.gives) in
      let k = gives_or_eof_through update_crc8 g.R.ReadBytes.source c.args.input.now _ c.new-input.result c.read_fields_or_eof.new.input 2 fields_view c.from_residual.result fields_with_crc_at c.new-input.ensures.source h in
      search (rules, k.0, k.1);
}

pub returns-in_default : goal.returns-in_default
returns-in_default g c = record {
  gives =
      let none : Result (Option HeaderFields) Error = Ok None in
      let k = gives_or_eof_through update_crc8 g.R.ReadBytes.source c.args.input.now _ c.new-input.result c.read_fields_or_eof.new.input 2 fields_view none fields_with_crc_at c.new-input.ensures.source (rw c.in_default.is at c.in_ok-fields.ensures.gives) in
      search (rules, k.0, k.1);
}

pub returns-in_err-check_header_crc : goal.returns-in_err-check_header_crc
unfolding bytes_in
returns-in_err-check_header_crc g c = record {
  gives =
      let h = exit_or_eof 2 fields_view fields_with_crc_at (err_from_is_err_and c.from_residual-in_err-check_header_crc.result c.from_residual-in_err-check_header_crc.ensures.1)
      (some_stops 2 fields_with_crc_at (and_then (crc_at 1 c.value-computed.result HeaderCrc) (λ u. done (fields_view c.in-Some.fields)))
      (header_crc_next _ _ _ _ c.value-computed.result (fields_view c.in-Some.fields) c.new-input.ensures.state c.value-computed.ensures c.value-computed.type_inv (rw c.in-Some.is at c.in_ok-fields.ensures.gives))
      (stops_after {next = and_then (crc_at 1 c.value-computed.result HeaderCrc) (λ u. done (fields_view c.in-Some.fields))} (consumes_none _ _ refl) (record { fault = λ s f rest e. rw e refl; incomplete = λ s e. rw e refl }) c.in_err-check_header_crc.ensures.gives)) in
      let k = gives_or_eof_through update_crc8 g.R.ReadBytes.source c.args.input.now _ c.new-input.result c.check_header_crc.new.input 2 fields_view c.from_residual-in_err-check_header_crc.result fields_with_crc_at c.new-input.ensures.source h in
      search (rules, k.0, k.1);
}

pub returns : goal.returns
unfolding bytes_in
returns g c = record {
  gives =
      let found : Result (Option HeaderFields) Error = Ok (Some c.in-Some.fields) in
      let k = gives_or_eof_through update_crc8 g.R.ReadBytes.source c.args.input.now _ c.new-input.result c.check_header_crc.new.input 2 fields_view found fields_with_crc_at c.new-input.ensures.source
      (some_ok 2 fields_with_crc_at (and_then (crc_at 1 c.value-computed.result HeaderCrc) (λ u. done (fields_view c.in-Some.fields)))
      (header_crc_next _ _ _ _ c.value-computed.result (fields_view c.in-Some.fields) c.new-input.ensures.state c.value-computed.ensures c.value-computed.type_inv (rw c.in-Some.is at c.in_ok-fields.ensures.gives))
      (consumes_map _ c.in_ok-check_header_crc.ensures.gives (λ p. rw p refl))) in
      search (rules, k.0, k.1);
}
