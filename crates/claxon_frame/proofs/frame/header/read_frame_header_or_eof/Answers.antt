use Rattle.std.proofs.Common.{◌≡◌, ℕ, List, Option, refl, ap}
use Rattle.std.proofs.lemmas.Result.{err_from_is_err_and}
use Rattle.claxon_format.specs.Frame.{StreamFormat, known_bit_depth}
use Rattle.claxon_format.specs.Header.{Fields}
use Rattle.claxon_format.specs.read.Reading.{Done, Reading, and_then, bind, done}
use Rattle.claxon_input.specs.State.{bytes_in}
use Rattle.claxon_input.proofs.ConsecutiveCalls.{StopsWith, stops_after, consumes_map, consumes_none}
use Rattle.claxon_format.specs.read.Frame.{Start, start_of, start_at}
use Rattle.claxon_frame.specs.FrameStart.{fields_view, stream_format_view}
use Rattle.claxon_format.specs.read.Header.{fields_with_crc_at, bit_depth_at}
use Rattle.claxon_frame.proofs.BitDepthCodes.{given_by_code}
use Rattle.claxon_frame.proofs.CrcOverBorrow.{gives_or_eof_loans}
use Rattle.claxon_input.proofs.Memory.{stops_not_out_of_memory}
use Rattle.claxon_input.proofs.FieldOrEof.{after_first, exit_or_eof, first_stops, some_ok, some_stops}
use Rattle.claxon_frame.proofs.frame.header.read_frame_header_or_eof.Goals as goal

-- what is still to be read, or checked, after the fields and the CRC
start_after : Option StreamFormat → Fields → List ℕ → Reading ℕ Start
start_after stream f = and_then (bit_depth_at (known_bit_depth stream) f) (λ w. done (start_of stream (record { fields = f; bit_depth = w })))

after_crc : (stream : Option StreamFormat) (f : Fields) (s m : List ℕ) → fields_with_crc_at s ≡ Done f m → start_at stream s ≡ start_after stream f m
unfolding start_at start_after
after_crc stream f s m e = ap (λ x. bind x (start_after stream)) e

stops_with : (stream : Option StreamFormat) → StopsWith fields_with_crc_at (start_at stream)
unfolding start_at start_after
stops_with stream = record {
  fault = λ s f rest e. ap (λ x. bind x (start_after stream)) e;
  incomplete = λ s e. ap (λ x. bind x (start_after stream)) e;
}

pub returns-in_err-fields-clause-is_read : goal.returns-in_err-fields-clause-is_read
returns-in_err-fields-clause-is_read g c =
    exit_or_eof 2 _ (start_at (stream_format_view c.args.stream)) (err_from_is_err_and c.from_residual.result c.from_residual.ensures.1)
    (first_stops 2 fields_with_crc_at (start_at (stream_format_view c.args.stream)) (stops_with (stream_format_view c.args.stream)) c.in_err-fields.ensures.gives)

pub returns-in_err-bit_depth-clause-is_read : goal.returns-in_err-bit_depth-clause-is_read
unfolding start_after
returns-in_err-bit_depth-clause-is_read g c =
    let stream = stream_format_view c.args.stream in
    let f = fields_view c.in-Some.fields in
    exit_or_eof 2 _ (start_at stream) (err_from_is_err_and c.from_residual-in_err-bit_depth.result c.from_residual-in_err-bit_depth.ensures.1)
    (some_stops 2 (start_at stream) (start_after stream f) (after_first 2 fields_with_crc_at (start_at stream) (start_after stream f) (after_crc stream f) (rw c.in-Some.is at c.in_ok-fields.ensures.gives))
    (stops_after {next = start_after stream f} (consumes_none _ _ refl) (record { fault = λ s x rest e. rw e refl; incomplete = λ s e. rw e refl }) (c.in_err-bit_depth.ensures.gives _)))

pub returns-clause-is_read : goal.returns-clause-is_read
unfolding start_after
returns-clause-is_read g c =
    let stream = stream_format_view c.args.stream in
    let f = fields_view c.in-Some.fields in
    some_ok 2 (start_at stream) (start_after stream f) (after_first 2 fields_with_crc_at (start_at stream) (start_after stream f) (after_crc stream f) (rw c.in-Some.is at c.in_ok-fields.ensures.gives))
    (consumes_map _ (c.in_ok-bit_depth.ensures.gives _) (λ p. rw (p, c.time_of_block.ensures, given_by_code c.in-Some.fields.bit_depth c.in-Some.fields.has_code) refl))

pub returns-in_err-bit_depth-clause-no_memory : goal.returns-in_err-bit_depth-clause-no_memory
returns-in_err-bit_depth-clause-no_memory g c =
    let p = err_from_is_err_and c.from_residual-in_err-bit_depth.result c.from_residual-in_err-bit_depth.ensures.1 in
    rw (p.1, p.2) (stops_not_out_of_memory _ _ _ _ (c.in_err-bit_depth.ensures.gives (bytes_in g.R.ReadBytes.source c.args.input.now)))

-- nothing is read after the CRC

pub returns-in_err-fields-clause-keeps_loans : goal.returns-in_err-fields-clause-keeps_loans
unfolding bytes_in
returns-in_err-fields-clause-keeps_loans g c = gives_or_eof_loans 2 fields_view c.read_fields_with_crc.result fields_with_crc_at _ _ c.read_fields_with_crc.ensures.gives

pub returns-in_default-clause-keeps_loans : goal.returns-in_default-clause-keeps_loans
unfolding bytes_in
returns-in_default-clause-keeps_loans g c = gives_or_eof_loans 2 fields_view c.read_fields_with_crc.result fields_with_crc_at _ _ c.read_fields_with_crc.ensures.gives

pub returns-in_err-bit_depth-clause-keeps_loans : goal.returns-in_err-bit_depth-clause-keeps_loans
unfolding bytes_in
returns-in_err-bit_depth-clause-keeps_loans g c = gives_or_eof_loans 2 fields_view c.read_fields_with_crc.result fields_with_crc_at _ _ c.read_fields_with_crc.ensures.gives

pub returns-clause-keeps_loans : goal.returns-clause-keeps_loans
unfolding bytes_in
returns-clause-keeps_loans g c = gives_or_eof_loans 2 fields_view c.read_fields_with_crc.result fields_with_crc_at _ _ c.read_fields_with_crc.ensures.gives
