use Rattle.std.proofs.Common.{refl}
use Rattle.claxon_stream.proofs.HeadParts.{block_found, marker_found, no_header, no_marker, same_block}
use Rattle.claxon_stream.proofs.head.part.part_at_start.Goals as goal

pub returns-in_err-marker_at_start-in-Marker-clause-is_read : goal.returns-in_err-marker_at_start-in-Marker-clause-is_read
returns-in_err-marker_at_start-in-Marker-clause-is_read g c =
    rw c.in-Marker.is (no_marker _ c.args.rules c.args.bytes.now c.in_err-marker_at_start-in-Marker.field-0.0 c.from_residual.result c.from_residual.ensures.1 c.in_err-marker_at_start-in-Marker.ensures)

pub returns-in_ok-marker_at_start-in-Marker-clause-is_read : goal.returns-in_ok-marker_at_start-in-Marker-clause-is_read
returns-in_ok-marker_at_start-in-Marker-clause-is_read g c = rw c.in-Marker.is (marker_found g.row.A.Denot c.args.rules c.args.bytes.now c.in_ok-marker_at_start-in-Marker.ensures)

pub returns-in_err-header_at_start-in-Header-clause-is_read : goal.returns-in_err-header_at_start-in-Header-clause-is_read
returns-in_err-header_at_start-in-Header-clause-is_read g c =
    rw c.in-Header.is (no_header _ c.args.rules c.args.bytes.now c.in_err-header_at_start-in-Header.field-0.0 c.from_residual-in_err-header_at_start-in-Header.result c.from_residual-in_err-header_at_start-in-Header.ensures.1
    c.in_err-header_at_start-in-Header.ensures)

pub returns-in_ok-check-in-Content-clause-is_read : goal.returns-in_ok-check-in-Content-clause-is_read
returns-in_ok-check-in-Content-clause-is_read g c =
    rw c.in-Content.is (block_found _ c.args.rules c.args.bytes.now c.in-Content.header c.in_ok-block-in-Content.block c.in_ok-check-in-Content.field-0 c.in_ok-block-in-Content.ensures.is_read c.in_ok-check-in-Content.ensures)

pub returns-in_ok-check-in-Content-clause-has_bounds : goal.returns-in_ok-check-in-Content-clause-has_bounds
returns-in_ok-check-in-Content-clause-has_bounds g c =
    same_block _ c.args.rules c.args.bytes.now c.in-Content.header c.in_ok-block-in-Content.block c.in_ok-check-in-Content.field-0 c.in_ok-check-in-Content.ensures c.in_ok-block-in-Content.ensures.has_bounds

pub returns-in-End-clause-is_read : goal.returns-in-End-clause-is_read
returns-in-End-clause-is_read g c = rw c.in-End.is (c.args.bytes.now, refl)
