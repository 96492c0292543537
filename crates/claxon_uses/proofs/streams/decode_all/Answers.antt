use Rattle.std.proofs.Common.{Bor, List, Vec, refl, ℕ, ℤ}
use Rattle.std.proofs.lemmas.Result.{err_from_is_err_and}
use Rattle.claxon.proofs.InMemory.{new_cursor_remains}
use Rattle.claxon.specs.FrameReader.{stream_with}
use Rattle.claxon.specs.ReadHead.{head_view}
use Rattle.claxon_uses.proofs.StreamsInMemory.{head_failed, slice_stream_promises}
use Rattle.claxon_uses.proofs.streams.decode_all.Goals as goal

pub returns-in_err-info : goal.returns-in_err-info
returns-in_err-info g c =
    let e = c.in_err-info.ensures in
    let remains = new_cursor_remains (λ (s : Bor (List ℕ)). s.now) c.new-input.result c.args.bytes c.new-input.ensures.position c.new-input.ensures.inner in
    let k = head_failed {X = Vec ℤ g.row.A.Denot} (λ (all : Vec ℤ g.row.A.Denot). all.items) (head_view {A = g.row.A.Denot}) c.args.bytes.now c.new-input.result c.read_head.new.input remains c.in_err-info.field-0.0 e.is_complete e.fault_is_sound e.fault_is_complete e.out_of_memory_after_header in
    let p = err_from_is_err_and c.from_residual.result c.from_residual.ensures.1 in
    rw (p.1, p.2) (record { is_sound = k.sound; is_complete = k.complete; fault_is_sound = k.fault; fault_is_complete = k.named; out_of_memory_after_header = k.memory })

pub returns : goal.returns
returns g c =
    let e = c.in_ok-info.ensures in
    let remains = new_cursor_remains (λ (s : Bor (List ℕ)). s.now) c.new-input.result c.args.bytes c.new-input.ensures.position c.new-input.ensures.inner in
    let k = slice_stream_promises {X = Vec ℤ g.row.A.Denot} (λ (all : Vec ℤ g.row.A.Denot). all.items) (head_view {A = g.row.A.Denot}) c.args.bytes.now c.new-input.result c.read_head.new.input remains (c.in_ok-info.info, c.in_ok-info._comment) (stream_with c.in_ok-info.info) refl (e.has_bounds.some_bits, e.has_bounds.bits) e.is_sound e.is_complete e.fault_is_complete c.collect_samples.result c.collect_samples.ensures.ok c.collect_samples.ensures.err in
    record { is_sound = k.sound; is_complete = k.complete; fault_is_sound = k.fault; fault_is_complete = k.named; out_of_memory_after_header = k.memory }
