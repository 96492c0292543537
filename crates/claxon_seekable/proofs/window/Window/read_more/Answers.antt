use Rattle.std.proofs.Common.{List, ℕ, ◌+◌, subst, arith}
use Rattle.claxon_seekable.specs.Window.{ReadsOn}
use Rattle.claxon_seekable.proofs.BytesRead.{read_after_front}
use Rattle.claxon_seekable.proofs.window.Window.read_more.Goals as goal

pub returns-in-Ok-clause-reads_on : goal.returns-in-Ok-clause-reads_on
returns-in-Ok-clause-reads_on g c =
    let bytes = c.make_room.new.self.bytes in
    let none = c.in_ok-make_room.ensures.has_room.0 in
    let same = rw none at c.make_room.ensures.keeps_held.0 in
    let resized = rw c.in_ok-resize.was at c.resize.ensures.items in
    let long = rw c.in_ok-resize.was at c.resize.ensures.len in
    rw none (subst (λ (xs : List ℕ). ReadsOn xs c.truncate.new.self.items) same
    (read_after_front bytes.items _ (c.len-len.result + 32768) (omega arith) c.resize.new.self.items c.as_mut_slice.result.now c.read_after-read.new.buffer _ c.truncate.new.self.items c.len-len.result _ _ resized c.as_mut_slice.ensures.value (omega arith) c.in-Ok.ensures.front (omega arith) (omega arith) (omega arith) c.truncate.ensures.items))

pub returns-in-Err-clause-reads_on : goal.returns-in-Err-clause-reads_on
returns-in-Err-clause-reads_on g c =
    let bytes = c.make_room.new.self.bytes in
    let none = c.in_ok-make_room.ensures.has_room.0 in
    let same = rw none at c.make_room.ensures.keeps_held.0 in
    let resized = rw c.in_ok-resize.was at c.resize.ensures.items in
    let long = rw c.in_ok-resize.was at c.resize.ensures.len in
    rw none (subst (λ (xs : List ℕ). ReadsOn xs c.truncate-in-Err.new.self.items) same
    (read_after_front bytes.items _ (c.len-len.result + 32768) (omega arith) c.resize.new.self.items c.as_mut_slice.result.now c.read_after-read.new.buffer _ c.truncate-in-Err.new.self.items c.len-len.result _ _ resized c.as_mut_slice.ensures.value (omega arith) c.in-Err.ensures.front (omega arith) (omega arith) (omega arith) c.truncate-in-Err.ensures.items))
