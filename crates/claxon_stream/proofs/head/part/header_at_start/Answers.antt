use Rattle.std.proofs.Common.{Bor, List, ℕ, refl, sym, ◌∙◌}
use Rattle.claxon.specs.Fault.{TooManyBlocks, fault_text}
use Rattle.claxon.specs.read.Metadata.{block_header_at}
use Rattle.claxon.proofs.InMemory.{new_cursor_remains}
use Rattle.claxon_stream.specs.HeadPart.{header_view}
use Rattle.claxon_stream.proofs.HeadReading.{reads_as_given}
use Rattle.claxon_stream.proofs.head.part.header_at_start.Goals as goal

pub returns-then-not-allow_more : goal.returns-then-not-allow_more
unfolding fault_text
returns-then-not-allow_more c = (TooManyBlocks, c.args.bytes.now, (refl, refl), rw (sym c.allow_more.ensures ∙ c.if-not-allow_more.true) refl)

pub returns : goal.returns
returns c =
    let remains = new_cursor_remains (λ (s : Bor (List ℕ)). s.now) c.new.result c.args.bytes c.new.ensures.position c.new.ensures.inner in
    rw (sym c.allow_more.ensures ∙ c.if-not-allow_more.false) (reads_as_given header_view block_header_at c.args.bytes.now c.new.result c.read_header.new.input remains c.read_header.result c.read_header.ensures.gives)
