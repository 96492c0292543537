use Rattle.std.proofs.Common.{Bor, List, ℕ, sym, ◌∙◌}
use Rattle.claxon.proofs.InMemory.{new_cursor_remains}
use Rattle.claxon_stream.proofs.HeadContents.{content_cut, content_passed, content_read}
use Rattle.claxon_stream.proofs.head.part.content_at_start.Goals as goal

pub returns-in_err-skip-clause-is_read : goal.returns-in_err-skip-clause-is_read
returns-in_err-skip-clause-is_read g c =
    let remains = new_cursor_remains (λ (s : Bor (List ℕ)). s.now) c.new-input.result c.args.bytes c.new-input.ensures.position c.new-input.ensures.inner in
    content_cut c.args.block_type c.args.length c.args.bytes.now c.new-input.result c.skip.new.self remains c.from_residual.result c.min.result _ (sym c.is_passed.ensures ∙ c.if-is_passed.true) c.min.ensures c.from_residual.ensures.1 c.in_err-skip.ensures.failure_or_eof

pub returns-then-is_passed-clause-is_read : goal.returns-then-is_passed-clause-is_read
returns-then-is_passed-clause-is_read g c =
    let remains = new_cursor_remains (λ (s : Bor (List ℕ)). s.now) c.new-input.result c.args.bytes c.new-input.ensures.position c.new-input.ensures.inner in
    content_passed c.args.block_type c.args.length c.args.bytes.now c.new-input.result c.skip.new.self remains c.passed_block.result c.min.result (sym c.is_passed.ensures ∙ c.if-is_passed.true) c.min.ensures c.in_ok-skip.ensures.are_skipped c.passed_block.ensures.value

pub returns-clause-is_read : goal.returns-clause-is_read
returns-clause-is_read g c =
    let remains = new_cursor_remains (λ (s : Bor (List ℕ)). s.now) c.new-input.result c.args.bytes c.new-input.ensures.position c.new-input.ensures.inner in
    content_read c.args.block_type c.args.length c.args.bytes.now c.new-input.result c.read_metadata_block.new.input remains (sym c.is_passed.ensures ∙ c.if-is_passed.false) c.read_metadata_block.result c.read_metadata_block.ensures.is_read c.read_metadata_block.ensures.out_of_memory_after_lengths
