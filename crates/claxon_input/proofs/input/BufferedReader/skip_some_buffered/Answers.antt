use Rattle.std.proofs.Common.{arith, refl, take, drop}
use Rattle.std.proofs.lemmas.Grind.{common_steps}
use Rattle.claxon_input.proofs.BufferedBytes.{advances, length-part}
use Rattle.claxon_input.proofs.input.BufferedReader.skip_some_buffered.Goals as goal

pub returns-clause-buffer_skips : goal.returns-clause-buffer_skips
returns-clause-buffer_skips g c = (
  take c.min-count.result (drop c.args.self.now.pos c.args.self.now.buf.items),
  length-part c.args.self.now.buf.items c.args.self.now.pos c.min-count.result (grind (arith, common_steps)),
  record {
    moved = record { front = advances (g.R.Read.remaining c.args.self.now.inner.inner) c.args.self.now.buf.items c.args.self.now.pos c.min-count.result c.args.self.now.num_valid _ refl (grind (arith, common_steps)); loans = refl; values = λ _ _. refl };
    errors = refl;
    empty_reads = refl;
  },
)
