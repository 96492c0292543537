use Rattle.std.proofs.Common.{arith, refl, ◌≡◌, ◌+◌, ◌-◌, take, drop}
use Rattle.std.proofs.lemmas.Grind.{common_steps}
use Rattle.claxon_input.proofs.BufferedBytes.{advances, copied, length-part}
use Rattle.claxon_input.proofs.input.BufferedReader.copy_buffered.Goals as goal

pub returns-clause-buffer_takes : goal.returns-clause-buffer_takes
returns-clause-buffer_takes g c =
    let e : c.args.self.now.pos + c.min-count.result - c.args.self.now.pos ≡ c.min-count.result = omega arith in
    let part : c.copy_from_slice.new.self ≡ take c.min-count.result (drop c.args.self.now.pos c.args.self.now.buf.items) = cc in
    record {
      moved = record { front = advances (g.R.Read.remaining c.args.self.now.inner.inner) c.args.self.now.buf.items c.args.self.now.pos c.min-count.result c.args.self.now.num_valid _ (copied c.min-count.result 0 _ _ _ part (length-part c.args.self.now.buf.items c.args.self.now.pos c.min-count.result (grind (arith, common_steps)))) (grind (arith, common_steps)); loans = refl; values = λ _ _. refl };
      errors = refl;
      empty_reads = refl;
    }
