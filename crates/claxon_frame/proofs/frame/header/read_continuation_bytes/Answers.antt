use Rattle.std.proofs.Common.{arith}
use Rattle.std.proofs.lemmas.Result.{err_from_is_err_and}
use Rattle.claxon_frame.proofs.ContinuationBytes.{continuation_begin, continuation_next, continuation_end, continuation_err, six_more}
use Rattle.claxon_frame.proofs.frame.header.read_continuation_bytes.Goals as goal

pub returns-in_err-read_continuation_byte : goal.returns-in_err-read_continuation_byte
returns-in_err-read_continuation_byte g c = record {
  gives =
      let p = err_from_is_err_and c.from_residual.result c.from_residual.ensures.1 in
      rw (p.1, p.2) (continuation_err (omega arith) c.loop.invariant c.in_err-read_continuation_byte.ensures.gives);
}

pub loop-init : goal.loop-init
loop-init g c = continuation_begin _ _ _ c.requires.number

pub loop-preserved : goal.loop-preserved
loop-preserved g c =
    let e = six_more c.args.count c.loop.counter c.loop.number c.in_ok-read_continuation_byte.field-0 c.requires.count (omega arith) c.loop.invariant.fits (c.in_ok-read_continuation_byte.ensures.fits) in
    rw (c.from.ensures, e) (continuation_next c.in_ok-read_continuation_byte.field-0 (omega arith) c.in_ok-read_continuation_byte.ensures.fits c.loop.invariant c.in_ok-read_continuation_byte.ensures.gives)

pub returns : goal.returns
returns g c = record { gives = continuation_end (omega arith) c.loop.invariant }
