use Rattle.std.proofs.Common.{◌+◌, arith}
use Rattle.claxon_subframe.proofs.PredictorState.{stopped, then_ok, then_err, then_either}
use Rattle.claxon_subframe.proofs.subframe.predictor.restore.restore_ten.Goals as goal

pub returns-in_err-two-clause-restores_ten : goal.returns-in_err-two-clause-restores_ten
returns-in_err-two-clause-restores_ten g c = λ ks are last stands.
    stopped c.from_residual.result c.in_err-two.field-0.0 c.from_residual.ensures.1 (c.in_err-two.ensures.restores_pair ks are last stands).err

pub returns-in_err-four-clause-restores_ten : goal.returns-in_err-four-clause-restores_ten
returns-in_err-four-clause-restores_ten g c = λ ks are last stands.
    let two = (c.in_ok-two.ensures.restores_pair ks are last stands).ok in
    stopped c.from_residual-in_err-four.result c.in_err-four.field-0.0 c.from_residual-in_err-four.ensures.1 (then_err two (c.in_err-four.ensures.restores_pair ks are last) (omega arith))

pub returns-in_err-six-clause-restores_ten : goal.returns-in_err-six-clause-restores_ten
returns-in_err-six-clause-restores_ten g c = λ ks are last stands.
    let two = (c.in_ok-two.ensures.restores_pair ks are last stands).ok in
    let four = then_ok two (c.in_ok-four.ensures.restores_pair ks are last) (omega arith) in
    stopped c.from_residual-in_err-six.result c.in_err-six.field-0.0 c.from_residual-in_err-six.ensures.1 (then_err four (c.in_err-six.ensures.restores_pair ks are last) (omega arith))

pub returns-in_err-eight-clause-restores_ten : goal.returns-in_err-eight-clause-restores_ten
returns-in_err-eight-clause-restores_ten g c = λ ks are last stands.
    let two = (c.in_ok-two.ensures.restores_pair ks are last stands).ok in
    let four = then_ok two (c.in_ok-four.ensures.restores_pair ks are last) (omega arith) in
    let six = then_ok four (c.in_ok-six.ensures.restores_pair ks are last) (omega arith) in
    stopped c.from_residual-in_err-eight.result c.in_err-eight.field-0.0 c.from_residual-in_err-eight.ensures.1 (then_err six (c.in_err-eight.ensures.restores_pair ks are last) (omega arith))

pub returns-clause-restores_ten : goal.returns-clause-restores_ten
returns-clause-restores_ten g c = λ ks are last stands.
    let two = (c.in_ok-two.ensures.restores_pair ks are last stands).ok in
    let four = then_ok two (c.in_ok-four.ensures.restores_pair ks are last) (omega arith) in
    let six = then_ok four (c.in_ok-six.ensures.restores_pair ks are last) (omega arith) in
    let eight = then_ok six (c.in_ok-eight.ensures.restores_pair ks are last) (omega arith) in
    then_either (c.args.i + 10) c.restore_pair-5.result eight (c.restore_pair-5.ensures.restores_pair ks are last) (omega arith) (omega arith)
