use Rattle.std.proofs.Common.{◌≡◌, [], ◌∷◌, length, arith, rules}
use Rattle.claxon_verify.proofs.Tails.{byte_passed, byte_pushed, zeros_more}
use Rattle.claxon_verify.proofs.trailing.BytesAfter.with_byte.Goals as goal

pub returns-then-self-ge8 : goal.returns-then-self-ge8
returns-then-self-ge8 c = λ t tail.
    let y = c.args.byte in
    let old = c.args.self in
    let size : length old.first ≡ 8 = search rules in
    record { few = tail.few; first = byte_passed t old.first old.seen y size tail.first (y ∷ []) tail.few c.if-self-ge8.true; zeros = zeros_more t y old.are_zeros _ tail.zeros c.both-are_zeros.ensures }

pub returns : goal.returns
returns c = λ t tail.
    let y = c.args.byte in
    let old = c.args.self in
    let size : length old.first ≡ 8 = search rules in
    let room = c.if-self-ge8.false in
    record { few = omega (arith, room); first = byte_pushed t old.first old.seen y size tail.first room _ (omega arith); zeros = zeros_more t y old.are_zeros _ tail.zeros c.both-are_zeros.ensures }
