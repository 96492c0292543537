use Rattle.std.proofs.Common.{List, ℕ, [], ◌∷◌, ◌++◌, subst, ap, ◌∙◌, append_assoc}
use Rattle.std.proofs.lemmas.List.Elements.{All-cons, All-nil}
use Rattle.claxon_verify.specs.Trailing.{IsOfTail}
use Rattle.claxon_verify.proofs.SameBytes.{Byte, bytes_same}
use Rattle.claxon_verify.proofs.trailing.BytesAfter.with_both.Goals as goal

pub returns : goal.returns
returns c = λ m bytes same t tail.
    let a = c.args.a in
    let b = c.args.b in
    let is = bytes_same (a ∷ b ∷ []) m (All-cons Byte a (b ∷ []) c.ranges.a.fits (All-cons Byte b [] c.ranges.b.fits (All-nil Byte))) bytes same in
    subst (λ (s : List ℕ). IsOfTail s c.with_byte-2.result) (append_assoc t (a ∷ []) (b ∷ []) ∙ ap (λ (s : List ℕ). t ++ s) is) (c.with_byte-2.ensures _ (c.with_byte.ensures t tail))
