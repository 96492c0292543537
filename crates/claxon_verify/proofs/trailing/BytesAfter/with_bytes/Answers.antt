use Rattle.std.proofs.Common.{◌≡◌, ℕ, List, ◌++◌, length, take, rules, sym, ap, subst, ◌∙◌, append_assoc, append-nil}
use Rattle.std.proofs.lemmas.List.{take_all, take_more}
use Rattle.claxon_verify.specs.Trailing.{AreBytes, IsOfTail}
use Rattle.claxon_verify.proofs.SameBytes.{are_bytes, first_bytes}
use Rattle.claxon_verify.proofs.Tails.{whole_kept, zeros_all}
use Rattle.claxon_verify.proofs.trailing.BytesAfter.with_bytes.Goals as goal

pub loop-byte-init : goal.loop-byte-init
loop-byte-init c = record { kept = λ t tail. subst (λ (s : List ℕ). IsOfTail s c.args.self) (sym (append-nil t)) tail; bytes = are_bytes c.as_slice-first.result.now (λ i. (c.type_inv.first i).fits) }

pub loop-byte-preserved : goal.loop-byte-preserved
loop-byte-preserved c = record {
  kept = λ t tail.
      let xs = c.as_slice-first.result.now in
      let i = c.loop-byte.byte-index in
      let kept = c.with_byte-after.ensures _ (c.loop-byte.invariant.kept t tail) in
      subst (λ (s : List ℕ). IsOfTail s c.with_byte-after.result) (append_assoc t (take i xs) _ ∙ ap (λ (s : List ℕ). t ++ s) (sym (take_more xs i 0 c.loop-byte-test.true))) kept;
  bytes = c.loop-byte.invariant.bytes;
}

pub returns : goal.returns
returns c = λ m bytes first zeros t tail.
    let xs = c.as_slice-first.result.now in
    let size : length c.args.more.bytes ≡ 16 = search rules in
    let value = c.as_slice-first.ensures in
    let kept_bytes = subst AreBytes value c.loop-byte.invariant.bytes in
    let same = first_bytes c.args.more m size first kept_bytes bytes in
    let i = c.loop-byte.byte-index in
    let all : take i xs ≡ take 16 m = take_all i xs c.loop-byte-test.false ∙ value ∙ same in
    let kept = subst (λ (s : List ℕ). IsOfTail (t ++ s) c.loop-byte.after) all (c.loop-byte.invariant.kept t tail) in
    record { few = kept.few; first = whole_kept t m _ kept.first; zeros = zeros_all t m c.loop-byte.after.are_zeros c.args.are_zeros c.both.result kept.zeros zeros c.both.ensures }
