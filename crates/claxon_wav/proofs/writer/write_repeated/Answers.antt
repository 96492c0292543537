use Rattle.std.proofs.Common.{◌≡◌, ◌≤◌, ◌+◌, ◌-◌, ◌∙◌, ℕ, List, ◌++◌, arith, ap, subst, replicate, sym, take, Option, min}
use Rattle.std.proofs.lemmas.List.{length-replicate, replicate-append-replicate, take-replicate, take_min}
use Rattle.std.proofs.lemmas.Result.{err_from_is_err_and}
use Rattle.std.specs.Io.KnownBytes.{Appends}
use Rattle.claxon_write.specs.Written.{AppendsPrefix}
use Rattle.claxon_write.proofs.Appended.{appends_more}
use Rattle.claxon_write.proofs.Counts.{none_failed_both}
use Rattle.claxon_wav.proofs.writer.write_repeated.Goals as goal

-- one piece more
one_more : (a b c : Option (List ℕ)) (size left n byte : ℕ) → left ≤ size → n ≤ left → n ≤ 4096 → Appends a b (replicate (size - left) byte) → Appends b c (take n (replicate 4096 byte)) → Appends a c (replicate (size - (left - n)) byte)
one_more a b c size left n byte most within few h k =
    let piece = take-replicate n 4096 byte few in
    let count : size - left + n ≡ size - (left - n) = omega (arith, most, within) in
    let all = appends_more a b c (replicate (size - left) byte) (take n (replicate 4096 byte)) h k in
    subst (λ (l : List ℕ). Appends a c l) (ap (λ (l : List ℕ). replicate (size - left) byte ++ l) piece ∙ replicate-append-replicate (size - left) n byte ∙ ap (λ (m : ℕ). replicate m byte) count) all

-- a part of one piece more
part_more : (a b c : Option (List ℕ)) (size left n byte : ℕ) → left ≤ size → n ≤ left → n ≤ 4096 → Appends a b (replicate (size - left) byte) → AppendsPrefix b c (take n (replicate 4096 byte)) → AppendsPrefix a c (replicate size byte)
part_more a b c size left n byte most within few h (k, p) =
    let piece = take-replicate n 4096 byte few in
    let part : take k (take n (replicate 4096 byte)) ≡ replicate (min k n) byte = ap (take k) piece ∙ take_replicated k n byte in
    let all = appends_more a b c (replicate (size - left) byte) (take k (take n (replicate 4096 byte))) h p in
    let joined : replicate (size - left) byte ++ take k (take n (replicate 4096 byte)) ≡ replicate (size - left + min k n) byte = ap (λ (l : List ℕ). replicate (size - left) byte ++ l) part ∙ replicate-append-replicate (size - left) (min k n) byte in
    let within_all : size - left + min k n ≤ size = omega (arith, most, within) in
    (size - left + min k n, subst (λ (l : List ℕ). Appends a c l) (joined ∙ sym (take-replicate (size - left + min k n) size byte within_all)) all)
  where
    take_replicated : (k n byte : ℕ) → take k (replicate n byte) ≡ replicate (min k n) byte
    take_replicated k n byte = sym (take_min k (replicate n byte)) ∙ ap (λ (m : ℕ). take (min k m) (replicate n byte)) (length-replicate n byte) ∙ take-replicate (min k n) n byte (omega arith)

pub loop-left-preserved : goal.loop-left-preserved
loop-left-preserved g c =
    let inv = c.loop-left.invariant in
    let n = c.min-count.result in
    let within : n ≤ c.loop-left.left = omega (arith, c.min-count.ensures) in
    let few : n ≤ 4096 = omega (arith, c.min-count.ensures) in
    record {
      most = omega (arith, inv.most);
      written = one_more _ _ _ c.args.size c.loop-left.left n c.args.byte inv.most within few inv.written c.in_ok-write_whole.ensures.writes_all;
      reference = c.in_ok-write_whole.ensures.same_inner ∙ inv.reference;
      none_failed = none_failed_both inv.none_failed c.in_ok-write_whole.ensures.succeeded;
      unflushed = c.in_ok-write_whole.ensures.counts_no_flush ∙ inv.unflushed;
    }

pub returns-in_err-write_whole-clause-writes_prefix : goal.returns-in_err-write_whole-clause-writes_prefix
returns-in_err-write_whole-clause-writes_prefix g c =
    let inv = c.loop-left.invariant in
    let n = c.min-count.result in
    let within : n ≤ c.loop-left.left = omega (arith, c.min-count.ensures) in
    let few : n ≤ 4096 = omega (arith, c.min-count.ensures) in
    let p = err_from_is_err_and c.from_residual.result c.from_residual.ensures.1 in
    rw p.1 (part_more _ _ _ c.args.size c.loop-left.left n c.args.byte inv.most within few inv.written c.in_err-write_whole.ensures.writes_prefix)
