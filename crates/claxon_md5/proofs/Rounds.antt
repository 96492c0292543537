-- The rounds over sums are the rounds.
use Rattle.std.proofs.Common.{◌≡◌, ℕ, List, [], ◌∷◌, Bool, true, ◌&&◌, ◌==◌, nat_lt, slice_index}
use Rattle.std.proofs.Common.{fold, refl, ap, ◌∙◌}
use Rattle.std.specs.List.{list_all}
use Rattle.std.proofs.lemmas.Bool.{and_parts, ltb-true, eqb-true}
use Rattle.claxon_md5.specs.Md5.{add, sine, step, operation}
use Rattle.claxon_md5.specs.Sums.{AreSums, operation_over}

-- whether the operation reads one of sixteen words, and its constant is that of this word
abbrev pub is_in : List ℕ → ℕ × ℕ × ℕ → Bool
is_in sines ksi = nat_lt ksi.0 16 && (slice_index sines ksi.0 == sine ksi.2)

pub over_sums : (auxiliary : ℕ → ℕ → ℕ → ℕ) (words sines sums : List ℕ) → AreSums words sines sums
    → (operations : List (ℕ × ℕ × ℕ)) (abcd : List ℕ) → list_all (is_in sines) operations ≡ true
    → fold (operation_over auxiliary sums) abcd operations
    ≡ fold (operation auxiliary words) abcd operations
over_sums auxiliary words sines sums are [] abcd h = refl
over_sums auxiliary words sines sums are (ksi ∷ more) abcd h =
    let k = ksi.0 in
    let both = and_parts (is_in sines ksi) (list_all (is_in sines) more) h in
    let this = and_parts (nat_lt k 16) (slice_index sines k == sine ksi.2) both.0 in
    let same : slice_index sines k ≡ sine ksi.2 =
    eqb-true (slice_index sines k) (sine ksi.2) this.1 in
    let sum : slice_index sums k ≡ add (slice_index words k) (sine ksi.2) =
    are k (ltb-true k 16 this.0) ∙ ap (add (slice_index words k)) same in
    over_sums auxiliary words sines sums are more (operation_over auxiliary sums abcd ksi) both.1
    ∙ ap (λ n. fold (operation auxiliary words) (step auxiliary abcd n ksi.1) more) sum
