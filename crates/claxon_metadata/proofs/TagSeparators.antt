-- The separators of the entries of a Vorbis comment, and how many tags there are.
use Rattle.std.proofs.Common.{◌≡◌, ℕ, List, [], ◌∷◌, ◌++◌, length, refl, ap, suc, arith, String, string_bytes}
use Rattle.std.proofs.lemmas.List.Elements.{All-push}
use Rattle.claxon_format.specs.Tags.{tags_of_entries}
use Rattle.claxon_metadata.specs.TagEntries.{HaveSeparatorIndices, IsSeparatorIndex, entries_view}

pub length-pairs : {A : Type 0} (cs : List (String A × ℕ)) → length (tags_of_entries (entries_view cs)) ≡ length cs
length-pairs [] = refl
length-pairs (c ∷ cs) = ap (λ n. suc n) (length-pairs cs)

pub ruleset hints = (length-pairs)

-- the separators of the remaining entries, and the first one
pub separators_rest : {A : Type 0} (all rest : List (String A × ℕ)) (first : String A × ℕ) → all ≡ first ∷ rest → HaveSeparatorIndices all → HaveSeparatorIndices rest
separators_rest all rest first e h k d below = (rw e at h) (suc k) d (omega (arith, below))

pub separator_first : {A : Type 0} (all rest : List (String A × ℕ)) (first : String A × ℕ) → all ≡ first ∷ rest → HaveSeparatorIndices all → IsSeparatorIndex (string_bytes first.0) first.1
separator_first all rest first e h = (rw e at h) 0 first (omega arith)

-- one more entry with its separator
pub separators_push : {A : Type 0} (comments all : List (String A × ℕ)) (entry : String A × ℕ) → all ≡ comments ++ entry ∷ [] → HaveSeparatorIndices comments → IsSeparatorIndex (string_bytes entry.0) entry.1 → HaveSeparatorIndices all
separators_push {A} comments all entry e h place =
    let P : String A × ℕ → Type 0 = λ p. IsSeparatorIndex (string_bytes p.0) p.1 in rw e (All-push P comments entry h place)
