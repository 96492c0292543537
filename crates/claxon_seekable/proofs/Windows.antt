-- How much is left to be read into a window.
use Rattle.std.proofs.Common.{◌≡◌, ◌⊎◌, inl, inr, ℕ, ◌+◌, ◌-◌, ◌<◌, ◌≤◌, Bool, true, false, length, sym, arith}
use Rattle.std.specs.Prelude.{if◌then◌else◌}
use Rattle.std.proofs.lemmas.Bool.{false≢true}
use Rattle.claxon_seekable.specs.Window.{ReadsMore, has_end, held}
use Rattle.claxon_seekable.specs.declared.window.Window.{Window}

-- how many bytes are wanted, unless the source ended
pub left_to_fill : {R : Type 0} → ℕ → Window R → ℕ
left_to_fill wanted w = if has_end w then 0 else wanted - length (held w)

module _ {R : Type 0} (wanted : ℕ) (w v : Window R) where
  less_by : (a b : Bool) → a ≡ false → length (held w) < wanted → (length (held w) + 1 ≤ length (held v)) ⊎ (b ≡ true)
      → (if b then 0 else wanted - length (held v)) < (if a then 0 else wanted - length (held w))
  less_by true b none lt more = absurd (false≢true (sym none))
  less_by false true none lt more = omega (arith, lt)
  less_by false false none lt (inl le) = omega (arith, lt, le)
  less_by false false none lt (inr end) = absurd (false≢true end)

  pub is_fuller : has_end w ≡ false → length (held w) < wanted → ReadsMore (length (held w) + 1) v → left_to_fill wanted v < left_to_fill wanted w
  unfolding left_to_fill
  is_fuller none lt more = less_by (has_end w) (has_end v) none lt more
