-- The residual samples of an escaped partition.
use Rattle.std.proofs.Common.{◌≡◌, ◌≢◌, ℕ, zero, suc, replicate, refl, pos}
use Rattle.claxon_format.specs.Bits.{Bits}
use Rattle.claxon_format.specs.read.Reading.{Done, times_at, each_at}
use Rattle.claxon_format.specs.read.Residual.{escaped_sample_at}
use Rattle.claxon_format.specs.read.Bits.{signed_at}

-- with 0 bits each residual sample is 0
pub escaped_zero_bits : (n : ℕ) (s : Bits) → times_at n (escaped_sample_at 0) s ≡ Done (replicate n (pos 0)) s
unfolding times_at each_at escaped_sample_at
escaped_zero_bits zero s = refl
escaped_zero_bits (suc n) s = rw (escaped_zero_bits n s) refl

pub escaped_some_bits : (b : ℕ) → b ≢ 0 → escaped_sample_at b ≡ signed_at b
unfolding escaped_sample_at
escaped_some_bits zero h = absurd (h refl)
escaped_some_bits (suc b) h = refl
