use Rattle.std.proofs.Common.{◌≡◌, ◌%◌, ◌<◌, ℕ, suc, List, [], ◌∷◌, get_or, map, refl, ap₂, arith}
use Rattle.claxon_metadata.specs.MetadataBlock.{or_zero}
use Rattle.claxon_metadata.proofs.metadata.streaminfo.stream_info.Goals.{then-format-eq0, else-format-eq0}
use Rattle.claxon_metadata.proofs.metadata.streaminfo.stream_info.Goals as goal

low_bytes : (ys : List ℕ) → ((i : ℕ) → get_or ys i 0 < 256) → map (λ y. y % 256) ys ≡ ys
low_bytes [] h = refl
low_bytes (y ∷ ys) h =
    let first : y < 256 = h 0 in
    ap₂ (λ (a : ℕ) (others : List ℕ). a ∷ others) (omega arith) (low_bytes ys (λ i. h (suc i)))

pub returns-clause-value : goal.returns-clause-value
returns-clause-value c =
    let samples : or_zero c.if-format-eq0.result ≡ c.args.format.samples = elim c.if-format-eq0.branch [
      | then-format-eq0 w ↦ rw (w.result-is, w.if-format-eq0.true) refl
      | else-format-eq0 w ↦ rw w.result-is refl
    ] in
    rw (low_bytes c.args.md5sum.now c.fits-md5sum, samples, c.if_known.ensures.value, c.if_known-2.ensures.value) refl
