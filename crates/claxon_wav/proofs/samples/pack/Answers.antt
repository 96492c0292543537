use Rattle.std.proofs.Common.{◌≡◌, ◌<◌, ◌≤◌, ◌*◌, ℤ, List, length, drop, refl, sym, ◌∙◌, subst, arith, vec_capacity, vec_len}
use Rattle.std.specs.Prelude.{All}
use Rattle.std.proofs.lemmas.Bool.{false≢true}
use Rattle.std.proofs.lemmas.Grind.{common_steps}
use Rattle.std.proofs.lemmas.List.{take_at}
use Rattle.std.proofs.lemmas.Result.{err_from_is_err_and}
use Rattle.claxon.specs.Bits.{FitsIn}
use Rattle.claxon.specs.Streams.{interleave}
use Rattle.claxon.proofs.Interleaving.{all_interleaved}
use Rattle.claxon.proofs.Streams.{length-interleave}
use Rattle.claxon_wav.specs.WaveFile.{sample_size}
use Rattle.claxon_wav.proofs.samples.pack.Goals.{in-1, in-2, in-3, in_default}
use Rattle.claxon_wav.proofs.samples.pack.Goals as goal

pub returns-in_err-resize-clause-wide : goal.returns-in_err-resize-clause-wide
returns-in_err-resize-clause-wide g c = let p = err_from_is_err_and c.from_residual.result c.from_residual.ensures.1 in rw (p.1, p.2) refl

pub returns-then-not-all_fit-clause-wide : goal.returns-then-not-all_fit-clause-wide
returns-then-not-all_fit-clause-wide g c =
    let buffer = c.interleave.new.buffer in
    let len : length buffer ≡ c.resize.new.self.len = omega (arith, c.interleave.auto.buffer, c.as_mut_slice.ensures.len) in
    let same : interleave c.args.block.now.channels ≡ c.as_slice.result.now = sym (c.interleave.ensures ∙ all_interleaved c.args.block.now.channels c.duration.result c.duration.ensures.value) ∙ sym (take_at buffer (drop (length buffer) c.resize.new.self.items) c.resize.new.self.len len) ∙ sym c.as_slice.ensures.value in
    λ h. false≢true (sym c.if-not-all_fit.true ∙ c.all_fit.ensures.1 (subst (λ (z : List ℤ). All (FitsIn c.args.valid_bits) z) same h))

pub returns-in_err-resize-2-clause-wide : goal.returns-in_err-resize-2-clause-wide
returns-in_err-resize-2-clause-wide g c = let p = err_from_is_err_and c.from_residual-in_err-resize-2.result c.from_residual-in_err-resize-2.ensures.1 in rw (p.1, p.2) refl

pub returns-clause-ok : goal.returns-clause-ok
returns-clause-ok g c =
    let whole : c.interleave.new.buffer ≡ interleave c.args.block.now.channels = c.interleave.ensures ∙ all_interleaved c.args.block.now.channels c.duration.result c.duration.ensures.value in
    grind (arith, common_steps, whole)

pub returns-clause-fits : goal.returns-clause-fits
returns-clause-fits g c =
    let buffer = c.interleave.new.buffer in
    let len : length buffer ≡ c.resize.new.self.len = omega (arith, c.interleave.auto.buffer, c.as_mut_slice.ensures.len) in
    let same : c.as_slice.result.now ≡ interleave c.args.block.now.channels = c.as_slice.ensures.value ∙ take_at buffer (drop (length buffer) c.resize.new.self.items) c.resize.new.self.len len ∙ c.interleave.ensures ∙ all_interleaved c.args.block.now.channels c.duration.result c.duration.ensures.value in
    subst (λ (z : List ℤ). All (FitsIn c.args.valid_bits) z) same (c.all_fit.ensures.0 c.if-not-all_fit.false)

pub returns-in_err-resize-clause-has_memory : goal.returns-in_err-resize-clause-has_memory
returns-in_err-resize-clause-has_memory g c = λ memory room. let n = length-interleave c.args.block.now.channels in omega (arith, c.in_err-resize.ensures.full, c.len.ensures, n, room.0)

pub returns-in_err-resize-2-clause-has_memory : goal.returns-in_err-resize-2-clause-has_memory
returns-in_err-resize-2-clause-has_memory g c = λ memory room.
    let all = length-interleave c.args.block.now.channels in
    let n : c.len-2.result ≡ length (interleave c.args.block.now.channels) = omega (arith, c.len-2.ensures, c.in_ok-resize.ensures.len, c.len.ensures, all) in
    let full : vec_capacity c.args.bytes.now < c.len-2.result * c.div_ceil.result = c.in_err-resize-2.ensures.full in
    let less = rw (n, c.div_ceil.ensures) at full in
    omega (arith, less, room.1)

pub returns-clause-takes_room : goal.returns-clause-takes_room
returns-clause-takes_room g c =
    let all = length-interleave c.args.block.now.channels in
    let n : c.len-2.result ≡ length (interleave c.args.block.now.channels) = omega (arith, c.len-2.ensures, c.in_ok-resize.ensures.len, c.len.ensures, all) in
    let size = sample_size c.args.valid_bits in
    let len : vec_len c.resize-2.new.self ≡ c.len-2.result * c.div_ceil.result = c.in_ok-resize-2.ensures.len in
    let bytes = rw (n, c.div_ceil.ensures) at len in
    let most = c.resize-2.new.self.ok.1 in
    let room : length (interleave c.args.block.now.channels) * size ≤ vec_capacity c.resize-2.new.self = omega (arith, bytes, most) in (
      omega (arith, c.resize.new.self.ok.1, c.in_ok-resize.ensures.len, c.len.ensures, all),
      elim c.match-div_ceil.branch [
        | in-1 w ↦ rw w.bytes-is room
        | in-2 w ↦ rw w.bytes-is room
        | in-3 w ↦ rw w.bytes-is room
        | in_default w ↦ rw w.bytes-is room
      ],
    )
