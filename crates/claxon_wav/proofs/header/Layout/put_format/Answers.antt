use Rattle.std.proofs.Common.{◌++◌, List, ℕ, sym, ap, ◌∙◌, append_assoc}
use Rattle.claxon_wav.specs.WaveFile.{extension, base_format}
use Rattle.claxon_wav.proofs.RiffChunks.{extensible_format, pcm_format}
use Rattle.claxon_wav.proofs.header.Layout.put_format.Goals as goal

pub returns-then-not-is_extensible-clause-is_sound : goal.returns-then-not-is_extensible-clause-is_sound
returns-then-not-is_extensible-clause-is_sound c = c.in_ok-put_base_format.ensures.is_sound ∙ ap (λ (z : List ℕ). c.args.bytes.now.items ++ z) (sym (pcm_format c.args.self.now (sym c.is_extensible.ensures ∙ c.if-not-is_extensible.true)))

pub returns-clause-is_sound : goal.returns-clause-is_sound
returns-clause-is_sound c =
    let l = c.args.self.now in
    let e = c.in_ok-put_base_format-2.ensures.is_sound in
    c.in_ok-put_extension.ensures.is_sound ∙ ap (λ (z : List ℕ). z ++ extension l) e ∙ append_assoc c.args.bytes.now.items (base_format 65534 l) (extension l)
    ∙ ap (λ (z : List ℕ). c.args.bytes.now.items ++ z) (sym (extensible_format l (sym c.is_extensible.ensures ∙ c.if-not-is_extensible.false)))
