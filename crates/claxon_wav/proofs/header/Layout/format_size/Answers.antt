use Rattle.std.proofs.Common.{sym, ap, ◌∙◌, length}
use Rattle.claxon_wav.proofs.RiffChunks.{extensible_format, pcm_format}
use Rattle.claxon_wav.proofs.header.Layout.format_size.Goals as goal

pub returns-then-is_extensible-clause-size : goal.returns-then-is_extensible-clause-size
returns-then-is_extensible-clause-size c = sym (ap length (extensible_format c.args.self.now (sym c.is_extensible.ensures ∙ c.if-is_extensible.true)))

pub returns-else-is_extensible-clause-size : goal.returns-else-is_extensible-clause-size
returns-else-is_extensible-clause-size c = sym (ap length (pcm_format c.args.self.now (sym c.is_extensible.ensures ∙ c.if-is_extensible.false)))
