use Rattle.std.proofs.Common.{◌≡◌, ◌%◌, arith, length, sym}
use Rattle.claxon_wav.specs.WaveFile.{format}
use Rattle.claxon_wav.proofs.RiffChunks.{header_is}
use Rattle.claxon_wav.proofs.header.Layout.put_header.Goals as goal

pub returns-clause-is_sound : goal.returns-clause-is_sound
returns-clause-is_sound c =
    let f = format c.args.self.now in
    let even : length f % 2 ≡ 0 = rw (sym c.format_size-format_size.ensures.size) c.format_size-format_size.ensures.even in
    header_is c.args.self.now c.args.size _ _ _ (omega (arith, c.format_size-format_size.ensures.size)) even c.put_sizes.ensures.is_sound
