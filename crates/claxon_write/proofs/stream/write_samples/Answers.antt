use Rattle.claxon.specs.State.{bytes_in}
use Rattle.claxon.specs.Opening.{flac_bytes}
use Rattle.claxon_write.specs.WriteSamples.{flac_stream}
use Rattle.claxon_write.proofs.RestOfInput.{answer_leaves}
use Rattle.claxon_write.proofs.CompleteStreams.{eof_complete, fault_complete}
use Rattle.claxon_write.proofs.stream.write_samples.Goals as goal

pub returns-clause-is_complete : goal.returns-clause-is_complete
returns-clause-is_complete g c = let e = c.write_samples_exact.ensures in eof_complete _ e.bit_depth _ _ _ _ _ c.write_samples_exact.result e.is_sound e.fault_is_sound

pub returns-clause-fault_is_complete : goal.returns-clause-fault_is_complete
returns-clause-fault_is_complete g c = let e = c.write_samples_exact.ensures in fault_complete _ e.bit_depth _ _ _ _ _ c.write_samples_exact.result e.is_sound e.fault_is_sound

pub returns-clause-leaves_rest : goal.returns-clause-leaves_rest
unfolding bytes_in
returns-clause-leaves_rest g c =
    let e = c.write_samples_exact.ensures in
    answer_leaves g.W.Write.contents (flac_stream c.args.flac.now) c.write_samples_exact.result (flac_bytes g.R.Read.remaining c.args.flac.now) (flac_bytes g.R.Read.remaining c.write_samples_exact.new.flac) c.args.output.now
    c.write_samples_exact.new.output e.is_sound e.fault_is_sound
