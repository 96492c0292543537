use Rattle.std.proofs.Common.{rules}
use Rattle.claxon_format.specs.read.Streaminfo.{info_fields_at, md5_at}
use Rattle.claxon_input.proofs.ByteFields.{consumes_whole, failure_or_whole}
use Rattle.claxon_metadata.proofs.metadata.streaminfo.read_streaminfo_fields.Goals as goal

pub returns-in_err-read_into-clause-gives : goal.returns-in_err-read_into-clause-gives
unfolding info_fields_at md5_at
returns-in_err-read_into-clause-gives g c = search (rules, failure_or_whole g.R.ReadBytes.source 16 c.in_err-read_into.ensures.failure_or_eof)

pub returns-clause-gives : goal.returns-clause-gives
unfolding info_fields_at md5_at
returns-clause-gives g c = search (rules, consumes_whole g.R.ReadBytes.source 16 _ (search rules) c.in_ok-read_into.ensures.are_sound)
