use Rattle.std.proofs.Common.{rules}
use Rattle.claxon_md5.specs.Md5.{words_after}
use Rattle.claxon_md5.proofs.Md5.new.Goals as goal

pub returns : goal.returns
unfolding words_after
returns c = record { has_hashed = search rules }
