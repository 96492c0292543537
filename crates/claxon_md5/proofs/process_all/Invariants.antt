use Rattle.std.proofs.Common.{◌≡◌, fold, take}
use Rattle.claxon_md5.specs.Md5.{process}
use Rattle.claxon_md5.proofs.process_all.Given as goal

abbrev pub invariant-loop-block : goal.invariant-loop-block
invariant-loop-block l = l.state ≡ fold process l.fn.state (take l.block-index l.fn.blocks)
