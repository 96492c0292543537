use Rattle.claxon_subframe.proofs.SignExtension.{extended_16}
use Rattle.claxon_subframe.proofs.subframe.extend_sign_u16.Goals as goal

pub returns : goal.returns
returns c = extended_16 c.args.bits c.args.val c.cast_signed.result c.requires.some c.requires.most c.requires.fits (record { sfits = c.cast_signed.type_inv }) c.cast_signed.ensures
