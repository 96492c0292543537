use Rattle.claxon_verify.proofs.parts.after_bytes.Goals as goal

pub returns-in-Some : goal.returns-in-Some
returns-in-Some c = rw c.in-Some.is (record { keeps = c.with_bytes.ensures })
