use Rattle.claxon_c.proofs.clock.claxon_clock_start.Goals as goal

pub returns : goal.returns
returns c = record { starts_right = rw c.new.ensures (rw c.known_stream.ensures.is_known at c.new-begun.ensures.starts_right) }
