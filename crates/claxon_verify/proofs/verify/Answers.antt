use Rattle.claxon_verify.proofs.verify.Goals as goal

pub returns-clause-is_complete : goal.returns-clause-is_complete
returns-clause-is_complete g c = c.verify_exact.ensures.promises.complete

pub returns-clause-right_is_complete : goal.returns-clause-right_is_complete
returns-clause-right_is_complete g c = c.verify_exact.ensures.promises.right_complete

pub returns-clause-head_fault_is_complete : goal.returns-clause-head_fault_is_complete
returns-clause-head_fault_is_complete g c = c.verify_exact.ensures.promises.named

pub returns-clause-out_of_memory_after_header : goal.returns-clause-out_of_memory_after_header
returns-clause-out_of_memory_after_header g c = c.verify_exact.ensures.promises.memory

pub returns-clause-places_are_counted : goal.returns-clause-places_are_counted
returns-clause-places_are_counted g c = c.verify_exact.ensures.places_are_counted

pub returns-clause-keeps_at_most : goal.returns-clause-keeps_at_most
returns-clause-keeps_at_most g c = c.verify_exact.ensures.keeps_at_most

pub returns-clause-notes_are_exact : goal.returns-clause-notes_are_exact
returns-clause-notes_are_exact g c = c.verify_exact.ensures.notes_are_exact

pub returns-clause-trailing_is_told : goal.returns-clause-trailing_is_told
returns-clause-trailing_is_told g c = c.verify_exact.ensures.trailing_is_told
