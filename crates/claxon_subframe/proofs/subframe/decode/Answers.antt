use Rattle.std.proofs.Common.{ℕ, ◌≤◌, Bool, List, ℤ, length}
use Rattle.std.specs.Prelude.{Result}
use Rattle.claxon_format.specs.Subframe.{Subframe, SubframeFault}
use Rattle.claxon_format.specs.read.Subframe.{subframe_at}
use Rattle.claxon_format.proofs.FormatLaws.{subframes_unambiguous}
use Rattle.claxon_format.proofs.Subframes.{Reads-subframe}
use Rattle.claxon_input.specs.declared.error.Error.{Error}
use Rattle.claxon_input.specs.Gives.{Gives}
use Rattle.claxon_input.specs.Promises.{Promises}
use Rattle.claxon_input.specs.State.{State, bits_in}
use Rattle.claxon_input.proofs.ConsecutiveCalls.{gives_loans, gives_never_out_of_memory}
use Rattle.claxon_input.proofs.Memory.{gives_not_out_of_memory}
use Rattle.claxon_input.proofs.Promises.{promises}
use Rattle.claxon_subframe.proofs.subframe.decode.Goals as goal

promised : {A : Type 0} (view : A → List ℤ) (r : Result A Error) (w n : ℕ) (a b : State Bool) → w ≤ 32 → Gives view r (subframe_at w n) a b → Promises view r (Subframe w n) (SubframeFault w n) a b
promised view r w n a b few g = promises (Reads-subframe w n few) view r a b (gives_never_out_of_memory view r (subframe_at w n) a b g)

pub returns : goal.returns
unfolding bits_in
returns g c =
    let few = c.requires.max_bit_depth in
    let gives = c.decode_exact.ensures.fills_buffer in
    let p = promised (λ x. c.decode_exact.new.buffer) c.decode_exact.result c.args.bit_depth (length c.args.buffer.now) _ _ few gives in
    record {
      is_sound = p.is_sound;
      is_complete = p.is_complete;
      is_unambiguous = subframes_unambiguous c.args.bit_depth (length c.args.buffer.now) few;
      fault_is_sound = p.fault_is_sound;
      fault_is_complete = p.fault_is_complete;
      else_io_error = p.else_io_error;
      leaves_rest = p.leaves_rest;
      is_read = gives;
      never_out_of_memory = gives_not_out_of_memory (λ x. c.decode_exact.new.buffer) c.decode_exact.result _ _ _ gives;
      keeps_reader_loans = gives_loans (λ x. c.decode_exact.new.buffer) c.decode_exact.result _ _ _ gives;
    }
