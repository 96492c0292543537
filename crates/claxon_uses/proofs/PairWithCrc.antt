-- Pairs with CRC as bytes.
use Rattle.std.proofs.Common.{◌≡◌, ◌<◌, ℕ, List, subst, ◌∙◌}
use Rattle.claxon.specs.Fault.{FrameCrc}
use Rattle.claxon.specs.read.Bytes.{by_bytes, crc_at, with_crc_bytes_at}
use Rattle.claxon.specs.Crc.{crc16}
use Rattle.claxon.specs.read.Reading.{Done, bind, done}
use Rattle.claxon.proofs.Laws.{Reads-then, Reads-map}
use Rattle.claxon.proofs.Numbers.{Reads-number}
use Rattle.claxon.proofs.CrcBytes.{with_crc_in_bytes}
use Rattle.claxon.specs.RunningReader.{running_source, running_value}
use Rattle.claxon.specs.CrcUpdate.{update_crc16}
use Rattle.claxon.specs.Source.{Source}
use Rattle.claxon.specs.State.{bytes_in}
use Rattle.claxon.specs.Gives.{Consumes}
use Rattle.claxon.specs.RunningReaders.{RunningReader}
use Rattle.claxon.proofs.RunningReaders.{crc_of_taken, consumes_with_crc}
use Rattle.claxon.proofs.CrcUpdate.{determines_crc16}
use Rattle.claxon.proofs.ConsecutiveCalls.{consumes_map}
use Rattle.claxon_uses.specs.PairWithCrc.{pair_at, pair_with_crc_at}

pub pair_is : (s : List ℕ) → pair_with_crc_at s ≡ with_crc_bytes_at 2 crc16 FrameCrc (by_bytes pair_at) s
unfolding pair_with_crc_at pair_at
pair_is s = with_crc_in_bytes 2 crc16 FrameCrc (Reads-then (Reads-number 5) (λ a t code. Reads-map (λ b. (a, b)) (Reads-number 9))) s

-- after the pair its CRC remains
pub after_pair : {R : Type 0} (source : R → Source ℕ) (b c : RunningReader R ℕ) (crc : ℕ) (p : ℕ × ℕ) → running_value b ≡ 0 → crc ≡ running_value c → crc < 65536
    → Consumes (bytes_in (running_source source update_crc16) b) (bytes_in (running_source source update_crc16) c) (λ s m. by_bytes pair_at s ≡ Done p m)
    → Consumes (bytes_in (running_source source update_crc16) b) (bytes_in (running_source source update_crc16) c) (λ s m. pair_with_crc_at s ≡ bind (crc_at 2 crc FrameCrc m) (λ u. done p))
after_pair source b c crc p start same small h =
    consumes_map _ (consumes_with_crc 2 crc crc16 FrameCrc (by_bytes pair_at) p _ _ h (λ known. same ∙ crc_of_taken determines_crc16 source b c start (subst (λ (n : ℕ). n < 65536) same small) h known)) (λ e. pair_is _ ∙ e)
