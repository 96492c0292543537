use Rattle.std.proofs.Common.{◌≡◌, ℕ, zero, suc, ◌-◌, ◌*◌, ◌%◌, ◌^◌, ◌≤◌, refl, arith}
use Rattle.claxon_format.specs.read.Header.{size_coding, ByCode}
use Rattle.claxon_frame.proofs.frame.header.block_size_of.Goals as goal

small : (code : ℕ) → 2 ≤ code → code ≤ 5 → ByCode (576 * 2 ^ (code - 2) % 65536) ≡ size_coding code
small (suc (suc zero)) lo hi = refl
small (suc (suc (suc zero))) lo hi = refl
small (suc (suc (suc (suc zero)))) lo hi = refl
small (suc (suc (suc (suc (suc zero))))) lo hi = refl
small (suc (suc (suc (suc (suc (suc n)))))) lo hi = absurd (omega arith)
small _ lo hi = absurd (omega arith)

large : (code : ℕ) → 8 ≤ code → code ≤ 15 → ByCode (256 * 2 ^ (code - 8) % 65536) ≡ size_coding code
large (suc (suc (suc (suc (suc (suc (suc (suc zero)))))))) lo hi = refl
large (suc (suc (suc (suc (suc (suc (suc (suc (suc zero))))))))) lo hi = refl
large (suc (suc (suc (suc (suc (suc (suc (suc (suc (suc zero)))))))))) lo hi = refl
large (suc (suc (suc (suc (suc (suc (suc (suc (suc (suc (suc zero))))))))))) lo hi = refl
large (suc (suc (suc (suc (suc (suc (suc (suc (suc (suc (suc (suc zero)))))))))))) lo hi = refl
large (suc (suc (suc (suc (suc (suc (suc (suc (suc (suc (suc (suc (suc zero))))))))))))) lo hi = refl
large (suc (suc (suc (suc (suc (suc (suc (suc (suc (suc (suc (suc (suc (suc zero)))))))))))))) lo hi = refl
large (suc (suc (suc (suc (suc (suc (suc (suc (suc (suc (suc (suc (suc (suc (suc zero))))))))))))))) lo hi = refl
large (suc (suc (suc (suc (suc (suc (suc (suc (suc (suc (suc (suc (suc (suc (suc (suc n)))))))))))))))) lo hi = absurd (omega arith)
large _ lo hi = absurd (omega arith)

pub returns-in_default-clause-coding : goal.returns-in_default-clause-coding
returns-in_default-clause-coding c = small c.args.code (omega arith) (omega arith)
