use Prim.Native.Nat.{ℕ, ◌/◌, ◌%◌, ◌^◌, ◌<◌}
use native.Mathlib.Omega.{arith}
use lib.Bits.{bit_xor, xor_lt}
use Rattle.inputs.proofs.Laws.{class_code}
use Rattle.inputs.proofs.class_of_bits.Goals.{Start}
use Rattle.inputs.proofs.class_of_bits.Goals as goal

-- `inputs::class_of_bits` meets its contract. Assumes nothing.
low : (x k : ℕ) → x / 2 ^ k % 2 < 2
low x k = omega arith

differ : (c : Start) → bit_xor (c.args.first / 2 ^ c.args.k % 2) (c.args.second / 2 ^ c.args.k % 2) < 2
differ c = xor_lt 1 _ _ (low c.args.first c.args.k) (low c.args.second c.args.k)

pub overflow_mul-result : goal.overflow_mul-result
overflow_mul-result c = omega (arith, differ (goal.at.overflow_mul-result c).Start)

pub overflow_add-result : goal.overflow_add-result
overflow_add-result c = omega (arith, differ (goal.at.overflow_add-result c).Start)

pub returns : goal.returns
returns c = class_code _ _ (low c.args.first c.args.k) (low c.args.second c.args.k)
