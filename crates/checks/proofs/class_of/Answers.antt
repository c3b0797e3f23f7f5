use mathlib.Core.Path.{◌≡◌, refl}
use Prim.Native.Nat.{ℕ, zero, suc, ◌/◌, ◌%◌, ◌<◌}
use native.Mathlib.Omega.{arith}
use lib.Bits.{bit_xor}
use lib.Dec.{eqb}
use lib.ListN.{get_or}
use Rattle.kung.specs.Class.{c0, code, classes, of_code}
use Rattle.kung.specs.Rule.{invert}
use Rattle.kung.specs.Operation.{invert_if}
use Rattle.kung.specs.Tables.{tab}
use Rattle.kung.proofs.Listed.{agree}
use Rattle.checks.proofs.class_of.Goals as goal

-- `checks::class_of` meets its contract. Assumes nothing.
-- by the list of its eight values, for a gate that inverts and one that does not
both : (v p : ℕ) → v < 2 → p < 8 → bit_xor p v ≡ code (invert_if (eqb v 1) (get_or classes p c0))
unfolding tab
both zero p h l = agree (λ x. bit_xor x 0) (λ x. code (get_or classes x c0)) 8 refl p l
both (suc zero) p h l = agree (λ x. bit_xor x 1) (λ x. code (invert (get_or classes x c0))) 8 refl p l
both (suc (suc v)) p h l = absurd (omega arith)

pub returns : goal.returns
unfolding of_code
returns c = both (c.args.gate / 2) (c.args.p % 8) (omega arith) (omega arith)
