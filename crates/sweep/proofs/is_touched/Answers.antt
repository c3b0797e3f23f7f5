use Prim.Native.Nat.{◌%◌}
use mathlib.Core.Path.{refl}
use mathlib.Core.Bool.{not, ◌||◌}
use native.Mathlib.Omega.{arith}
use lib.Dec.{eqb}
use Rattle.kung.specs.Class.{c0, c1}
use Rattle.kung.specs.Sets.{bit, has}
use Rattle.kung.specs.Tables.{tab}
use Rattle.kung.proofs.Listed.{agree}
use Rattle.sweep.proofs.is_touched.Goals as goal

-- `sweep::is_touched` meets its contract, by the list of its 256 values. Assumes nothing.
pub returns : goal.returns
unfolding has tab
returns c = agree (λ m. bit (not (eqb (m % 4) 0))) (λ m. bit (has m c0 || has m c1)) 256 refl c.args.set (omega arith)
