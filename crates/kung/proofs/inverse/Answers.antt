use mathlib.Core.Path.{refl}
use Prim.Native.Nat.{◌%◌}
use native.Mathlib.Omega.{arith}
use lib.Bits.{bit_xor}
use lib.ListN.{get_or}
use Rattle.kung.specs.Class.{c0, code, classes, of_code}
use Rattle.kung.specs.Rule.{invert}
use Rattle.kung.specs.Tables.{tab}
use Rattle.kung.proofs.Listed.{agree}
use Rattle.kung.proofs.inverse.Goals as goal

-- `kung::inverse` meets its contract, by the list of its eight values. Assumes nothing.
pub returns : goal.returns
unfolding of_code tab
returns c = agree (λ x. bit_xor x 1) (λ x. code (invert (get_or classes x c0))) 8 refl (c.args.class % 8) (omega arith)
