use mathlib.Core.Path.{◌∙◌, sym, ap₂}
use native.Mathlib.Omega.{arith}
use lib.Bits.{bit_or}
use Rattle.kung.specs.Sets.{has}
use Rattle.kung.specs.Gates.{unite}
use Rattle.kung.proofs.Unions.{set_of_or, set_of_has}
use Rattle.kung.proofs.union.Goals as goal

-- `kung::union` meets its contract. Assumes nothing.
pub returns : goal.returns
unfolding unite
returns c =
    ap₂ bit_or (sym (set_of_has c.args.a (omega arith))) (sym (set_of_has c.args.b (omega arith)))
    ∙ sym (set_of_or (has c.args.a) (has c.args.b))
