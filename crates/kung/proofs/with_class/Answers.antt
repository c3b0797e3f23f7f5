use mathlib.Core.Path.{◌∙◌, refl, sym, ap₂}
use Prim.Native.Nat.{◌*◌, ◌%◌, ◌^◌}
use native.Mathlib.Omega.{arith}
use lib.Bits.{bit_or}
use lib.ListN.{get_or}
use Rattle.kung.specs.Class.{c0, classes, of_code, same}
use Rattle.kung.specs.Sets.{has}
use Rattle.kung.specs.Members.{insert}
use Rattle.kung.specs.Tables.{tab}
use Rattle.kung.proofs.Listed.{agree}
use Rattle.kung.proofs.Unions.{set_of_or, set_of_has, one_class}
use Rattle.kung.proofs.with_class.Goals as goal

pub returns : goal.returns
unfolding of_code insert tab
returns c =
    let m = c.args.set in
    let k = c.args.class % 8 in
    ap₂ bit_or (sym (set_of_has m (omega arith)))
    (agree (λ x. 1 * 2 ^ x % 256) (λ x. 2 ^ x) 8 refl k (omega arith) ∙ one_class k (omega arith))
    ∙ sym (set_of_or (has m) (same (get_or classes k c0)))
