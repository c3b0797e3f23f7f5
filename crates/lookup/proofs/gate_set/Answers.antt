use mathlib.Core.Path.{◌∙◌, ap}
use lib.ListN.{get_or}
use Prim.Native.Nat.{◌+◌, ◌*◌, ◌%◌}
use Rattle.lookup.proofs.Gates.{gate_at_lem}
use borrow.Author.Rules.{rules}
use Rattle.lookup.proofs.gate_set.Goals as goal

-- `lookup::gate_set` meets its contract. Assumes nothing.
pub returns : goal.returns
returns c =
    let a = c.args in
    ap (λ t. get_or t (a.gate % 4 * 256 + a.set) 0) c.gate_table.ensures
    ∙ gate_at_lem a.gate a.set (search rules)
