use Prim.Native.Nat.{◌<◌}
use native.Mathlib.Omega.{arith}
use mathlib.Core.Path.{sym, ◌∙◌}
use Rattle.words.specs.Words.{byte_at}
use Rattle.spares.proofs.Laws.{pair_none, pair_first, pair_second, eight_clear}
use Rattle.spares.proofs.spare_in.Goals as goal

-- `spares::spare_in` meets its contract. Assumes nothing.
-- eight bits in the last byte leave none spare
pub returns-then-used-eq8 : goal.returns-then-used-eq8
returns-then-used-eq8 c =
    let l = c.args.list.now in
    sym (pair_none c.args.bits l c.args.at
    (eight_clear c.args.bits l c.args.at c.if-used-eq8.true (λ at. let low : byte_at l at < 256 = omega (arith, c.type_inv.list at) in low)))

pub returns-then-least-list : goal.returns-then-least-list
returns-then-least-list c = sym (pair_first _ _ _ _ c.byte_past-least.ensures c.if-least-list.true)

pub returns : goal.returns
returns c = c.then_some.ensures ∙ sym (pair_second _ _ _ _ c.byte_past-least.ensures c.if-least-list.false)
