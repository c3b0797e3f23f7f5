use Rattle.std.proofs.Common.{◌≡◌, ℕ, List, get_or, ap, ◌∙◌, arith, rules}
use Rattle.tie.proofs.Laws.{column_of, rows_more, rows_end}
use Rattle.tie.proofs.block_weight.Goals as goal

pub loop-column-preserved : goal.loop-column-preserved
loop-column-preserved c =
    let l = c.loop-column in
    let block = c.args.block.now in
    let column = ap (λ (sums : List ℕ). get_or sums l.column-index 0) c.columns-column-items.ensures ∙ column_of block 0 l.column-index (search rules) in
    let small = c.loop-column-test.element_fits in
    let rows = rows_more block 0 l.column-index (search rules) in
    (omega arith, omega (arith, l.invariant.1))

pub returns : goal.returns
returns c =
    let l = c.loop-column in
    let e : l.column-index ≡ 16 = omega arith in
    omega (arith, rw e at l.invariant.1, rows_end c.args.block.now 0)
