use Rattle.std.proofs.Common.{rules}
use Rattle.words.proofs.Made.{made_at}
use Rattle.tie.specs.Blocks.{column_at}
use Rattle.tie.proofs.Laws.{columns_all}
use Rattle.tie.proofs.columns.Goals as goal

-- `columns`: each number is its column. Assumes nothing.
pub returns : goal.returns
returns c =
    let made = c.from_fn.ensures.items in
    columns_all c.args.block.now 0 _ made.long (made_at _ (column_at c.args.block.now 0) _ _ 16 0 (λ k y f' l called. search rules) made)
