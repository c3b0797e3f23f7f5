use mathlib.Core.Path.{◌∙◌}
use Rattle.lookup.proofs.Lookups.{join_at}
use Rattle.lookup.proofs.joined_by.Goals as goal

-- `lookup::joined_by` meets its contract. Assumes nothing.
pub returns : goal.returns
returns c =
    c.number_at.ensures ∙ join_at c.args.waiter c.args.class c.requires
