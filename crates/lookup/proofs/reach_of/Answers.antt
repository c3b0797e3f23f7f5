use mathlib.Core.Path.{◌∙◌}
use Rattle.lookup.proofs.Lookups.{reach_block}
use Rattle.lookup.proofs.reach_of.Goals as goal

-- `lookup::reach_of` meets its contract: it has a block. Assumes nothing.
pub returns : goal.returns
returns c = c.in_block.ensures ∙ reach_block c.args.operation c.args.set
