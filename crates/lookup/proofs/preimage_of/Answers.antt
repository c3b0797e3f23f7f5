use mathlib.Core.Path.{◌∙◌}
use Rattle.lookup.proofs.Lookups.{preimage_block}
use Rattle.lookup.proofs.preimage_of.Goals as goal

-- `lookup::preimage_of` meets its contract: it has a block. Assumes nothing.
pub returns : goal.returns
returns c =
    c.in_block.ensures ∙ preimage_block c.args.waiter c.args.set c.requires.0
