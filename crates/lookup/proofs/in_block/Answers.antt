use mathlib.Core.Path.{◌∙◌, ap}
use lib.Bits.{bit_or}
use lib.ListN.{get_or}
use Rattle.kung.specs.Lookup.{search_table}
use Rattle.lookup.proofs.Lookups.{block_at}
use Rattle.lookup.proofs.in_block.Goals as goal

-- `lookup::in_block` meets its contract: a set is the union of its halves. Assumes nothing.
pub returns : goal.returns
returns c =
    (λ i.
    bit_or ((c.number_at.ensures ∙ ap (λ k. get_or search_table k 0) c.entry_in.ensures) i)
    ((c.number_at-2.ensures ∙ ap (λ k. get_or search_table k 0) c.entry_in-2.ensures) i))
    ∙ block_at c.args.block c.args.set c.requires.0 c.requires.1
