use Rattle.std.proofs.Common.{rules}
use Rattle.making.specs.Making.{past_of}
use Rattle.making.proofs.row_in.Goals as goal

-- `row_in`: past the pins the last stands again, or 0. Assumes nothing.
pub returns-else-repeated : goal.returns-else-repeated
unfolding past_of
returns-else-repeated c = search rules
