use Rattle.std.proofs.Common.{rules, arith}
use Rattle.std.proofs.lemmas.Grind.{common_steps}
use Rattle.making.specs.Making.{past_of}
use Rattle.making.proofs.past_of.Goals as goal

-- `past_of`: the last pin, or 0. Assumes nothing.
pub returns-then-repeated : goal.returns-then-repeated
unfolding past_of
returns-then-repeated c = grind (arith, common_steps)

pub returns-else-repeated : goal.returns-else-repeated
unfolding past_of
returns-else-repeated c = search rules
