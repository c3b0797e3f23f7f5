use Rattle.std.proofs.Common.{rules}
use Rattle.words.specs.Words.{outside}
use Rattle.words.proofs.is_outside.Goals as goal

pub returns-then-n-least : goal.returns-then-n-least
unfolding outside
returns-then-n-least c = search rules

pub returns-else-n-least : goal.returns-else-n-least
unfolding outside
returns-else-n-least c = search rules
