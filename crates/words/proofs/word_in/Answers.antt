use Rattle.std.proofs.Common.{arith}
use Rattle.words.specs.Words.{word_at}
use Rattle.words.proofs.word_in.Goals as goal

pub returns : goal.returns
unfolding word_at
returns c = omega (arith, c.from_le_bytes.ensures)
