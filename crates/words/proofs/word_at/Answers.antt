use Rattle.std.proofs.Common.{arith}
use Rattle.words.specs.Words.{word_at}
use Rattle.words.proofs.Laws.{word_past}
use Rattle.words.proofs.word_at.Goals as goal

pub returns-then-at-s : goal.returns-then-at-s
unfolding word_at
returns-then-at-s c = omega (arith, c.from_le_bytes.ensures)

pub returns-else-at-s : goal.returns-else-at-s
returns-else-at-s c = word_past _ _ c.if-at-s.false
