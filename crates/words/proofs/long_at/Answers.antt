use Rattle.std.proofs.Common.{◌≡◌, ◌+◌, ap, arith}
use Rattle.words.specs.Words.{byte_at, word_at, long_at}
use Rattle.words.proofs.Laws.{long_past}
use Rattle.words.proofs.long_at.Goals as goal

pub returns-then-at-s : goal.returns-then-at-s
unfolding long_at word_at
returns-then-at-s c =
    let last : c.args.at + 3 ≡ c.args.at + 2 + 1 = omega arith in
    omega (arith, c.from_le_bytes.ensures, ap (byte_at c.args.s.now) last)

pub returns-else-at-s : goal.returns-else-at-s
returns-else-at-s c = long_past _ _ c.if-at-s.false
