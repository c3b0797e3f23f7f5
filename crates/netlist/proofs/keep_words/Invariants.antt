use mathlib.Core.Path.{◌≡◌}
use lib.Seq.{paste}
use Rattle.words.specs.Words.{words_at}
use Rattle.netlist.proofs.keep_words.Given as goal

-- `keep_words`: the words passed stand in their place. Assumes nothing.
abbrev pub invariant-loop-k : goal.invariant-loop-k
invariant-loop-k l = l.rows ≡ paste l.initial.rows l.base (words_at l.count l.s l.at) l.k
