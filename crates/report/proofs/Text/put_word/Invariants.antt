use Rattle.std.proofs.Common.{take}
use Rattle.report.specs.Appended.{Appended}
use Rattle.report.proofs.Text.put_word.Given as goal

-- the loop's invariant: the first bytes of the word are appended
abbrev pub invariant-loop-byte : goal.invariant-loop-byte
invariant-loop-byte l = Appended l.initial.self l.self (take l.byte-index l.word)
