use Rattle.netlist.proofs.Entries.{EntriesPassed}
use Rattle.netlist.proofs.check_outputs.Given as goal

-- `check_outputs`: what is left of the entries is the whole of what follows the records. Assumes nothing.
abbrev pub invariant-loop-k : goal.invariant-loop-k
invariant-loop-k l = EntriesPassed l.s l.k
