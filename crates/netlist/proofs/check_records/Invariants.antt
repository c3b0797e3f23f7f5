use Prim.Native.Nat.{◌-◌}
use Rattle.netlist.proofs.Reached.{Reached, PinsPassed}
use Rattle.netlist.proofs.check_records.Given as goal

-- `check_records`: at each record, and in it at each pin, what is left of the check is the whole of what follows the counts, and so of the
-- rows. Assumes nothing.
abbrev pub invariant-pins : goal.invariant-pins
invariant-pins l = PinsPassed l.s l.signal l.at l.head.count l.k

abbrev pub invariant-records : goal.invariant-records
invariant-records l = Reached l.repeated l.s l.initial.rows l.signal l.at l.rows

abbrev pub decreases-records : goal.decreases-records
decreases-records l = l.signals - l.signal
