-- A gate's byte on arrival and at a visit's end, and what is counted.
use Rattle.std.specs.Prelude.{ℕ, ◌+◌, ◌-◌, ◌*◌, ◌/◌, ◌%◌, cond, ltb}
use Rattle.kung.specs.Class.{code}
use Rattle.kung.specs.Operation.{op_at, unit}
use Rattle.cells.specs.declared.Counts.{Counts}

-- a gate's byte on arrival, by its word's last bits and its byte before: "`1` for AND-like kinds at first and `0` for OR and NOR"
unfoldable pub begun_from : (gate byte : ℕ) → ℕ
begun_from gate b = cond (ltb b 16) (16 + code (unit (op_at gate))) b

-- What is counted on arrival: a gate that is new counts as visited; the pins that another has taken are taken back, and count at the visit's end.
abbrev pub arrived_tally : (tally : Counts) → (byte : ℕ) → Counts
arrived_tally tally b = record { gates = tally.gates + cond (ltb b 16) 1 0; pins = tally.pins - (b / 8 - 2) }

-- a gate's byte at a visit's end: known, or unfinished
abbrev pub known_mark : (class next : ℕ) → ℕ
known_mark class next = 128 + 8 * next + class

abbrev pub open_mark : (p next : ℕ) → ℕ
open_mark p next = 16 + 8 * next + p % 8

-- by its class, 8 where it is not known
abbrev pub mark_of : (class p next : ℕ) → ℕ
mark_of class p next = cond (ltb class 8) (known_mark class next) (open_mark p next)
