-- What the code's numbers say of waiting gates and visits' ends.
use Rattle.std.specs.Prelude.{ℕ, ◌/◌, cond, ltb}
use Rattle.std.proofs.Math.Option.{Option, none, some}
use Rattle.kung.specs.Class.{Class, code, of_code}
use Rattle.kung.specs.Operation.{op_at, join}
use Rattle.search.specs.Search.{Waiting, nobody, waits, Outcome, stopped, known, unfinished}

-- the waiting gate as a number: 8 times its operation, and its p; 16 where nobody waits
unfoldable pub waiting_of : ℕ → Waiting
waiting_of b = cond (ltb b 16) (waits (op_at (b / 8)) (of_code b)) nobody

-- a class that may be missing, as a number: its code, or 8
abbrev pub code_or : Option Class → ℕ
code_or (some k) = code k
code_or none = 8

-- How a visit ends, as the number with which the waiting gate goes on: the known class joined to its p, or the result of (c); 8 where the search
-- stops. Where nobody waits it is the known class itself.
abbrev pub ending_of : Waiting → Outcome → ℕ
ending_of nobody stopped = 8
ending_of nobody (known k) = code k
ending_of nobody (unfinished r) = 8
ending_of (waits o p) stopped = 8
ending_of (waits o p) (known k) = code (join o p k)
ending_of (waits o p) (unfinished r) = code r

-- what a gate's checks find: how its visit ends, where they end it
abbrev pub check_of : Waiting → Option Outcome → ℕ
check_of wt (some e) = ending_of wt e
check_of wt none = 8
