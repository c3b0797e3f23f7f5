-- The contracts of the cycle of visits.
use Rattle.std.specs.Prelude.{ℕ, suc, ◌≤◌, ◌<◌, ◌≡◌, List, length, get_or}
use Rattle.search.specs.Search.{gates_visited, pins_taken, Waiting, Ended, take_pin, visit}
use Rattle.checks.specs.Codes.{waiting_of, ending_of}
use Rattle.cells.specs.declared.Counts.{Counts}
use Rattle.cells.specs.Cells.{known_in}
use Rattle.visit.specs.Source.{source_from}
use Rattle.visit.specs.Cells.{cells_in, Marks}

-- how a visit ends, with the cells that it leaves
abbrev pub ended_of : Waiting → Ended → ℕ × List ℕ
ended_of wt ended = (ending_of wt ended.0, ended.1)

-- The two sums of the cells are kept as the search goes: gates visited and pins taken.
abbrev pub tally_of : List ℕ → Counts
tally_of cells = record { gates = gates_visited cells; pins = pins_taken cells }

-- what is lent to write, with a byte for signal s
pub record Lends (rows : List ℕ) (s : ℕ) (bytes : List ℕ) (tally : Counts) : Type 0 where
  pub there : s < length bytes
  pub few : length bytes ≤ 2304
  pub small : (t : ℕ) → get_or bytes t 0 < 256
  pub tallied : tally ≡ tally_of (cells_in rows bytes)
  pub marked : Marks rows bytes (suc s)

-- A pin on signal x is taken, as the definition says, for every number that bounds the signals. What was known stays, and so do the bytes above x.
pub record Takes (rows : List ℕ) (x wanted waiter : ℕ) (entry exit : List ℕ) (tally : Counts) (r : ℕ) : Type 0 where
  pub is : (n : ℕ) → x < n
      → (r, cells_in rows exit)
      ≡ ended_of (waiting_of waiter)
      (take_pin (source_from rows (known_in entry)) (visit (source_from rows (known_in entry)) n) x wanted (waiting_of waiter) (cells_in rows entry))
  pub tallied : tally ≡ tally_of (cells_in rows exit)
  pub known : known_in exit ≡ known_in entry
  pub small : (t : ℕ) → get_or exit t 0 < 256
  pub marked : r < 8 → Marks rows exit (suc x)
  pub above : (t : ℕ) → x < t → get_or exit t 0 ≡ get_or entry t 0
