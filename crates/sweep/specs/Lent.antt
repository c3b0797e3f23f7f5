-- What the gate pass is lent, and leaves.
use Rattle.std.specs.Prelude.{ℕ, ◌+◌, ◌≤◌, ◌<◌, ◌≡◌, List, ◌++◌, length, get_or, drop}
use Rattle.rows.specs.Lent.{GateRow, Repeats}
use Rattle.sweep.specs.Sweep.{codes_of, hots_of, touched_by}

-- a decoded card, room for a byte of each signal in both buffers, and codes of classes at the inputs
pub record Passable (rows buffer : List ℕ) (hots inputs gates : ℕ) : Type 0 where
  pub few : inputs ≤ 256
  pub gates_high : gates ≤ 2048
  pub gate : (g : ℕ) → g < gates → GateRow rows (inputs + g)
  pub repeats : (g : ℕ) → g < gates → Repeats rows (inputs + g)
  pub room : inputs + gates ≤ length buffer
  pub hot_room : inputs + gates ≤ hots
  pub coded : (i : ℕ) → i < inputs → get_or buffer i 0 < 8

-- the signals' codes and the sets of their classes are written, and the gates with a constant driver counted
pub record Passed (rows buffer hot : List ℕ) (inputs gates : ℕ) (buffer' hot' : List ℕ) (r : ℕ) : Type 0 where
  pub codes : buffer' ≡ codes_of rows buffer inputs gates (inputs + gates) ++ drop (inputs + gates) buffer
  pub hots : hot' ≡ hots_of (codes_of rows buffer inputs gates (inputs + gates)) ++ drop (inputs + gates) hot
  pub touched : r ≡ touched_by rows (codes_of rows buffer inputs gates (inputs + gates)) inputs gates
