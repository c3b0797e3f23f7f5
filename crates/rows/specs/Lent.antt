-- What the code above is lent: the nine numbers of a gate.
use Rattle.std.specs.Prelude.{ℕ, ◌+◌, ◌-◌, ◌*◌, ◌≤◌, ◌<◌, ◌≡◌, List, length}
use Rattle.rows.specs.Rows.{count_in, pin_in, word_in}

-- one to eight pins, all of signals below its own
pub record GateRow (rows : List ℕ) (s : ℕ) : Type 0 where
  pub inside : 9 * s + 9 ≤ length rows
  pub count_some : 1 ≤ count_in (word_in rows s)
  pub count_eight : count_in (word_in rows s) ≤ 8
  pub below : (k : ℕ) → k < 8 → pin_in rows s k < s

-- past the last pin it stands again
abbrev pub Repeats : (rows : List ℕ) → (s : ℕ) → Type 0
Repeats rows s = (k : ℕ) → count_in (word_in rows s) ≤ k → k < 8 → pin_in rows s k ≡ pin_in rows s (count_in (word_in rows s) - 1)
