-- What the code that writes a number's digits does.
use Rattle.std.specs.Prelude.{◌≡◌, List, ◌++◌, ℕ, ◌+◌, ◌≤◌, length, take, drop}

-- The bytes stand in a buffer from `at` on, next is the place after them, and the others are as they were.
pub record Placed (entry exit : List ℕ) (at next : ℕ) (more : List ℕ) : Type 0 where
  pub room : at + length more ≤ length entry
  pub after : next ≡ at + length more
  pub bytes : exit ≡ take at entry ++ more ++ drop (at + length more) entry
