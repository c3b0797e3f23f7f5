-- A signal's byte in a search.
use Rattle.std.specs.Prelude.{ℕ, ◌-◌, ◌/◌, ◌%◌, Bool, cond, List, map, ltb}
use Rattle.kung.specs.Class.{of_code}
use Rattle.kung.specs.Operation.{invert_if}
use Rattle.search.specs.Search.{Cell, new, kept}

-- Below 8 the class that is given, 8 for a gate that is new, 16 + 8 next + p for an unfinished one, and 128 + 8 next + its class for a known one: a
-- pin on it is taken without a look at its row, and p is its class before the inversion.
unfoldable pub cell_in : (inverted : Bool) → (byte : ℕ) → Cell
cell_in v b = cond (ltb b 16) new (cond (ltb b 128) (kept (of_code b) (b / 8 - 2)) (kept (invert_if v (of_code b)) (b / 8 - 16)))

-- what is known before the search: a given class, or 8
abbrev pub known_of : ℕ → ℕ
known_of b = cond (ltb b 8) b 8

abbrev pub known_in : List ℕ → List ℕ
known_in bytes = map known_of bytes

-- the class that a byte tells, 8 where the signal has to be visited
abbrev pub told_in : ℕ → ℕ
told_in b = cond (ltb b 8) b (cond (ltb b 128) 8 (b % 8))
