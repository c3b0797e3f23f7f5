-- The room of a search: a byte for each signal.
use Rattle.std.specs.Prelude.{ℕ, suc, ◌≤◌, ◌<◌, ◌≡◌, List, [], ◌∷◌, get_or}
use Rattle.rows.specs.Rows.{inverts_in, word_in}
use Rattle.search.specs.Search.{byte_of, driver_of}
use Rattle.cells.specs.Cells.{cell_in, known_of, told_in}
use Rattle.visit.specs.Source.{signal_of}
use Rattle.visit.specs.Codes.{told_of}

-- the definition's cells, for the signals from s on
unfoldable pub cells_from : (rows : List ℕ) → (s : ℕ) → List ℕ → List ℕ
cells_from rows s [] = []
cells_from rows s (b ∷ bytes) = byte_of (cell_in (inverts_in (word_in rows s)) b) ∷ cells_from rows (suc s) bytes

abbrev pub cells_in : (rows bytes : List ℕ) → List ℕ
cells_in rows bytes = cells_from rows 0 bytes

-- the bytes of the signals below n tell what the definition's cells tell
abbrev pub Marked : (rows : List ℕ) (s b : ℕ) → Type 0
Marked rows s b = told_in b ≡ told_of (driver_of (signal_of rows s (known_of b)) (cell_in (inverts_in (word_in rows s)) b))

abbrev pub Marks : (rows bytes : List ℕ) (n : ℕ) → Type 0
Marks rows bytes n = (s : ℕ) → s < n → Marked rows s (get_or bytes s 0)

-- no gate is visited yet
abbrev pub Afresh : List ℕ → Type 0
Afresh bytes = (s : ℕ) → get_or bytes s 0 ≤ 8
