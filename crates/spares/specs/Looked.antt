-- How the code looks for spare bits: where none can be, at once for all changes.
use Rattle.std.specs.Prelude.{ℕ, ◌+◌, ◌*◌, ◌<◌, ◌≡◌, Bool, false, List}
use Rattle.spares.specs.Spares.{width_of, spares_at}

-- two vectors or rows at a place have no spare bit
abbrev pub PairClear : (bits : ℕ) → List ℕ → (at : ℕ) → Type 0
PairClear bits l at = (spares_at bits l at ≡ 0) × (spares_at bits l (at + width_of bits) ≡ 0)

-- where nothing is seen, none has one from a place on, in changes of so many bytes
pub record Cleared (seen : Bool) (bits : ℕ) (l : List ℕ) (at size changes : ℕ) : Type 0 where
  pub clear : seen ≡ false → (t : ℕ) → t < changes → PairClear bits l (at + t * size)
