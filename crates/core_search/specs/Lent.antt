-- What CORE's search is lent.
use Rattle.std.specs.Prelude.{◌≡◌, ℕ, List, length, drop, replicate}

-- past the inputs nothing is known
abbrev pub NoneKnown : (inputs : ℕ) → (known : List ℕ) → Type 0
NoneKnown inputs known = drop inputs known ≡ drop inputs (replicate (length known) 8)
