-- Document 01, "The card netlist": the tie.
use Rattle.std.specs.Prelude.{ℕ, ◌+◌, ◌%◌, List, [], ◌∷◌}

-- "two running sums modulo 4,294,967,296, both 0 at first: for each byte, A grows by the byte, then B by A. The tie is B."
abbrev pub grown : ℕ → ℕ → ℕ
grown sum n = (sum + n) % 4294967296

unfoldable pub tie_from : (a b : ℕ) → List ℕ → ℕ
tie_from a b [] = b
tie_from a b (x ∷ s) = tie_from (grown a x) (grown b (grown a x)) s

unfoldable pub tie_of : List ℕ → ℕ
tie_of s = tie_from 0 0 s
