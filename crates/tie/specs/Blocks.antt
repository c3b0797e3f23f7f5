-- The tie by blocks, as the code makes it: what the bytes of a block add to its two sums.
use Rattle.std.specs.Prelude.{ℕ, zero, suc, ◌+◌, ◌-◌, ◌*◌, List, [], ◌∷◌}
use Rattle.words.specs.Words.{byte_at}

-- what n bytes from a place on add to the two sums: the bytes, and the bytes with the weights n to 1
unfoldable pub sum_at : ℕ → List ℕ → ℕ → ℕ
sum_at zero s at = 0
sum_at (suc n) s at = byte_at s at + sum_at n s (at + 1)

unfoldable pub weight_at : ℕ → List ℕ → ℕ → ℕ
weight_at zero s at = 0
weight_at (suc n) s at = suc n * byte_at s at + weight_at n s (at + 1)

-- 64 bytes in four rows of 16: the bytes of column k, with the weights that weight_at 64 gives them
unfoldable pub column_at : List ℕ → (at k : ℕ) → ℕ
column_at s at k = (64 - k) * byte_at s (at + k) + (48 - k) * byte_at s (at + 16 + k) + (32 - k) * byte_at s (at + 32 + k) + (16 - k) * byte_at s (at + 48 + k)

-- n columns from column k on, and all 16
unfoldable pub columns_from : (n : ℕ) → List ℕ → (at k : ℕ) → List ℕ
columns_from zero s at k = []
columns_from (suc n) s at k = column_at s at k ∷ columns_from n s at (k + 1)

abbrev pub columns_at : List ℕ → (at : ℕ) → List ℕ
columns_at s at = columns_from 16 s at 0
