-- Document 01, "The card netlist": words of two and four bytes.
use Rattle.std.specs.Prelude.{ℕ, zero, suc, ◌+◌, ◌*◌, Bool, ◌&&◌, ◌||◌, List, [], ◌∷◌, eqb, ltb, get_or}

-- the byte at a place; past the end it is 0
abbrev pub byte_at : List ℕ → ℕ → ℕ
byte_at s at = get_or s at 0

-- "Integers of two or four bytes have the low byte first."
unfoldable pub word_at : List ℕ → ℕ → ℕ
word_at s at = byte_at s at + 256 * byte_at s (at + 1)

unfoldable pub long_at : List ℕ → ℕ → ℕ
long_at s at = word_at s at + 65536 * word_at s (at + 2)

-- the n words from a place on
unfoldable pub words_at : ℕ → List ℕ → ℕ → List ℕ
words_at zero s at = []
words_at (suc n) s at = word_at s at ∷ words_at n s (at + 2)

-- the three letters that a file begins with
unfoldable pub marked : List ℕ → (a b c : ℕ) → Bool
marked s a b c = eqb (byte_at s 0) a && eqb (byte_at s 1) b && eqb (byte_at s 2) c

-- a number out of its range
unfoldable pub outside : (least most n : ℕ) → Bool
outside least most n = ltb n least || ltb most n
