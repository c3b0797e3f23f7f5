-- How rows are made: a record's pins read as eight numbers, and numbers written where they have room.
use Rattle.std.specs.Prelude.{ℕ, ◌+◌, ◌-◌, ◌*◌, Bool, cond, List, ◌++◌, ltb, length, take, drop}
use Rattle.kung.specs.Tables.{tab}
use Rattle.words.specs.Words.{word_at}

-- pin k of so many that stand from a place on: past the last it is another number
unfoldable pub pin_or : List ℕ → (at count past k : ℕ) → ℕ
pin_or s at count past k = cond (ltb k count) (word_at s (at + 2 * k)) past

unfoldable pub eight_at : List ℕ → (at count past : ℕ) → List ℕ
eight_at s at count past = tab (pin_or s at count past) 0 8

-- the eight pins of a row, the last repeated where that is asked for, and 0 past it where not
unfoldable pub past_of : (repeated : Bool) → List ℕ → (at count : ℕ) → ℕ
past_of repeated s at count = cond repeated (word_at s (at + 2 * (count - 1))) 0

abbrev pub row_pin : (repeated : Bool) → List ℕ → (at count k : ℕ) → ℕ
row_pin repeated s at count k = pin_or s at count (past_of repeated s at count) k

abbrev pub row_at : (repeated : Bool) → List ℕ → (at count : ℕ) → List ℕ
row_at repeated s at count = eight_at s at count (past_of repeated s at count)

-- the pins alone, and 0 past the last
abbrev pub own_at : List ℕ → (at count : ℕ) → List ℕ
own_at s at count = eight_at s at count 0

-- numbers written from a place on, where they have room; else nothing is
unfoldable pub put_at : List ℕ → (at : ℕ) → List ℕ → List ℕ
put_at rows at xs = cond (ltb (length rows) (at + length xs)) rows (take at rows ++ (xs ++ drop (at + length xs) rows))
