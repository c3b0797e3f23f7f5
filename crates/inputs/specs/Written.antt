-- What the code writes: the codes of the inputs' classes, and numbers in a row.
use Rattle.std.specs.Prelude.{ℕ, ◌+◌, List, ◌++◌, take, drop}
use Rattle.kung.specs.Class.{code, input_class}
use Rattle.kung.specs.Tables.{tab}
use Rattle.changes.specs.declared.Layout.{Layout}
use Rattle.changes.specs.Changes.{bit_in, class_at, input_class_at}

-- the code of the class whose ends are bit i of the parts at two places; an input's code, and those of the first n inputs
abbrev pub code_from : List ℕ → (start end i : ℕ) → ℕ
code_from l start end i = code (class_at l start end i)

abbrev pub code_at : List ℕ → Layout → (t i : ℕ) → ℕ
code_at l layout t i = code (input_class_at l layout t i)

abbrev pub input_codes : List ℕ → Layout → (t n : ℕ) → List ℕ
input_codes l layout t n = tab (code_at l layout t) 0 n

-- the code of the clean class whose ends are bit k of two bytes
abbrev pub code_in : (a b k : ℕ) → ℕ
code_in a b k = code (input_class (bit_in a k) (bit_in b k))

-- a buffer where f 0, f 1, .., n numbers, are written from a place on
unfoldable pub written : List ℕ → (at : ℕ) → (f : ℕ → ℕ) → (n : ℕ) → List ℕ
written old at f n = take at old ++ (tab f 0 n ++ drop (at + n) old)
