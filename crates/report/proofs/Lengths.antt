-- A bound on each line's length, for callers that must show room. Assumes nothing.
use mathlib.Core.Path.{◌≡◌, refl}
use mathlib.Core.Bool.{Bool, true, false}
use mathlib.Core.List.{List, [], ◌∷◌, ◌++◌}
use Prim.Native.Nat.{ℕ, ◌+◌, ◌^◌, ◌≤◌, ◌<◌}
use native.Mathlib.Omega.{arith}
use lib.ListN.{length, length-append}
use Rattle.kung.specs.Class.{Class, c0, c1, R, F, S0, S1, D+, D-, name_of}
use Rattle.report.specs.Text.{line, counts_line, verdict_word, verdict_line, refusal_line}
use Rattle.report.proofs.Decimal.{decimal_length}

-- a line's length, word by word
abbrev pub total : List ℕ → List (List ℕ) → ℕ
total word [] = length (word ++ (10 ∷ []))
total word (next ∷ rest) = length (word ++ (32 ∷ [])) + total next rest

pub line_length : (word : List ℕ) (rest : List (List ℕ)) → length (line word rest) ≡ total word rest
unfolding line
line_length word [] = refl
line_length word (next ∷ rest) = simp length-append (omega (arith, line_length next rest))

name_length : (k : Class) → length (name_of k) ≤ 2
name_length c0 = omega arith
name_length c1 = omega arith
name_length R = omega arith
name_length F = omega arith
name_length S0 = omega arith
name_length S1 = omega arith
name_length D+ = omega arith
name_length D- = omega arith

word_length : (clean : Bool) → length (verdict_word clean) ≤ 6
unfolding verdict_word
word_length true = omega arith
word_length false = omega arith

-- for counts of at most four digits
pub counts_length : (inputs gates outputs changes : ℕ) → inputs < 10000 → gates < 10000 → outputs < 10000 → changes < 10000
    → length (counts_line inputs gates outputs changes) ≤ 64
unfolding counts_line
counts_length inputs gates outputs changes i g o t =
    rw line_length
    (simp length-append
    (omega (
      arith,
      decimal_length 3 inputs (omega arith),
      decimal_length 3 gates (omega arith),
      decimal_length 3 outputs (omega arith),
      decimal_length 3 changes (omega arith),
    )))

pub verdict_length : (change output gates pins : ℕ) (k : Class) (clean : Bool) → change < 1000 → output < 64 → gates ≤ 16385 → pins ≤ 16384
    → length (verdict_line change output k clean gates pins) ≤ 48
unfolding verdict_line
verdict_length change output gates pins k clean t o g p =
    rw line_length
    (simp length-append
    (omega (
      arith,
      decimal_length 2 change (omega arith),
      decimal_length 1 output (omega arith),
      name_length k,
      word_length clean,
      decimal_length 4 gates (omega arith),
      decimal_length 4 pins (omega arith),
    )))

-- for every u8 and usize
pub refusal_length : (number place : ℕ) → number < 2 ^ 8 → place < 2 ^ 64 → length (refusal_line number place) ≤ 64
unfolding refusal_line
refusal_length number place n p =
    rw line_length (simp length-append (omega (arith, decimal_length 2 number (omega arith), decimal_length 19 place (omega arith))))

-- a line has at least its line feed
pub line_some : (word : List ℕ) (rest : List (List ℕ)) → 1 ≤ length (line word rest)
unfolding line
line_some word [] = simp length-append (omega arith)
line_some word (next ∷ rest) = simp length-append (omega arith)
