-- Document 01, "Gate walk and program": the lines that the program prints, as bytes.
use Rattle.std.specs.Prelude.{ℕ, zero, suc, ◌+◌, ◌/◌, ◌%◌, Bool, true, false, cond, List, [], ◌∷◌, ◌++◌, ltb}
use Prim.Native.Char.{code}
use Prim.Native.String.{String, [] as none, ◌∷◌ as ◌then◌}
use Rattle.kung.specs.Class.{Class, name_of}

-- a text's characters by their codes
abbrev pub ascii : String → List ℕ
ascii none = []
ascii (c then cs) = code c ∷ ascii cs

-- A number's digits: those of its tenth, unless it has only one, and the last.
unfoldable pub digits : ℕ → ℕ → List ℕ
digits zero n = []
digits (suc turns) n = cond (ltb n 10) [] (digits turns (n / 10)) ++ ((48 + n % 10) ∷ [])

-- n + 1 turns are enough for the digits of n
unfoldable pub decimal : ℕ → List ℕ
decimal n = digits (suc n) n

-- "one blank between. Each line ends in a line feed."
unfoldable pub line : List ℕ → List (List ℕ) → List ℕ
line word [] = word ++ (10 ∷ [])
line word (next ∷ rest) = word ++ (32 ∷ line next rest)

-- "a line with the counts I, G, O, T in the words of the case below": `3 inputs 4 gates 1 outputs 1 changes`
unfoldable pub counts_line : ℕ → ℕ → ℕ → ℕ → List ℕ
counts_line inputs gates outputs changes =
    line (decimal inputs) (ascii "inputs" ∷ decimal gates ∷ ascii "gates" ∷ decimal outputs ∷ ascii "outputs" ∷ decimal changes ∷ ascii "changes" ∷ [])

-- "A clean verdict prints `clean`", the case's hazardous one `hazard`.
unfoldable pub verdict_word : Bool → List ℕ
verdict_word true = ascii "clean"
verdict_word false = ascii "hazard"

-- "change number, output's position from 0, class, verdict, CORE's gates, pins"
unfoldable pub verdict_line : ℕ → ℕ → Class → Bool → ℕ → ℕ → List ℕ
verdict_line change output class clean gates pins =
    line (decimal change) (decimal output ∷ name_of class ∷ verdict_word clean ∷ decimal gates ∷ decimal pins ∷ [])

-- "the line `refused N at P`, N the number and P the place"
unfoldable pub refusal_line : ℕ → ℕ → List ℕ
refusal_line number place = line (ascii "refused") (decimal number ∷ ascii "at" ∷ decimal place ∷ [])
