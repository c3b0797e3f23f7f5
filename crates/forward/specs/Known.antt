-- How the code keeps constants: a byte for each signal, first the code of its class, then 8 for the gates to be searched.
use Rattle.std.specs.Prelude.{ℕ, ◌+◌, cond, List, ◌++◌, drop, slice_index}
use Rattle.inputs.specs.Written.{written}
use Rattle.sweep.specs.Sweep.{codes_of, is_constant_code}

-- a gate of another class is to be searched
abbrev pub known_or8 : (code : ℕ) → ℕ
known_or8 code = cond (is_constant_code code) code 8

-- the inputs' codes, which are known in any case, and the gates' so
unfoldable pub known_codes : (codes : List ℕ) → (inputs gates : ℕ) → List ℕ
known_codes codes inputs gates = written codes inputs (λ g. known_or8 (slice_index codes (inputs + g))) gates

-- the classes that the inputs' codes in a buffer spread over a decoded card, with what stands after them
unfoldable pub swept_codes : (rows buffer : List ℕ) → (inputs gates : ℕ) → List ℕ
swept_codes rows buffer inputs gates = codes_of rows buffer inputs gates (inputs + gates) ++ drop (inputs + gates) buffer
