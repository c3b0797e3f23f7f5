-- Document 01, "The eight classes": the classes with their codes, names and ends.
use Rattle.std.specs.Prelude.{ℕ, ◌%◌, Bool, true, false, List, [], ◌∷◌, eqb, get_or}

-- "0 `0`, 1 `1`, 2 `R` (rises once), 3 `F` (falls once), 4 `S0` and 5 `S1` (ends agree, pulses between), 6 `D+` and 7 `D-` (rises, falls,
-- with extra pulses)."
pub data Class : Type 0 where
  c0 c1 R F S0 S1 D+ D- : Class

abbrev pub code : Class → ℕ
code c0 = 0
code c1 = 1
code R = 2
code F = 3
code S0 = 4
code S1 = 5
code D+ = 6
code D- = 7

-- all classes, by their codes
abbrev pub classes : List Class
classes = c0 ∷ c1 ∷ R ∷ F ∷ S0 ∷ S1 ∷ D+ ∷ D- ∷ []

-- the class of a code; a number above 7 is read by its last three bits
unfoldable pub of_code : ℕ → Class
of_code n = get_or classes (n % 8) c0

-- the names, as bytes
abbrev pub name_of : Class → List ℕ
name_of c0 = 48 ∷ []
name_of c1 = 49 ∷ []
name_of R = 82 ∷ []
name_of F = 70 ∷ []
name_of S0 = 83 ∷ 48 ∷ []
name_of S1 = 83 ∷ 49 ∷ []
name_of D+ = 68 ∷ 43 ∷ []
name_of D- = 68 ∷ 45 ∷ []

-- the value before the change
abbrev pub start : Class → Bool
start c0 = false
start c1 = true
start R = false
start F = true
start S0 = false
start S1 = true
start D+ = false
start D- = true

-- the value after it
abbrev pub end : Class → Bool
end c0 = false
end c1 = true
end R = true
end F = false
end S0 = false
end S1 = true
end D+ = true
end D- = false

-- "0 to 3 are clean, 4 to 7 hazardous."
abbrev pub clean : Class → Bool
clean c0 = true
clean c1 = true
clean R = true
clean F = true
clean S0 = false
clean S1 = false
clean D+ = false
clean D- = false

abbrev pub same : Class → Class → Bool
same a b = eqb (code a) (code b)

-- "An input is 0, 1, R or F by its two bits."
abbrev pub input_class : Bool → Bool → Class
input_class false false = c0
input_class true true = c1
input_class false true = R
input_class true false = F
