-- Document 01, "The eight classes": what a gate gives, by the written rule over all its pins.
use Rattle.std.specs.Prelude.{ℕ, Bool, true, false, cond, not, ◌&&◌, ◌||◌, List, [], ◌∷◌, map, get_or}
use Rattle.kung.specs.Class.{Class, c0, c1, R, F, S0, S1, D+, D-, start, end, same}

-- the test passes at each element; at some element
unfoldable pub each : {A : Type 0} → (A → Bool) → List A → Bool
each f [] = true
each f (x ∷ xs) = f x && each f xs

unfoldable pub some : {A : Type 0} → (A → Bool) → List A → Bool
some f [] = false
some f (x ∷ xs) = f x || some f xs

-- "Both 0: `S0`. Both 1: `1` if each pin is `1`, else `S1`. Rising: `R` if each pin is `1` or `R`, else `D+`. Falling: `F` if each pin is
-- `1` or `F`, else `D-`."
abbrev pub by_ends : (starts ends ones rises falls : Bool) → Class
by_ends false false ones rises falls = S0
by_ends true true ones rises falls = cond ones c1 S1
by_ends false true ones rises falls = cond rises R D+
by_ends true false ones rises falls = cond falls F D-

-- "AND over all pins: a pin `0` gives `0`. Otherwise start and end are the Boolean AND of starts and ends."
unfoldable pub and_all : List Class → Class
and_all ps =
    cond (some (same c0) ps) c0
    (by_ends (each start ps) (each end ps) (each (same c1) ps) (each (λ k. same c1 k || same R k) ps) (each (λ k. same c1 k || same F k) ps))

-- "NOT exchanges 0/1, R/F, S0/S1, D+/D-."
abbrev pub invert : Class → Class
invert c0 = c1
invert c1 = c0
invert R = F
invert F = R
invert S0 = S1
invert S1 = S0
invert D+ = D-
invert D- = D+

-- "OR is NOT of the AND of the NOTs."
unfoldable pub or_all : List Class → Class
or_all ps = invert (and_all (map invert ps))

-- "Kinds: 1 NOT, 2 BUFFER, 3 AND, 4 OR, 5 NAND, 6 NOR."
pub data Kind : Type 0 where
  NOT BUFFER AND OR NAND NOR : Kind

abbrev pub kinds : List Kind
kinds = NOT ∷ BUFFER ∷ AND ∷ OR ∷ NAND ∷ NOR ∷ []

-- the kind of a byte from 1 to 6; others are read as BUFFER
unfoldable pub kind_of : ℕ → Kind
kind_of b = get_or (BUFFER ∷ kinds) b BUFFER

-- "NAND and NOR are NOT of AND and of OR; BUFFER copies." NOT and BUFFER have one pin, and the AND of one pin is that pin.
unfoldable pub gate_class : Kind → List Class → Class
gate_class NOT ps = invert (and_all ps)
gate_class BUFFER ps = and_all ps
gate_class AND ps = and_all ps
gate_class OR ps = or_all ps
gate_class NAND ps = invert (and_all ps)
gate_class NOR ps = invert (or_all ps)

-- the gates' Boolean functions
unfoldable pub gate_value : Kind → List Bool → Bool
gate_value NOT vs = not (each (λ v. v) vs)
gate_value BUFFER vs = each (λ v. v) vs
gate_value AND vs = each (λ v. v) vs
gate_value OR vs = some (λ v. v) vs
gate_value NAND vs = not (each (λ v. v) vs)
gate_value NOR vs = not (some (λ v. v) vs)
