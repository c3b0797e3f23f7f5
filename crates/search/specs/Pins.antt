-- Sets of signals that are closed under pins, as a cone is, and the number of their pins.
use Rattle.std.specs.Prelude.{ℕ, zero, suc, ◌+◌, ◌≡◌, Bool, true, cond, length}
use Rattle.kung.specs.Class.{Class}
use Rattle.circuit.specs.Circuit.{Source, pins_of, Each}

-- the pins of each signal of the set c name signals of the set
abbrev pub Closed : (ℕ → Source Class) → (ℕ → Bool) → Type 0
Closed src c = (s : ℕ) → c s ≡ true → Each (λ x. c x ≡ true) (pins_of (src s))

-- the pins of a signal, if it is in the set
abbrev pub pins_at : (ℕ → Source Class) → (ℕ → Bool) → ℕ → ℕ
pins_at src c s = cond (c s) (length (pins_of (src s))) 0

-- f 0, f 1 and so on, n numbers, summed up
unfoldable pub sum_below : (ℕ → ℕ) → ℕ → ℕ
sum_below f zero = 0
sum_below f (suc n) = f n + sum_below f n

-- the number of pins of the set's signals below n; of all signals, P
abbrev pub pins_in : (ℕ → Source Class) → (ℕ → Bool) → ℕ → ℕ
pins_in src c n = sum_below (pins_at src c) n
