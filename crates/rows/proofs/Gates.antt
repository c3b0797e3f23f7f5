-- What a gate's row tells of its operation, its inversion and its pins. Assumes nothing.
use Prim.Native.Nat.{ℕ, zero, suc, ◌+◌, ◌%◌, ◌≤◌, ◌<◌}
use native.Mathlib.Omega.{arith}
use mathlib.Core.Path.{◌≡◌, refl, sym, ◌∙◌, ap}
use mathlib.Core.Bool.{Bool, true, false, cond}
use mathlib.Core.List.{List}
use lib.Dec.{eqb}
use lib.ListN.{length, get_or}
use Rattle.kung.specs.Rule.{NOT, BUFFER, AND, OR, NAND, NOR}
use Rattle.kung.specs.Operation.{and, or, op_of, op_at, inverts}
use Rattle.kung.specs.Tables.{tab}
use Rattle.kung.proofs.Listed.{get_d_tab, length_tab}
use Rattle.circuit.specs.Circuit.{Each}
use Rattle.rows.specs.Rows.{kind_in, count_in, gate_in, inverts_in, pin_in, word_in, row_pins}
use Rattle.rows.specs.Lent.{GateRow}

-- a word's operation and inversion are its kind's
module _ (word : ℕ) where
  pub operation_is : op_at word ≡ op_of (kind_in word)
  unfolding kind_in
  operation_is = go (eqb (word % 2) 0) (eqb (count_in word) 1) (inverts_in word)
    where
      go : (a b c : Bool) → cond a and or ≡ op_of (cond a (cond b (cond c NOT BUFFER) (cond c NAND AND)) (cond c NOR OR))
      go true true true = refl
      go true true false = refl
      go true false true = refl
      go true false false = refl
      go false b true = refl
      go false b false = refl

  pub inverts_is : inverts_in word ≡ inverts (kind_in word)
  unfolding kind_in
  inverts_is = go (eqb (word % 2) 0) (eqb (count_in word) 1) (inverts_in word)
    where
      go : (a b c : Bool) → c ≡ inverts (cond a (cond b (cond c NOT BUFFER) (cond c NAND AND)) (cond c NOR OR))
      go true true true = refl
      go true true false = refl
      go true false true = refl
      go true false false = refl
      go false b true = refl
      go false b false = refl

  -- also where they are read from its last two bits
  pub gate_operation : op_at (gate_in word) ≡ op_of (kind_in word)
  gate_operation = let e : word % 4 % 2 ≡ word % 2 = omega arith in ap (λ (x : ℕ). cond (eqb x 0) and or) e ∙ operation_is

-- a gate's pins
pub pins_length : (rows : List ℕ) (s : ℕ) → length (row_pins rows s) ≡ count_in (word_in rows s)
unfolding row_pins
pins_length rows s = length_tab (pin_in rows s) 0 (count_in (word_in rows s))

pub pin_is : (rows : List ℕ) (s k : ℕ) → k < count_in (word_in rows s) → pin_in rows s k ≡ get_or (row_pins rows s) k 0
unfolding row_pins
pin_is rows s k less = sym (get_d_tab (pin_in rows s) (count_in (word_in rows s)) k less)

-- what holds of each number of a row holds of the list
each_tab : (P : ℕ → Type 0) (f : ℕ → ℕ) (i n : ℕ) → ((k : ℕ) → i ≤ k → k < i + n → P (f k)) → Each P (tab f i n)
unfolding tab
each_tab P f i zero h = tt
each_tab P f i (suc n) h = (h i (omega arith) (omega arith), each_tab P f (suc i) n (λ k a b. h k (omega arith) (omega arith)))

-- they name signals below its own
pub pins_below : (rows : List ℕ) (s : ℕ) → GateRow rows s → Each (λ x. x < s) (row_pins rows s)
unfolding row_pins
pins_below rows s r = each_tab (λ x. x < s) (pin_in rows s) 0 (count_in (word_in rows s)) (λ k a b. r.below k (omega (arith, r.count_eight)))
