-- In a change of an accepted list the touched count is that of the classes' codes. Assumes nothing.
use Prim.Native.Nat.{ℕ, zero, suc, ◌+◌, ◌<◌}
use native.Mathlib.Omega.{arith}
use mathlib.Core.Path.{◌≡◌, refl, sym, ◌∙◌, ap, ap₂}
use mathlib.Core.Bool.{Bool, true, false, cond, ◌||◌, beq}
use mathlib.Core.List.{List, [], ◌∷◌, ◌++◌}
use mathlib.Core.Option.{none, some}
use lib.ListN.{get_or, drop}
use Rattle.kung.specs.Class.{Class, code}
use Rattle.kung.specs.Rule as rule
use Rattle.kung.specs.Sets.{bit}
use Rattle.kung.proofs.Finite.{every_class, class_at_lem, beq→≡}
use Rattle.circuit.specs.Circuit.{Each}
use Rattle.circuit.proofs.Laws.{each_map}
use Rattle.rows.specs.Rows.{row_pins}
use Rattle.netlist.specs.Netlist.{inputs_of, gates_of, gate_pins, card_of}
use Rattle.netlist.specs.Formed.{Formed}
use Rattle.netlist.proofs.Accepted.{formed}
use Rattle.changes.specs.declared.Task.{Task}
use Rattle.changes.specs.Changes.{sources_of}
use Rattle.changes.specs.Lent.{Accepts}
use Rattle.changes.proofs.Accepted.{listed}
use Rattle.inputs.specs.Written.{input_codes}
use Rattle.search.specs.Pins.{sum_below}
use Rattle.sweep.specs.Sweep.{codes_of, is_constant_code, any_constant, touched_by}
use Rattle.simulate.specs.Full.{class_in, codes}
use Rattle.simulate.proofs.Laws.{filled_codes}
use Rattle.simulate.proofs.Theorems.{class_value, codes_at}
use Rattle.constants.specs.Constants.{is_constant, constant_of, is_known, touched}
use Rattle.constants.specs.Change.{constants_in, touched_in}
use Rattle.constants.proofs.Constants.{spread_is}
use Rattle.constants.proofs.Theorems.{falling}

some_ext : (f g : ℕ → Bool) (xs : List ℕ) → Each (λ x. f x ≡ g x) xs → rule.some f xs ≡ rule.some g xs
unfolding rule.some
some_ext f g [] h = refl
some_ext f g (x ∷ xs) h = ap₂ ◌||◌ h.0 (some_ext f g xs h.1)

pub sum_ext : (f g : ℕ → ℕ) (n : ℕ) → ((k : ℕ) → k < n → f k ≡ g k) → sum_below f n ≡ sum_below g n
unfolding sum_below
sum_ext f g zero h = refl
sum_ext f g (suc n) h = ap₂ ◌+◌ (h n (omega arith)) (sum_ext f g n (λ k less. h k (omega arith)))

pub constant_code : (k : Class) → is_constant_code (code k) ≡ is_constant k
unfolding every_class
constant_code k = beq→≡ _ _ (class_at_lem (λ k. beq (is_constant_code (code k)) (is_constant k)) tt k)

known_constant : (k : Class) → is_constant k ≡ is_known (constant_of k)
known_constant k = go (is_constant k)
  where
    go : (b : Bool) → b ≡ is_known (cond b (some k) none)
    go true = refl
    go false = refl

module _ (n l rows : List ℕ) (task : Task) (a : Accepts true n l rows task) (t : ℕ) where
  abbrev i : ℕ
  i = task.shape.inputs

  abbrev g : ℕ
  g = task.shape.gates

  f : Formed n task.shape
  f = formed n (listed n l a.accepted).netlist_accepted

  pub signals_are : inputs_of n + gates_of n ≡ i + g
  signals_are = omega (arith, f.inputs_are, f.gates_are)

  pub codes_below : (s : ℕ) → s < i + g → get_or (codes n l t) s 0 ≡ code (class_in n l t s)
  codes_below s h = codes_at n l t s (rw signals_are h)

  pub constant_is : (s : ℕ) → s < i + g → constants_in n l t s ≡ constant_of (class_in n l t s)
  constant_is s h =
      spread_is (sources_of n l t) (falling n l a.accepted t) (inputs_of n + gates_of n) s (rw signals_are h) ∙ ap constant_of (sym (class_value n l t s))

  module _ (old : List ℕ) where
    -- the bytes that the inputs' codes are filled in
    abbrev filled : List ℕ
    filled = input_codes l task.layout t i ++ drop i old

    -- the touched count
    pub touched_is : touched_by rows (codes_of rows filled i g (i + g)) i g ≡ touched_in n l t
    unfolding touched_by any_constant touched_in touched card_of
    touched_is =
        sum_ext _ _ g (λ h below.
        ap bit (ap (rule.some _) (pins h below) ∙ some_ext _ _ (gate_pins n h)
        (each_map (λ x (less : x < inputs_of n + h). known x (omega (arith, f.inputs_are))) (gate_pins n h) (f.well_formed h (omega (arith, f.gates_are))))))
        ∙ ap (sum_below _) f.gates_are
      where
        pins : (h : ℕ) → h < g → row_pins rows (i + h) ≡ gate_pins n h
        pins h below = ap (λ m. row_pins rows (m + h)) f.inputs_are ∙ a.decoded.pins_are h (omega (arith, f.gates_are))

        known : (x : ℕ) → x < i + g → is_constant_code (get_or (codes_of rows filled i g (i + g)) x 0) ≡ is_known (constants_in n l t x)
        known x h =
            ap (λ c. is_constant_code (get_or c x 0)) (filled_codes n l rows task a t old) ∙ ap is_constant_code (codes_below x h)
            ∙ constant_code (class_in n l t x) ∙ known_constant (class_in n l t x) ∙ ap is_known (sym (constant_is x h))
