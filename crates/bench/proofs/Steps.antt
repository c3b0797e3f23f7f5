-- One event by its cases, and what lists of events keep. Assumes nothing.
use Prim.Native.Nat.{ℕ, suc, ◌+◌, ◌≤◌, ◌<◌}
use native.Mathlib.Omega.{arith}
use mathlib.Core.Path.{◌≡◌, refl}
use mathlib.Core.Bool.{Bool, true, false, cond, ◌&&◌, false≢true}
use mathlib.Core.List.{List, [], ◌∷◌, ◌++◌}
use lib.Dec.{eqb}
use lib.ListN.{length}
use borrow.Author.Tests.{ltb-true, eqb-true, eq-eqb, ne_eqb}
use Rattle.circuit.specs.Circuit.{Card}
use Rattle.bench.specs.Bench.{State, Event, input, pin, driver, differ, one_more, change, pass_on, signal_value, gate_output, follow, happen, allowed, step, run}

-- a test by its two answers, each with its equation
pub by_test : {A : Type 0} (P : A → Type 0) (t : Bool) (x y : A) → (t ≡ true → P x) → (t ≡ false → P y) → P (cond t x y)
by_test P true x y p q = p refl
by_test P false x y p q = q refl

-- all parts of a test passed
all3 : {A : Type 0} (t u v : Bool) → (t && (u && v)) ≡ true → (t ≡ true → u ≡ true → v ≡ true → A) → A
all3 true true true e f = f refl refl refl
all3 true true false e f = absurd (false≢true e)
all3 true false v e f = absurd (false≢true e)
all3 false u v e f = absurd (false≢true e)

module _ (card : Card) (a b : ℕ → Bool) where
  -- an input's event: nothing, or the input changes
  pub input_cases : (P : State → Type 0) (st : State) (i : ℕ)
      → (allowed card a b st (input i) ≡ false → P st)
      → (i < card.inputs → differ (a i) (b i) ≡ true → st.changes i ≡ 0 → P (change st i))
      → P (step card a b st (input i))
  unfolding step happen allowed
  input_cases P st i none one =
      by_test P (allowed card a b st (input i)) (happen card a st (input i)) st
      (λ e. all3 _ _ _ e (λ p q r. one (ltb-true _ _ p) q (eqb-true _ _ r))) none

  -- a pin's event: nothing, or the pin passes on a change and the gate's signal stays, or it changes too
  pub pin_cases : (P : State → Type 0) (st : State) (g k : ℕ)
      → (allowed card a b st (pin g k) ≡ false → P st)
      → (g < card.gates → k < length (card.pins g) → st.passed g k < st.changes (driver card g k)
      → (differ (gate_output card a (pass_on st g k) g) (signal_value card a (pass_on st g k) (card.inputs + g)) ≡ false → P (pass_on st g k))
      × (differ (gate_output card a (pass_on st g k) g) (signal_value card a (pass_on st g k) (card.inputs + g)) ≡ true → P (change (pass_on st g k) (card.inputs + g))))
      → P (step card a b st (pin g k))
  unfolding step happen follow allowed
  pin_cases P st g k none one =
      by_test P (allowed card a b st (pin g k)) (happen card a st (pin g k)) st
      (λ e. all3 _ _ _ e (λ p q r.
      let both = one (ltb-true _ _ p) (ltb-true _ _ q) (ltb-true _ _ r) in
      by_test P (differ (gate_output card a (pass_on st g k) g) (signal_value card a (pass_on st g k) (card.inputs + g)))
      (change (pass_on st g k) (card.inputs + g)) (pass_on st g k) both.1 both.0)) none

  -- what each event keeps, a list keeps
  pub run_keeps : (P : State → Type 0) → ((st : State) (e : Event) → P st → P (step card a b st e)) → (es : List Event) (st : State) → P st
      → P (run card a b st es)
  unfolding run
  run_keeps P each [] st p = p
  run_keeps P each (e ∷ es) st p = run_keeps P each es (step card a b st e) (each st e p)

  pub run_append : (xs ys : List Event) (st : State) → run card a b st (xs ++ ys) ≡ run card a b (run card a b st xs) ys
  unfolding run
  run_append [] ys st = refl
  run_append (e ∷ xs) ys st = run_append xs ys (step card a b st e)

-- counts with one more at n
pub more_at : (f : ℕ → ℕ) (n m : ℕ) → m ≡ n → one_more f n m ≡ suc (f m)
more_at f n m e = rw (eq-eqb m n e)

pub more_off : (f : ℕ → ℕ) (n m : ℕ) → (m ≡ n → ⊥) → one_more f n m ≡ f m
more_off f n m d = rw (ne_eqb m n d)

pub more_le : (f : ℕ → ℕ) (n m : ℕ) → f m ≤ one_more f n m
more_le f n m = by_test (λ x. f m ≤ x) (eqb m n) (suc (f m)) (f m) (λ e. omega arith) (λ e. omega arith)

-- the pins of other gates, and the other pins of the gate, are left alone
pub pass_at : (st : State) (g k : ℕ) → (pass_on st g k).passed g k ≡ suc (st.passed g k)
unfolding pass_on
pass_at st g k = rw (eq-eqb g g refl, eq-eqb k k refl)

pub pass_place : (st : State) (g k j : ℕ) → (j ≡ k → ⊥) → (pass_on st g k).passed g j ≡ st.passed g j
unfolding pass_on
pass_place st g k j d = rw (eq-eqb g g refl, ne_eqb j k d)

pub pass_gate : (st : State) (g k h : ℕ) → (h ≡ g → ⊥) → (pass_on st g k).passed h ≡ st.passed h
unfolding pass_on
pass_gate st g k h d = rw (ne_eqb h g d)

module _ (card : Card) (a b : ℕ → Bool) where
  -- no count falls
  pub changes_grow : (st : State) (e : Event) (s : ℕ) → st.changes s ≤ (step card a b st e).changes s
  unfolding change pass_on
  changes_grow st (input i) s = input_cases card a b (λ t. st.changes s ≤ t.changes s) st i (λ e. omega arith) (λ h d e. more_le st.changes i s)
  changes_grow st (pin g k) s = pin_cases card a b (λ t. st.changes s ≤ t.changes s) st g k (λ e. omega arith) (λ h h' l. (λ e. omega arith, λ e. more_le st.changes (card.inputs + g) s))

  pub run_grow : (st : State) (es : List Event) (s : ℕ) → st.changes s ≤ (run card a b st es).changes s
  run_grow st es s = run_keeps card a b (λ t. st.changes s ≤ t.changes s) (λ t e h. omega (arith, changes_grow t e s)) es st (omega arith)

  -- a pin's event leaves all signals but its gate's as they were, and the pins of other gates
  pub pin_signal : (st : State) (g k s : ℕ) → (s ≡ card.inputs + g → ⊥) → (step card a b st (pin g k)).changes s ≡ st.changes s
  unfolding change pass_on
  pin_signal st g k s d =
      pin_cases card a b (λ t. t.changes s ≡ st.changes s) st g k (λ e. refl) (λ h h' l. (λ e. refl, λ e. more_off st.changes (card.inputs + g) s d))

  pub pin_gate : (st : State) (g k h : ℕ) → (h ≡ g → ⊥) → (step card a b st (pin g k)).passed h ≡ st.passed h
  unfolding change
  pin_gate st g k h d =
      pin_cases card a b (λ t. t.passed h ≡ st.passed h) st g k (λ e. refl) (λ p q l. (λ e. pass_gate st g k h d, λ e. pass_gate st g k h d))

  pub input_pins : (st : State) (i : ℕ) → (step card a b st (input i)).passed ≡ st.passed
  unfolding change
  input_pins st i = input_cases card a b (λ t. t.passed ≡ st.passed) st i (λ e. refl) (λ h d e. refl)
