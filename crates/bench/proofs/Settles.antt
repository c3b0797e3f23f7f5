-- Where no event is allowed any more, all signals are settled at the second vector. Assumes nothing.
use Prim.Native.Nat.{ℕ, zero, suc, ◌+◌, ◌-◌, ◌≤◌, ◌<◌}
use native.Mathlib.Omega.{arith}
use native.Mathlib.Decide.{dec_lt}
use mathlib.Core.Path.{◌≡◌, refl, sym, ◌∙◌, ap}
use mathlib.Core.Bool.{Bool, true, false, ◌&&◌}
use lib.Dec.{ltb, eqb}
use lib.ListN.{length}
use borrow.Author.Tests.{ltb-true, ltb-false, eqb-false, lt-ltb, le-ltb, ne_eqb}
use Rattle.kung.specs.Rule.{gate_value}
use Rattle.circuit.specs.Circuit.{Card, WellFormed, signals}
use Rattle.circuit.specs.Settled.{settled}
use Rattle.bench.specs.Bench.{State, Event, input, pin, driver, differ, flipped, signal_value, gate_output, allowed}
use Rattle.bench.proofs.Flips.{alter}
use Rattle.circuit.proofs.Ends.{settled_input, settled_gate}
use Rattle.bench.proofs.Ends.{needs_input, input_clean}
use Rattle.bench.proofs.Steps.{by_test}
use Rattle.bench.proofs.Kept.{driver_below, Kept, pins_are}

-- every input that has to change has changed; every pin has passed on what its driver made
pub record Quiet (card : Card) (a b : ℕ → Bool) (st : State) : Type 0 where
  pub inputs_changed : (i : ℕ) → i < card.inputs → alter (a i) (b i) ≤ st.changes i
  pub pins_passed : (g k : ℕ) → g < card.gates → k < length (card.pins g) → st.changes (driver card g k) ≤ st.passed g k

not3 : (t u v : Bool) → (t ≡ true → u ≡ true → v ≡ false) → (t && (u && v)) ≡ false
not3 true true v e = e refl refl
not3 true false v e = refl
not3 false u v e = refl

module _ (card : Card) (a b : ℕ → Bool) where
  pub quiet_input : (st : State) (i : ℕ) → allowed card a b st (input i) ≡ false → i < card.inputs → alter (a i) (b i) ≤ st.changes i
  unfolding allowed
  quiet_input st i e h =
      by_test (λ n. n ≤ st.changes i) (differ (a i) (b i)) 1 0 (λ d. omega (arith, eqb-false (st.changes i) 0 (rw (lt-ltb i card.inputs h, d) at e)))
      (λ d. omega arith)

  pub quiet_pin : (st : State) (g k : ℕ) → allowed card a b st (pin g k) ≡ false → g < card.gates → k < length (card.pins g)
      → st.changes (driver card g k) ≤ st.passed g k
  unfolding allowed
  quiet_pin st g k e h l = ltb-false _ _ (rw (lt-ltb g card.gates h, lt-ltb k (length (card.pins g)) l) at e)

  -- no event is allowed exactly where all is quiet
  pub complete_quiet : (st : State) → ((e : Event) → allowed card a b st e ≡ false) → Quiet card a b st
  complete_quiet st none =
      record { inputs_changed = λ i h. quiet_input st i (none (input i)) h; pins_passed = λ g k h l. quiet_pin st g k (none (pin g k)) h l }

  pub quiet_complete : (st : State) → Quiet card a b st → (e : Event) → allowed card a b st e ≡ false
  unfolding allowed
  quiet_complete st quiet (input i) =
      not3 (ltb i card.inputs) (differ (a i) (b i)) (eqb (st.changes i) 0)
      (λ p q. ne_eqb (st.changes i) 0 (λ e. omega (arith, rw q at (quiet.inputs_changed i (ltb-true i card.inputs p)))))
  quiet_complete st quiet (pin g k) =
      not3 (ltb g card.gates) (ltb k (length (card.pins g))) (ltb (st.passed g k) (st.changes (driver card g k)))
      (λ p q. le-ltb _ _ (quiet.pins_passed g k (ltb-true g card.gates p) (ltb-true k (length (card.pins g)) q)))

-- flipped as often as the ends need, the start is the end
flipped_needed : (u w : Bool) (n : ℕ) → n ≤ alter u w → alter u w ≤ n → flipped n u ≡ w
unfolding flipped
flipped_needed true true n p q = let e : n ≡ 0 = omega arith in rw e
flipped_needed true false n p q = let e : n ≡ 1 = omega arith in rw e
flipped_needed false true n p q = let e : n ≡ 1 = omega arith in rw e
flipped_needed false false n p q = let e : n ≡ 0 = omega arith in rw e

module _ (card : Card) (formed : WellFormed card) (a b : ℕ → Bool) where
  pub quiet_settled : (st : State) → Kept card a b st → Quiet card a b st → (s : ℕ) → s < signals card → signal_value card a st s ≡ settled card b s
  unfolding signal_value gate_output
  quiet_settled st kept quiet s h = below (suc s) s (omega arith) h
    where
      at_input : (i : ℕ) → i < card.inputs → signal_value card a st i ≡ settled card b i
      at_input i h =
          rw (settled_input card formed a i h, settled_input card formed b i h)
          (flipped_needed (a i) (b i) (st.changes i)
          (rw (needs_input card formed a b i h) at (kept.stays i (omega arith) (input_clean card formed a b i h)))
          (quiet.inputs_changed i h))

      at_gate : (g : ℕ) → g < card.gates → ((k : ℕ) → k < length (card.pins g) → signal_value card a st (driver card g k) ≡ settled card b (driver card g k))
          → signal_value card a st (card.inputs + g) ≡ settled card b (card.inputs + g)
      at_gate g h drivers =
          sym (kept.follows g h) ∙ ap (gate_value (card.kind g)) (pins_are card a (settled card b) (card.pins g) (st.passed g) same)
          ∙ sym (settled_gate card formed b g h)
        where
          same : (k : ℕ) → k < length (card.pins g) → flipped (st.passed g k) (settled card a (driver card g k)) ≡ settled card b (driver card g k)
          same k l =
              let e : st.passed g k ≡ st.changes (driver card g k) = omega (arith, kept.upto g k h l, quiet.pins_passed g k h l) in
              rw e (drivers k l)

      below : (n s : ℕ) → s < n → s < signals card → signal_value card a st s ≡ settled card b s
      below zero s p q = absurd (omega arith)
      below (suc n) s p q = go (below n) (dec_lt s card.inputs)
        where
          go : ((x : ℕ) → x < n → x < signals card → signal_value card a st x ≡ settled card b x) → Dec (s < card.inputs)
              → signal_value card a st s ≡ settled card b s
          go less (yes i) = at_input s i
          go less (no d) =
              let e : card.inputs + (s - card.inputs) ≡ s = omega arith in
              let g : s - card.inputs < card.gates = omega arith in
              rw e at (at_gate (s - card.inputs) g (λ k l. less _ (omega (arith, driver_below card formed (s - card.inputs) k g l)) (omega (arith, driver_below card formed (s - card.inputs) k g l))))
