-- What every event keeps: no pin passes on more than its driver made, each gate's signal follows its pins, and a signal of a clean class
-- changes at most as often as its ends need. Assumes nothing.
use Prim.Native.Nat.{ℕ, zero, suc, ◌+◌, ◌≤◌, ◌<◌}
use native.Mathlib.Omega.{arith}
use native.Mathlib.Decide.{ℕ_discrete}
use mathlib.Core.Path.{◌≡◌, refl, sym, ◌∙◌, ap}
use mathlib.Core.Bool.{Bool, true, false}
use mathlib.Core.List.{List, [], ◌∷◌, map}
use lib.Dec.{T}
use lib.ListN.{length, get_or}
use Rattle.kung.specs.Class.{clean}
use Rattle.kung.specs.Rule.{gate_value}
use Rattle.kung.specs.Operation.{Op, op_of, inverts, join_all, value_all}
use Rattle.kung.proofs.Laws.{join_all_nil, join_all_cons, value_all_cons, gate_class_op, gate_value_op}
use Rattle.circuit.specs.Circuit.{Card, WellFormed, Each, signals}
use Rattle.circuit.specs.Settled.{settled, class_of}
use Rattle.bench.specs.Bench.{State, Event, input, pin, begin, driver, needs, differ, flipped, one_more, change, pass_on, signal_value, pin_values, gate_output, step, run}
use Rattle.bench.proofs.Flips.{agree, opposed}
use Rattle.bench.proofs.Clean.{need, fits, fits_unit, fits_join, fits_invert, fits_pin, fits_once}
use Rattle.circuit.proofs.Ends.{settled_gate, class_gate, start_is}
use Rattle.bench.proofs.Ends.{needs_is, needs_input}
use Rattle.bench.proofs.Steps.{input_cases, pin_cases, run_keeps, more_at, more_off, more_le, pass_at, pass_place, pass_gate}

-- what holds of each element holds of the one at a place
each_at : {A : Type 0} (P : A → Type 0) (xs : List A) → Each P xs → (n : ℕ) (d : A) → n < length xs → P (get_or xs n d)
each_at P [] h n d l = absurd (omega arith)
each_at P (x ∷ xs) h zero d l = h.0
each_at P (x ∷ xs) h (suc n) d l = each_at P xs h.1 n d (omega arith)

module _ (card : Card) (a b : ℕ → Bool) where
  pub record Kept (st : State) : Type 0 where
    pub upto : (g k : ℕ) → g < card.gates → k < length (card.pins g) → st.passed g k ≤ st.changes (driver card g k)
    pub follows : (g : ℕ) → g < card.gates → gate_output card a st g ≡ signal_value card a st (card.inputs + g)
    pub stays : (s : ℕ) → s < signals card → clean (class_of card a b s) ≡ true → st.changes s ≤ needs card a b s

-- pins that have the values w of their drivers
pub pins_are : (card : Card) (a w : ℕ → Bool) (xs : List ℕ) (m : ℕ → ℕ)
    → ((k : ℕ) → k < length xs → flipped (m k) (settled card a (get_or xs k 0)) ≡ w (get_or xs k 0)) → pin_values card a m xs ≡ map w xs
unfolding pin_values
pins_are card a w [] m same = refl
pins_are card a w (x ∷ xs) m same = λ i. same 0 (omega arith) i ∷ pins_are card a w xs (λ k. m (suc k)) (λ k l. same (suc k) (omega arith)) i

pub driver_below : (card : Card) → WellFormed card → (g k : ℕ) → g < card.gates → k < length (card.pins g) → driver card g k < card.inputs + g
driver_below card formed g k h l = each_at (λ x. x < card.inputs + g) (card.pins g) (formed g h) k 0 l

module _ (card : Card) (formed : WellFormed card) (a b : ℕ → Bool) where
  -- pins that pass on more changes, but no more than a clean driver's ends need, fit the gate's class
  fits_pins : (o : Op) (xs : List ℕ) (m n : ℕ → ℕ) → ((k : ℕ) → k < length xs → m k ≤ n k)
      → ((k : ℕ) → k < length xs → clean (class_of card a b (get_or xs k 0)) ≡ true → n k ≤ need (class_of card a b (get_or xs k 0)))
      → T (fits (join_all o (map (class_of card a b) xs)) (value_all o (pin_values card a m xs)) (value_all o (pin_values card a n xs)))
  unfolding pin_values
  fits_pins o [] m n grow most = rw (join_all_nil o) (fits_unit o)
  fits_pins o (x ∷ xs) m n grow most =
      rw (join_all_cons, value_all_cons, value_all_cons, start_is card formed a b x)
      (fits_join o (class_of card a b x) (join_all o (map (class_of card a b) xs)) _ _ _ _
      (fits_pin (class_of card a b x) (m 0) (n 0) (grow 0 (omega arith)) (most 0 (omega arith)))
      (fits_pins o xs (λ k. m (suc k)) (λ k. n (suc k)) (λ k h. grow (suc k) (omega arith)) (λ k h. most (suc k) (omega arith))))

  fits_gate : (g : ℕ) → g < card.gates → (m n : ℕ → ℕ) → ((k : ℕ) → k < length (card.pins g) → m k ≤ n k)
      → ((k : ℕ) → k < length (card.pins g) → clean (class_of card a b (driver card g k)) ≡ true → n k ≤ need (class_of card a b (driver card g k)))
      → T (fits (class_of card a b (card.inputs + g)) (gate_value (card.kind g) (pin_values card a m (card.pins g)))
      (gate_value (card.kind g) (pin_values card a n (card.pins g))))
  fits_gate g h m n grow most =
      rw (class_gate card formed a b g h, gate_class_op, gate_value_op, gate_value_op)
      (fits_invert (inverts (card.kind g)) (join_all (op_of (card.kind g)) (map (class_of card a b) (card.pins g))) _ _
      (fits_pins (op_of (card.kind g)) (card.pins g) m n grow most))

  -- a pin that has passed on fewer changes than its driver made may pass on one more
  pass_upto : (st : State) (g k : ℕ) → Kept card a b st → st.passed g k < st.changes (driver card g k) → (h j : ℕ) → h < card.gates
      → j < length (card.pins h) → (pass_on st g k).passed h j ≤ st.changes (driver card h j)
  pass_upto st g k kept less h j below l = gate (ℕ_discrete h g)
    where
      place : Dec (j ≡ k) → h ≡ g → (pass_on st g k).passed h j ≤ st.changes (driver card h j)
      place (yes e) e' = rw (e, e', pass_at) less
      place (no d) e' = rw (e', pass_place st g k j d, ← e') (kept.upto h j below l)

      gate : Dec (h ≡ g) → (pass_on st g k).passed h j ≤ st.changes (driver card h j)
      gate (yes e) = place (ℕ_discrete j k) e
      gate (no d) = rw (pass_gate st g k h d) (kept.upto h j below l)

  pass_grow : (st : State) (g k j : ℕ) → st.passed g j ≤ (pass_on st g k).passed g j
  pass_grow st g k j = go (ℕ_discrete j k)
    where
      go : Dec (j ≡ k) → st.passed g j ≤ (pass_on st g k).passed g j
      go (yes e) = rw (e, pass_at) (omega arith)
      go (no d) = rw (pass_place st g k j d) (omega arith)

  -- the signal's change within a pin's event, where its class is clean
  once : (st : State) (g k : ℕ) → Kept card a b st → g < card.gates → k < length (card.pins g) → st.passed g k < st.changes (driver card g k)
      → clean (class_of card a b (card.inputs + g)) ≡ true
      → differ (gate_output card a (pass_on st g k) g) (signal_value card a st (card.inputs + g)) ≡ true
      → suc (st.changes (card.inputs + g)) ≤ needs card a b (card.inputs + g)
  unfolding gate_output signal_value
  once st g k kept h l less c d =
      rw (needs_is card formed a b (card.inputs + g))
      (fits_once (class_of card a b (card.inputs + g)) (st.changes (card.inputs + g)) (gate_output card a (pass_on st g k) g) c
      (rw (← needs_is card formed a b (card.inputs + g)) (kept.stays (card.inputs + g) (omega arith) c))
      (rw (← start_is card formed a b (card.inputs + g), ← kept.follows g h) (fits_gate g h (st.passed g) ((pass_on st g k).passed g) (λ j l. pass_grow st g k j) most))
      (rw (← start_is card formed a b (card.inputs + g)) d))
    where
      most : (j : ℕ) → j < length (card.pins g) → clean (class_of card a b (driver card g j)) ≡ true
          → (pass_on st g k).passed g j ≤ need (class_of card a b (driver card g j))
      most j l c =
          rw (← needs_is card formed a b (driver card g j))
          (omega (arith, pass_upto st g k kept less g j h l, kept.stays (driver card g j) (omega (arith, driver_below card formed g j h l)) c))

  begin_kept : Kept card a b begin
  unfolding gate_output signal_value flipped
  begin_kept =
      record {
        upto = λ g k h l. omega arith;
        follows = λ g h. ap (gate_value (card.kind g)) (pins_are card a (settled card a) (card.pins g) (λ k. 0) (λ k l. refl)) ∙ sym (settled_gate card formed a g h);
        stays = λ s h c. omega arith;
      }

  input_kept : (st : State) (i : ℕ) → Kept card a b st → i < card.inputs → differ (a i) (b i) ≡ true → st.changes i ≡ 0 → Kept card a b (change st i)
  unfolding change gate_output signal_value
  input_kept st i kept h d e =
      record {
        upto = λ g k p l. omega (arith, kept.upto g k p l, more_le st.changes i (driver card g k));
        follows = λ g p. rw (more_off st.changes i (card.inputs + g) (λ q. omega arith)) (kept.follows g p);
        stays = λ s p c. at s p c (ℕ_discrete s i);
      }
    where
      at : (s : ℕ) → s < signals card → clean (class_of card a b s) ≡ true → Dec (s ≡ i) → one_more st.changes i s ≤ needs card a b s
      at s p c (yes q) = rw (more_at st.changes i s q, q, e, needs_input card formed a b i h, d) (omega arith)
      at s p c (no q) = rw (more_off st.changes i s q) (kept.stays s p c)

  pass_kept : (st : State) (g k : ℕ) → Kept card a b st → st.passed g k < st.changes (driver card g k)
      → differ (gate_output card a (pass_on st g k) g) (signal_value card a (pass_on st g k) (card.inputs + g)) ≡ false → Kept card a b (pass_on st g k)
  unfolding pass_on gate_output signal_value
  pass_kept st g k kept less e =
      record {
        upto = λ h j p l. pass_upto st g k kept less h j p l;
        follows = λ h p. at h p (ℕ_discrete h g);
        stays = λ s p c. kept.stays s p c;
      }
    where
      at : (h : ℕ) → h < card.gates → Dec (h ≡ g) → gate_output card a (pass_on st g k) h ≡ signal_value card a (pass_on st g k) (card.inputs + h)
      at h p (yes q) = rw q (agree _ _ e)
      at h p (no q) = rw (pass_gate st g k h q) (kept.follows h p)

  change_kept : (st : State) (g k : ℕ) → Kept card a b st → g < card.gates → k < length (card.pins g) → st.passed g k < st.changes (driver card g k)
      → differ (gate_output card a (pass_on st g k) g) (signal_value card a (pass_on st g k) (card.inputs + g)) ≡ true
      → Kept card a b (change (pass_on st g k) (card.inputs + g))
  unfolding change pass_on gate_output signal_value flipped
  change_kept st g k kept h l less e =
      record {
        upto = λ h j p l. omega (arith, pass_upto st g k kept less h j p l, more_le st.changes (card.inputs + g) (driver card h j));
        follows = λ h p. at h p (ℕ_discrete h g);
        stays = λ s p c. most s p c (ℕ_discrete s (card.inputs + g));
      }
    where
      at : (h : ℕ) → h < card.gates → Dec (h ≡ g)
          → gate_output card a (change (pass_on st g k) (card.inputs + g)) h ≡ signal_value card a (change (pass_on st g k) (card.inputs + g)) (card.inputs + h)
      at h p (yes q) = rw (q, more_at st.changes (card.inputs + g) (card.inputs + g) refl) (opposed _ _ e)
      at h p (no q) = rw (pass_gate st g k h q, more_off st.changes (card.inputs + g) (card.inputs + h) (λ r. q (omega arith))) (kept.follows h p)

      most : (s : ℕ) → s < signals card → clean (class_of card a b s) ≡ true → Dec (s ≡ card.inputs + g)
          → one_more st.changes (card.inputs + g) s ≤ needs card a b s
      most s p c (yes q) = rw (more_at st.changes (card.inputs + g) s q, q) (once st g k kept h l less (rw (← q) c) e)
      most s p c (no q) = rw (more_off st.changes (card.inputs + g) s q) (kept.stays s p c)

  pub step_kept : (st : State) (e : Event) → Kept card a b st → Kept card a b (step card a b st e)
  step_kept st (input i) kept = input_cases card a b (Kept card a b) st i (λ e. kept) (λ h d e. input_kept st i kept h d e)
  step_kept st (pin g k) kept =
      pin_cases card a b (Kept card a b) st g k (λ e. kept) (λ h l less. (λ e. pass_kept st g k kept less e, λ e. change_kept st g k kept h l less e))

  pub run_kept : (es : List Event) (st : State) → Kept card a b st → Kept card a b (run card a b st es)
  run_kept es st h = run_keeps card a b (Kept card a b) step_kept es st h

  pub kept : (es : List Event) → Kept card a b (run card a b begin es)
  kept es = run_kept es begin begin_kept
