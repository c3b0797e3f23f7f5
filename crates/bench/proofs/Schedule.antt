-- A list of events that brings any state to rest, gate after gate: the inputs, then each gate's pins, first in the phases that show a
-- hazard, then all that is left. Assumes nothing.
use Prim.Native.Nat.{ℕ, zero, suc, ◌+◌, ◌≤◌, ◌<◌, min}
use native.Mathlib.Omega.{arith}
use native.Mathlib.Decide.{ℕ_discrete, dec_lt}
use mathlib.Core.Path.{◌≡◌, refl, ◌∙◌, ap, subst}
use mathlib.Core.Bool.{Bool}
use mathlib.Core.List.{List, [], ◌∷◌, ◌++◌, map}
use lib.ListN.{length}
use Rattle.kung.specs.Class.{Class}
use Rattle.kung.specs.Operation.{op_of}
use Rattle.circuit.specs.Circuit.{Card, WellFormed, Each}
use Rattle.circuit.proofs.Laws.{each_map}
use Rattle.circuit.specs.Settled.{class_of}
use Rattle.bench.specs.Bench.{State, Event, input, pin, driver, change, step, run, turn, GateAfterGate}
use Rattle.bench.proofs.Flips.{alter, alter_le}
use Rattle.bench.proofs.Steps.{input_cases, run_append, run_grow, changes_grow, pin_signal, pin_gate, more_at}
use Rattle.bench.proofs.Kept.{Kept, driver_below, run_kept}
use Rattle.bench.proofs.Settles.{Quiet, quiet_input}
use Rattle.bench.proofs.Words.{word, count_word, pass_word}
use Rattle.bench.proofs.Orders.{each_append, one_turn, turns_append}
use Rattle.bench.proofs.Pulses.{phases}

unfoldable pub inputs_below : ℕ → List Event
inputs_below zero = []
inputs_below (suc n) = inputs_below n ++ (input n ∷ [])

-- each pin of a gate as often as its driver says
unfoldable pub pass : Card → (gate : ℕ) → (ℕ → ℕ) → List Event
pass card g n = map (pin g) (word n (card.pins g))

module _ (card : Card) (a b : ℕ → Bool) where
  unfoldable pub in_phases : ℕ → List (Class → ℕ) → List Event
  in_phases g [] = []
  in_phases g (f ∷ fs) = pass card g (λ x. f (class_of card a b x)) ++ in_phases g fs

  unfoldable pub of_gate : State → ℕ → List Event
  of_gate st g = in_phases g (phases (op_of (card.kind g))) ++ pass card g st.changes

  -- the inputs, and the first n gates
  unfoldable pub schedule : State → ℕ → List Event
  schedule st zero = inputs_below card.inputs
  schedule st (suc n) = schedule st n ++ of_gate (run card a b st (schedule st n)) n

-- the turns of these events
pins_turn : (g : ℕ) (w : List ℕ) → Each (λ e. turn e ≡ suc g) (map (pin g) w)
pins_turn g [] = tt
pins_turn g (k ∷ w) = (refl, pins_turn g w)

pub pass_turn : (card : Card) (g : ℕ) (n : ℕ → ℕ) → Each (λ e. turn e ≡ suc g) (pass card g n)
unfolding pass
pass_turn card g n = pins_turn g (word n (card.pins g))

pub inputs_turn : (n : ℕ) → Each (λ e. turn e ≡ 0) (inputs_below n)
unfolding inputs_below
inputs_turn zero = tt
inputs_turn (suc n) = each_append (λ e. turn e ≡ 0) (inputs_below n) (input n ∷ []) (inputs_turn n) (refl, tt)

module _ (card : Card) (a b : ℕ → Bool) where
  phases_turn : (g : ℕ) (fs : List (Class → ℕ)) → Each (λ e. turn e ≡ suc g) (in_phases card a b g fs)
  unfolding in_phases
  phases_turn g [] = tt
  phases_turn g (f ∷ fs) =
      each_append (λ e. turn e ≡ suc g) (pass card g (λ x. f (class_of card a b x))) (in_phases card a b g fs) (pass_turn card g _) (phases_turn g fs)

  pub gate_turn : (st : State) (g : ℕ) → Each (λ e. turn e ≡ suc g) (of_gate card a b st g)
  unfolding of_gate
  gate_turn st g =
      each_append (λ e. turn e ≡ suc g) (in_phases card a b g (phases (op_of (card.kind g)))) (pass card g st.changes) (phases_turn g _) (pass_turn card g _)

  schedule_before : (st : State) (n : ℕ) → Each (λ e. turn e ≤ n) (schedule card a b st n)
  unfolding schedule
  schedule_before st zero = each_map (λ e p. omega arith) (inputs_below card.inputs) (inputs_turn card.inputs)
  schedule_before st (suc n) =
      each_append (λ e. turn e ≤ suc n) (schedule card a b st n) (of_gate card a b (run card a b st (schedule card a b st n)) n)
      (each_map (λ e p. omega arith) (schedule card a b st n) (schedule_before st n))
      (each_map (λ e p. omega arith) (of_gate card a b (run card a b st (schedule card a b st n)) n) (gate_turn (run card a b st (schedule card a b st n)) n))

  pub schedule_turns : (st : State) (n : ℕ) → GateAfterGate (schedule card a b st n)
  unfolding schedule
  schedule_turns st zero = one_turn 0 (inputs_below card.inputs) (inputs_turn card.inputs)
  schedule_turns st (suc n) =
      turns_append n (schedule card a b st n) next (schedule_before st n) (each_map (λ e p. omega arith) next (gate_turn _ n)) (schedule_turns st n)
      (one_turn (suc n) next (gate_turn _ n))
    where
      next : List Event
      next = of_gate card a b (run card a b st (schedule card a b st n)) n

  -- what each event of a gate's pins keeps, a list of them keeps
  run_turn : (P : State → Type 0) (g : ℕ) → ((st : State) (k : ℕ) → P st → P (step card a b st (pin g k))) → (es : List Event)
      → Each (λ e. turn e ≡ suc g) es → (st : State) → P st → P (run card a b st es)
  unfolding run
  run_turn P g each [] h st p = p
  run_turn P g each (input i ∷ es) h st p = absurd (omega (arith, h.0))
  run_turn P g each (pin g' k ∷ es) h st p =
      let e : g ≡ g' = omega (arith, h.0) in
      run_turn P g each es h.1 (step card a b st (pin g' k)) (subst (λ x. P (step card a b st (pin x k))) e (each st k p))

  -- so the other signals and the other gates' pins stay
  turn_signal : (g s : ℕ) → (s ≡ card.inputs + g → ⊥) → (es : List Event) → Each (λ e. turn e ≡ suc g) es → (st : State)
      → (run card a b st es).changes s ≡ st.changes s
  turn_signal g s d es h st = run_turn (λ t. t.changes s ≡ st.changes s) g (λ t k p. pin_signal card a b t g k s d ∙ p) es h st refl

  pub turn_gate : (g h : ℕ) → (h ≡ g → ⊥) → (es : List Event) → Each (λ e. turn e ≡ suc g) es → (st : State)
      → (run card a b st es).passed h ≡ st.passed h
  turn_gate g h d es t st = run_turn (λ u. u.passed h ≡ st.passed h) g (λ u k p. pin_gate card a b u g k h d ∙ p) es t st refl

  -- after the inputs' events each has changed that has to
  inputs_run : (n : ℕ) → n ≤ card.inputs → (st : State) (i : ℕ) → i < n → alter (a i) (b i) ≤ (run card a b st (inputs_below n)).changes i
  unfolding inputs_below run change
  inputs_run zero m st i h = absurd (omega arith)
  inputs_run (suc n) m st i h = rw (run_append card a b (inputs_below n) (input n ∷ []) st) (go (inputs_run n (omega arith) st i) (dec_lt i n))
    where
      st' : State
      st' = run card a b st (inputs_below n)

      go : (i < n → alter (a i) (b i) ≤ st'.changes i) → Dec (i < n) → alter (a i) (b i) ≤ (step card a b st' (input n)).changes i
      go less (yes l) = omega (arith, less l, changes_grow card a b st' (input n) i)
      go less (no d) =
          let e : i ≡ n = omega arith in
          rw e (input_cases card a b (λ t. alter (a n) (b n) ≤ t.changes n) st' n (λ p. quiet_input card a b st' n p (omega arith))
          (λ p q r. omega (arith, alter_le (a n) (b n), more_at st'.changes n n refl)))

module _ (card : Card) (formed : WellFormed card) (a b : ℕ → Bool) where
  -- a pass brings each pin as far as it says, up to what its driver made
  pub pass_run : (st : State) (g k : ℕ) (n : ℕ → ℕ) → Kept card a b st → g < card.gates → k < length (card.pins g)
      → (run card a b st (pass card g n)).passed g k ≡ min (st.passed g k + n (driver card g k)) (st.changes (driver card g k))
  unfolding pass
  pass_run st g k n kept h l =
      pass_word card formed a b (word n (card.pins g)) st g k kept h l
      ∙ ap (λ c. min (st.passed g k + c) (st.changes (driver card g k))) (count_word n (card.pins g) k l)

  pub turn_driver : (g k : ℕ) → g < card.gates → k < length (card.pins g) → (es : List Event) → Each (λ e. turn e ≡ suc g) es → (st : State)
      → (run card a b st es).changes (driver card g k) ≡ st.changes (driver card g k)
  turn_driver g k h l es t st = turn_signal card a b g (driver card g k) (λ e. omega (arith, driver_below card formed g k h l)) es t st

  -- after a gate's events its pins have passed on all
  gate_run : (st : State) (g k : ℕ) → Kept card a b st → g < card.gates → k < length (card.pins g)
      → (run card a b st (of_gate card a b st g)).changes (driver card g k) ≤ (run card a b st (of_gate card a b st g)).passed g k
  unfolding of_gate
  gate_run st g k kept h l =
      rw (run_append card a b shows rest st)
      (omega (
        arith,
        turn_driver g k h l shows (phases_turn card a b g _) st,
        turn_driver g k h l rest (pass_turn card g st.changes) st',
        pass_run st' g k st.changes (run_kept card formed a b shows st kept) h l,
      ))
    where
      shows : List Event
      shows = in_phases card a b g (phases (op_of (card.kind g)))

      rest : List Event
      rest = pass card g st.changes

      st' : State
      st' = run card a b st shows

  -- after the events of the inputs and the first n gates their pins have passed on all
  gates_run : (n : ℕ) → n ≤ card.gates → (st : State) → Kept card a b st → (g k : ℕ) → g < n → k < length (card.pins g)
      → (run card a b st (schedule card a b st n)).changes (driver card g k) ≤ (run card a b st (schedule card a b st n)).passed g k
  unfolding schedule
  gates_run zero m st kept g k h l = absurd (omega arith)
  gates_run (suc n) m st kept g k h l =
      rw (run_append card a b (schedule card a b st n) (of_gate card a b st' n) st) (go (gates_run n (omega arith) st kept g k) (ℕ_discrete g n))
    where
      st' : State
      st' = run card a b st (schedule card a b st n)

      go : (g < n → k < length (card.pins g) → st'.changes (driver card g k) ≤ st'.passed g k) → Dec (g ≡ n)
          → (run card a b st' (of_gate card a b st' n)).changes (driver card g k) ≤ (run card a b st' (of_gate card a b st' n)).passed g k
      go less (yes e) = subst (λ n. (run card a b st' (of_gate card a b st' n)).changes (driver card g k) ≤ (run card a b st' (of_gate card a b st' n)).passed g k) e (gate_run st' g k (run_kept card formed a b _ st kept) (omega arith) l)
      go less (no d) =
          rw (
            turn_gate card a b n g d (of_gate card a b st' n) (gate_turn card a b st' n) st',
            turn_signal card a b n (driver card g k) (λ e. omega (arith, driver_below card formed g k (omega arith) l)) (of_gate card a b st' n) (gate_turn card a b st' n) st',
          )
          (less (omega arith) l)

  pub inputs_done : (st : State) (n i : ℕ) → i < card.inputs → alter (a i) (b i) ≤ (run card a b st (schedule card a b st n)).changes i
  unfolding schedule
  inputs_done st zero i h = inputs_run card a b card.inputs (omega arith) st i h
  inputs_done st (suc n) i h =
      rw (run_append card a b (schedule card a b st n) (of_gate card a b (run card a b st (schedule card a b st n)) n) st)
      (omega (arith, inputs_done st n i h, run_grow card a b (run card a b st (schedule card a b st n)) (of_gate card a b (run card a b st (schedule card a b st n)) n) i))

  pub schedule_quiet : (st : State) → Kept card a b st → Quiet card a b (run card a b st (schedule card a b st card.gates))
  schedule_quiet st kept =
      record {
        inputs_changed = λ i h. inputs_done st card.gates i h;
        pins_passed = λ g k h l. gates_run card.gates (omega arith) st kept g k h l;
      }
