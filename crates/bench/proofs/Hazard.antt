-- The schedule from the beginning shows every hazard. Assumes nothing.
use Prim.Native.Nat.{ℕ, zero, suc, ◌+◌, ◌≤◌, ◌<◌}
use native.Mathlib.Omega.{arith}
use native.Mathlib.Decide.{dec_lt}
use mathlib.Core.Path.{◌≡◌, refl, sym, ◌∙◌, ap, subst₂}
use mathlib.Core.Bool.{Bool}
use mathlib.Core.List.{List, [], ◌∷◌, map, map-map}
use lib.ListN.{length}
use Rattle.kung.specs.Class.{Class, start}
use Rattle.kung.specs.Rule.{gate_value}
use Rattle.kung.specs.Operation.{Op, op_of}
use Rattle.circuit.specs.Circuit.{Card, WellFormed, Each}
use Rattle.circuit.specs.Settled.{settled, class_of}
use Rattle.bench.specs.Bench.{State, Event, input, pin, begin, driver, flipped, signal_value, gate_output, step, run, turn}
use Rattle.bench.proofs.Flips.{alter, alter_flipped}
use Rattle.circuit.proofs.Ends.{class_gate, start_is}
use Rattle.bench.proofs.Ends.{needs_is, needs_input, input_clean}
use Rattle.bench.proofs.Steps.{run_append, run_grow, input_pins}
use Rattle.bench.proofs.Kept.{Kept, driver_below, pins_are, run_kept, kept}
use Rattle.bench.proofs.Pulses.{least, phases, total, total_least, alternations, gate_level, shown_gate}
use Rattle.bench.proofs.Schedule.{inputs_below, inputs_turn, pass, in_phases, of_gate, schedule, pass_turn, gate_turn, turn_gate, pass_run, turn_driver, inputs_done}

module _ (card : Card) (a b : ℕ → Bool) where
  inputs_pins : (es : List Event) → Each (λ e. turn e ≡ 0) es → (st : State) → (run card a b st es).passed ≡ st.passed
  unfolding run
  inputs_pins [] h st = refl
  inputs_pins (input i ∷ es) h st = inputs_pins es h.1 (step card a b st (input i)) ∙ input_pins card a b st i
  inputs_pins (pin g k ∷ es) h st = absurd (omega (arith, h.0))

  -- a gate's pins have passed on nothing before its turn
  fresh : (n g k : ℕ) → n ≤ g → (run card a b begin (schedule card a b begin n)).passed g k ≡ 0
  unfolding schedule
  fresh zero g k h = rw (inputs_pins (inputs_below card.inputs) (inputs_turn card.inputs) begin)
  fresh (suc n) g k h =
      rw (
        run_append card a b (schedule card a b begin n) (of_gate card a b st' n) begin,
        turn_gate card a b n g (λ e. omega arith) (of_gate card a b st' n) (gate_turn card a b st' n) st',
      )
      (fresh n g k (omega arith))
    where
      st' : State
      st' = run card a b begin (schedule card a b begin n)

module _ (card : Card) (formed : WellFormed card) (a b : ℕ → Bool) where
  -- the pins of a gate are at a position by their drivers' classes
  abbrev At : State → ℕ → (Class → ℕ) → Type 0
  At st g p = (k : ℕ) → k < length (card.pins g) → st.passed g k ≡ p (class_of card a b (driver card g k))

  -- the classes of a gate's pins
  abbrev classes : ℕ → List Class
  classes g = map (class_of card a b) (card.pins g)

  level_at : (st : State) (g : ℕ) (p : Class → ℕ) → At st g p → gate_output card a st g ≡ gate_level (card.kind g) (classes g) p
  unfolding gate_output
  level_at st g p at =
      ap (gate_value (card.kind g))
      (pins_are card a (λ x. flipped (p (class_of card a b x)) (start (class_of card a b x))) (card.pins g) (st.passed g)
      (λ k l. rw (at k l, start_is card formed a b (driver card g k)))
      ∙ sym (map-map (λ k. flipped (p k) (start k)) (class_of card a b) (card.pins g)))

  -- from one position of a gate's pins to another the gate's signal changes if its level does
  level_changes : (st : State) (es : List Event) (g : ℕ) (p q : Class → ℕ) → Kept card a b st → g < card.gates → At st g p → At (run card a b st es) g q
      → st.changes (card.inputs + g) + alter (gate_level (card.kind g) (classes g) p) (gate_level (card.kind g) (classes g) q)
      ≤ (run card a b st es).changes (card.inputs + g)
  unfolding signal_value
  level_changes st es g p q kept h at at' =
      subst₂ (λ v w. st.changes (card.inputs + g) + alter v w ≤ (run card a b st es).changes (card.inputs + g))
      (sym (kept.follows g h) ∙ level_at st g p at)
      (sym ((run_kept card formed a b es st kept).follows g h) ∙ level_at (run card a b st es) g q at')
      (alter_flipped (settled card a (card.inputs + g)) (st.changes (card.inputs + g)) ((run card a b st es).changes (card.inputs + g))
      (run_grow card a b st es (card.inputs + g)))

  -- a gate's signal changes at least as often as its level in the phases
  phases_run : (fs : List (Class → ℕ)) (p : Class → ℕ) (st : State) (g : ℕ) → Kept card a b st → g < card.gates → At st g p
      → ((k : ℕ) → k < length (card.pins g) → p (class_of card a b (driver card g k)) + total fs (class_of card a b (driver card g k)) ≤ st.changes (driver card g k))
      → st.changes (card.inputs + g) + alternations (gate_level (card.kind g) (classes g)) p fs
      ≤ (run card a b st (in_phases card a b g fs)).changes (card.inputs + g)
  unfolding alternations in_phases total run
  phases_run [] p st g kept h at room = omega arith
  phases_run (f ∷ fs) p st g kept h at room =
      rw (run_append card a b events (in_phases card a b g fs) st)
      (omega (arith, level_changes st events g p p' kept h at at', phases_run fs p' st' g kept' h at' room'))
    where
      events : List Event
      events = pass card g (λ x. f (class_of card a b x))

      st' : State
      st' = run card a b st events

      p' : Class → ℕ
      p' k = p k + f k

      kept' : Kept card a b st'
      kept' = run_kept card formed a b events st kept

      at' : At st' g p'
      at' k l = omega (arith, pass_run card formed a b st g k (λ x. f (class_of card a b x)) kept h l, at k l, room k l)

      room' : (k : ℕ) → k < length (card.pins g) → p' (class_of card a b (driver card g k)) + total fs (class_of card a b (driver card g k)) ≤ st'.changes (driver card g k)
      room' k l = omega (arith, turn_driver card formed a b g k h l events (pass_turn card g _) st, room k l)

  -- a gate whose drivers show their hazards shows its own
  gate_shows : (st : State) (g : ℕ) → Kept card a b st → g < card.gates → ((k : ℕ) → st.passed g k ≡ 0)
      → ((k : ℕ) → k < length (card.pins g) → least (class_of card a b (driver card g k)) ≤ st.changes (driver card g k))
      → least (class_of card a b (card.inputs + g)) ≤ (run card a b st (of_gate card a b st g)).changes (card.inputs + g)
  unfolding of_gate
  gate_shows st g kept h none rich =
      rw (run_append card a b events (pass card g st.changes) st, class_gate card formed a b g h)
      (omega (
        arith,
        shown_gate (card.kind g) (classes g),
        phases_run (phases o) (λ k. 0) st g kept h (λ k l. none k) room,
        run_grow card a b (run card a b st events) (pass card g st.changes) (card.inputs + g),
      ))
    where
      o : Op
      o = op_of (card.kind g)

      events : List Event
      events = in_phases card a b g (phases o)

      room : (k : ℕ) → k < length (card.pins g) → 0 + total (phases o) (class_of card a b (driver card g k)) ≤ st.changes (driver card g k)
      room k l = omega (arith, total_least o (class_of card a b (driver card g k)), rich k l)

  pub shows_all : (n : ℕ) → n ≤ card.gates → (s : ℕ) → s < card.inputs + n
      → least (class_of card a b s) ≤ (run card a b begin (schedule card a b begin n)).changes s
  unfolding schedule
  shows_all zero m s h =
      rw (input_clean card formed a b s h', ← needs_is card formed a b s)
      (omega (arith, needs_input card formed a b s h', inputs_done card formed a b begin zero s h'))
    where
      h' : s < card.inputs
      h' = omega arith
  shows_all (suc n) m s h =
      rw (run_append card a b (schedule card a b begin n) (of_gate card a b st' n) begin) (go (shows_all n (omega arith)) (dec_lt s (card.inputs + n)))
    where
      st' : State
      st' = run card a b begin (schedule card a b begin n)

      go : ((x : ℕ) → x < card.inputs + n → least (class_of card a b x) ≤ st'.changes x) → Dec (s < card.inputs + n)
          → least (class_of card a b s) ≤ (run card a b st' (of_gate card a b st' n)).changes s
      go less (yes l) = omega (arith, less s l, run_grow card a b st' (of_gate card a b st' n) s)
      go less (no d) =
          let e : s ≡ card.inputs + n = omega arith in
          rw e (gate_shows st' n (kept card formed a b (schedule card a b begin n)) (omega arith) (λ k. fresh card a b n n k (omega arith))
          (λ k l. less (driver card n k) (driver_below card formed n k (omega arith) l)))
