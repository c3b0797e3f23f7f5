-- Document 01's case Mux on the bench, by computing.
use Prim.Native.Nat.{ℕ, zero, suc}
use native.Mathlib.Omega.{arith}
use mathlib.Core.Path.{◌≡◌, refl, subst}
use mathlib.Core.Bool.{Bool, true, false}
use mathlib.Core.List.{List, [], ◌∷◌, ◌++◌, map}
use lib.ListN.{get_or}
use Rattle.kung.specs.Class.{c1, R, F, S1}
use Rattle.kung.specs.Rule.{NOT, BUFFER, AND, OR, each, some, and_all, or_all, gate_class, gate_value}
use Rattle.circuit.specs.Circuit.{Card, WellFormed, value, values, sources}
use Rattle.circuit.specs.Settled.{settled, class_of}
use Rattle.bench.specs.Bench.{Event, input, pin, begin, needs, flipped, change, pass_on, signal_value, pin_values, gate_output, follow, happen, allowed, step, run, after, Complete}
use Rattle.bench.specs.Claim.{Shows}
use Rattle.bench.proofs.Words.{word}
use Rattle.bench.proofs.Orders.{thin}
use Rattle.bench.proofs.Pulses.{phases}
use Rattle.bench.proofs.Schedule.{inputs_below, pass, in_phases, of_gate, schedule}
use Rattle.bench.proofs.Theorem.{rest, rest_complete, shows}

-- gate 0 is NOT of signal 2, gate 1 AND of 0 and 2, gate 2 AND of 1 and 3, gate 3 OR of 4 and 5
abbrev mux : Card
mux =
    record {
      inputs = 3;
      gates = 4;
      kind = λ g. get_or (NOT ∷ AND ∷ AND ∷ OR ∷ []) g BUFFER;
      pins = λ g. get_or ((2 ∷ []) ∷ (0 ∷ 2 ∷ []) ∷ (1 ∷ 3 ∷ []) ∷ (4 ∷ 5 ∷ []) ∷ []) g [];
    }

-- the bytes 07 and 03
abbrev before : ℕ → Bool
before i = get_or (true ∷ true ∷ true ∷ []) i false

abbrev behind : ℕ → Bool
behind i = get_or (true ∷ true ∷ false ∷ []) i false

abbrev signals_of : List ℕ
signals_of = 0 ∷ 1 ∷ 2 ∷ 3 ∷ 4 ∷ 5 ∷ 6 ∷ []

-- "Classes `01 01 03 02 03 02 05`"
mux_classes : map (class_of mux before behind) signals_of ≡ c1 ∷ c1 ∷ F ∷ R ∷ F ∷ R ∷ S1 ∷ []
unfolding class_of value values sources gate_class and_all or_all each some
mux_classes = refl

-- input 2 falls; the gates follow one after the other, gate 3 first by its pin that falls, then by the one that rises
abbrev mux_order : List Event
mux_order = input 2 ∷ pin 0 0 ∷ pin 1 1 ∷ pin 2 1 ∷ pin 3 0 ∷ pin 3 1 ∷ []

-- the output changes twice, where its ends need no change
mux_pulse : map (after mux before behind mux_order).changes signals_of ≡ 0 ∷ 0 ∷ 1 ∷ 1 ∷ 1 ∷ 1 ∷ 2 ∷ []
unfolding run step allowed happen follow change pass_on gate_output signal_value pin_values flipped settled value values sources gate_value each some
mux_pulse = refl

mux_needs : map (needs mux before behind) signals_of ≡ 0 ∷ 0 ∷ 1 ∷ 1 ∷ 1 ∷ 1 ∷ 0 ∷ []
unfolding needs settled value values sources gate_value each some
mux_needs = refl

-- the theorem's order is this one
mux_order_lem : rest mux before behind begin ≡ mux_order
unfolding rest thin schedule inputs_below of_gate in_phases pass word phases run step allowed happen follow change pass_on gate_output signal_value pin_values flipped settled class_of value values sources gate_class gate_value and_all or_all each some
mux_order_lem = refl

mux_formed : WellFormed mux
mux_formed zero h = (omega arith, tt)
mux_formed (suc zero) h = (omega arith, (omega arith, tt))
mux_formed (suc (suc zero)) h = (omega arith, (omega arith, tt))
mux_formed (suc (suc (suc zero))) h = (omega arith, (omega arith, tt))
mux_formed (suc (suc (suc (suc g)))) h = absurd (omega arith)

-- so it is a complete order, gate after gate, that shows the hazard
mux_shows : Shows mux before behind mux_order
mux_shows = subst (Shows mux before behind) mux_order_lem (shows mux mux_formed before behind)

-- Events that are not allowed change nothing: gate 3's pin before its driver changed, an input whose bits agree, an input's second
-- change, a pin's second, a gate and an input that the card does not have.
abbrev loose : List Event
loose = pin 3 0 ∷ input 0 ∷ input 2 ∷ input 2 ∷ pin 0 0 ∷ pin 0 0 ∷ pin 4 0 ∷ pin 1 2 ∷ input 3 ∷ []

loose_run : map (after mux before behind loose).changes signals_of ≡ 0 ∷ 0 ∷ 1 ∷ 1 ∷ 0 ∷ 0 ∷ 0 ∷ []
unfolding run step allowed happen follow change pass_on gate_output signal_value pin_values flipped settled value values sources gate_value each some
loose_run = refl

-- it is carried on to a complete one
abbrev loose_rest : List Event
loose_rest = pin 1 1 ∷ pin 2 1 ∷ pin 3 0 ∷ pin 3 1 ∷ []

loose_rest_lem : rest mux before behind (after mux before behind loose) ≡ loose_rest
unfolding rest thin schedule inputs_below of_gate in_phases pass word phases run step allowed happen follow change pass_on gate_output signal_value pin_values flipped settled class_of value values sources gate_class gate_value and_all or_all each some
loose_rest_lem = refl

loose_complete : Complete mux before behind (loose ++ loose_rest)
loose_complete = subst (λ es. Complete mux before behind (loose ++ es)) loose_rest_lem (rest_complete mux mux_formed before behind loose)

loose_pulse : map (after mux before behind (loose ++ loose_rest)).changes signals_of ≡ 0 ∷ 0 ∷ 1 ∷ 1 ∷ 1 ∷ 1 ∷ 2 ∷ []
unfolding run step allowed happen follow change pass_on gate_output signal_value pin_values flipped settled value values sources gate_value each some
loose_pulse = refl
