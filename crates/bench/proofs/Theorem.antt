-- The claim holds of every card whose pins stand below their gates, and of every two vectors. Assumes nothing.
use Prim.Native.Nat.{ℕ, ◌+◌, ◌≤◌, ◌<◌}
use native.Mathlib.Omega.{arith}
use mathlib.Core.Path.{◌≡◌}
use mathlib.Core.Bool.{Bool, false}
use mathlib.Core.List.{List, [], ◌++◌}
use Rattle.kung.specs.Class.{clean}
use Rattle.circuit.specs.Circuit.{Card, WellFormed, signals}
use Rattle.circuit.specs.Settled.{class_of}
use Rattle.bench.specs.Bench.{State, Event, begin, needs, run, after, AllowedFrom, Complete, GateAfterGate}
use Rattle.bench.specs.Claim.{Shows, Claim}
use Rattle.bench.proofs.Ends.{needs_is}
use Rattle.bench.proofs.Steps.{run_append}
use Rattle.bench.proofs.Kept.{kept}
use Rattle.bench.proofs.Settles.{complete_quiet, quiet_complete, quiet_settled}
use Rattle.bench.proofs.Orders.{thin, thin_allowed, thin_run, thin_turns}
use Rattle.bench.proofs.Schedule.{schedule, schedule_turns, schedule_quiet}
use Rattle.bench.proofs.Hazard.{shows_all}

module _ (card : Card) (first second : ℕ → Bool) where
  -- the allowed events that bring a state to rest, gate after gate
  unfoldable pub rest : State → List Event
  rest st = thin card first second st (schedule card first second st card.gates)

  rest_run : (st : State) → run card first second st (rest st) ≡ run card first second st (schedule card first second st card.gates)
  unfolding rest
  rest_run st = thin_run card first second (schedule card first second st card.gates) st

  rest_allowed : (st : State) → AllowedFrom card first second st (rest st)
  unfolding rest
  rest_allowed st = thin_allowed card first second (schedule card first second st card.gates) st

  rest_turns : (st : State) → GateAfterGate (rest st)
  unfolding rest
  rest_turns st =
      thin_turns card first second (schedule card first second st card.gates) st (schedule_turns card first second st card.gates)

module _ (card : Card) (formed : WellFormed card) (first second : ℕ → Bool) where
  pub rest_complete : (es : List Event) → Complete card first second (es ++ rest card first second (after card first second es))
  rest_complete es =
      quiet_complete card first second (after card first second (es ++ rest card first second (after card first second es)))
      (rw (run_append card first second es (rest card first second (after card first second es)) begin, rest_run)
      (schedule_quiet card formed first second (after card first second es) (kept card formed first second es)))

  -- each signal of a hazardous class has changed two times more
  twice : (s : ℕ) → s < signals card → clean (class_of card first second s) ≡ false
      → needs card first second s + 2 ≤ (after card first second (rest card first second begin)).changes s
  twice s h hazardous =
      rw (rest_run card first second begin, needs_is card formed first second s)
      (rw hazardous at (shows_all card formed first second card.gates (omega arith) s h))

  -- one order shows every hazard
  pub shows : Shows card first second (rest card first second begin)
  unfolding run
  shows =
      record {
        is_order = rest_allowed card first second begin;
        gate_after_gate = rest_turns card first second begin;
        complete = rest_complete [];
        twice_more = twice;
      }

pub holds : (card : Card) → WellFormed card → (first second : ℕ → Bool) → Claim card first second
holds card formed first second =
    record {
      carried_on =
          λ es. (
            rest card first second (after card first second es),
            rest_allowed card first second (after card first second es),
            rest_complete card formed first second es,
          );
      settles =
          λ es complete.
          quiet_settled card formed first second (after card first second es) (kept card formed first second es)
          (complete_quiet card first second (after card first second es) complete);
      stays_clean = λ es. (kept card formed first second es).stays;
      hazard = (rest card first second begin, shows card formed first second);
    }
