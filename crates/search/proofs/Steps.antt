-- The steps of a visit, as equations for the code's loop. Assumes nothing.
use Prim.Native.Nat.{ℕ, zero, suc, ◌<◌}
use native.Mathlib.Omega.{arith}
use mathlib.Core.Path.{◌≡◌, sym, ◌∙◌}
use mathlib.Core.List.{List, [], ◌∷◌}
use mathlib.Core.Option.{none, some}
use lib.Dec.{ltb, leb-suc-zero, leb-suc-suc}
use lib.ListN.{length, drop, get_or}
use borrow.Author.Tests.{lt-ltb}
use lib.Seq.{drop-cons}
use Rattle.kung.specs.Class.{Class}
use Rattle.kung.specs.Rule.{Kind}
use Rattle.kung.specs.Operation.{op_of, inverts}
use Rattle.kung.specs.Sets.{wanted_for}
use Rattle.circuit.specs.Circuit.{Source, gate}
use Rattle.search.specs.Search.{kept, put, possible_of, pins_left, Waiting, waits, Outcome, checks, Visit, react, take_pin, take_pins, visit}

-- whether pins are left
pub left_is : (i : ℕ) (ps : List ℕ) → pins_left (drop i ps) ≡ ltb i (length ps)
left_is zero [] = sym (leb-suc-zero 0)
left_is zero (x ∷ ps) = sym (lt-ltb 0 (suc (length ps)) (omega arith))
left_is (suc i) [] = sym (leb-suc-zero (suc i))
left_is (suc i) (x ∷ ps) = left_is i ps ∙ sym (leb-suc-suc (suc i) (length ps))

-- the visit of a gate
pub visit_gate : (src : ℕ → Source Class) (n s : ℕ) (d : Kind) (ps : List ℕ) (p : Class) (next w : ℕ) (wt : Waiting) (cells : List ℕ) → src s ≡ gate d ps
    → visit src (suc n) s p next w wt cells ≡ take_pins src (visit src n) d s w wt (drop next ps) p next (put cells s (kept p next))
unfolding visit
visit_gate src n s d ps p next w wt cells e = rw e

module _ (src : ℕ → Source Class) (v : Visit) (d : Kind) (s w : ℕ) (wt : Waiting) where
  -- the checks end the visit
  pub pins_end : (left : List ℕ) (p : Class) (next : ℕ) (cells : List ℕ) (e : Outcome) → checks (possible_of d p left) w wt ≡ some e
      → take_pins src v d s w wt left p next cells ≡ (e, cells)
  unfolding take_pins
  pins_end [] p next cells e h = rw h
  pins_end (x ∷ left) p next cells e h = rw h

  -- the next pin is taken
  pub pins_step : (ps : List ℕ) (p : Class) (next : ℕ) (cells : List ℕ) (r : Outcome) (after : List ℕ) → next < length ps
      → checks (possible_of d p (drop next ps)) w wt ≡ none
      → take_pin src v (get_or ps next 0) (wanted_for (op_of d) (inverts d) p (pins_left (drop (suc next) ps)) w) (waits (op_of d) p) (put cells s (kept p (suc next))) ≡ (r, after)
      → take_pins src v d s w wt (drop next ps) p next cells
      ≡ react r after (op_of d) p (λ q c. take_pins src v d s w wt (drop (suc next) ps) q (suc next) (put c s (kept q (suc next))))
  unfolding take_pins
  pins_step ps p next cells r after less h e = rw (drop-cons ps next 0 less) (rw (rw (drop-cons ps next 0 less) at h) (rw e))
