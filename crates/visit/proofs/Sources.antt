-- Laws of the card that a search runs on. Assumes nothing.
use Prim.Native.Nat.{ℕ, ◌≤◌, ◌<◌}
use mathlib.Core.Path.{◌≡◌, refl}
use mathlib.Core.Bool.{Bool, true, false, cond}
use mathlib.Core.List.{List}
use lib.Dec.{ltb}
use lib.ListN.{get_or}
use borrow.Author.Tests.{lt-ltb, le-ltb, ltb-false}
use Rattle.kung.specs.Class.{of_code}
use Rattle.circuit.specs.Circuit.{given, gate, pins_of, Each, Falling}
use Rattle.rows.specs.Rows.{row_kind, row_pins}
use Rattle.rows.proofs.Gates.{pins_below}
use Rattle.visit.specs.Source.{signal_of, source_from}
use Rattle.visit.specs.Lent.{GatesOnly}

pub source_given : (rows known : List ℕ) (s : ℕ) → get_or known s 0 < 8 → source_from rows known s ≡ given (of_code (get_or known s 0))
unfolding source_from signal_of
source_given rows known s h = rw (lt-ltb (get_or known s 0) 8 h)

pub source_gate : (rows known : List ℕ) (s : ℕ) → 8 ≤ get_or known s 0 → source_from rows known s ≡ gate (row_kind rows s) (row_pins rows s)
unfolding source_from signal_of
source_gate rows known s h = rw (le-ltb (get_or known s 0) 8 h)

-- a gate's pins are signals below its own
pub falling : (rows known : List ℕ) → GatesOnly rows known → Falling (source_from rows known)
unfolding source_from signal_of
falling rows codes only s = go (ltb (get_or codes s 0) 8) refl
  where
    go : (b : Bool) → ltb (get_or codes s 0) 8 ≡ b → Each (λ x. x < s) (pins_of (cond b (given (of_code (get_or codes s 0))) (gate (row_kind rows s) (row_pins rows s))))
    go true e = tt
    go false e = pins_below rows s (only s (ltb-false (get_or codes s 0) 8 e))
