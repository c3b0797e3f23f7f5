-- What the searches ask of rows and known bytes holds of an accepted card's rows, wherever each input's class is known. Assumes nothing.
use Prim.Native.Nat.{ℕ, ◌+◌, ◌-◌, ◌*◌, ◌≤◌, ◌<◌}
use native.Mathlib.Omega.{arith}
use native.Mathlib.Decide.{dec_lt}
use mathlib.Core.Path.{◌≡◌, ◌∙◌, ap, ap₂}
use mathlib.Core.Bool.{Bool}
use mathlib.Core.List.{List}
use lib.ListN.{length, get_or-eq_default}
use Rattle.rows.specs.Rows.{output_in}
use Rattle.rows.specs.Lent.{GateRow}
use Rattle.netlist.specs.Netlist.{inputs_of, output_at}
use Rattle.netlist.specs.Formed.{Formed}
use Rattle.netlist.proofs.Accepted.{formed}
use Rattle.changes.specs.declared.Task.{Task}
use Rattle.changes.specs.Lent.{Accepts, signals_of}
use Rattle.changes.proofs.Accepted.{listed}
use Rattle.visit.specs.Cells.{Afresh}
use Rattle.visit.specs.Lent.{GatesOnly, SearchReady, InputsGiven}
use Rattle.outputs.specs.Lent.{OutputsReady}

module _ {repeated : Bool} (n l rows : List ℕ) (task : Task) (a : Accepts repeated n l rows task) where
  abbrev inputs : ℕ
  inputs = task.shape.inputs

  abbrev signals : ℕ
  signals = signals_of task.shape

  abbrev outputs : ℕ
  outputs = task.shape.outputs

  card : Formed n task.shape
  card = formed n (listed n l a.accepted).netlist_accepted

  -- the signal of an output
  pub output_is : (o : ℕ) → o < outputs → output_in rows signals o ≡ output_at n o
  output_is o h = ap (λ s. output_in rows s o) (ap₂ ◌+◌ card.inputs_are card.gates_are) ∙ a.decoded.outputs_are o (omega (arith, card.outputs_are))

  pub output_below : (o : ℕ) → o < outputs → output_in rows signals o < signals
  output_below o h = rw (output_is o h) (card.output_below o h)

  pub rows_long : 9 * signals + outputs ≤ length rows
  rows_long = omega (arith, a.decoded.long, card.inputs_are, card.gates_are, card.outputs_are)

  -- a byte for each signal, and each input's is a class
  module _ (known : List ℕ) (all : length known ≡ signals) (afresh : Afresh known)
      (given : InputsGiven inputs known) where
    gates_only : GatesOnly rows known
    gates_only s h = go (dec_lt s inputs) (dec_lt s signals)
      where
        go : Dec (s < inputs) → Dec (s < signals) → GateRow rows s
        go (yes input) d = absurd (omega (arith, given s input))
        go (no above) (yes below) =
            let e : inputs_of n + (s - inputs_of n) ≡ s = omega (arith, card.inputs_are) in
            rw e at (a.decoded.gate (s - inputs_of n) (omega (arith, card.inputs_are, card.gates_are)))
        go (no above) (no beyond) = absurd (omega (arith, get_or-eq_default known 0 {n = s} (omega (arith, all))))

    ready : SearchReady rows known
    ready =
        record {
          gates_only = gates_only;
          few_signals = omega (arith, all, card.inputs_high, card.gates_high);
          afresh = afresh;
        }

    pub outputs_ready : (room : ℕ) → outputs ≤ room → OutputsReady rows known task.shape room
    outputs_ready room enough =
        record {
          ready = ready;
          given = given;
          all_known = all;
          outputs_high = card.outputs_high;
          output_below = λ o h. omega (arith, output_below o h);
          listed = rows_long;
          enough = enough;
        }
