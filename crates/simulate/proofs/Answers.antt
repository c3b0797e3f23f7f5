-- What full simulation answers in each case, and what it leaves. Assumes nothing.
use Prim.Native.Nat.{ℕ, ◌≤◌, ◌<◌}
use Rattle.std.specs.Prelude.{Ok, Err}
use native.Mathlib.Omega.{arith}
use mathlib.Core.Path.{◌≡◌}
use mathlib.Core.List.{List, ◌++◌}
use borrow.Author.Tests.{le-leb, lt-leb, lt-ltb, le-ltb}
use lib.ListN.{length, drop}
use Rattle.refusals.specs.Refusal.{refuse}
use Rattle.refusals.specs.declared.Refusal.{Refusal}
use Rattle.refusals.specs.declared.Refusal.TheVariants.{NoChange, BufferShort}
use Rattle.netlist.proofs.Accepted.{formed}
use Rattle.changes.specs.declared.Task.{Task}
use Rattle.changes.specs.Lent.{signals_of}
use Rattle.changes.specs.Refusals.{list_checked}
use Rattle.changes.proofs.Accepted.{listed}
use Rattle.simulate.specs.Full.{Simulated, done, codes, full_from, full_answer, full_buffer}
use Rattle.simulate.proofs.Theorems.{codes_length}

module _ (n l : List ℕ) (change : ℕ) (buffer : List ℕ) where
  -- a refusal is answered, and the buffer stays
  abbrev Refused : Refusal → Type 0
  Refused refusal = (◌≡◌ {A = Simulated} (Err refusal) (full_answer n l change buffer)) × (buffer ≡ full_buffer n l change buffer)

  pub refused_list : (refusal : Refusal) → list_checked n l ≡ Err refusal → Refused refusal
  unfolding full_answer full_buffer full_from
  refused_list refusal e = (rw e, rw e)

  module _ {task : Task} (e : list_checked n l ≡ Ok task) where
    pub refused_change : task.changes ≤ change → Refused NoChange
    unfolding full_answer full_buffer full_from refuse
    refused_change late = (rw (e, le-leb task.changes change late), rw (e, le-leb task.changes change late))

    module _ (early : change < task.changes) where
      pub refused_room : length buffer < signals_of task.shape → Refused BufferShort
      unfolding full_answer full_buffer full_from refuse
      refused_room small =
          (rw (e, lt-leb task.changes change early, lt-ltb (length buffer) (signals_of task.shape) small), rw (e, lt-leb task.changes change early, lt-ltb (length buffer) (signals_of task.shape) small))

      signals : length (codes n l change) ≡ signals_of task.shape
      signals = let f = formed n (listed n l e).netlist_accepted in omega (arith, codes_length n l change, f.inputs_are, f.gates_are)

      pub written : signals_of task.shape ≤ length buffer → (exit : List ℕ) → exit ≡ codes n l change ++ drop (signals_of task.shape) buffer
          → (done ≡ full_answer n l change buffer) × (exit ≡ full_buffer n l change buffer)
      unfolding full_answer full_buffer full_from refuse
      written room exit x = (
        rw (e, lt-leb task.changes change early, le-ltb (length buffer) (signals_of task.shape) room),
        rw (e, lt-leb task.changes change early, le-ltb (length buffer) (signals_of task.shape) room, signals) x,
      )
