-- What each change of an accepted list lets the loops call. Assumes nothing.
use Rattle.std.proofs.Common.{ℕ, ◌<◌, ◌≤◌, Bool, List, arith}
use Rattle.changes.specs.declared.Task.{Task}
use Rattle.changes.specs.Lent.{Accepts, signals_of}
use Rattle.changes.proofs.Accepted.{listed}
use Rattle.lists.proofs.Changes.{card}

module _ {repeated : Bool} {n l rows : List ℕ} {task : Task} (a : Accepts repeated n l rows task) where
  pub signals_high : signals_of task.shape ≤ 2304
  signals_high = omega (arith, (card n l a.accepted).inputs_high, (card n l a.accepted).gates_high)

  module _ {c : ℕ} (early : c < task.changes) where
    pub turn_high : c < 1000
    turn_high = omega (arith, (listed n l a.accepted).changes_high)

    -- its ends can be read
    pub readable : (task.layout.width ≤ 32) × (task.layout.row ≤ 8) × (c ≤ 1000)
    readable = let f = listed n l a.accepted in (f.width_high, f.row_high, omega (arith, turn_high))

    -- its inputs can be filled in where there is a byte for each signal
    pub fillable : {room : ℕ} → signals_of task.shape ≤ room → (task.layout.width ≤ 32) × (task.layout.row ≤ 8) × (c ≤ 1000) × (task.shape.inputs ≤ room)
    fillable h = let f = listed n l a.accepted in (f.width_high, f.row_high, omega (arith, turn_high), omega (arith, h))
