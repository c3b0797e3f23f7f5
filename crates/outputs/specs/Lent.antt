-- What the searches of all outputs are lent.
use Rattle.std.specs.Prelude.{ℕ, ◌+◌, ◌*◌, ◌≤◌, ◌<◌, ◌≡◌, List, length}
use Rattle.rows.specs.Rows.{output_in}
use Rattle.netlist.specs.declared.Shape.{Shape}
use Rattle.changes.specs.Lent.{signals_of}
use Rattle.visit.specs.Lent.{SearchReady, InputsGiven}

-- all outputs can be searched, and there is room for their bytes
pub record OutputsReady (rows known : List ℕ) (shape : Shape) (room : ℕ) : Type 0 where
  pub ready : SearchReady rows known
  pub given : InputsGiven shape.inputs known
  pub all_known : length known ≡ signals_of shape
  pub outputs_high : shape.outputs ≤ 64
  pub output_below : (o : ℕ) → o < shape.outputs → output_in rows (signals_of shape) o < length known
  pub listed : 9 * signals_of shape + shape.outputs ≤ length rows
  pub enough : shape.outputs ≤ room
