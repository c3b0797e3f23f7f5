use mathlib.Core.Path.{◌∙◌, ap}
use Rattle.kung.specs.Class.{of_code}
use Rattle.kung.specs.Operation.{op_at}
use Rattle.kung.specs.Members.{swap_if}
use Rattle.kung.proofs.SetLaws.{possible_left}
use Rattle.lookup.proofs.possible_set.Goals as goal

-- `lookup::possible_set` meets its contract. Assumes nothing.
pub returns : goal.returns
returns c =
    let a = c.args in
    c.swapped.ensures ∙ ap (swap_if a.inverted) c.image_of.ensures
    ∙ possible_left (op_at a.operation) a.inverted (of_code a.p)
