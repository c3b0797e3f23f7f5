use mathlib.Core.Path.{◌∙◌, ap}
use native.Mathlib.Omega.{arith}
use lib.Count.{count_trailing_zeros, trailing_le}
use Rattle.kung.specs.Class.{of_code}
use Rattle.kung.specs.Operation.{op_at}
use Rattle.kung.specs.Sets.{image}
use Rattle.kung.proofs.SetLaws.{lowest_image}
use Rattle.lookup.proofs.joined.Goals as goal

pub returns : goal.returns
returns c =
    let a = c.args in
    ap (count_trailing_zeros 8)
    (c.image_of-image.ensures ∙ ap (image (op_at a.operation) (of_code a.p)) c.with_class.ensures)
    ∙ lowest_image (op_at a.operation) (of_code a.p) (of_code a.class)
