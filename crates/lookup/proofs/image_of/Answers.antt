use mathlib.Core.Path.{◌∙◌, ap₂}
use lib.ListN.{get_or}
use Rattle.kung.proofs.Places.{image_at}
use Rattle.lookup.proofs.image_of.Goals as goal

-- `lookup::image_of` meets its contract: the table has the image at its place. Assumes nothing.
pub returns : goal.returns
returns c =
    ap₂ (λ t k. get_or t k 0) c.search.ensures c.place.ensures
    ∙ image_at c.args.operation c.args.p c.args.set c.requires
