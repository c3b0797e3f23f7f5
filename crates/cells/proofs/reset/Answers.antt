use Rattle.std.proofs.lemmas.Grind.{common_steps}
use Rattle.std.proofs.lemmas.List.Edits.{map_over_more}
use native.Mathlib.Omega.{arith}
use Rattle.cells.specs.Cells.{known_of}
use Rattle.cells.proofs.reset.Goals as goal

pub loop-cell-preserved : goal.loop-cell-preserved
loop-cell-preserved c = grind (arith, common_steps, map_over_more known_of)
