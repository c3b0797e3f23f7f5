use Rattle.std.proofs.Common.{arith}
use Rattle.simulate.proofs.Laws.{filled_passable}
use Rattle.core_search.proofs.Entry.{list_formed, card_formed}
use Rattle.lines.proofs.classify.Goals as goal

-- the inputs' classes, then all signals'
pub fill_inputs-requires : goal.fill_inputs-requires
fill_inputs-requires c =
    let f = list_formed _ _ _ _ c.args.job.accepts 0 in
    (f.width_high, f.row_high, omega (arith, f.changes_high, c.requires.change_in_bounds), omega (arith, c.requires.classes_in_bounds))

pub pass-requires : goal.pass-requires
pass-requires c =
    let f = card_formed _ _ _ _ c.args.job.accepts 0 in
    filled_passable _ _ _ _ c.args.job.accepts _ _ _ c.fill_inputs.ensures _ c.requires.classes_in_bounds (omega (arith, f.inputs_high, f.gates_high))
