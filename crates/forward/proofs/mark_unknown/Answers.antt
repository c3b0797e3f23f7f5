use Rattle.std.proofs.Common.{◌≡◌, ◌+◌, ◌-◌, ap, ◌∙◌, arith}
use Rattle.std.proofs.lemmas.Grind.{common_steps}
use Rattle.std.proofs.lemmas.List.Edits.{map_over_more}
use Rattle.forward.specs.Known.{known_or8, known_codes}
use Rattle.forward.proofs.Bytes.{marked_all}
use Rattle.forward.proofs.mark_unknown.Goals as goal

pub loop-class-preserved : goal.loop-class-preserved
loop-class-preserved c = rw c.known_or_8.ensures (grind (arith, common_steps, map_over_more known_or8))

pub returns : goal.returns
returns c =
    let gates : c.args.inputs + c.args.gates - c.args.inputs ≡ c.args.gates = omega arith in
    marked_all c.args.known.now _ c.args.inputs _ c.loop-class.class-index (omega (arith, c.requires)) c.loop-class.invariant c.loop-class-test.false
    ∙ ap (known_codes c.args.known.now c.args.inputs) gates
