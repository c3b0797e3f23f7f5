use Rattle.std.proofs.Common.{ap, ◌∙◌}
use Rattle.forward.specs.Known.{known_codes, swept_codes}
use Rattle.forward.proofs.spread.Goals as goal

-- `forward::spread` meets its contract: classes by the gate pass, marks. Assumes nothing.
pub returns-clause-known : goal.returns-clause-known
unfolding swept_codes
returns-clause-known c = c.mark_unknown.ensures ∙ ap (λ b. known_codes b c.args.inputs c.args.gates) c.pass-touched.ensures.codes
