use native.Mathlib.Omega.{arith}
use mathlib.Core.Path.{sym, ◌∙◌, ap}
use Rattle.search.specs.Search.{judged}
use Rattle.checks.proofs.Codes.{code_of_code}
use Rattle.visit.specs.declared.Verdict.TheVariants.{Clean}
use Rattle.visit.proofs.judge.Goals as goal

-- `visit::judge` meets its contract. Assumes nothing.
pub returns-then-has_class : goal.returns-then-has_class
unfolding judged
returns-then-has_class c = rw (sym c.has_class.ensures ∙ c.if-has_class.true) (ap Clean (omega (arith, code_of_code c.args.class)))

pub returns-else-has_class : goal.returns-else-has_class
unfolding judged
returns-else-has_class c = rw (sym c.has_class.ensures ∙ c.if-has_class.false)
