use mathlib.Core.Path.{refl, ◌∙◌, ap₂}
use lib.ListN.{set}
use Rattle.sweep.specs.Sweep.{hots_of}
use Rattle.sweep.proofs.Laws.{heat_more}
use borrow.Author.Rules.{rules}
use Rattle.sweep.proofs.heat.Goals.{At-loop-k}
use Rattle.sweep.proofs.heat.Goals as goal

pub loop-k-init : goal.loop-k-init
unfolding hots_of
loop-k-init c = (search rules, refl)

pub loop-k-preserved : goal.loop-k-preserved
loop-k-preserved c =
    let l = c.loop-k in
    let a = c.args in
    (search rules, ap₂ (λ now b. set now l.k b) l.invariant.1 c.with_class.ensures ∙ heat_more a.buffer.now a.hot.now l.k (search rules) (search rules))
