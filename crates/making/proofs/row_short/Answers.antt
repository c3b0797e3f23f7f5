use Rattle.std.proofs.Common.{◌∙◌, ap, rules}
use Rattle.words.proofs.Made.{made_at}
use Rattle.making.specs.Making.{pin_or, eight_at}
use Rattle.making.proofs.Making.{eight_all}
use Rattle.making.proofs.row_short.Goals as goal

-- `row_short`: each number is a pin, or what stands past them. Assumes nothing.
pub returns : goal.returns
unfolding pin_or
returns c =
    let at = c.args in
    let past = c.past_of-past in
    let made = c.from_fn.ensures.items in
    eight_all at.s.now at.at at.count past.result _ made.long (made_at _ (pin_or at.s.now at.at at.count past.result) _ _ 8 0 (λ k y f' l called. search rules) made)
    ∙ ap (eight_at at.s.now at.at at.count) past.ensures
