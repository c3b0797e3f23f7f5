use Rattle.std.proofs.Common.{ℕ, ◌+◌, ◌-◌, ◌*◌, cond, eqb, get_or, ◌∙◌, rules}
use Rattle.words.specs.Words.{word_at}
use Rattle.words.proofs.Made.{made_at}
use Rattle.making.proofs.Making.{window, window_pin, eight_all}
use Rattle.making.proofs.eight_in.Goals as goal

-- `eight_in`: the window says which are the gate's own pins. Assumes nothing.
pub returns : goal.returns
returns c =
    let at = c.args in
    let made = c.from_fn.ensures.items in
    let picked = λ (k : ℕ). cond (eqb (get_or window (8 - at.count + k) 0) 1) (word_at at.s.now (at.at + 2 * k)) at.past in
    eight_all at.s.now at.at at.count at.past _ made.long
    (λ k l. made_at _ picked _ _ 8 0 (λ k y f' l called. search rules) made k l ∙ window_pin at.s.now at.at at.count at.past k (search rules) l)
