use native.Mathlib.Omega.{arith}
use mathlib.Core.Path.{◌∙◌, sym}
use Rattle.refusals.specs.Refusal.{refuse}
use Rattle.records.specs.Records.{count_at}
use Rattle.records.specs.Reading.{head_at}
use Rattle.records.proofs.Meanings.{word_some}
use Rattle.records.proofs.Heads.{told}
use Rattle.records.proofs.head_at.Goals as goal

-- `head_at`: the limits that the kind byte's word tells decide. Assumes nothing.
pub returns-then-is_outside : goal.returns-then-is_outside
unfolding head_at refuse
returns-then-is_outside c =
    let known = word_some _ (sym c.kind_word.ensures ∙ c.in-Some.is) (count_at c.args.s.now c.args.at) c.if-meaning-lt256.false in
    grind (arith, told)

pub returns-then-s-at-2 : goal.returns-then-s-at-2
unfolding head_at refuse
returns-then-s-at-2 c =
    let known = word_some _ (sym c.kind_word.ensures ∙ c.in-Some.is) (count_at c.args.s.now c.args.at) c.if-meaning-lt256.false in
    grind (arith, told)

pub returns : goal.returns
unfolding head_at refuse
returns c =
    let known = word_some _ (sym c.kind_word.ensures ∙ c.in-Some.is) (count_at c.args.s.now c.args.at) c.if-meaning-lt256.false in
    grind (arith, told)
