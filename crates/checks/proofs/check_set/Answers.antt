use mathlib.Core.Path.{◌∙◌, ap}
use native.Mathlib.Omega.{arith}
use Rattle.kung.specs.Class.{code, of_code}
use Rattle.kung.specs.Lookup.{joined_by}
use Rattle.search.specs.Search.{only}
use Rattle.checks.specs.Codes.{waiting_of, code_or}
use Rattle.checks.proofs.Checks.{joins, check_a, check_b, check_c}
use Rattle.checks.proofs.check_set.Goals as goal

-- `checks::check_set` meets its contract. Assumes nothing.
pub returns-then-set-wanted-eq0 : goal.returns-then-set-wanted-eq0
returns-then-set-wanted-eq0 c =
    let a = c.args in
    check_a a.set a.wanted (waiting_of a.waiter) c.requires.0 c.if-set-wanted-eq0.true

pub returns-then-class-lt8 : goal.returns-then-class-lt8
returns-then-class-lt8 c =
    let a = c.args in
    c.joined_by.ensures ∙ ap (λ x. code (joined_by a.waiter (of_code x))) c.requires.2 ∙ joins a.waiter (of_code (code_or (only a.set)))
    ∙ check_b a.set a.wanted (waiting_of a.waiter) c.requires.0 c.if-set-wanted-eq0.false (omega (arith, c.requires.2))

pub returns : goal.returns
returns c =
    let a = c.args in
    c.same_result_of.ensures
    ∙ check_c a.set a.wanted (waiting_of a.waiter) c.requires.0 c.if-set-wanted-eq0.false (omega (arith, c.requires.2))
