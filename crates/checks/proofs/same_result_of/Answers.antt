use mathlib.Core.Path.{◌∙◌, ap}
use native.Mathlib.Omega.{arith}
use borrow.Author.Tests.{lt-ltb, le-ltb}
use Rattle.search.specs.Search.{same_result, only}
use Rattle.checks.specs.Codes.{waiting_of, code_or}
use Rattle.checks.proofs.Codes.{only_code_lem}
use Rattle.checks.proofs.same_result_of.Goals as goal

-- `checks::same_result_of` meets its contract. Assumes nothing.
pub returns-then-waiter-lt-NOBODY : goal.returns-then-waiter-lt-NOBODY
unfolding waiting_of same_result
returns-then-waiter-lt-NOBODY c =
    let set = c.image_of.result in
    let waiter = c.args.waiter in
    c.only_class.ensures ∙ only_code_lem set (omega arith) ∙ rw (lt-ltb waiter 16 c.if-waiter-lt-NOBODY.true) (ap (λ m. code_or (only m)) c.image_of.ensures)

pub returns-else-waiter-lt-NOBODY : goal.returns-else-waiter-lt-NOBODY
unfolding waiting_of same_result
returns-else-waiter-lt-NOBODY c = rw (le-ltb c.args.waiter 16 c.if-waiter-lt-NOBODY.false)
