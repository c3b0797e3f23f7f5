use native.Mathlib.Omega.{arith}
use Rattle.checks.proofs.Codes.{waiter_code}
use Rattle.visit.proofs.waiter_of.Goals as goal

-- `visit::waiter_of` meets its contract. Assumes nothing.
pub returns : goal.returns
returns c = (waiter_code c.args.gate c.args.p, omega arith)
