use native.Mathlib.Omega.{arith}
use lib.ListN.{get_or}
use borrow.Author.Tests.{lt-ltb, le-ltb}
use Rattle.cells.specs.Codes.{begun_from}
use Rattle.checks.proofs.Codes.{unit_code}
use Rattle.cells.proofs.arrive.Goals as goal

-- `cells::arrive` meets its contract. Assumes nothing.
pub returns-then-cell-ge16-clause-p : goal.returns-then-cell-ge16-clause-p
unfolding begun_from
returns-then-cell-ge16-clause-p c = rw (le-ltb (get_or c.args.cells.now c.args.s 0) 16 c.if-cell-ge16.true)

pub returns-then-cell-ge16-clause-next : goal.returns-then-cell-ge16-clause-next
unfolding begun_from
returns-then-cell-ge16-clause-next c = rw (le-ltb (get_or c.args.cells.now c.args.s 0) 16 c.if-cell-ge16.true)

pub returns-clause-p : goal.returns-clause-p
unfolding begun_from
returns-clause-p c = rw (lt-ltb (get_or c.args.cells.now c.args.s 0) 16 c.if-cell-ge16.false) (omega (arith, unit_code c.args.gate))

pub returns-clause-next : goal.returns-clause-next
unfolding begun_from
returns-clause-next c = rw (lt-ltb (get_or c.args.cells.now c.args.s 0) 16 c.if-cell-ge16.false) (omega (arith, unit_code c.args.gate))
