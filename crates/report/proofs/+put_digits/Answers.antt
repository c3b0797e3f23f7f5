use native.Mathlib.Omega.{arith}
use mathlib.Core.Path.{◌≡◌, ap}
use lib.ListN.{length}
use Prim.Native.Nat.{◌%◌}
use Rattle.report.proofs.Placing.{one, long, ◌behind◌}
use Rattle.report.proofs.Decimal.{decimal_one, decimal_more, length_more}
use Rattle.report.proofs.+put_digits.Goals as goal

-- one digit, or those of the tenth and the last
pub bounds-bytes-at : goal.bounds-bytes-at
bounds-bytes-at t c = omega (arith, ap length (decimal_one c.args.n (omega arith)))

pub put_digits-last-requires : goal.put_digits-last-requires
put_digits-last-requires t c = (omega arith, omega (arith, length_more c.args.n (omega arith)))

pub bounds-bytes-last : goal.bounds-bytes-last
bounds-bytes-last t c = let tenth = c.put_digits-last.ensures in omega (arith, length_more c.args.n (omega arith), tenth.after, long tenth)

pub returns-then-n-lt10 : goal.returns-then-n-lt10
returns-then-n-lt10 t c =
    let digit : c.args.n % 10 ≡ c.args.n = omega arith in
    rw (decimal_one c.args.n (omega arith), digit) (one c.args.bytes.now c.args.at _ (omega (arith, ap length (decimal_one c.args.n (omega arith)))))

pub returns : goal.returns
returns t c =
    let tenth = c.put_digits-last.ensures in
    rw (decimal_more c.args.n (omega arith)) (tenth behind one _ _ _ (omega (arith, length_more c.args.n (omega arith), tenth.after, long tenth)))
