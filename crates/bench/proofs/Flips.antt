-- Values that are flipped. Assumes nothing.
use Prim.Native.Nat.{ℕ, ◌+◌, ◌≤◌}
use native.Mathlib.Omega.{arith}
use native.Mathlib.Decide.{ℕ_discrete}
use mathlib.Core.Path.{◌≡◌, refl}
use mathlib.Core.Bool.{Bool, true, false, cond, not, true≢false, false≢true}
use Rattle.kung.specs.Operation.{not_if}
use Rattle.bench.specs.Bench.{differ, flipped}

pub agree : (x y : Bool) → differ x y ≡ false → x ≡ y
agree true true e = refl
agree true false e = absurd (true≢false e)
agree false true e = absurd (true≢false e)
agree false false e = refl

pub opposed : (x y : Bool) → differ x y ≡ true → x ≡ not y
opposed true true e = absurd (false≢true e)
opposed true false e = refl
opposed false true e = refl
opposed false false e = absurd (false≢true e)

-- 1 where two values differ, 0 where they agree
abbrev pub alter : Bool → Bool → ℕ
alter x y = cond (differ x y) 1 0

alter_same : (x : Bool) → alter x x ≡ 0
alter_same true = refl
alter_same false = refl

pub alter_le : (x y : Bool) → alter x y ≤ 1
alter_le true true = omega arith
alter_le true false = omega arith
alter_le false true = omega arith
alter_le false false = omega arith

pub alter_not : (b x y : Bool) → alter (not_if b x) (not_if b y) ≡ alter x y
alter_not false x y = refl
alter_not true true true = refl
alter_not true true false = refl
alter_not true false true = refl
alter_not true false false = refl

-- a value that differs at the end of some changes has changed on the way
pub alter_flipped : (v : Bool) (m n : ℕ) → m ≤ n → m + alter (flipped m v) (flipped n v) ≤ n
alter_flipped v m n h = go (ℕ_discrete m n)
  where
    go : Dec (m ≡ n) → m + alter (flipped m v) (flipped n v) ≤ n
    go (yes e) = rw (e, alter_same) (omega arith)
    go (no d) = omega (arith, alter_le (flipped m v) (flipped n v))
