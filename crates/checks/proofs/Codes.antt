-- The code's numbers for kinds, classes, sets and waiting gates. Assumes nothing.
use Prim.Native.Nat.{ℕ, zero, suc, ◌+◌, ◌-◌, ◌*◌, ◌/◌, ◌%◌, ◌^◌, ◌<◌}
use native.Mathlib.Omega.{arith}
use mathlib.Core.Path.{◌≡◌, refl, sym, ◌∙◌, ap}
use mathlib.Core.Bool.{Bool, true, false, cond, not, ◌&&◌}
use lib.Bits.{bit_and, and_shr, and_mod, and_le_l}
use lib.Dec.{eqb}
use lib.ListN.{get_or}
use borrow.Author.Tests.{lt-ltb}
use Rattle.kung.specs.Class.{Class, c0, code, classes, of_code}
use Rattle.kung.specs.Rule.{some as someOf}
use Rattle.kung.specs.Operation.{Op, and, or, op_code, op_at, unit}
use Rattle.kung.specs.Sets.{bit, has, meets}
use Rattle.kung.specs.Members.{keep, only_code}
use Rattle.kung.specs.Tables.{tab}
use Rattle.kung.proofs.Listed.{agree}
use Rattle.search.specs.Search.{only_of, only, waits}
use Rattle.checks.specs.Codes.{waiting_of, code_or}

op_digit : (n : ℕ) → n % 2 ≡ op_code (op_at n)
op_digit n = go (n % 2) (omega arith)
  where
    go : (m : ℕ) → m < 2 → m ≡ op_code (cond (eqb m 0) and or)
    go zero h = refl
    go (suc zero) h = refl
    go (suc (suc m)) h = absurd (omega arith)

pub unit_code : (n : ℕ) → 1 - n % 2 ≡ code (unit (op_at n))
unit_code n = ap (λ m. 1 - m) (op_digit n) ∙ go (op_at n)
  where
    go : (o : Op) → 1 - op_code o ≡ code (unit o)
    go and = refl
    go or = refl

pub code_of_code : (n : ℕ) → code (of_code n) ≡ n % 8
unfolding of_code tab
code_of_code n = agree (λ i. code (get_or classes i c0)) (λ i. i) 8 refl (n % 8) (omega arith)

-- the number of a gate that waits
pub waiter_code : (n p : ℕ) → waiting_of (8 * (n % 2) + p % 8) ≡ waits (op_at n) (of_code p)
unfolding waiting_of of_code
waiter_code n p =
    rw (lt-ltb (8 * (n % 2) + p % 8) 16 (omega arith))
    (let h : (8 * (n % 2) + p % 8) / 8 % 2 ≡ n % 2 = omega arith in
    let l : (8 * (n % 2) + p % 8) % 8 ≡ p % 8 = omega arith in
    rw (h, l))

-- a set's only class
pub only_code_lem : (m : ℕ) → m < 256 → only_code m ≡ code_or (only m)
unfolding only_code keep has only only_of tab
only_code_lem = agree only_code (λ m. code_or (only m)) 256 refl

bit_same : (a b : Bool) → bit a ≡ bit b → a ≡ b
bit_same true true e = refl
bit_same true false e = absurd (omega arith)
bit_same false true e = absurd (omega arith)
bit_same false false e = refl

-- sets that share a class, by their bits
and_bit : (x y : ℕ) → x < 2 → y < 2 → eqb (bit_and x y) 1 ≡ eqb x 1 && eqb y 1
and_bit zero zero p q = refl
and_bit zero (suc zero) p q = refl
and_bit zero (suc (suc y)) p q = absurd (omega arith)
and_bit (suc zero) zero p q = refl
and_bit (suc zero) (suc zero) p q = refl
and_bit (suc zero) (suc (suc y)) p q = absurd (omega arith)
and_bit (suc (suc x)) y p q = absurd (omega arith)

has_and : (m w : ℕ) (k : Class) → has (bit_and m w) k ≡ has m k && has w k
unfolding has
has_and m w k =
    rw (and_shr m w (code k), and_mod (m / 2 ^ code k) (w / 2 ^ code k) 1)
    (and_bit (m / 2 ^ code k % 2) (w / 2 ^ code k % 2) (omega arith) (omega arith))

some_class : (z : ℕ) → z < 256 → someOf (has z) classes ≡ not (eqb z 0)
unfolding someOf has tab
some_class z h = bit_same _ _ (agree (λ z. bit (someOf (has z) classes)) (λ z. bit (not (eqb z 0))) 256 refl z h)

pub meets_and : (m w : ℕ) → m < 256 → meets m w ≡ not (eqb (bit_and m w) 0)
unfolding meets
meets_and m w h =
    (λ i. someOf (λ k. sym (has_and m w k) i) classes) ∙ some_class (bit_and m w) (omega (arith, and_le_l m w))
