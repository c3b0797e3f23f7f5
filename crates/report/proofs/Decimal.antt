-- The decimal digits of a number: the law of the last digit, and how many there are. Assumes nothing.
use mathlib.Core.Path.{◌≡◌, refl, ap}
use mathlib.Core.Bool.{Bool, true, false, cond}
use mathlib.Core.List.{[], ◌∷◌, ◌++◌}
use Prim.Native.Nat.{ℕ, zero, suc, ◌+◌, ◌/◌, ◌%◌, ◌^◌, ◌≤◌, ◌<◌}
use native.Mathlib.Nat.{pow-suc}
use native.Mathlib.Omega.{arith}
use lib.Dec.{ltb}
use lib.ListN.{length, length-append}
use borrow.Author.Tests.{lt-ltb, le-ltb, ltb-true, ltb-false}
use Rattle.report.specs.Text.{digits, decimal}

-- more turns than the number change nothing
turns : (f g n : ℕ) → n < f → n < g → digits f n ≡ digits g n
unfolding digits
turns zero g n h k = absurd (omega arith)
turns (suc f) zero n h k = absurd (omega arith)
turns (suc f) (suc g) n h k = go (ltb n 10) refl (λ big. turns f g (n / 10) (omega arith) (omega arith))
  where
    go : (b : Bool) → ltb n 10 ≡ b → (10 ≤ n → digits f (n / 10) ≡ digits g (n / 10))
        → cond b [] (digits f (n / 10)) ++ ((48 + n % 10) ∷ []) ≡ cond b [] (digits g (n / 10)) ++ ((48 + n % 10) ∷ [])
    go true e same = refl
    go false e same = ap (λ l. l ++ ((48 + n % 10) ∷ [])) (same (ltb-false n 10 e))

-- one digit
pub decimal_one : (n : ℕ) → n < 10 → decimal n ≡ (48 + n % 10) ∷ []
unfolding decimal digits
decimal_one n h = rw (lt-ltb n 10 h)

-- the digits of the tenth, then the last digit
pub decimal_more : (n : ℕ) → 10 ≤ n → decimal n ≡ decimal (n / 10) ++ ((48 + n % 10) ∷ [])
unfolding decimal digits
decimal_more n h = rw (le-ltb n 10 h) (ap (λ l. l ++ ((48 + n % 10) ∷ [])) (turns n (suc (n / 10)) (n / 10) (omega arith) (omega arith)))

pub length_more : (n : ℕ) → 10 ≤ n → length (decimal n) ≡ suc (length (decimal (n / 10)))
length_more n h = rw (decimal_more n h) (simp length-append (omega arith))

-- a number below 10 ^ k has at most k digits
pub decimal_length : (k n : ℕ) → n < 10 ^ suc k → length (decimal n) ≤ suc k
decimal_length zero n h = rw (decimal_one n h) (omega arith)
decimal_length (suc k) n h = go (ltb n 10) refl (decimal_length k (n / 10) (omega (arith, pow-suc 10 (suc k))))
  where
    go : (b : Bool) → ltb n 10 ≡ b → length (decimal (n / 10)) ≤ suc k → length (decimal n) ≤ suc (suc k)
    go true e few = rw (decimal_one n (ltb-true n 10 e)) (omega arith)
    go false e few = omega (arith, length_more n (ltb-false n 10 e))
