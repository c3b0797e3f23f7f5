-- Laws of words, ranges and marks. Assumes nothing.
use Prim.Native.Nat.{ℕ, zero, suc, ◌+◌, ◌*◌, ◌≤◌, ◌<◌}
use native.Mathlib.Omega.{arith}
use native.Mathlib.Nat.{add-zero}
use mathlib.Core.Path.{◌≡◌, refl, sym, ◌∙◌, ap}
use mathlib.Core.List.{List, [], ◌∷◌}
use mathlib.Core.Bool.{Bool, true, false, ◌||◌}
use lib.Pointwise.{pointwise}
use Rattle.std.proofs.Math.Bool.{and-true, and_assoc}
use borrow.Author.Tests.{lt-ltb, le-ltb, ltb-false}
use lib.Dec.{eqb, ltb}
use lib.ListN.{length, get_or, get_or-eq_default}
use Rattle.words.specs.Words.{byte_at, word_at, long_at, words_at, marked, outside}

-- past the end all is 0
pub word_past : (s : List ℕ) (at : ℕ) → length s ≤ at → 0 ≡ word_at s at
unfolding word_at
word_past s at h = rw (get_or-eq_default s 0 {n = at} h, get_or-eq_default s 0 {n = at + 1} (omega arith))

pub long_past : (s : List ℕ) (at : ℕ) → length s ≤ at → 0 ≡ long_at s at
unfolding long_at
long_past s at h = rw (← word_past s at h, ← word_past s (at + 2) (omega arith))

-- the words of a list of them
pub words_length : (n : ℕ) (s : List ℕ) (at : ℕ) → length (words_at n s at) ≡ n
unfolding words_at
words_length zero s at = refl
words_length (suc n) s at = ap suc (words_length n s (at + 2))

pub words_at_lem : (n : ℕ) (s : List ℕ) (at k : ℕ) → k < n → get_or (words_at n s at) k 0 ≡ word_at s (at + 2 * k)
unfolding words_at
words_at_lem zero s at k h = absurd (omega arith)
words_at_lem (suc n) s at zero h = rw add-zero
words_at_lem (suc n) s at (suc k) h = let e : at + 2 * suc k ≡ at + 2 + 2 * k = omega arith in rw e (words_at_lem n s (at + 2) k (omega arith))

-- ranges
pub outside_below : (least most n : ℕ) → n < least → outside least most n ≡ true
unfolding outside
outside_below least most n h = rw (lt-ltb n least h)

pub outside_above : (least most n : ℕ) → least ≤ n → outside least most n ≡ ltb most n
unfolding outside
outside_above least most n h = rw (le-ltb n least h)

pub inside : (least most n : ℕ) → least ≤ n → n ≤ most → outside least most n ≡ false
inside least most n l m = outside_above least most n l ∙ le-ltb most n m

-- the test of a number that was read
pub outside_read : (least most : ℕ) {n m : ℕ} {r b : Bool} → n ≡ m → r ≡ outside least most n → r ≡ b → outside least most m ≡ b
outside_read least most e d h = ap (outside least most) (sym e) ∙ sym d ∙ h

pub within : (least most n : ℕ) → outside least most n ≡ false → (least ≤ n) × (n ≤ most)
unfolding outside
within least most n e = go (ltb n least) refl e
  where
    go : (b : Bool) → ltb n least ≡ b → b || ltb most n ≡ false → (least ≤ n) × (n ≤ most)
    go true d h = let z : ◌≡◌ {A = ℕ} 0 1 = cc in absurd (omega arith)
    go false d h = (ltb-false n least d, ltb-false most n h)

-- a mark compared at once
pub marked_by : (s mark : List ℕ) {a b c : ℕ} → a ≡ byte_at s 0 → b ≡ byte_at s 1 → c ≡ byte_at s 2 → length mark ≡ 3
    → pointwise eqb (a ∷ b ∷ c ∷ []) mark ≡ marked s (byte_at mark 0) (byte_at mark 1) (byte_at mark 2)
unfolding marked
marked_by s (x ∷ y ∷ z ∷ []) p q r h = rw (p, q, r, and-true, ← and_assoc) refl
marked_by s [] p q r h = absurd (omega arith)
marked_by s (x ∷ []) p q r h = absurd (omega arith)
marked_by s (x ∷ y ∷ []) p q r h = absurd (omega arith)
marked_by s (x ∷ y ∷ z ∷ w ∷ m) p q r h = absurd (omega arith)
