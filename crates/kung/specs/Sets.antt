-- Sets of classes as bytes: class k is in the set if bit `code k` is set.
use Rattle.std.specs.Prelude.{ℕ, ◌+◌, ◌*◌, ◌/◌, ◌%◌, ◌^◌, Bool, true, false, cond, ◌&&◌, eqb}
use Rattle.kung.specs.Class.{Class, c0, c1, R, F, S0, S1, D+, D-, code, classes, clean, same}
use Rattle.kung.specs.Rule.{some}
use Rattle.kung.specs.Operation.{Op, join, invert_if}

abbrev pub bit : Bool → ℕ
bit true = 1
bit false = 0

-- the set of the classes that pass a test
unfoldable pub set_of : (Class → Bool) → ℕ
set_of f = bit (f c0) + 2 * bit (f c1) + 4 * bit (f R) + 8 * bit (f F) + 16 * bit (f S0) + 32 * bit (f S1) + 64 * bit (f D+) + 128 * bit (f D-)

unfoldable pub has : ℕ → Class → Bool
has m k = eqb (m / 2 ^ code k % 2) 1

-- two sets share a class
unfoldable pub meets : ℕ → ℕ → Bool
meets m n = some (λ k. has m k && has n k) classes

-- document 01, "CORE": "The image of a set": what p joined with a class of the set can give
unfoldable pub image : Op → Class → ℕ → ℕ
image o p m = set_of (λ c. some (λ k. has m k && same (join o p k) c) classes)

-- "Its possible set is what the gate can still give: p joined with each of the eight classes if pins are left, p alone if none, each
-- inverted for kinds 1, 5, 6."
unfoldable pub possible : Op → (inverted : Bool) → Class → (left : Bool) → ℕ
possible o inverted p left = set_of (λ c. some (λ k. same (invert_if inverted (cond left (join o p k) p)) c) classes)

-- "That gate's wanted set holds the classes k for which p joined with k, and, if pins are left after this one, with some class, inverted
-- where due, lies in the waiting gate's wanted set."
unfoldable pub wanted_for : Op → (inverted : Bool) → Class → (leftAfter : Bool) → ℕ → ℕ
wanted_for o inverted p leftAfter w = set_of (λ k. meets (possible o inverted (join o p k) leftAfter) w)

-- "visited with wanted set {0, 1, R, F}"
abbrev pub clean_set : ℕ
clean_set = set_of clean
