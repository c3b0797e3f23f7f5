-- Sets of classes as the code makes and reads them: class by class.
use Rattle.std.specs.Prelude.{ℕ, Bool, cond, ◌||◌, List, [], ◌∷◌}
use Rattle.kung.specs.Class.{Class, code, classes, same}
use Rattle.kung.specs.Operation.{invert_if}
use Rattle.kung.specs.Sets.{set_of, has}

-- the set's classes, by their codes
unfoldable pub keep : (Class → Bool) → List Class → List Class
keep f [] = []
keep f (k ∷ ks) = cond (f k) (k ∷ keep f ks) (keep f ks)

abbrev pub members : ℕ → List Class
members m = keep (has m) classes

-- the set with one class more; the set of a list's classes
unfoldable pub insert : ℕ → Class → ℕ
insert m k = set_of (λ c. has m c || same k c)

unfoldable pub collect : List Class → ℕ
collect [] = 0
collect (k ∷ ks) = insert (collect ks) k

-- the inverses of the set's classes, where due
unfoldable pub swap_if : Bool → ℕ → ℕ
swap_if inverted m = set_of (λ k. has m (invert_if inverted k))

-- the code of the set's only class, 8 where it has none or several
unfoldable pub only_code : ℕ → ℕ
only_code m = single (members m)
  where
    single : List Class → ℕ
    single [] = 8
    single (k ∷ []) = code k
    single (k ∷ l ∷ ks) = 8
