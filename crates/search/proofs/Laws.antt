-- Laws of the search's cells and of its checks' sets. Assumes nothing.
use Prim.Native.Nat.{ℕ, zero, suc, ◌+◌, ◌*◌, ◌%◌, ◌^◌, ◌<◌}
use native.Mathlib.Omega.{arith}
use native.Mathlib.Numerals.{add-one}
use native.Mathlib.Decide.{dec_lt, ℕ_discrete}
use mathlib.Core.Path.{◌≡◌, refl, sym, ◌∙◌, ap}
use mathlib.Core.Bool.{Bool, true, false, cond}
use mathlib.Core.List.{List, [], ◌∷◌, ◌++◌}
use mathlib.Core.Option.{some}
use lib.Dec.{eqb, ltb}
use lib.ListN.{length, get_or, drop, length-set, length-replicate, get_or-replicate, get_or-eq_default}
use lib.Seq.{get_or-set_same, get_or-set_other, drop-drop}
use borrow.Author.Tests.{eqb-true, ltb-true, le-ltb}
use Rattle.kung.specs.Class.{Class, c0, c1, R, F, S0, S1, D+, D-, classes, code, of_code, same}
use Rattle.kung.specs.Rule.{Kind, some as someOf}
use Rattle.kung.specs.Operation.{inverts, invert_if}
use Rattle.kung.specs.Sets.{set_of, has, possible}
use Rattle.kung.proofs.Finite.{implies, implied, same→≡, of_code_code, every_class, class_at_lem, ≡→T}
use Rattle.kung.proofs.SetLaws.{code_lt}
use Rattle.circuit.specs.Circuit.{Each}
use Rattle.search.specs.Search.{Cell, new, kept, byte_of, next_of, cell_of, put, fresh, total, only_of, only, possible_of}

pub next_of_byte_of : (p : Class) (i : ℕ) → next_of (byte_of (kept p i)) ≡ i
next_of_byte_of p i = omega (arith, code_lt p)

pub of_code_byte_of : (p : Class) (i : ℕ) → of_code (byte_of (kept p i)) ≡ p
unfolding of_code
of_code_byte_of p i =
    let e : (128 + 8 * i + code p) % 8 ≡ code p % 8 = omega (arith, code_lt p) in
    rw e (of_code_code p)

-- a cell is what its byte says
pub cell_of_byte_of : (c : Cell) → cell_of (byte_of c) ≡ c
unfolding cell_of
cell_of_byte_of new = refl
cell_of_byte_of (kept p i) = rw (le-ltb (128 + 8 * i + code p) 128 (omega arith)) (λ j. kept (of_code_byte_of p i j) (next_of_byte_of p i j))

pub length_put : (cells : List ℕ) (s : ℕ) (c : Cell) → length (put cells s c) ≡ length cells
unfolding put
length_put cells s c = length-set cells s (byte_of c)

pub put_other : (cells : List ℕ) (s t : ℕ) (c : Cell) → (t ≡ s → ⊥) → get_or (put cells s c) t 0 ≡ get_or cells t 0
unfolding put
put_other cells s t c h = get_or-set_other cells s t (byte_of c) 0 h

pub put_same : (cells : List ℕ) (s : ℕ) (c : Cell) → s < length cells → get_or (put cells s c) s 0 ≡ byte_of c
unfolding put
put_same cells s c h = get_or-set_same cells s (byte_of c) 0 h

-- what holds of the byte written, of 0, and of the other bytes, holds after a write, also where there is no such cell
pub at_put : (Q : ℕ → ℕ → Type 0) (cells : List ℕ) (s : ℕ) (c : Cell) → Q s (byte_of c) → Q s 0 → ((t : ℕ) → (t ≡ s → ⊥) → Q t (get_or cells t 0))
    → (t : ℕ) → Q t (get_or (put cells s c) t 0)
at_put Q cells s c written out others t = go (ℕ_discrete t s)
  where
    there : Dec (s < length cells) → Q s (get_or (put cells s c) s 0)
    there (yes h) = rw (put_same cells s c h) written
    there (no h) = rw (get_or-eq_default (put cells s c) 0 {n = s} (rw length_put (omega arith))) out

    go : Dec (t ≡ s) → Q t (get_or (put cells s c) t 0)
    go (no other) = rw (put_other cells s t c other) (others t other)
    go (yes e) = rw e (there (dec_lt s (length cells)))

-- at first all cells are new
pub fresh_at : (n s : ℕ) → get_or (fresh n) s 0 ≡ 0
fresh_at n s = go (dec_lt s n)
  where
    go : Dec (s < n) → get_or (fresh n) s 0 ≡ 0
    go (yes h) = get_or-replicate {A = ℕ} n s 0 0 h
    go (no h) = get_or-eq_default (fresh n) 0 (rw length-replicate (omega arith))

-- cells never visited count nothing
pub total_fresh : (f : ℕ → ℕ) → f 0 ≡ 0 → (cells : List ℕ) (n : ℕ) → total f (cells ++ fresh n) ≡ total f cells
unfolding total
total_fresh f e [] zero = refl
total_fresh f e [] (suc n) = omega (arith, total_fresh f e [] n)
total_fresh f e (b ∷ cells) n = ap (f b +◌) (total_fresh f e cells n)

-- the pins taken of a cell
pub next_new : (b : ℕ) → cell_of b ≡ new → next_of b ≡ 0
unfolding cell_of
next_new b e = go (ltb b 128) refl e
  where
    go : (t : Bool) → ltb b 128 ≡ t → cond t new (kept (of_code b) (next_of b)) ≡ new → next_of b ≡ 0
    go true t f = let small = ltb-true b 128 t in omega arith
    go false t f = cc

pub next_kept : (b : ℕ) (p : Class) (next : ℕ) → cell_of b ≡ kept p next → next_of b ≡ next
unfolding cell_of
next_kept b p next e = go (ltb b 128) e
  where
    go : (t : Bool) → cond t new (kept (of_code b) (next_of b)) ≡ kept p next → next_of b ≡ next
    go true f = cc
    go false f = cc

-- the set of one class has no other
power_has : (k j : Class) → has (2 ^ code k) j ≡ true → j ≡ k
unfolding every_class has
power_has k j e =
    let test : Class → Class → Bool = λ k j. implies (has (2 ^ code k) j) (same j k) in
    same→≡ j k (implied (has (2 ^ code k) j) (same j k) (class_at_lem (test k) (class_at_lem (λ k. every_class (test k)) tt k) j) (≡→T _ e))

only_of_has : (m : ℕ) (ks : List Class) (k j : Class) → only_of m ks ≡ some k → has m j ≡ true → j ≡ k
unfolding only_of
only_of_has m [] k j e h = let z : ◌≡◌ {A = ℕ} 0 1 = cc in absurd (omega arith)
only_of_has m (i ∷ ks) k j e h = go (eqb m (2 ^ code i)) refl e (λ f. only_of_has m ks k j f h)
  where
    go : (b : Bool) → eqb m (2 ^ code i) ≡ b → cond b (some i) (only_of m ks) ≡ some k → (only_of m ks ≡ some k → j ≡ k) → j ≡ k
    go true t f later = power_has i j (rw (← eqb-true m (2 ^ code i) t) h) ∙ cc
    go false t f later = later f

pub only_has : (m : ℕ) (k j : Class) → only m ≡ some k → has m j ≡ true → j ≡ k
unfolding only
only_has m k j e h = only_of_has m classes k j e h

-- a gate without pins left can give one class
only_one : (k : Class) → only (set_of (λ c. someOf (λ x. same k c) classes)) ≡ some k
unfolding only only_of set_of someOf
only_one c0 = refl
only_one c1 = refl
only_one R = refl
only_one F = refl
only_one S0 = refl
only_one S1 = refl
only_one D+ = refl
only_one D- = refl

pub only_last : (d : Kind) (p : Class) → only (possible_of d p []) ≡ some (invert_if (inverts d) p)
unfolding possible_of possible
only_last d p = only_one (invert_if (inverts d) p)

-- a class is not in a set
pub not_has : (w : ℕ) (k : Class) → (has w k ≡ true → ⊥) → has w k ≡ false
not_has w k h = go (has w k) h
  where
    go : (b : Bool) → (b ≡ true → ⊥) → b ≡ false
    go true h = absurd (h refl)
    go false h = refl

-- the pins left after one more
pub drop_next : (next : ℕ) (ps : List ℕ) (x : ℕ) (left : List ℕ) → drop next ps ≡ x ∷ left → drop (suc next) ps ≡ left
drop_next next ps x left e = rw add-one at (sym (drop-drop 1 next ps) ∙ ap (drop 1) e)

pub each_drop : (P : ℕ → Type 0) (n : ℕ) (xs : List ℕ) → Each P xs → Each P (drop n xs)
each_drop P zero xs h = h
each_drop P (suc n) [] h = tt
each_drop P (suc n) (x ∷ xs) h = each_drop P n xs h.1
