-- A signal of a clean class keeps its value, or goes once from its start to its end; gates keep this. Assumes nothing.
use Prim.Native.Nat.{ℕ, zero, suc, ◌≤◌}
use native.Mathlib.Omega.{arith}
use mathlib.Core.Path.{◌≡◌, refl}
use mathlib.Core.Bool.{Bool, true, false, not, ◌&&◌, ◌||◌, beq, false≢true}
use mathlib.Core.List.{[]}
use lib.Dec.{T}
use Rattle.kung.specs.Class.{Class, start, end, clean}
use Rattle.kung.specs.Rule.{invert, and_all, or_all, each, some}
use Rattle.kung.specs.Operation.{Op, and, or, invert_if, not_if, join, join_all, unit, value_all}
use Rattle.kung.proofs.Finite.{implies, implied, every_class, every_op, every_bool, every_pair, class_at_lem, bool_at, pair_at}
use Rattle.kung.proofs.Laws.{value2}
use Rattle.bench.specs.Bench.{differ, flipped}
use Rattle.bench.proofs.Flips.{alter, alter_le}

-- the changes that the ends of a class need
abbrev pub need : Class → ℕ
need k = alter (start k) (end k)

-- before and after an event: start and start, start and end, or end and end
abbrev goes : (s e before after : Bool) → Bool
goes s e before after = beq before after && (beq before s || beq before e) || beq before s && beq after e

unfoldable pub fits : Class → (before after : Bool) → Bool
fits k before after = implies (clean k) (goes (start k) (end k) before after)

every4 : ((w x y z : Bool) → Bool) → Bool
every4 f = every_bool (λ w. every_bool (λ x. every_bool (λ y. every_bool (λ z. f w x y z))))

at4 : (f : (w x y z : Bool) → Bool) → T (every4 f) → (w x y z : Bool) → T (f w x y z)
unfolding every4
at4 f t w x y z = bool_at _ (bool_at _ (bool_at _ (bool_at _ t w) x) y) z

pub fits_unit : (o : Op) → T (fits (unit o) (value_all o []) (value_all o []))
unfolding fits value_all each some
fits_unit and = tt
fits_unit or = tt

pub fits_join : (o : Op) (k l : Class) (w x y z : Bool) → T (fits k w x) → T (fits l y z) → T (fits (join o k l) (value2 o w y) (value2 o x z))
unfolding fits every4 join join_all and_all or_all each some every_pair every_op every_class every_bool
fits_join o k l w x y z p q =
    implied (fits l y z) (fits (join o k l) (value2 o w y) (value2 o x z))
    (implied (fits k w x) (implies (fits l y z) (fits (join o k l) (value2 o w y) (value2 o x z)))
    (at4 (λ w x y z. implies (fits k w x) (implies (fits l y z) (fits (join o k l) (value2 o w y) (value2 o x z))))
    (pair_at (λ o k l. every4 (λ w x y z. implies (fits k w x) (implies (fits l y z) (fits (join o k l) (value2 o w y) (value2 o x z))))) tt o k l) w x y z)
    p) q

every_edge : (Class → (x y : Bool) → Bool) → Bool
every_edge f = every_class (λ k. every_bool (λ x. every_bool (λ y. f k x y)))

edge_at : (f : Class → (x y : Bool) → Bool) → T (every_edge f) → (k : Class) (x y : Bool) → T (f k x y)
unfolding every_edge
edge_at f t k x y = bool_at _ (bool_at _ (class_at_lem _ t k) x) y

pub fits_invert : (b : Bool) (k : Class) (x y : Bool) → T (fits k x y) → T (fits (invert_if b k) (not_if b x) (not_if b y))
unfolding fits every_edge every_class every_bool
fits_invert false k x y p = p
fits_invert true k x y p =
    implied (fits k x y) (fits (invert k) (not x) (not y)) (edge_at (λ k x y. implies (fits k x y) (fits (invert k) (not x) (not y))) tt k x y) p

-- a pin of a clean driver has passed on one change at most
goes_on : (s e : Bool) (m n : ℕ) → m ≤ n → n ≤ alter s e → T (goes s e (flipped m s) (flipped n s))
unfolding flipped
goes_on s e zero zero p q = stay s e
  where
    stay : (s e : Bool) → T (goes s e s s)
    stay true e = tt
    stay false e = tt
goes_on true false zero (suc zero) p q = tt
goes_on false true zero (suc zero) p q = tt
goes_on true true zero (suc zero) p q = absurd (omega arith)
goes_on false false zero (suc zero) p q = absurd (omega arith)
goes_on true false (suc zero) (suc zero) p q = tt
goes_on false true (suc zero) (suc zero) p q = tt
goes_on true true (suc zero) (suc zero) p q = absurd (omega arith)
goes_on false false (suc zero) (suc zero) p q = absurd (omega arith)
goes_on s e (suc m) zero p q = absurd (omega arith)
goes_on s e zero (suc (suc n)) p q = absurd (omega (arith, alter_le s e))
goes_on s e (suc zero) (suc (suc n)) p q = absurd (omega (arith, alter_le s e))
goes_on s e (suc (suc m)) (suc n) p q = absurd (omega (arith, alter_le s e))

pub fits_pin : (k : Class) (m n : ℕ) → m ≤ n → (clean k ≡ true → n ≤ need k) → T (fits k (flipped m (start k)) (flipped n (start k)))
unfolding fits
fits_pin k m n p q = go (clean k) q
  where
    go : (b : Bool) → (b ≡ true → n ≤ need k) → T (implies b (goes (start k) (end k) (flipped m (start k)) (flipped n (start k))))
    go true q = goes_on (start k) (end k) m n p (q refl)
    go false q = tt

-- a change that fits a clean class is the one that its ends need
goes_once : (s e : Bool) (n : ℕ) (v : Bool) → n ≤ alter s e → T (goes s e (flipped n s) v) → differ v (flipped n s) ≡ true → suc n ≤ alter s e
unfolding flipped
goes_once true true zero true p t d = absurd (false≢true d)
goes_once true true zero false p t d = absurd t
goes_once false false zero true p t d = absurd t
goes_once false false zero false p t d = absurd (false≢true d)
goes_once true false zero v p t d = omega arith
goes_once false true zero v p t d = omega arith
goes_once true false (suc zero) true p t d = absurd t
goes_once true false (suc zero) false p t d = absurd (false≢true d)
goes_once false true (suc zero) true p t d = absurd (false≢true d)
goes_once false true (suc zero) false p t d = absurd t
goes_once true true (suc zero) v p t d = absurd (omega arith)
goes_once false false (suc zero) v p t d = absurd (omega arith)
goes_once s e (suc (suc n)) v p t d = absurd (omega (arith, alter_le s e))

pub fits_once : (k : Class) (n : ℕ) (v : Bool) → clean k ≡ true → n ≤ need k → T (fits k (flipped n (start k)) v) → differ v (flipped n (start k)) ≡ true
    → suc n ≤ need k
unfolding fits
fits_once k n v c p t d = goes_once (start k) (end k) n v p (rw c at t) d
