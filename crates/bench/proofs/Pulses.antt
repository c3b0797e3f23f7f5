-- How a gate's pins show a hazard: all pins that start at 0 rise; all that pulse in between fall, then rise again; all that end at 0 fall.
-- An OR-like gate has 0 and 1 exchanged. Assumes nothing.
use Prim.Native.Nat.{ℕ, ◌+◌, ◌≤◌}
use mathlib.Core.Path.{◌≡◌, refl, sym, ◌∙◌, ap, subst, fun_ext}
use mathlib.Core.Bool.{Bool, true, false, cond, not, beq}
use mathlib.Core.List.{List, [], ◌∷◌, map}
use lib.Dec.{T, leb, leb→le, eqb, eqb→eq}
use Rattle.kung.specs.Class.{Class, c0, c1, R, F, S0, S1, D+, D-, start, end, clean, same}
use Rattle.kung.specs.Rule.{Kind, invert, and_all, or_all, each, some, gate_class, gate_value}
use Rattle.kung.specs.Operation.{Op, and, or, op_of, inverts, invert_if, not_if, join, join_all, unit, value_all}
use Rattle.kung.proofs.Finite.{implies, implied, every_class, every_op, every_bool, every_pair, class_at_lem, op_at_lem, bool_at, pair_at, beq→≡}
use Rattle.kung.proofs.Laws.{value2, first, last, ends_join, join_all_nil, join_all_cons, value_all_cons, gate_class_op, gate_value_op}
use Rattle.bench.specs.Bench.{flipped}
use Rattle.bench.proofs.Flips.{alter, alter_not}
use Rattle.bench.proofs.Clean.{need}

-- the changes that a signal of this class makes at least, in the order that shows every hazard
abbrev pub least : Class → ℕ
least k = need k + cond (clean k) 0 2

-- a class as a gate of this operation sees it
abbrev faced : Op → Class → Class
faced and k = k
faced or k = invert k

-- the first change of a pin that starts at 0, unless it is constant
abbrev rises : Class → ℕ
rises k = cond (start k) 0 (cond (same c0 k) 0 1)

-- half a pulse of a pin that is at 1 before and after it
abbrev waves : Class → ℕ
waves c0 = 0
waves c1 = 0
waves R = 0
waves F = 0
waves S0 = 0
waves S1 = 1
waves D+ = 1
waves D- = 1

-- the last change of a pin that ends at 0, unless it is constant
abbrev falls : Class → ℕ
falls k = cond (end k) 0 (cond (same c0 k) 0 1)

-- the changes that a pin passes on in each phase, by its driver's class
unfoldable pub phases : Op → List (Class → ℕ)
phases o = (λ k. rises (faced o k)) ∷ (λ k. waves (faced o k)) ∷ (λ k. waves (faced o k)) ∷ (λ k. falls (faced o k)) ∷ []

unfoldable pub total : List (Class → ℕ) → Class → ℕ
total [] k = 0
total (f ∷ fs) k = f k + total fs k

pub total_least : (o : Op) (k : Class) → total (phases o) k ≡ least k
unfolding total phases every_op every_class
total_least o k = eqb→eq _ _ (class_at_lem (λ k. eqb (total (phases o) k) (least k)) (op_at_lem (λ o. every_class (λ k. eqb (total (phases o) k) (least k))) tt o) k)

-- the changes that a value sees from one position of the pins to the next
unfoldable pub alternations : ((Class → ℕ) → Bool) → (Class → ℕ) → List (Class → ℕ) → ℕ
alternations out p [] = 0
alternations out p (f ∷ fs) = alter (out p) (out (λ k. p k + f k)) + alternations out (λ k. p k + f k) fs

-- what a gate's operation makes of pins at a position
abbrev level : Op → List Class → (Class → ℕ) → Bool
level o ks p = value_all o (map (λ k. flipped (p k) (start k)) ks)

-- after the rises, and again before the falls: 1, unless a pin is constant 0
abbrev open? : Op → Class → Bool
open? and k = not (same c0 k)
open? or k = same c1 k

-- in between: 0 where a pin pulses
abbrev shut? : Op → Class → Bool
shut? o k = flipped (rises (faced o k) + waves (faced o k)) (start k)

-- a value no further from 0, for OR-like gates from 1, than this one
abbrev within : Op → Bool → Bool → Bool
within and v w = implies v w
within or v w = implies w v

open_pair : (o : Op) (k l : Class) → open? o (join o k l) ≡ value2 o (open? o k) (open? o l)
unfolding join join_all and_all or_all each some every_pair every_op every_class
open_pair o k l = beq→≡ _ _ (pair_at (λ o k l. beq (open? o (join o k l)) (value2 o (open? o k) (open? o l))) tt o k l)

open_unit : (o : Op) → value_all o [] ≡ open? o (unit o)
unfolding value_all each some
open_unit and = refl
open_unit or = refl

open_join : (o : Op) (ks : List Class) → value_all o (map (open? o) ks) ≡ open? o (join_all o ks)
open_join o [] = open_unit o ∙ ap (open? o) (sym (join_all_nil o))
open_join o (k ∷ ks) =
    value_all_cons o (open? o k) (map (open? o) ks) ∙ ap (value2 o (open? o k)) (open_join o ks)
    ∙ sym (open_pair o k (join_all o ks)) ∙ ap (open? o) (sym (join_all_cons o k ks))

shut_pair : (o : Op) (k l : Class) (v : Bool) → T (within o v (shut? o l)) → T (within o (value2 o (shut? o k) v) (shut? o (join o k l)))
unfolding flipped join join_all and_all or_all each some every_pair every_op every_class every_bool
shut_pair o k l v p =
    implied (within o v (shut? o l)) (within o (value2 o (shut? o k) v) (shut? o (join o k l)))
    (bool_at (λ v. implies (within o v (shut? o l)) (within o (value2 o (shut? o k) v) (shut? o (join o k l))))
    (pair_at (λ o k l. every_bool (λ v. implies (within o v (shut? o l)) (within o (value2 o (shut? o k) v) (shut? o (join o k l))))) tt o k l) v)
    p

shut_unit : (o : Op) → T (within o (value_all o []) (shut? o (unit o)))
unfolding value_all each some flipped
shut_unit and = tt
shut_unit or = tt

shut_join : (o : Op) (ks : List Class) → T (within o (value_all o (map (shut? o) ks)) (shut? o (join_all o ks)))
shut_join o [] = rw (join_all_nil o) (shut_unit o)
shut_join o (k ∷ ks) = rw (join_all_cons o k ks, value_all_cons) (shut_pair o k (join_all o ks) (value_all o (map (shut? o) ks)) (shut_join o ks))

-- pins at a position where each has the value that its class says
level_is : (p : Op → Class → ℕ) (f : Op → Class → Bool) → T (every_op (λ o. every_class (λ k. beq (flipped (p o k) (start k)) (f o k))))
    → (o : Op) (ks : List Class) → level o ks (p o) ≡ value_all o (map (f o) ks)
level_is p f t o ks =
    ap (λ h. value_all o (map h ks))
    (fun_ext (λ k. beq→≡ _ _ (class_at_lem (λ k. beq (flipped (p o k) (start k)) (f o k)) (op_at_lem (λ o. every_class (λ k. beq (flipped (p o k) (start k)) (f o k))) t o) k)))

-- the changes between five levels
abbrev five_levels : (v w x y z : Bool) → ℕ
five_levels v w x y z = alter v w + (alter w x + (alter x y + (alter y z + 0)))

-- the five positions of the pins show as many changes as the class wants
enough : (o : Op) (k : Class) (v : Bool) → T (within o v (shut? o k)) → least k ≤ five_levels (start k) (open? o k) v (open? o k) (end k)
unfolding flipped every_op every_class every_bool
enough o k v p =
    leb→le _ _ (implied (within o v (shut? o k)) (leb (least k) (five_levels (start k) (open? o k) v (open? o k) (end k)))
    (bool_at (test o k) (class_at_lem (λ k. every_bool (test o k)) (op_at_lem (λ o. every_class (λ k. every_bool (test o k))) tt o) k) v) p)
  where
    test : Op → Class → Bool → Bool
    test o k v = implies (within o v (shut? o k)) (leb (least k) (five_levels (start k) (open? o k) v (open? o k) (end k)))

shown : (o : Op) (ks : List Class) → least (join_all o ks) ≤ alternations (level o ks) (λ k. 0) (phases o)
unfolding alternations phases flipped every_op every_class
shown o ks =
    rw (
      level_is (λ o k. 0) (λ o. start) tt o ks,
      sym (ends_join first o ks),
      level_is (λ o k. 0 + rises (faced o k)) open? tt o ks,
      level_is (λ o k. 0 + rises (faced o k) + waves (faced o k)) shut? tt o ks,
      level_is (λ o k. 0 + rises (faced o k) + waves (faced o k) + waves (faced o k)) open? tt o ks,
      level_is (λ o k. 0 + rises (faced o k) + waves (faced o k) + waves (faced o k) + falls (faced o k)) (λ o. end) tt o ks,
      sym (ends_join last o ks),
      open_join o ks,
    )
    (enough o (join_all o ks) (value_all o (map (shut? o) ks)) (shut_join o ks))

alternations_not : (b : Bool) (out : (Class → ℕ) → Bool) (p : Class → ℕ) (fs : List (Class → ℕ))
    → alternations (λ q. not_if b (out q)) p fs ≡ alternations out p fs
unfolding alternations
alternations_not b out p [] = refl
alternations_not b out p (f ∷ fs) = rw (alter_not b (out p) (out (λ k. p k + f k)), alternations_not b out (λ k. p k + f k) fs)

least_invert : (b : Bool) (k : Class) → least (invert_if b k) ≡ least k
unfolding every_class
least_invert true k = eqb→eq _ _ (class_at_lem (λ k. eqb (least (invert k)) (least k)) tt k)
least_invert false k = refl

-- what a gate gives of pins at a position
abbrev pub gate_level : Kind → List Class → (Class → ℕ) → Bool
gate_level d ks p = gate_value d (map (λ k. flipped (p k) (start k)) ks)

-- the phases show a gate's signal at least as many changes as its class wants
pub shown_gate : (d : Kind) (ks : List Class) → least (gate_class d ks) ≤ alternations (gate_level d ks) (λ k. 0) (phases (op_of d))
shown_gate d ks =
    rw (gate_class_op d ks, least_invert (inverts d) (join_all (op_of d) ks))
    (subst (λ n. least (join_all (op_of d) ks) ≤ n)
    (sym (ap (λ out. alternations out (λ k. 0) (phases (op_of d))) (fun_ext (λ p. gate_value_op d (map (λ k. flipped (p k) (start k)) ks)))
    ∙ alternations_not (inverts d) (level (op_of d) ks) (λ k. 0) (phases (op_of d)))) (shown (op_of d) ks))
