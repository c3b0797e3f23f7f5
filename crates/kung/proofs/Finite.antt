-- A fact about every class, operation or Boolean, by one test that antt computes. Assumes nothing.
use mathlib.Core.Path.{◌≡◌, refl, sym, subst, ◌∙◌}
use mathlib.Core.Bool.{Bool, true, false, not, ◌&&◌, ◌||◌, beq}
use lib.Dec.{T, eqb→eq}
use Rattle.kung.specs.Class.{Class, c0, c1, R, F, S0, S1, D+, D-, code, of_code, same}
use Rattle.kung.specs.Operation.{Op, and, or}

pub both_left : (a b : Bool) → T (a && b) → T a
both_left true b t = tt
both_left false b t = t

pub both_right : (a b : Bool) → T (a && b) → T b
both_right true b t = t
both_right false b t = absurd t

pub T→≡ : (b : Bool) → T b → b ≡ true
T→≡ true t = refl
T→≡ false t = absurd t

pub ≡→T : (b : Bool) → b ≡ true → T b
≡→T b e = subst T (sym e) tt

-- a test's premise
abbrev pub implies : Bool → Bool → Bool
implies a b = not a || b

pub implied : (a b : Bool) → T (implies a b) → T a → T b
implied true b t h = t
implied false b t h = absurd h

pub of_code_code : (k : Class) → of_code (code k) ≡ k
unfolding of_code
of_code_code c0 = refl
of_code_code c1 = refl
of_code_code R = refl
of_code_code F = refl
of_code_code S0 = refl
of_code_code S1 = refl
of_code_code D+ = refl
of_code_code D- = refl

pub same→≡ : (a b : Class) → T (same a b) → a ≡ b
same→≡ a b t = sym (of_code_code a) ∙ (λ i. of_code (eqb→eq (code a) (code b) t i)) ∙ of_code_code b

-- the test passes at every class, operation, Boolean
unfoldable pub every_class : (Class → Bool) → Bool
every_class f = f c0 && (f c1 && (f R && (f F && (f S0 && (f S1 && (f D+ && f D-))))))

unfoldable pub every_op : (Op → Bool) → Bool
every_op f = f and && f or

unfoldable pub every_bool : (Bool → Bool) → Bool
every_bool f = f true && f false

pub class_at_lem : (f : Class → Bool) → T (every_class f) → (k : Class) → T (f k)
unfolding every_class
class_at_lem f t c0 = both_left (f c0) _ t
class_at_lem f t c1 = both_left (f c1) _ (both_right (f c0) _ t)
class_at_lem f t R = both_left (f R) _ (both_right (f c1) _ (both_right (f c0) _ t))
class_at_lem f t F = both_left (f F) _ (both_right (f R) _ (both_right (f c1) _ (both_right (f c0) _ t)))
class_at_lem f t S0 = both_left (f S0) _ (both_right (f F) _ (both_right (f R) _ (both_right (f c1) _ (both_right (f c0) _ t))))
class_at_lem f t S1 =
    both_left (f S1) _ (both_right (f S0) _ (both_right (f F) _ (both_right (f R) _ (both_right (f c1) _ (both_right (f c0) _ t)))))
class_at_lem f t D+ =
    both_left (f D+) (f D-)
    (both_right (f S1) _ (both_right (f S0) _ (both_right (f F) _ (both_right (f R) _ (both_right (f c1) _ (both_right (f c0) _ t))))))
class_at_lem f t D- =
    both_right (f D+) (f D-)
    (both_right (f S1) _ (both_right (f S0) _ (both_right (f F) _ (both_right (f R) _ (both_right (f c1) _ (both_right (f c0) _ t))))))

pub op_at_lem : (f : Op → Bool) → T (every_op f) → (o : Op) → T (f o)
unfolding every_op
op_at_lem f t and = both_left (f and) (f or) t
op_at_lem f t or = both_right (f and) (f or) t

pub bool_at : (f : Bool → Bool) → T (every_bool f) → (b : Bool) → T (f b)
unfolding every_bool
bool_at f t true = both_left (f true) (f false) t
bool_at f t false = both_right (f true) (f false) t

-- the test passes at every operation and two classes
unfoldable pub every_pair : (Op → Class → Class → Bool) → Bool
every_pair f = every_op (λ o. every_class (λ a. every_class (f o a)))

pub pair_at : (f : Op → Class → Class → Bool) → T (every_pair f) → (o : Op) (a b : Class) → T (f o a b)
unfolding every_pair
pair_at f t o a b = class_at_lem _ (class_at_lem _ (op_at_lem _ t o) a) b

pub beq→≡ : (a b : Bool) → T (beq a b) → a ≡ b
beq→≡ true true t = refl
beq→≡ true false t = absurd t
beq→≡ false true t = absurd t
beq→≡ false false t = refl
