-- Laws of the sets of classes. Assumes nothing.
use mathlib.Core.Path.{◌≡◌, refl, sym, ◌∙◌, ap}
use mathlib.Core.Bool.{Bool, true, false, cond, ◌&&◌, ◌||◌, beq, false≢true}
use mathlib.Core.List.{List, [], ◌∷◌}
use Prim.Native.Nat.{ℕ, zero, suc, ◌/◌, ◌%◌, ◌^◌, ◌<◌}
use native.Mathlib.Omega.{arith}
use lib.Count.{count_trailing_zeros}
use lib.Dec.{eqb, eqb→eq, eqb_refl, ltb, ltb→lt}
use lib.ListN.{length, get_or}
use Rattle.std.proofs.lemmas.Bool.{and_parts, or_right}
use Rattle.kung.specs.Class.{Class, c0, code, classes, same}
use Rattle.kung.specs.Rule.{some, invert}
use Rattle.kung.specs.Operation.{Op, join, join_all, invert_if}
use Rattle.kung.specs.Sets.{set_of, has, meets, image, possible, wanted_for}
use Rattle.kung.specs.Members.{swap_if, keep, members, insert, collect}
use Rattle.kung.specs.Tables.{preimage, reach}
use Rattle.kung.proofs.Laws.{join_assoc, join_comm, join_idem, join_all_cons}
use Rattle.kung.proofs.Finite.{every_class, class_at_lem, same→≡, beq→≡, T→≡, ≡→T}
use Rattle.kung.proofs.Unions.{nested, digit, eqb_bit}

pub code_lt : (k : Class) → code k < 8
unfolding every_class
code_lt k = ltb→lt (code k) 8 (class_at_lem (λ k. ltb (code k) 8) tt k)

class_of : (k : Class) → get_or classes (code k) c0 ≡ k
unfolding every_class
class_of k = same→≡ _ _ (class_at_lem (λ k. same (get_or classes (code k) c0) k) tt k)

-- a class is in the set of a test exactly where it passes
pub has_set_of : (f : Class → Bool) (k : Class) → has (set_of f) k ≡ f k
unfolding has
has_set_of f k =
    ap (λ (m : ℕ). eqb (m / 2 ^ code k % 2) 1) (nested f) ∙ ap (λ (x : ℕ). eqb x 1) (digit f classes (code k) (code_lt k))
    ∙ eqb_bit (f (get_or classes (code k) c0)) ∙ ap f (class_of k)

pub same_refl : (k : Class) → same k k ≡ true
same_refl k = T→≡ _ (eqb_refl (code k))

-- an element that passes makes "some element passes" true
some_at : {A : Type 0} (f : A → Bool) (d : A) (xs : List A) (n : ℕ) → n < length xs → f (get_or xs n d) ≡ true → some f xs ≡ true
unfolding some
some_at f d [] n h e = absurd (omega arith)
some_at f d (x ∷ xs) zero h e = rw e
some_at f d (x ∷ xs) (suc n) h e = or_right (f x) (some f xs) (some_at f d xs n (omega arith) e)

pub some_intro : (f : Class → Bool) (k : Class) → f k ≡ true → some f classes ≡ true
some_intro f k e = some_at f c0 classes (code k) (code_lt k) (ap f (class_of k) ∙ e)

-- and where some element passes there is one
pub some_elim : {A : Type 0} (f : A → Bool) (xs : List A) → some f xs ≡ true → (x : A) × (f x ≡ true)
unfolding some
some_elim f [] e = absurd (false≢true e)
some_elim f (x ∷ xs) e = go (f x) refl (some_elim f xs)
  where
    go : (b : Bool) → f x ≡ b → (some f xs ≡ true → (x : _) × (f x ≡ true)) → (x : _) × (f x ≡ true)
    go true p rest = (x, p)
    go false p rest = rest (rw p at e)

-- every class is in the set of all
pub has_all : (k : Class) → has 255 k ≡ true
unfolding has every_class
has_all k = T→≡ _ (class_at_lem (has 255) tt k)

has_none : (k : Class) → has 0 k ≡ false
unfolding has every_class
has_none k = beq→≡ _ _ (class_at_lem (λ k. beq (has 0 k) false) tt k)

-- what p joined with a class of the set gives is in the image
pub in_image : (o : Op) (p : Class) (m : ℕ) (k : Class) → has m k ≡ true → has (image o p m) (join o p k) ≡ true
unfolding image
in_image o p m k e =
    has_set_of (λ c. some (λ k. has m k && same (join o p k) c) classes) (join o p k)
    ∙ some_intro (λ x. has m x && same (join o p x) (join o p k)) k (rw (e, same_refl (join o p k)))

-- what the gate can give is in its possible set
pub in_possible : (o : Op) (inverted : Bool) (p : Class) (left : Bool) (k : Class)
    → has (possible o inverted p left) (invert_if inverted (cond left (join o p k) p)) ≡ true
unfolding possible
in_possible o inverted p left k =
    has_set_of (λ c. some (λ x. same (invert_if inverted (cond left (join o p x) p)) c) classes) (invert_if inverted (cond left (join o p k) p))
    ∙ some_intro (λ x. same (invert_if inverted (cond left (join o p x) p)) (invert_if inverted (cond left (join o p k) p))) k
    (same_refl (invert_if inverted (cond left (join o p k) p)))

pub meets_intro : (m n : ℕ) (k : Class) → has m k ≡ true → has n k ≡ true → meets m n ≡ true
unfolding meets
meets_intro m n k p q = some_intro (λ x. has m x && has n x) k (rw (p, q))

pub meets_elim : (m n : ℕ) → meets m n ≡ true → (k : Class) × (has m k ≡ true) × (has n k ≡ true)
unfolding meets
meets_elim m n e = let w = some_elim (λ x. has m x && has n x) classes e in let both = and_parts (has m w.0) (has n w.0) w.1 in (w.0, both.0, both.1)

pub same_elim : (a b : Class) → same a b ≡ true → a ≡ b
same_elim a b e = same→≡ a b (≡→T (same a b) e)

-- a class of the possible set is one that the gate can give
pub possible_elim : (o : Op) (inverted : Bool) (p : Class) (left : Bool) (c : Class)
    → has (possible o inverted p left) c ≡ true → (k : Class) × (invert_if inverted (cond left (join o p k) p) ≡ c)
unfolding possible
possible_elim o inverted p left c e =
    let w = some_elim (λ k. same (invert_if inverted (cond left (join o p k) p)) c) classes (sym (has_set_of _ c) ∙ e) in (w.0, same_elim _ _ w.1)

-- equal tests, equal sets
pub set_of_ext : (f g : Class → Bool) → ((k : Class) → f k ≡ g k) → set_of f ≡ set_of g
set_of_ext f g e = λ i. set_of (λ k. e k i)

-- two tests that follow from each other are equal
pub iff→≡ : (a b : Bool) → (a ≡ true → b ≡ true) → (b ≡ true → a ≡ true) → a ≡ b
iff→≡ true b f g = sym (f refl)
iff→≡ false true f g = g refl
iff→≡ false false f g = refl

pub has_swap_if : (inverted : Bool) (m : ℕ) (k : Class) → has (swap_if inverted m) k ≡ has m (invert_if inverted k)
unfolding swap_if
has_swap_if inverted m k = has_set_of (λ k. has m (invert_if inverted k)) k

-- What the gate can give comes into its wanted set exactly where p does, before inversion: at once, or with some class more where pins are left.
module _ (o : Op) (inverted : Bool) (w : ℕ) where
  abbrev Goal : Bool → ℕ
  Goal left = cond left (reach o (swap_if inverted w)) (swap_if inverted w)

  pub meets_possible : (left : Bool) (p : Class) → meets (possible o inverted p left) w ≡ has (Goal left) p
  unfolding reach
  meets_possible true p = iff→≡ _ _ there back ∙ sym (has_set_of (λ k. some (λ c. has (swap_if inverted w) (join o k c)) classes) p)
    where
      there : meets (possible o inverted p true) w ≡ true → some (λ c. has (swap_if inverted w) (join o p c)) classes ≡ true
      there e =
          let x = meets_elim _ w e in
          let y = possible_elim o inverted p true x.0 x.1 in
          some_intro (λ c. has (swap_if inverted w) (join o p c)) y.0 (has_swap_if inverted w (join o p y.0) ∙ ap (has w) y.1 ∙ x.2)

      back : some (λ c. has (swap_if inverted w) (join o p c)) classes ≡ true → meets (possible o inverted p true) w ≡ true
      back e =
          let x = some_elim (λ c. has (swap_if inverted w) (join o p c)) classes e in
          meets_intro _ w _ (in_possible o inverted p true x.0) (sym (has_swap_if inverted w (join o p x.0)) ∙ x.1)
  meets_possible false p = iff→≡ _ _ there back
    where
      there : meets (possible o inverted p false) w ≡ true → has (swap_if inverted w) p ≡ true
      there e =
          let x = meets_elim _ w e in
          let y = possible_elim o inverted p false x.0 x.1 in
          has_swap_if inverted w p ∙ ap (has w) y.1 ∙ x.2

      back : has (swap_if inverted w) p ≡ true → meets (possible o inverted p false) w ≡ true
      back e = meets_intro _ w _ (in_possible o inverted p false p) (sym (has_swap_if inverted w p) ∙ e)

  -- so the wanted set of the gate behind a pin is a preimage
  pub wanted_preimage : (leftAfter : Bool) (p : Class) → wanted_for o inverted p leftAfter w ≡ preimage o p (Goal leftAfter)
  unfolding wanted_for preimage
  wanted_preimage leftAfter p = set_of_ext _ _ (λ k. meets_possible leftAfter (join o p k))

-- The forms in which the code makes the sets.
pub has_one : (k x : Class) → has (insert 0 k) x ≡ same k x
unfolding insert
has_one k x = has_set_of (λ c. has 0 c || same k c) x ∙ (λ i. has_none x i || same k x)

-- the image of one class has one class
image_one : (o : Op) (p k : Class) → image o p (insert 0 k) ≡ set_of (same (join o p k))
unfolding image
image_one o p k = set_of_ext _ _ (λ c. iff→≡ _ _ (there c) (back c))
  where
    there : (c : Class) → some (λ x. has (insert 0 k) x && same (join o p x) c) classes ≡ true → same (join o p k) c ≡ true
    there c e =
        let w = some_elim (λ x. has (insert 0 k) x && same (join o p x) c) classes e in
        let both = and_parts (has (insert 0 k) w.0) (same (join o p w.0) c) w.1 in
        ap (λ x. same (join o p x) c) (same_elim k w.0 (sym (has_one k w.0) ∙ both.0)) ∙ both.1

    back : (c : Class) → same (join o p k) c ≡ true → some (λ x. has (insert 0 k) x && same (join o p x) c) classes ≡ true
    back c e = some_intro (λ x. has (insert 0 k) x && same (join o p x) c) k (rw (has_one k k ∙ same_refl k) e)

lowest_only : (k : Class) → count_trailing_zeros 8 (set_of (same k)) ≡ code k
unfolding count_trailing_zeros set_of every_class
lowest_only k = eqb→eq _ _ (class_at_lem (λ c. eqb (count_trailing_zeros 8 (set_of (same c))) (code c)) tt k)

-- a class by the set of it alone
pub insert_one : (k : Class) → insert 0 k ≡ set_of (same k)
unfolding insert
insert_one k = set_of_ext _ _ (λ c. (λ i. has_none c i || same k c))

pub lowest_one : (k : Class) → count_trailing_zeros 8 (insert 0 k) ≡ code k
lowest_one k = ap (count_trailing_zeros 8) (insert_one k) ∙ lowest_only k

pub lowest_image : (o : Op) (p k : Class) → count_trailing_zeros 8 (image o p (insert 0 k)) ≡ code (join o p k)
lowest_image o p k = ap (count_trailing_zeros 8) (image_one o p k) ∙ lowest_only (join o p k)

same_invert : (b : Bool) (x c : Class) → same x (invert_if b c) ≡ same (invert_if b x) c
unfolding every_class
same_invert true x c = beq→≡ _ _ (class_at_lem (agrees x) (class_at_lem (λ x. every_class (agrees x)) tt x) c)
  where
    agrees : Class → Class → Bool
    agrees x c = beq (same x (invert c)) (same (invert x) c)
same_invert false x c = refl

pub possible_left : (o : Op) (inverted : Bool) (p : Class) → swap_if inverted (image o p 255) ≡ possible o inverted p true
unfolding swap_if image possible
possible_left o inverted p =
    set_of_ext _ _
    (λ c. has_set_of (λ c. some (λ k. has 255 k && same (join o p k) c) classes) (invert_if inverted c)
    ∙ (λ i. some (λ k. has_all k i && same_invert inverted (join o p k) c i) classes))

-- a class joined in once more than the set has it changes nothing
module _ (o : Op) (f : Class → Bool) (k : Class) where
  kept : (g : Class → Bool) (x : Class) (ks : List Class)
      → join_all o (keep g (x ∷ ks)) ≡ cond (g x) (join o x (join_all o (keep g ks))) (join_all o (keep g ks))
  unfolding keep
  kept g x ks = go (g x)
    where
      go : (b : Bool) → join_all o (cond b (x ∷ keep g ks) (keep g ks)) ≡ cond b (join o x (join_all o (keep g ks))) (join_all o (keep g ks))
      go true = join_all_cons o x (keep g ks)
      go false = refl

  exchange : (a b c : Class) → join o a (join o b c) ≡ join o b (join o a c)
  exchange a b c = sym (join_assoc o a b c) ∙ ap (λ x. join o x c) (join_comm o a b) ∙ join_assoc o b a c

  twice : (a c : Class) → join o a (join o a c) ≡ join o a c
  twice a c = sym (join_assoc o a a c) ∙ ap (λ x. join o x c) (join_idem o a)

  -- with one class x more in the list: is it in the set, is it k, was k in the list
  step : (x c : Class) (a s r : Bool) → (s ≡ true → k ≡ x)
      → cond (a || s) (join o x (cond r (join o k c) c)) (cond r (join o k c) c) ≡ cond (s || r) (join o k (cond a (join o x c) c)) (cond a (join o x c) c)
  step x c true true true e = exchange x k c
  step x c true true false e = sym (twice x c) ∙ ap (λ y. join o y (join o x c)) (sym (e refl))
  step x c true false true e = exchange x k c
  step x c true false false e = refl
  step x c false true true e = ap (λ y. join o y (join o k c)) (sym (e refl)) ∙ twice k c
  step x c false true false e = ap (λ y. join o y c) (sym (e refl))
  step x c false false true e = refl
  step x c false false false e = refl

  absorb : (ks : List Class)
      → join_all o (keep (λ x. f x || same k x) ks) ≡ cond (some (same k) ks) (join o k (join_all o (keep f ks))) (join_all o (keep f ks))
  unfolding keep some
  absorb [] = refl
  absorb (x ∷ ks) =
      kept (λ x. f x || same k x) x ks ∙ ap (λ c. cond (f x || same k x) (join o x c) c) (absorb ks)
      ∙ step x (join_all o (keep f ks)) (f x) (same k x) (some (same k) ks) (same_elim k x)
      ∙ ap (λ c. cond (same k x || some (same k) ks) (join o k c) c) (sym (kept f x ks))

-- the join of a set with one class more
pub join_more : (o : Op) (m n : ℕ) (k : Class) → ((x : Class) → has n x ≡ (has m x || same k x)) → join_all o (members n) ≡ join o k (join_all o (members m))
join_more o m n k e =
    (λ i. join_all o (keep (λ x. e x i) classes)) ∙ absorb o (has m) k classes
    ∙ ap (λ b. cond b (join o k (join_all o (members m))) (join_all o (members m))) (some_intro (same k) k (same_refl k))

-- The join of a list depends on the set of its classes alone.
pub join_collect : (o : Op) (ps : List Class) → join_all o (members (collect ps)) ≡ join_all o ps
unfolding collect keep has insert
join_collect o [] = refl
join_collect o (k ∷ ps) =
    join_more o (collect ps) (insert (collect ps) k) k (has_set_of (λ c. has (collect ps) c || same k c)) ∙ ap (join o k) (join_collect o ps)
    ∙ sym (join_all_cons o k ps)
