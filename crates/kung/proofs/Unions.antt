-- Sets by unions: what is true of a class here or there is true of it in the union. Assumes nothing.
use mathlib.Core.Path.{◌≡◌, refl, sym, ◌∙◌, ap, ap₂}
use mathlib.Core.Bool.{Bool, true, false, cond, ◌&&◌, ◌||◌, and-or_distrib_right}
use mathlib.Core.List.{List, [], ◌∷◌}
use Prim.Native.Nat.{ℕ, zero, suc, ◌+◌, ◌*◌, ◌/◌, ◌%◌, ◌^◌, ◌<◌}
use native.Mathlib.Omega.{arith}
use lib.Bits.{bit_or, or_block, or_shr, or_mod, or_shifted_r}
use lib.Dec.{eqb, ltb}
use lib.ListN.{length, get_or}
use lib.Pow.{shr-shr}
use Rattle.kung.specs.Class.{Class, c0, c1, R, F, S0, S1, D+, D-, code, classes, of_code, same}
use Rattle.kung.specs.Rule.{some}
use Rattle.kung.specs.Operation.{Op, op_at, join, invert_if}
use Rattle.kung.specs.Sets.{bit, set_of, has, image, possible}
use Rattle.kung.specs.Members.{swap_if}
use Rattle.kung.specs.Tables.{tab, preimage, reach, block_rule}
use Rattle.kung.proofs.Listed.{agree}

-- a set by its classes, one after the other
unfoldable pub nest : (Class → Bool) → List Class → ℕ
nest f [] = 0
nest f (k ∷ ks) = nest f ks * 2 + bit (f k)

pub nested : (f : Class → Bool) → set_of f ≡ nest f classes
unfolding set_of nest
nested f = omega arith

pub bit_lt : (b : Bool) → bit b < 2
bit_lt true = omega arith
bit_lt false = omega arith

pub eqb_bit : (b : Bool) → eqb (bit b) 1 ≡ b
eqb_bit true = refl
eqb_bit false = refl

-- its digits
pub digit : (f : Class → Bool) (ks : List Class) (n : ℕ) → n < length ks → nest f ks / 2 ^ n % 2 ≡ bit (f (get_or ks n c0))
unfolding nest
digit f [] n h = absurd (omega arith)
digit f (k ∷ ks) zero h = omega (arith, bit_lt (f k))
digit f (k ∷ ks) (suc n) h =
    let e : suc n ≡ 1 + n = omega arith in
    ap (λ (x : ℕ). (nest f ks * 2 + bit (f k)) / 2 ^ x % 2) e ∙ ap (λ (x : ℕ). x % 2) (sym (shr-shr (nest f ks * 2 + bit (f k)) 1 n))
    ∙ ap (λ (x : ℕ). x / 2 ^ n % 2) (omega (arith, bit_lt (f k))) ∙ digit f ks n (omega arith)

or_bits : (a b : Bool) → bit_or (bit a) (bit b) ≡ bit (a || b)
or_bits true true = refl
or_bits true false = refl
or_bits false true = refl
or_bits false false = refl

or_nest : (f g : Class → Bool) (ks : List Class) → bit_or (nest f ks) (nest g ks) ≡ nest (λ k. f k || g k) ks
unfolding nest
or_nest f g [] = refl
or_nest f g (k ∷ ks) =
    or_block 1 (nest f ks) (nest g ks) (bit (f k)) (bit (g k)) (bit_lt (f k)) (bit_lt (g k))
    ∙ ap₂ (λ (x y : ℕ). x * 2 + y) (or_nest f g ks) (or_bits (f k) (g k))

-- the union of two sets holds what passes one test or the other
pub set_of_or : (f g : Class → Bool) → set_of (λ k. f k || g k) ≡ bit_or (set_of f) (set_of g)
set_of_or f g = nested (λ k. f k || g k) ∙ sym (or_nest f g classes) ∙ sym (ap₂ bit_or (nested f) (nested g))

or_digits : (x y : ℕ) → x < 2 → y < 2 → eqb (bit_or x y) 1 ≡ (eqb x 1 || eqb y 1)
or_digits zero zero h l = refl
or_digits zero (suc zero) h l = refl
or_digits zero (suc (suc y)) h l = absurd (omega arith)
or_digits (suc zero) zero h l = refl
or_digits (suc zero) (suc zero) h l = refl
or_digits (suc zero) (suc (suc y)) h l = absurd (omega arith)
or_digits (suc (suc x)) y h l = absurd (omega arith)

pub has_or : (m n : ℕ) (k : Class) → has (bit_or m n) k ≡ (has m k || has n k)
unfolding has
has_or m n k =
    ap (λ (x : ℕ). eqb (x % 2) 1) (or_shr m n (code k)) ∙ ap (λ (x : ℕ). eqb x 1) (or_mod (m / 2 ^ code k) (n / 2 ^ code k) 1)
    ∙ or_digits (m / 2 ^ code k % 2) (n / 2 ^ code k % 2) (omega arith) (omega arith)

-- some class passes one of two tests
pub some_or : (f g : Class → Bool) (ks : List Class) → some (λ k. f k || g k) ks ≡ (some f ks || some g ks)
unfolding some
some_or f g [] = refl
some_or f g (k ∷ ks) = ap (λ b. (f k || g k) || b) (some_or f g ks) ∙ exchange (f k) (g k) (some f ks) (some g ks)
  where
    exchange : (a b c d : Bool) → ((a || b) || (c || d)) ≡ ((a || c) || (b || d))
    exchange true b c d = refl
    exchange false true true d = refl
    exchange false true false d = refl
    exchange false false c d = refl

-- a rule that takes unions to unions
abbrev pub Additive : (ℕ → ℕ) → Type 0
Additive f = (m n : ℕ) → f (bit_or m n) ≡ bit_or (f m) (f n)

-- images, preimages and reach are unions over the set's classes
module _ (o : Op) where
  pub image_or : (p : Class) → Additive (image o p)
  unfolding image
  image_or p m n =
      (λ i. set_of (λ c. some (λ k. has_or m n k i && same (join o p k) c) classes))
      ∙ (λ i. set_of (λ c. some (λ k. and-or_distrib_right (has m k) (has n k) (same (join o p k) c) i) classes))
      ∙ (λ i. set_of (λ c. some_or (λ k. has m k && same (join o p k) c) (λ k. has n k && same (join o p k) c) classes i))
      ∙ set_of_or (λ c. some (λ k. has m k && same (join o p k) c) classes) (λ c. some (λ k. has n k && same (join o p k) c) classes)

  pub preimage_or : (p : Class) → Additive (preimage o p)
  unfolding preimage
  preimage_or p m n = (λ i. set_of (λ k. has_or m n (join o p k) i)) ∙ set_of_or (λ k. has m (join o p k)) (λ k. has n (join o p k))

  pub reach_or : Additive (reach o)
  unfolding reach
  reach_or m n =
      (λ i. set_of (λ k. some (λ c. has_or m n (join o k c) i) classes))
      ∙ (λ i. set_of (λ k. some_or (λ c. has m (join o k c)) (λ c. has n (join o k c)) classes i))
      ∙ set_of_or (λ k. some (λ c. has m (join o k c)) classes) (λ k. some (λ c. has n (join o k c)) classes)

pub block_or : (b : ℕ) → Additive (block_rule b)
unfolding block_rule
block_or b = either (ltb b 16) _ _ (preimage_or (op_at (b / 8)) (of_code b)) (reach_or (op_at b))
  where
    either : (t : Bool) (f g : ℕ → ℕ) → Additive f → Additive g → Additive (λ m. cond t (f m) (g m))
    either true f g x y = x
    either false f g x y = y

-- a set is the union of its halves
pub halves : (m : ℕ) → bit_or (m % 16) (m / 16 * 16) ≡ m
halves m = or_shifted_r (m / 16) 4 (m % 16) (omega arith) ∙ omega arith

-- a byte is the set of what it has
pub set_of_has : (m : ℕ) → m < 256 → set_of (has m) ≡ m
unfolding tab set_of has
set_of_has m h = agree (λ m. set_of (has m)) (λ m. m) 256 refl m h

-- the set of one class
pub one_class : (j : ℕ) → j < 8 → 2 ^ j ≡ set_of (same (get_or classes j c0))
unfolding tab set_of
one_class j h = agree (λ j. 2 ^ j) (λ j. set_of (same (get_or classes j c0))) 8 refl j h

-- a set is a byte
pub set_byte : (f : Class → Bool) → set_of f < 256
unfolding set_of
set_byte f = omega (arith, bit_lt (f c0), bit_lt (f c1), bit_lt (f R), bit_lt (f F), bit_lt (f S0), bit_lt (f S1), bit_lt (f D+), bit_lt (f D-))

pub swap_small : (b : Bool) (m : ℕ) → swap_if b m < 256
unfolding swap_if
swap_small b m = set_byte (λ k. has m (invert_if b k))

pub preimage_small : (o : Op) (p : Class) (m : ℕ) → preimage o p m < 256
unfolding preimage
preimage_small o p m = set_byte (λ k. has m (join o p k))

pub reach_small : (o : Op) (m : ℕ) → reach o m < 256
unfolding reach
reach_small o m = set_byte (λ k. some (λ c. has m (join o k c)) classes)

pub possible_small : (o : Op) (inverted : Bool) (p : Class) (left : Bool) → possible o inverted p left < 256
unfolding possible
possible_small o inverted p left = set_byte (λ c. some (λ k. same (invert_if inverted (cond left (join o p k) p)) c) classes)
