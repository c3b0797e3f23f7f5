-- What stands at a place of the search's table: an image, or one of the others. Assumes nothing.
use mathlib.Core.Path.{◌≡◌, sym, ◌∙◌, ap}
use mathlib.Core.Bool.{cond}
use Prim.Native.Nat.{ℕ, ◌+◌, ◌/◌, ◌%◌, ◌<◌}
use native.Mathlib.Omega.{arith}
use lib.Dec.{eqb}
use lib.ListN.{length, get_or, get_or-append}
use lib.Seq.{get_or-append-add}
use Rattle.kung.specs.Class.{Class, c0, classes, of_code}
use Rattle.kung.specs.Operation.{Op, and, or, op_at}
use Rattle.kung.specs.Sets.{image}
use Rattle.kung.specs.Tables.{image_rule, image_table, image_place}
use Rattle.kung.specs.Lookup.{lookup_table, search_table}
use Rattle.kung.proofs.Listed.{length_tab, get_d_tab}

-- the images come first, the others behind them
length_images : length image_table ≡ 4096
unfolding image_table
length_images = length_tab image_rule 0 4096

search_image : (k : ℕ) → k < 4096 → get_or search_table k 0 ≡ get_or image_table k 0
unfolding search_table
search_image k h = get_or-append image_table lookup_table 0 k (rw length_images h)

pub search_other : (k : ℕ) → get_or search_table (4096 + k) 0 ≡ get_or lookup_table k 0
unfolding search_table
search_other k = ap (λ (n : ℕ). get_or search_table (n + k) 0) (sym length_images) ∙ get_or-append-add image_table lookup_table k 0

-- an operation, a class and a set are read back from their place
read : (f : Op → Class → ℕ → ℕ) (o p m : ℕ) → m < 256
    → f (op_at (image_place o p m / 2048)) (of_code (image_place o p m / 256)) (image_place o p m % 256) ≡ f (op_at o) (of_code p) m
unfolding of_code
read f o p m h =
    let a : image_place o p m / 2048 % 2 ≡ o % 2 = omega arith in
    let b : image_place o p m / 256 % 8 ≡ p % 8 = omega arith in
    let d : image_place o p m % 256 ≡ m = omega arith in
    λ i. f (cond (eqb (a i) 0) and or) (get_or classes (b i) c0) (d i)

pub place_lt : (o p m : ℕ) → m < 256 → image_place o p m < 4096
place_lt o p m h = omega arith

module _ (o p m : ℕ) (h : m < 256) where
  pub image_at : get_or search_table (image_place o p m) 0 ≡ image (op_at o) (of_code p) m
  unfolding image_table image_rule
  image_at =
      search_image (image_place o p m) (place_lt o p m h) ∙ get_d_tab image_rule 4096 (image_place o p m) (place_lt o p m h)
      ∙ read image o p m h
