-- Laws of the tie. Assumes nothing.
use Rattle.std.proofs.Common.{◌≡◌, ℕ, zero, suc, ◌+◌, ◌-◌, ◌*◌, ◌/◌, ◌%◌, ◌<◌, ◌≤◌, List, [], ◌∷◌, length, get_or, take, drop, sym, refl, ap, ◌∙◌, add-zero, mod-eq_of_lt, suc-mul, zero-add, mul-add, add-one, arith, drop-cons, ext_get_or}
use Rattle.std.proofs.lemmas.List.{drop-drop, get_or-take, get_or-drop}
use native.Mathlib.Nat.{mul-zero, mul-suc, add_comm, add_assoc, mod-add-mod, add-mod-mod, add-mod}
use lib.Seq.{drop-length}
use Rattle.std.specs.Simd.{first_chunks}
use Rattle.words.specs.Words.{byte_at}
use Rattle.tie.specs.Tie.{grown, tie_from}
use Rattle.tie.specs.Blocks.{sum_at, weight_at, column_at, columns_from, columns_at}

-- one byte more of the tie
pub tie_more : (a b : ℕ) (s : List ℕ) (i : ℕ) → i < length s
    → tie_from a b (drop i s) ≡ tie_from (grown a (byte_at s i)) (grown b (grown a (byte_at s i))) (drop (i + 1) s)
unfolding tie_from
tie_more a b s i h = rw (add-one, drop-cons s i 0 h)

pub tie_end : (a b : ℕ) (s : List ℕ) (i : ℕ) → i ≡ length s → tie_from a b (drop i s) ≡ b
unfolding tie_from
tie_end a b s i e = rw (e, drop-length s)

-- n bytes at once: shown of the tie without its modulus, which may be taken at the end as well
exact_from : (a b : ℕ) → List ℕ → ℕ
exact_from a b [] = b
exact_from a b (x ∷ s) = exact_from (a + x) (b + (a + x)) s

exact_mod : (a b : ℕ) (s : List ℕ) → tie_from (a % 4294967296) (b % 4294967296) s ≡ exact_from a b s % 4294967296
unfolding tie_from exact_from
exact_mod a b [] = refl
exact_mod a b (x ∷ s) = rw (mod-add-mod a 4294967296 x, ← add-mod b (a + x) 4294967296) (exact_mod (a + x) (b + (a + x)) s)

exact_block : (n a b : ℕ) (s : List ℕ) (i : ℕ) → i + n ≤ length s → exact_from a b (drop i s) ≡ exact_from (a + sum_at n s i) (b + n * a + weight_at n s i) (drop (i + n) s)
unfolding sum_at weight_at exact_from
exact_block zero a b s i h = let e : b + 0 * a + 0 ≡ b = omega arith in rw (add-zero a, e, add-zero i)
exact_block (suc n) a b s i h =
    let x = byte_at s i in
    let first : exact_from a b (drop i s) ≡ exact_from (a + x) (b + (a + x)) (drop (i + 1) s) = rw (add-one i, drop-cons s i 0 (omega arith)) in
    let sum : a + x + sum_at n s (i + 1) ≡ a + (x + sum_at n s (i + 1)) = omega arith in
    let weight : b + (a + x) + n * (a + x) + weight_at n s (i + 1) ≡ b + suc n * a + (suc n * x + weight_at n s (i + 1)) = rw (mul-add n a x, suc-mul n a, suc-mul n x) (omega arith) in
    let place : i + 1 + n ≡ i + suc n = omega arith in
    first ∙ rw (sum, weight, place) at (exact_block n (a + x) (b + (a + x)) s (i + 1) (omega arith))

pub tie_block : (n a b : ℕ) (s : List ℕ) (i : ℕ) → a < 4294967296 → b < 4294967296 → i + n ≤ length s
    → tie_from a b (drop i s) ≡ tie_from ((a + sum_at n s i) % 4294967296) ((b + n * a + weight_at n s i) % 4294967296) (drop (i + n) s)
tie_block n a b s i p q h =
    let e : tie_from (a % 4294967296) (b % 4294967296) (drop i s) ≡ tie_from a b (drop i s) = rw (mod-eq_of_lt p, mod-eq_of_lt q) in
    sym e ∙ exact_mod a b (drop i s) ∙ ap (λ x. x % 4294967296) (exact_block n a b s i h) ∙ sym (exact_mod _ _ _)

-- what the blocks carry over to the second sum, wrapping
pub carried : (b c w : ℕ) → ((b + c % 4294967296) % 4294967296 + w) % 4294967296 ≡ (b + c + w) % 4294967296
carried b c w = rw (add-mod-mod b c 4294967296, mod-add-mod (b + c) 4294967296 w)

-- the sums of n bytes, where those from byte k on are left
pub sum_more : (n : ℕ) (s : List ℕ) (k p : ℕ) → k < n → sum_at (n - k) s p ≡ byte_at s p + sum_at (n - (k + 1)) s (p + 1)
unfolding sum_at
sum_more n s k p h = let e : n - k ≡ suc (n - (k + 1)) = omega arith in rw e

pub weight_more : (n : ℕ) (s : List ℕ) (at k : ℕ) → k < n → weight_at (n - k) s (at + k) ≡ (n - k) * byte_at s (at + k) + weight_at (n - (k + 1)) s (at + (k + 1))
unfolding weight_at
weight_more n s at k h =
    let e : n - k ≡ suc (n - (k + 1)) = omega arith in
    let d : at + k + 1 ≡ at + (k + 1) = omega arith in
    rw (e, d)

pub sum_end : (n : ℕ) (s : List ℕ) (at k : ℕ) → n ≤ k → sum_at (n - k) s at ≡ 0
unfolding sum_at
sum_end n s at k h = let e : n - k ≡ 0 = omega arith in rw e

pub weight_end : (n : ℕ) (s : List ℕ) (at k : ℕ) → n ≤ k → weight_at (n - k) s at ≡ 0
unfolding weight_at
weight_end n s at k h = let e : n - k ≡ 0 = omega arith in rw e

-- the blocks of n bytes, and a block's sums by its place among all bytes
blocks_at : (n k : ℕ) (s : List ℕ) (i : ℕ) → i < k → get_or (first_chunks n k s) i [] ≡ take n (drop (n * i) s)
blocks_at n zero s i h = absurd (omega arith)
blocks_at n (suc k) s zero h = rw mul-zero
blocks_at n (suc k) s (suc i) h = rw (blocks_at n k (drop n s) i (omega arith), drop-drop, mul-suc, add_comm n (n * i))

block_byte : (m : ℕ) (s : List ℕ) (p k : ℕ) → k < m → byte_at (take m (drop p s)) k ≡ byte_at s (p + k)
block_byte m s p k h = get_or-take m (drop p s) k 0 h ∙ get_or-drop p s k 0

module _ (m : ℕ) (s : List ℕ) (p : ℕ) where
  block_sum_at : (n k : ℕ) → k + n ≤ m → sum_at n (take m (drop p s)) k ≡ sum_at n s (p + k)
  unfolding sum_at
  block_sum_at zero k h = refl
  block_sum_at (suc n) k h = rw (block_byte m s p k (omega arith), block_sum_at n (k + 1) (omega arith), add_assoc)

  block_weight_at : (n k : ℕ) → k + n ≤ m → weight_at n (take m (drop p s)) k ≡ weight_at n s (p + k)
  unfolding weight_at
  block_weight_at zero k h = refl
  block_weight_at (suc n) k h = rw (block_byte m s p k (omega arith), block_weight_at n (k + 1) (omega arith), add_assoc)

-- one block more of the tie
pub block_more : (a b : ℕ) (s : List ℕ) (blocks : List (List ℕ)) (i : ℕ) → a < 4294967296 → b < 4294967296 → blocks ≡ first_chunks 64 (length s / 64) s → i < length s / 64
    → tie_from a b (drop (64 * i) s)
    ≡ tie_from ((a + sum_at 64 (get_or blocks i []) 0) % 4294967296) (((b + a * 64 % 4294967296) % 4294967296 + weight_at 64 (get_or blocks i []) 0) % 4294967296) (drop (64 * (i + 1)) s)
block_more a b s blocks i p q front h =
    let at = 64 * i in
    let next : 64 * (i + 1) ≡ at + 64 = omega arith in
    let times : a * 64 ≡ 64 * a = omega arith in
    rw (front, carried b (a * 64), times, blocks_at 64 (length s / 64) s i h, block_sum_at 64 s at 64 0 (omega arith), block_weight_at 64 s at 64 0 (omega arith), add-zero at, next)
    (tie_block 64 a b s at p q (omega arith))

-- the columns of a block, as a list
columns_length : (n : ℕ) (s : List ℕ) (at k : ℕ) → length (columns_from n s at k) ≡ n
unfolding columns_from
columns_length zero s at k = refl
columns_length (suc n) s at k = ap suc (columns_length n s at (k + 1))

columns_at_lem : (n : ℕ) (s : List ℕ) (at k j : ℕ) → j < n → get_or (columns_from n s at k) j 0 ≡ column_at s at (k + j)
unfolding columns_from
columns_at_lem zero s at k j h = absurd (omega arith)
columns_at_lem (suc n) s at k zero h = rw add-zero
columns_at_lem (suc n) s at k (suc j) h = let e : k + suc j ≡ k + 1 + j = omega arith in rw e (columns_at_lem n s at (k + 1) j (omega arith))

pub column_of : (s : List ℕ) (at j : ℕ) → j < 16 → get_or (columns_at s at) j 0 ≡ column_at s at j
column_of s at j h = columns_at_lem 16 s at 0 j h ∙ ap (column_at s at) (zero-add j)

pub columns_all : (s : List ℕ) (at : ℕ) (sums : List ℕ) → length sums ≡ 16 → ((j : ℕ) → j < 16 → get_or sums j 0 ≡ column_at s at j) → sums ≡ columns_at s at
columns_all s at sums e all = ext_get_or 0 sums _ (e ∙ sym (columns_length 16 s at 0)) (λ j h. let l : j < 16 = omega arith in all j l ∙ sym (column_of s at j l))

-- Their sum: the block's bytes with weights, from column k of each row on. Column 16 of a row is column 0 of the next, so that all cancel but the first.
unfoldable pub rows_from : List ℕ → (at k : ℕ) → ℕ
rows_from s at k = weight_at (64 - k) s (at + k) + weight_at (48 - k) s (at + 16 + k) + weight_at (32 - k) s (at + 32 + k) + weight_at (16 - k) s (at + 48 + k)

pub rows_more : (s : List ℕ) (at k : ℕ) → k < 16 → rows_from s at k ≡ column_at s at k + rows_from s at (k + 1)
unfolding rows_from column_at
rows_more s at k h =
    omega (
      arith,
      weight_more 64 s at k (omega arith),
      weight_more 48 s (at + 16) k (omega arith),
      weight_more 32 s (at + 32) k (omega arith),
      weight_more 16 s (at + 48) k (omega arith),
    )

pub rows_end : (s : List ℕ) (at : ℕ) → rows_from s at 0 ≡ weight_at 64 s at + rows_from s at 16
unfolding rows_from
rows_end s at =
    let third : at + 16 + 16 ≡ at + 32 = omega arith in
    let fourth : at + 32 + 16 ≡ at + 48 = omega arith in
    rw (third, fourth, add-zero at, add-zero (at + 16), add-zero (at + 32), add-zero (at + 48)) (omega (arith, weight_end 0 s (at + 48 + 16) 0 (omega arith)))
