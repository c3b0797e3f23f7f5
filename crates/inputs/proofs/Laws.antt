-- Laws of tabled codes, and of numbers in a row. Assumes nothing.
use Prim.Native.Nat.{ℕ, zero, suc, ◌+◌, ◌-◌, ◌*◌, ◌/◌, ◌%◌, ◌≤◌, ◌<◌}
use native.Mathlib.Omega.{arith}
use native.Mathlib.Nat.{zero-add, add-zero}
use mathlib.Core.Path.{◌≡◌, refl, sym, ◌∙◌, ap, ap₂}
use mathlib.Core.List.{List, [], ◌∷◌, ◌++◌, append_assoc}
use lib.ListN.{length, take, drop, set, replicate, length-append, take-append-drop, length-drop}
use borrow.Rule.Slice.PartMut.{put_mid}
use Rattle.std.proofs.lemmas.List.{append-nil}
use lib.Seq.{drop-length, take_at, drop_at, drop-cons, drop-drop, set_at, length-take-le}
use lib.Bits.{bit_xor}
use lib.Dec.{eqb}
use Rattle.kung.specs.Class.{code, input_class}
use Rattle.kung.specs.Tables.{tab}
use Rattle.kung.proofs.Listed.{length_tab}
use Rattle.words.specs.Words.{byte_at}
use Rattle.changes.specs.Changes.{bit_at, class_at}
use Rattle.inputs.specs.Written.{code_from, code_in, written}

pub drop_replicate : (i m a : ℕ) → drop i (replicate m a) ≡ replicate (m - i) a
drop_replicate zero m a = let e : m - 0 ≡ m = omega arith in rw e
drop_replicate (suc i) zero a = let e : 0 - suc i ≡ 0 = omega arith in rw e
drop_replicate (suc i) (suc m) a = let e : suc m - suc i ≡ m - i = omega arith in rw e (drop_replicate i m a)

module _ (f : ℕ → ℕ) where
  pub tab_add : (i n m : ℕ) → tab f i (n + m) ≡ tab f i n ++ tab f (i + n) m
  unfolding tab
  tab_add i zero m = rw (zero-add, add-zero)
  tab_add i (suc n) m =
      let e : suc n + m ≡ suc (n + m) = omega arith in
      let d : suc i + n ≡ i + suc n = omega arith in
      rw (e, ← d) (ap (λ l. f i ∷ l) (tab_add (suc i) n m))

tab_more : (f : ℕ → ℕ) (n : ℕ) → tab f 0 (n + 1) ≡ tab f 0 n ++ (f n ∷ [])
unfolding tab
tab_more f n = tab_add f 0 n 1 ∙ rw zero-add

pub tab_ext : (f g : ℕ → ℕ) (i j n : ℕ) → ((k : ℕ) → k < n → f (i + k) ≡ g (j + k)) → tab f i n ≡ tab g j n
unfolding tab
tab_ext f g i j zero h = refl
tab_ext f g i j (suc n) h = rw (here, tab_ext f g (suc i) (suc j) n next)
  where
    here : f i ≡ g j
    here = simp add-zero at (h 0 (omega arith))

    next : (k : ℕ) → k < n → f (suc i + k) ≡ g (suc j + k)
    next k l =
        let p : i + suc k ≡ suc i + k = omega arith in
        let q : j + suc k ≡ suc j + k = omega arith in
        rw (p, q) at (h (suc k) (omega arith))

-- writing one number after the other
module _ (old : List ℕ) (at : ℕ) (f : ℕ → ℕ) where
  pub written_none : old ≡ written old at f 0
  unfolding written tab
  written_none = rw add-zero (sym (take-append-drop at old))

  pub written_more : (n : ℕ) → at + n < length old → set (written old at f n) (at + n) (f n) ≡ written old at f (n + 1)
  unfolding written
  written_more n h =
      let front : length (take at old ++ tab f 0 n) ≡ at + n = omega (arith, length-append (take at old) (tab f 0 n), length-take-le at old (omega arith), length_tab f 0 n) in
      let next : at + (n + 1) ≡ suc (at + n) = omega arith in
      rw (← append_assoc (take at old) (tab f 0 n) (drop (at + n) old), drop-cons old (at + n) 0 h, set_at _ _ _ _ (at + n) front, tab_more f n, next)
      (simp append_assoc)

  pub written_kept : (n : ℕ) → at + n ≤ length old → length (written old at f n) ≡ length old
  unfolding written
  written_kept n h =
      omega (
        arith,
        length-append (take at old) (tab f 0 n ++ drop (at + n) old),
        length-append (tab f 0 n) (drop (at + n) old),
        length-take-le at old (omega arith),
        length_tab f 0 n,
        length-drop (at + n) old,
      )

-- from the start on
pub written_next : (old : List ℕ) (f : ℕ → ℕ) (n : ℕ) → n < length old → (now : List ℕ) → now ≡ written old 0 f n → (value : ℕ) → value ≡ f n
    → set now n value ≡ written old 0 f (n + 1)
written_next old f n h now e value v = ap₂ (λ now value. set now n value) e v ∙ rw zero-add at (written_more old 0 f n (rw zero-add h))

pub written_all : (old : List ℕ) (f : ℕ → ℕ) (n : ℕ) → written old 0 f n ≡ tab f 0 n ++ drop n old
unfolding written
written_all old f n = rw zero-add

pub written_whole : (old : List ℕ) (f : ℕ → ℕ) (n : ℕ) → n ≡ length old → written old 0 f n ≡ tab f 0 (length old)
written_whole old f n e = rw (e, written_all old f (length old), drop-length old) (append-nil (tab f 0 (length old)))

-- into a part of a list
pub part_written : (now part : List ℕ) (at k n : ℕ) (f : ℕ → ℕ) → part ≡ tab f 0 (length (take k (drop at now))) → k ≡ n → at + n ≤ length now
    → put_mid at k now part ≡ written now at f n
unfolding written
part_written now part at k n f e d room =
    let size : length (take k (drop at now)) ≡ n = length-take-le k (drop at now) (omega (arith, length-drop at now)) ∙ d in
    rw (e, size, d, drop-drop n at now)

-- what is written behind the first n numbers is written with them
behind : (old : List ℕ) (f g : ℕ → ℕ) (n m : ℕ) → ((k : ℕ) → k < m → f (n + k) ≡ g k)
    → written (tab f 0 n ++ drop n old) n g m ≡ tab f 0 (n + m) ++ drop (n + m) old
unfolding written
behind old f g n m e = rw (past, take_at (tab f 0 n) (drop n old) n (length_tab f 0 n), tab_add f 0 n m, zero-add n, same, append_assoc)
  where
    past : drop (n + m) (tab f 0 n ++ drop n old) ≡ drop (n + m) old
    past = rw (← drop-drop m n (tab f 0 n ++ drop n old), drop_at (tab f 0 n) (drop n old) n (length_tab f 0 n), drop-drop)

    same : tab f n m ≡ tab g 0 m
    same = tab_ext f g n 0 m (λ k l. rw zero-add (e k l))

written_then : (old : List ℕ) (f g : ℕ → ℕ) (n m : ℕ) → ((k : ℕ) → k < m → f (n + k) ≡ g k) → written (written old 0 f n) n g m ≡ written old 0 f (n + m)
written_then old f g n m e = rw (written_all old f n, written_all old f (n + m)) (behind old f g n m e)

-- the class of an input by two bits
pub class_code : (a b : ℕ) → a < 2 → b < 2 → a + 2 * bit_xor a b ≡ code (input_class (eqb a 1) (eqb b 1))
class_code zero zero h l = refl
class_code zero (suc zero) h l = refl
class_code (suc zero) zero h l = refl
class_code (suc zero) (suc zero) h l = refl
class_code (suc (suc a)) b h l = absurd (omega arith)
class_code zero (suc (suc b)) h l = absurd (omega arith)
class_code (suc zero) (suc (suc b)) h l = absurd (omega arith)

-- the inputs of one byte of the vectors behind those of the first j
module _ (l : List ℕ) (first second j a b : ℕ) (one : a ≡ byte_at l (first + j)) (two : b ≡ byte_at l (second + j)) where
  pub code_behind : (k : ℕ) → k < 8 → code_from l first second (8 * j + k) ≡ code_in a b k
  unfolding class_at bit_at
  code_behind k h =
      let q : (8 * j + k) / 8 ≡ j = omega arith in
      let r : (8 * j + k) % 8 ≡ k = omega arith in
      rw (q, r, one, two)

  pub byte_written : (old now : List ℕ) (m : ℕ) → m ≤ 8 → now ≡ written old 0 (code_from l first second) (8 * j)
      → written now (8 * j) (code_in a b) m ≡ written old 0 (code_from l first second) (8 * j + m)
  byte_written old now m h e = rw e (written_then old (code_from l first second) (code_in a b) (8 * j) m (λ k l. code_behind k (omega arith)))
