-- How a row is filled, told to be below a bound, and written. Assumes nothing.
use Prim.Native.Nat.{ℕ, zero, suc, ◌+◌, ◌-◌, ◌*◌, ◌≤◌, ◌<◌}
use native.Mathlib.Omega.{arith}
use native.Mathlib.Numerals.{add-one}
use mathlib.Core.Path.{◌≡◌, refl, sym, ◌∙◌, ap, ap₂}
use mathlib.Core.Bool.{Bool, true, false, cond, ◌&&◌}
use mathlib.Core.List.{List, [], ◌∷◌, ◌++◌, append_assoc}
use borrow.Author.Tests.{lt-ltb, le-ltb, ltb-true, ltb-false, leb-true, leb-false}
use borrow.Author.Count.{below_more}
use lib.Bits.{bit_or}
use Rattle.std.specs.Int.Bits.{or_zero_r}
use Rattle.std.proofs.Math.Bool.{and-true, and-false}
use lib.Dec.{eqb, leb, ltb}
use lib.ListN.{length, get_or, take, drop, set, length-append, length-drop, drop_of_length-le, get_or-append}
use mir.Val.{bool_byte}
use lib.Seq.{take-length, length-take-le, paste, paste-suc, get_or-append-add, get_or-take, set_at, ext_get_or, get_or-set_same, get_or-set_other, drop-cons}
use Rattle.kung.specs.Rule.{each}
use Rattle.kung.specs.Sets.{bit}
use Rattle.kung.specs.Tables.{tab}
use Rattle.kung.proofs.Listed.{get_d_tab, length_tab}
use Rattle.kung.proofs.Unions.{eqb_bit}
use Rattle.words.specs.Words.{word_at}
use Rattle.making.specs.Making.{pin_or, eight_at, put_at}

-- the numbers of a list below a place are those of a rule; one more is
abbrev pub Filled : (ℕ → ℕ) → List ℕ → (j : ℕ) → Type 0
Filled f row j = (k : ℕ) → k < j → get_or row k 0 ≡ f k

pub filled_more : (f : ℕ → ℕ) (row : List ℕ) (j v : ℕ) → j < length row → v ≡ f j → Filled f row j → Filled f (set row j v) (j + 1)
filled_more f row j v h e r =
    below_more (λ k. get_or (set row j v) k 0 ≡ f k) j
    (λ k l. get_or-set_other row j k v 0 (λ d. omega arith) ∙ r k l)
    (get_or-set_same row j v 0 h ∙ e)

pub filled_all : (f : ℕ → ℕ) (n : ℕ) (row : List ℕ) → length row ≡ n → Filled f row n → row ≡ tab f 0 n
filled_all f n row e r =
    ext_get_or 0 row _ (e ∙ sym (length_tab f 0 n)) (λ k h. let l : k < n = omega arith in r k l ∙ sym (get_d_tab f n k l))

-- eight numbers, the pins and another past them
pub eight_all : (s : List ℕ) (at count past : ℕ) (row : List ℕ) → length row ≡ 8 → Filled (pin_or s at count past) row 8 → row ≡ eight_at s at count past
unfolding eight_at
eight_all s at count past row e r = filled_all _ 8 row e r

pub eight_length : (s : List ℕ) (at count past : ℕ) → length (eight_at s at count past) ≡ 8
unfolding eight_at
eight_length s at count past = length_tab _ 0 8

pub eight_pin : (s : List ℕ) (at count past k : ℕ) → k < 8 → get_or (eight_at s at count past) k 0 ≡ pin_or s at count past k
unfolding eight_at
eight_pin s at count past k h = get_d_tab _ 8 k h

-- the gate's own pins, and those past the last
pub pin_own : (s : List ℕ) (at count past k : ℕ) → k < count → word_at s (at + 2 * k) ≡ pin_or s at count past k
unfolding pin_or
pin_own s at count past k h = rw (lt-ltb k count h)

pub pin_past : (s : List ℕ) (at count past k : ℕ) → count ≤ k → past ≡ pin_or s at count past k
unfolding pin_or
pin_past s at count past k h = rw (le-ltb k count h)

-- the window says which they are: its number i is 1 where i is below 8
abbrev pub window : List ℕ
window = 1 ∷ 1 ∷ 1 ∷ 1 ∷ 1 ∷ 1 ∷ 1 ∷ 1 ∷ 0 ∷ 0 ∷ 0 ∷ 0 ∷ 0 ∷ 0 ∷ 0 ∷ 0 ∷ []

window_at : (i : ℕ) → i < 16 → get_or window i 0 ≡ bit (ltb i 8)
unfolding tab
window_at i h = get_d_tab (λ i. bit (ltb i 8)) 16 i h

window_own : (count j : ℕ) → count ≤ 8 → j < 8 → eqb (get_or window (8 - count + j) 0) 1 ≡ ltb j count
window_own count j h l = rw (window_at (8 - count + j) (omega arith), eqb_bit) (go (ltb (8 - count + j) 8) refl)
  where
    go : (b : Bool) → ltb (8 - count + j) 8 ≡ b → b ≡ ltb j count
    go true e = sym (lt-ltb j count (omega (arith, ltb-true (8 - count + j) 8 e)))
    go false e = sym (le-ltb j count (omega (arith, ltb-false (8 - count + j) 8 e)))

pub window_pin : (s : List ℕ) (at count past j : ℕ) → count ≤ 8 → j < 8
    → cond (eqb (get_or window (8 - count + j) 0) 1) (word_at s (at + 2 * j)) past ≡ pin_or s at count past j
unfolding pin_or
window_pin s at count past j h l = rw (window_own count j h l)

-- of the numbers passed none is high, and those left are below
high_more : (high bound x : ℕ) (b : Bool) → high ≤ 1 → eqb high 0 && (ltb x bound && b) ≡ eqb (bit_or high (bool_byte (leb bound x))) 0 && b
high_more high bound x b low = go (leb bound x) refl
  where
    or_high : (high : ℕ) → high ≤ 1 → eqb (bit_or high 1) 0 ≡ false
    or_high zero h = refl
    or_high (suc zero) h = refl
    or_high (suc (suc n)) h = absurd (omega arith)

    go : (d : Bool) → leb bound x ≡ d → eqb high 0 && (ltb x bound && b) ≡ eqb (bit_or high (bool_byte d)) 0 && b
    go true e = rw (le-ltb x bound (leb-true bound x e), or_high high low, and-false (eqb high 0)) refl
    go false e = rw (lt-ltb x bound (leb-false bound x e), or_zero_r high)

pub or_low : (high : ℕ) (b : Bool) → high ≤ 1 → bit_or high (bool_byte b) ≤ 1
or_low zero true h = omega arith
or_low zero false h = omega arith
or_low (suc zero) true h = omega arith
or_low (suc zero) false h = omega arith
or_low (suc (suc n)) b h = absurd (omega arith)

pub below_more_high : (row : List ℕ) (bound high j : ℕ) → high ≤ 1 → j < length row
    → each (λ x. ltb x bound) row ≡ eqb high 0 && each (λ x. ltb x bound) (drop j row)
    → each (λ x. ltb x bound) row ≡ eqb (bit_or high (bool_byte (leb bound (get_or row j 0)))) 0 && each (λ x. ltb x bound) (drop (j + 1) row)
unfolding each
below_more_high row bound high j low h e =
    e
    ∙ rw (drop-cons row j 0 h, add-one)
    (high_more high bound (get_or row j 0) (each (λ x. ltb x bound) (drop (suc j) row)) low)

pub below_end : (row : List ℕ) (bound high j : ℕ) → length row ≤ j → eqb high 0 && each (λ x. ltb x bound) (drop j row) ≡ eqb high 0
unfolding each
below_end row bound high j h = rw (drop_of_length-le row {i = j} h, and-true (eqb high 0)) refl

-- numbers written where they have room, and where they have none
pub put_in : (rows : List ℕ) (at : ℕ) (xs : List ℕ) → at + length xs ≤ length rows → put_at rows at xs ≡ take at rows ++ (xs ++ drop (at + length xs) rows)
unfolding put_at
put_in rows at xs h = rw (le-ltb (length rows) (at + length xs) h)

pub put_out : (rows : List ℕ) (at : ℕ) (xs : List ℕ) → length rows < at + length xs → put_at rows at xs ≡ rows
unfolding put_at
put_out rows at xs h = rw (lt-ltb (length rows) (at + length xs) h)

-- the numbers of a list written one after the other
pub paste_more : (old : List ℕ) (at : ℕ) (xs : List ℕ) (j v : ℕ) (rows : List ℕ) → at + j < length old → j < length xs → v ≡ get_or xs j 0
    → rows ≡ paste old at xs j → set rows (at + j) v ≡ paste old at xs (j + 1)
paste_more old at xs j v rows h l e r = ap₂ (λ (t : List ℕ) (x : ℕ). set t (at + j) x) r e ∙ paste-suc old at xs j 0 h l ∙ ap (paste old at xs) (sym (add-one j))

pub paste_end : (old : List ℕ) (at : ℕ) (xs : List ℕ) (j : ℕ) (rows : List ℕ) → at + length xs ≤ length old → j ≡ length xs
    → rows ≡ paste old at xs j → rows ≡ put_at old at xs
paste_end old at xs j rows h e r = r ∙ ap (paste old at xs) e ∙ rw (take-length, append_assoc) (sym (put_in old at xs h))

-- one number more, after those written
pub put_more : (rows : List ℕ) (at : ℕ) (xs : List ℕ) (x : ℕ) → at + length xs < length rows
    → set (put_at rows at xs) (at + length xs) x ≡ put_at rows at (xs ++ (x ∷ []))
put_more rows at xs x h =
    let front = take at rows ++ xs in
    let long : length front ≡ at + length xs = length-append (take at rows) xs ∙ omega (arith, length-take-le at rows (omega arith)) in
    let past : at + length (xs ++ (x ∷ [])) ≡ suc (at + length xs) = omega (arith, length-append xs (x ∷ [])) in
    ap (λ (l : List ℕ). set l (at + length xs) x) (put_in rows at xs (omega arith) ∙ sym (append_assoc (take at rows) xs _))
    ∙ ap (λ (l : List ℕ). set (front ++ l) (at + length xs) x) (drop-cons rows (at + length xs) 0 h)
    ∙ set_at front _ _ x (at + length xs) long
    ∙ append_assoc (take at rows) xs _
    ∙ ap (λ (l : List ℕ). take at rows ++ l) (sym (append_assoc xs (x ∷ []) (drop (suc (at + length xs)) rows)) ∙ ap (λ (n : ℕ). (xs ++ (x ∷ [])) ++ drop n rows) (sym past))
    ∙ sym (put_in rows at (xs ++ (x ∷ [])) (omega arith))

-- nothing else changes
pub length_put : (rows : List ℕ) (at : ℕ) (xs : List ℕ) → length (put_at rows at xs) ≡ length rows
length_put rows at xs = go (ltb (length rows) (at + length xs)) refl
  where
    go : (b : Bool) → ltb (length rows) (at + length xs) ≡ b → length (put_at rows at xs) ≡ length rows
    go true e = ap length (put_out rows at xs (ltb-true _ _ e))
    go false e =
        let h : at + length xs ≤ length rows = ltb-false _ _ e in
        ap length (put_in rows at xs h)
        ∙ simp (length-append, length-drop) (omega (arith, length-take-le at rows (omega arith)))

module _ (rows : List ℕ) (at : ℕ) (xs : List ℕ) (h : at + length xs ≤ length rows) where
  taken : length (take at rows) ≡ at
  taken = length-take-le at rows (omega arith)

  pub put_own : (k : ℕ) → k < length xs → get_or (put_at rows at xs) (at + k) 0 ≡ get_or xs k 0
  put_own k l =
      let e : at + k ≡ length (take at rows) + k = omega (arith, taken) in
      rw (put_in rows at xs h, e, get_or-append-add) (get_or-append xs _ 0 k l)

  pub put_before : (i : ℕ) → i < at → get_or (put_at rows at xs) i 0 ≡ get_or rows i 0
  put_before i l = rw (put_in rows at xs h) (get_or-append (take at rows) _ 0 i (omega (arith, taken)) ∙ get_or-take at rows i 0 l)

pub byte_low : (b : Bool) → bool_byte b ≤ 1
byte_low true = omega arith
byte_low false = omega arith
