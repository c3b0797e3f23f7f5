-- Tables made by doubling: one step an entry. Assumes nothing.
use mathlib.Core.Path.{◌≡◌, refl, sym, ◌∙◌, ap, ap₂}
use mathlib.Core.List.{List, [], ◌∷◌, ◌++◌, map}
use Prim.Native.Nat.{ℕ, zero, suc, ◌+◌, ◌*◌, ◌^◌, ◌<◌}
use native.Mathlib.Nat.{add-zero, zero-add, suc-add, zero-mul, pow-suc}
use native.Mathlib.Omega.{arith}
use lib.Bits.{bit_or, or_shifted}
use Rattle.kung.specs.Tables.{tab}
use Rattle.kung.proofs.Unions.{Additive}

tab_append : (f : ℕ → ℕ) (a b i : ℕ) → tab f i (a + b) ≡ tab f i a ++ tab f (i + a) b
unfolding tab
tab_append f zero b i = ap₂ (tab f) (sym (add-zero i)) (zero-add b)
tab_append f (suc a) b i =
    ap (tab f i) (suc-add a b) ∙ ap (λ l. f i ∷ l) (tab_append f a b (suc i) ∙ ap (λ (x : ℕ). tab f (suc i) a ++ tab f x b) (omega arith))

-- a table moved and its rule with it
tab_move : (f g : ℕ → ℕ) (n i j : ℕ) → ((k : ℕ) → k < n → f (i + k) ≡ g (j + k)) → tab f i n ≡ tab g j n
unfolding tab
tab_move f g zero i j e = refl
tab_move f g (suc n) i j e =
    ap₂ (λ (x : ℕ) l. x ∷ l) (ap f (sym (add-zero i)) ∙ e 0 (omega arith) ∙ ap g (add-zero j))
    (tab_move f g n (suc i) (suc j) (λ k h. ap f (omega arith) ∙ e (suc k) (omega arith) ∙ ap g (omega arith)))

tab_map : (f g : ℕ → ℕ) (n i : ℕ) → tab (λ k. g (f k)) i n ≡ map g (tab f i n)
unfolding tab
tab_map f g zero i = refl
tab_map f g (suc n) i = ap (λ l. g (f i) ∷ l) (tab_map f g n (suc i))

-- step j makes the entries from 2 ^ j on from those below
abbrev pub Doubles : ℕ → (ℕ → ℕ → ℕ) → (ℕ → ℕ) → Type 0
Doubles n step f = (j k : ℕ) → j < n → k < 2 ^ j → f (2 ^ j + k) ≡ step j (f k)

unfoldable pub doubled : (ℕ → ℕ → ℕ) → ℕ → ℕ → List ℕ
doubled step first zero = first ∷ []
doubled step first (suc j) = let l = doubled step first j in l ++ map (step j) l

twice : (step : ℕ → ℕ → ℕ) (f : ℕ → ℕ) (j : ℕ) → ((k : ℕ) → k < 2 ^ j → f (2 ^ j + k) ≡ step j (f k))
    → tab f 0 (2 ^ suc j) ≡ tab f 0 (2 ^ j) ++ map (step j) (tab f 0 (2 ^ j))
twice step f j e =
    ap (tab f 0) (pow-suc 2 j ∙ omega arith) ∙ tab_append f (2 ^ j) (2 ^ j) 0
    ∙ ap (λ l. tab f 0 (2 ^ j) ++ l) (tab_move f (λ k. step j (f k)) (2 ^ j) (0 + 2 ^ j) 0 above ∙ tab_map f (step j) (2 ^ j) 0)
  where
    above : (k : ℕ) → k < 2 ^ j → f (0 + 2 ^ j + k) ≡ step j (f (0 + k))
    above k h = ap f (omega arith) ∙ e k h ∙ ap (λ x. step j (f x)) (omega arith)

tab_doubled : (step : ℕ → ℕ → ℕ) (f : ℕ → ℕ) (n : ℕ) → Doubles n step f → tab f 0 (2 ^ n) ≡ doubled step (f 0) n
unfolding doubled tab
tab_doubled step f zero e = refl
tab_doubled step f (suc j) e =
    twice step f j (λ k. e j k (omega arith)) ∙ ap (λ l. l ++ map (step j) l) (tab_doubled step f j (λ i k h. e i k (omega arith)))

-- n rows from row r on
unfoldable pub rows : (ℕ → List ℕ) → (r n : ℕ) → List ℕ
rows f r zero = []
rows f r (suc n) = f r ++ rows f (suc r) n

-- a table by its rows, each made by doubling
module _ (j : ℕ) (f : ℕ → ℕ) (g : ℕ → ℕ → ℕ) (step : ℕ → ℕ → ℕ → ℕ)
    (e : (r k : ℕ) → k < 2 ^ j → f (r * 2 ^ j + k) ≡ g r k) (d : (r : ℕ) → Doubles j (step r) (g r)) where
  pub tab_rows : (n r : ℕ) → tab f (r * 2 ^ j) (n * 2 ^ j) ≡ rows (λ r. doubled (step r) (g r 0) j) r n
  unfolding rows tab
  tab_rows zero r = ap (tab f (r * 2 ^ j)) (zero-mul (2 ^ j))
  tab_rows (suc n) r =
      ap (tab f (r * 2 ^ j)) more ∙ tab_append f (2 ^ j) (n * 2 ^ j) (r * 2 ^ j)
      ∙ ap₂ (λ x y. x ++ y) (row ∙ tab_doubled (step r) (g r) j (d r)) (ap (λ (x : ℕ). tab f x (n * 2 ^ j)) (omega arith) ∙ tab_rows n (suc r))
    where
      more : suc n * 2 ^ j ≡ 2 ^ j + n * 2 ^ j
      more = omega arith

      row : tab f (r * 2 ^ j) (2 ^ j) ≡ tab (g r) 0 (2 ^ j)
      row = tab_move f (g r) (2 ^ j) (r * 2 ^ j) 0 (λ k h. e r k h ∙ ap (g r) (omega arith))

-- a rule that takes unions to unions
pub by_unions : (f : ℕ → ℕ) → Additive f → (n : ℕ) → Doubles n (λ j. bit_or (f (2 ^ j))) f
by_unions f a n j k low h =
    let e : 1 * 2 ^ j ≡ 2 ^ j = omega arith in
    ap (λ (x : ℕ). f (x + k)) (sym e) ∙ ap f (sym (or_shifted 1 j k h)) ∙ a (1 * 2 ^ j) k ∙ ap (λ (x : ℕ). bit_or (f x) (f k)) e
