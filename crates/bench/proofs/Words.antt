-- A list of a gate's pins, as places: how far it brings each pin. Assumes nothing.
use Prim.Native.Nat.{ℕ, zero, suc, ◌+◌, ◌<◌, min}
use native.Mathlib.Omega.{arith}
use native.Mathlib.Decide.{ℕ_discrete}
use mathlib.Core.Path.{◌≡◌, refl, ◌∙◌, ap}
use mathlib.Core.Bool.{Bool, true, false, cond}
use mathlib.Core.List.{List, [], ◌∷◌, ◌++◌, map}
use lib.Dec.{eqb, eqb-zero-suc, eqb-suc-zero, eqb-suc-suc}
use lib.ListN.{length, get_or, replicate}
use borrow.Author.Tests.{eq-eqb, ne_eqb}
use Rattle.circuit.specs.Circuit.{Card, WellFormed}
use Rattle.bench.specs.Bench.{State, pin, driver, change, step, run}
use Rattle.bench.proofs.Steps.{by_test, pin_cases, pass_at, pass_place, pin_signal}
use Rattle.bench.proofs.Settles.{quiet_pin}
use Rattle.bench.proofs.Kept.{driver_below, Kept, step_kept}

-- how often a place stands in a word
unfoldable pub count : ℕ → List ℕ → ℕ
count k [] = 0
count k (j ∷ w) = cond (eqb k j) (suc (count k w)) (count k w)

-- each pin as often as its driver says, pin after pin
unfoldable pub word : (ℕ → ℕ) → List ℕ → List ℕ
word n [] = []
word n (x ∷ xs) = replicate (n x) 0 ++ map suc (word n xs)

count_append : (k : ℕ) (u w : List ℕ) → count k (u ++ w) ≡ count k u + count k w
unfolding count
count_append k [] w = omega arith
count_append k (j ∷ u) w = go (eqb k j) (count_append k u w)
  where
    go : (t : Bool) → count k (u ++ w) ≡ count k u + count k w → cond t (suc (count k (u ++ w))) (count k (u ++ w)) ≡ cond t (suc (count k u)) (count k u) + count k w
    go true e = omega arith
    go false e = e

count_zeros : (k n : ℕ) → count k (replicate n 0) ≡ cond (eqb k 0) n 0
unfolding count
count_zeros k zero = by_test (λ x. 0 ≡ x) (eqb k 0) zero 0 (λ e. refl) (λ e. refl)
count_zeros k (suc n) = go (eqb k 0) (count_zeros k n)
  where
    go : (t : Bool) → count k (replicate n 0) ≡ cond t n 0 → cond t (suc (count k (replicate n 0))) (count k (replicate n 0)) ≡ cond t (suc n) 0
    go true e = ap suc e
    go false e = e

count_zero : (w : List ℕ) → count 0 (map suc w) ≡ 0
unfolding count
count_zero [] = refl
count_zero (j ∷ w) = rw (eqb-zero-suc j) (count_zero w)

count_suc : (k : ℕ) (w : List ℕ) → count (suc k) (map suc w) ≡ count k w
unfolding count
count_suc k [] = refl
count_suc k (j ∷ w) = rw (eqb-suc-suc k j, count_suc k w)

pub count_word : (n : ℕ → ℕ) (xs : List ℕ) (k : ℕ) → k < length xs → count k (word n xs) ≡ n (get_or xs k 0)
unfolding word
count_word n [] k l = absurd (omega arith)
count_word n (x ∷ xs) zero l = rw (count_append, count_zeros, count_zero) (omega arith)
count_word n (x ∷ xs) (suc k) l = rw (count_append, count_zeros, eqb-suc-zero k, count_suc, count_word n xs k (omega arith)) (omega arith)

module _ (card : Card) (formed : WellFormed card) (a b : ℕ → Bool) where
  -- a pin's event brings the pin one change on, up to what its driver made
  pass_step : (st : State) (g k j : ℕ) → Kept card a b st → g < card.gates → k < length (card.pins g)
      → (step card a b st (pin g j)).passed g k ≡ cond (eqb k j) (min (suc (st.passed g k)) (st.changes (driver card g k))) (st.passed g k)
  unfolding change
  pass_step st g k j kept h l = go (ℕ_discrete k j)
    where
      go : Dec (k ≡ j) → (step card a b st (pin g j)).passed g k ≡ cond (eqb k j) (min (suc (st.passed g k)) (st.changes (driver card g k))) (st.passed g k)
      go (yes e) =
          rw (eq-eqb k j e, ← e)
          (pin_cases card a b (λ t. t.passed g k ≡ min (suc (st.passed g k)) (st.changes (driver card g k))) st g k
          (λ e. omega (arith, quiet_pin card a b st g k e h l, kept.upto g k h l))
          (λ p q less. (λ e. omega (arith, pass_at st g k), λ e. omega (arith, pass_at st g k))))
      go (no d) =
          rw (ne_eqb k j d)
          (pin_cases card a b (λ t. t.passed g k ≡ st.passed g k) st g j (λ e. refl)
          (λ p q less. (λ e. pass_place st g j k d, λ e. pass_place st g j k d)))

  -- a word of a gate's pins brings each as far as it says, up to what its driver made
  pub pass_word : (w : List ℕ) (st : State) (g k : ℕ) → Kept card a b st → g < card.gates → k < length (card.pins g)
      → (run card a b st (map (pin g) w)).passed g k ≡ min (st.passed g k + count k w) (st.changes (driver card g k))
  unfolding run count
  pass_word [] st g k kept h l = omega (arith, kept.upto g k h l)
  pass_word (j ∷ w) st g k kept h l =
      pass_word w (step card a b st (pin g j)) g k (step_kept card formed a b st (pin g j) kept) h l
      ∙ rw (pass_step st g k j kept h l, pin_signal card a b st g j (driver card g k) (λ e. omega (arith, driver_below card formed g k h l)))
      (go (eqb k j))
    where
      go : (t : Bool) → min (cond t (min (suc (st.passed g k)) (st.changes (driver card g k))) (st.passed g k) + count k w) (st.changes (driver card g k))
          ≡ min (st.passed g k + cond t (suc (count k w)) (count k w)) (st.changes (driver card g k))
      go true = omega arith
      go false = refl
