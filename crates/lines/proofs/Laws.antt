-- Laws of texts one after the other. Assumes nothing.
use Rattle.std.proofs.Common.{◌≡◌, ℕ, zero, suc, ◌+◌, ◌-◌, ◌*◌, ◌<◌, ◌≤◌, List, ◌++◌, length, refl, ap₂, append_assoc, append-nil, le_refl, add-zero, add_assoc, add-suc, suc-mul, add-one, one-add, arith, length-append}
use Rattle.report.specs.declared.Text.{Text}
use Rattle.report.specs.Appended.{Fits, Appended}
use Rattle.report.proofs.Appending.{◌then◌, kept}
use Rattle.lines.specs.Texts.{texts}

module _ (f : ℕ → List ℕ) (i : ℕ) where
  -- more texts are no shorter
  pub texts_more : (n k : ℕ) → length (texts f i n) ≤ length (texts f i (n + k))
  unfolding texts
  texts_more n zero = rw add-zero (le_refl _)
  texts_more n (suc k) = rw add-suc (simp length-append (omega (arith, texts_more n k)))

  -- texts of at most b bytes each
  pub texts_high : (b n : ℕ) → ((k : ℕ) → k < n → length (f (i + k)) ≤ b) → length (texts f i n) ≤ n * b
  unfolding texts
  texts_high b zero h = omega arith
  texts_high b (suc n) h = simp (length-append, suc-mul) (omega (arith, texts_high b n (λ k l. h k (omega arith)), h n (omega arith)))

  pub texts_join : (n k : ℕ) → texts f i n ++ texts f (i + n) k ≡ texts f i (n + k)
  unfolding texts
  texts_join n zero = rw add-zero (append-nil _)
  texts_join n (suc k) = rw add-suc (rw (← texts_join n k, append_assoc, add_assoc))

-- the first text, then the others
pub texts_cons : (f : ℕ → List ℕ) (t k : ℕ) → f t ++ texts f (suc t) k ≡ texts f t (suc k)
unfolding texts
texts_cons f t k = rw (add-zero, add-one, one-add) at (texts_join f t 1 k)

-- texts of which the first is not empty
pub texts_some : (f : ℕ → List ℕ) (t k : ℕ) → 1 ≤ length (f t) → 1 ≤ k → 1 ≤ length (texts f t k)
texts_some f t zero h some = absurd (omega arith)
texts_some f t (suc k) h some = rw (← texts_cons f t k) (simp length-append (omega arith))

-- one text more, behind those that are there
module _ (f : ℕ → List ℕ) (i n k m : ℕ) (next : k ≡ i + n) where
  pub texts_room : {a b : Text} → n < m → Fits a (texts f i m) → Appended a b (texts f i n) → Fits b (f k)
  unfolding texts
  texts_room {a} {b} h fits p =
      let e : suc n + (m - suc n) ≡ m = omega arith in
      let more : length (texts f i n ++ f (i + n)) ≤ length (texts f i m) = rw e at (texts_more f i (suc n) (m - suc n)) in
      rw next (record { room = omega (arith, more, length-append (texts f i n) (f (i + n)), fits.room, p.written, kept p) })

  pub texts_then : {a b c : Text} → m ≡ suc n → Appended a b (texts f i n) → Appended b c (f k) → Appended a c (texts f i m)
  unfolding texts
  texts_then e p q = rw e (p then (rw next at q))

-- texts that are the same one by one
pub texts_same : (f g : ℕ → List ℕ) (i n : ℕ) → ((k : ℕ) → k < n → f (i + k) ≡ g (i + k)) → texts f i n ≡ texts g i n
unfolding texts
texts_same f g i zero h = refl
texts_same f g i (suc n) h = ap₂ ◌++◌ (texts_same f g i n (λ k l. h k (omega arith))) (h n (omega arith))
