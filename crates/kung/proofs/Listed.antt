-- Functions on a finite domain agree where their lists of values do: one comparison that antt computes. Assumes nothing.
use mathlib.Core.Path.{◌≡◌, refl, sym, ◌∙◌, ap}
use Prim.Native.Nat.{ℕ, zero, suc, ◌+◌, ◌<◌}
use native.Mathlib.Nat.{add-zero, zero-add}
use native.Mathlib.Omega.{arith}
use lib.ListN.{length, get_or}
use Rattle.kung.specs.Tables.{tab}

pub length_tab : (f : ℕ → ℕ) (i n : ℕ) → length (tab f i n) ≡ n
unfolding tab
length_tab f i zero = refl
length_tab f i (suc n) = ap suc (length_tab f (suc i) n)

from : (f : ℕ → ℕ) (n i k : ℕ) → k < n → get_or (tab f i n) k 0 ≡ f (i + k)
unfolding tab
from f zero i k h = absurd (omega arith)
from f (suc n) i zero h = ap f (sym (add-zero i))
from f (suc n) i (suc k) h = from f n (suc i) k (omega arith) ∙ ap f (omega arith)

-- a table's entry is its rule there
pub get_d_tab : (f : ℕ → ℕ) (n k : ℕ) → k < n → get_or (tab f 0 n) k 0 ≡ f k
get_d_tab f n k h = from f n 0 k h ∙ ap f (zero-add k)

pub agree : (f g : ℕ → ℕ) (n : ℕ) → tab f 0 n ≡ tab g 0 n → (k : ℕ) → k < n → f k ≡ g k
agree f g n e k h = sym (get_d_tab f n k h) ∙ ap (λ l. get_or l k 0) e ∙ get_d_tab g n k h
