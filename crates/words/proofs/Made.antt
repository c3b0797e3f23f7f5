-- What `array::from_fn` makes of a closure that each call leaves as it was. Assumes nothing.
use Prim.Native.Nat.{ℕ, zero, suc, ◌+◌, ◌<◌}
use native.Mathlib.Omega.{arith}
use mathlib.Core.Path.{◌≡◌, sym, ◌∙◌, subst}
use mathlib.Core.List.{List}
use lib.ListN.{get_or}
use Rattle.std.specs.Fn.{Called, Mut}
use Rattle.std.specs.Array.{IsFromFnResultFrom, IsFromFnResult}

module _ {F B : Type 0} (g : Mut F (ℕ × Unit {0}) B) (rule : ℕ → B) where
  -- a call at an index gives what the rule says
  abbrev pub Follows : F → ℕ → Type 0
  Follows f n = (k : ℕ) (y : B) (f' : F) → k < n → Called g f (k, tt) y f' → (y ≡ rule k) × (f' ≡ f)

  made_from : (f : F) (ys : List B) (i n m : ℕ) (d : B) → i + n ≡ m → Follows f m → IsFromFnResultFrom g f ys i n
      → (j k : ℕ) → i + j ≡ k → j < n → get_or ys k d ≡ rule k
  made_from f ys i zero m d e follows h j k at l = absurd (omega arith)
  made_from f ys i (suc n) m d e follows h zero k at l =
      let here : i ≡ k = omega arith in
      subst (λ (p : ℕ). get_or ys p d ≡ rule p) here (h.2.1 d ∙ (follows i h.1 h.0 (omega arith) h.3).0)
  made_from f ys i (suc n) m d e follows h (suc j) k at l =
      let same = (follows i h.1 h.0 (omega arith) h.3).1 in
      made_from h.0 ys (i + 1) n m d (omega arith) (subst (λ (p : F). Follows p m) (sym same) follows) h.4 j k (omega arith) (omega arith)

  -- and so an element is
  pub made_at : (f : F) (ys : List B) (n : ℕ) (d : B) → Follows f n → IsFromFnResult g f ys n → (k : ℕ) → k < n → get_or ys k d ≡ rule k
  made_at f ys n d follows h k l = made_from f ys 0 n n d (omega arith) follows h.each k k (omega arith) l
