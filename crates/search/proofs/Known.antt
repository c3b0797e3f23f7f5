-- Gates given as known with the class that they have leave all classes as they are. Assumes nothing.
use Prim.Native.Nat.{ℕ, ◌<◌}
use mathlib.Core.Path.{◌≡◌, sym, ◌∙◌, ap}
use mathlib.Core.Logic.{◌⊎◌, inl, inr}
use mathlib.Core.List.{List}
use Rattle.kung.specs.Class.{Class, c0}
use Rattle.kung.specs.Rule.{Kind, gate_class}
use Rattle.circuit.specs.Circuit.{Source, given, pins_of, out_of, value, Each, Falling}
use Rattle.circuit.proofs.Laws.{value_law, out_of_ext, each_map, related}
use Rattle.search.specs.Search.{search, judged}
use Rattle.search.proofs.Right.{search_right}

module _ {A : Type 0} (apply : Kind → List A → A) (other : A) (src src' : ℕ → Source A) where
  -- each signal has its source, or is given with its value
  abbrev pub Given : Type 0
  Given = (s : ℕ) → (src' s ≡ src s) ⊎ (src' s ≡ given (value apply other src s))

  pub given_falling : Given → Falling src → Falling src'
  given_falling known falling s = go (known s)
    where
      go : (src' s ≡ src s) ⊎ (src' s ≡ given (value apply other src s)) → Each (λ x. x < s) (pins_of (src' s))
      go (inl e) = rw e (falling s)
      go (inr e) = rw e tt

  pub given_values : Given → Falling src → (s : ℕ) → value apply other src' s ≡ value apply other src s
  given_values known falling s = (related apply apply other other R src src' falling (given_falling known falling) kept s).1
    where
      v : ℕ → A
      v = value apply other src

      R : ℕ → A → A → Type 0
      R x a b = (a ≡ v x) × (b ≡ v x)

      law : (s : ℕ) (u : ℕ → A) → Each (λ x. u x ≡ v x) (pins_of (src s)) → out_of apply (src s) u ≡ v s
      law s u h = out_of_ext apply (src s) u v h ∙ sym (value_law apply other src falling s)

      second : (s : ℕ) (u : ℕ → A) → Each (λ x. u x ≡ v x) (pins_of (src s)) → (src' s ≡ src s) ⊎ (src' s ≡ given (v s)) → out_of apply (src' s) u ≡ v s
      second s u h (inl e) = rw e (law s u h)
      second s u h (inr e) = rw e

      kept : (s : ℕ) (u u' : ℕ → A) → Each (λ x. R x (u x) (u' x)) (pins_of (src s)) → R s (out_of apply (src s) u) (out_of apply (src' s) u')
      kept s u u' h = (law s u (each_map (λ x r. r.0) (pins_of (src s)) h), second s u' (each_map (λ x r. r.1) (pins_of (src s)) h) (known s))

-- CORE is right where gates are given as known with their classes
pub search_known : (src src' : ℕ → Source Class) → Falling src → Given gate_class c0 src src' → (w s : ℕ)
    → (search src' w s).verdict ≡ judged w (value gate_class c0 src s)
search_known src src' falling known w s =
    search_right src' (given_falling gate_class c0 src src' known falling) w s
    ∙ ap (judged w) (given_values gate_class c0 src src' known falling s)
