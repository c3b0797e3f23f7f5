-- Laws of the values that spread over a card. Assumes nothing.
use Prim.Native.Nat.{ℕ, zero, suc, ◌+◌, ◌-◌, ◌<◌, ◌≤◌}
use native.Mathlib.Omega.{arith}
use native.Mathlib.Nat.{add-sub_cancel_left}
use native.Mathlib.Decide.{dec_lt}
use mathlib.Core.Path.{◌≡◌, refl, sym, ◌∙◌, ap, subst, subst₂, fun_ext}
use mathlib.Core.List.{List, [], ◌∷◌, map}
use lib.ListN.{length, get_or, length-append, get_or-append}
use lib.Seq.{get_or_at}
use borrow.Author.Tests.{lt-ltb, le-ltb}
use Rattle.kung.specs.Rule.{Kind}
use Rattle.circuit.specs.Circuit.{Source, given, gate, pins_of, out_of, values, value, Each, Falling, Card, signals, WellFormed, sources}

-- a fact that follows at each element follows of the list
pub each_map : {A : Type 0} {P Q : A → Type 0} → ((x : A) → P x → Q x) → (xs : List A) → Each P xs → Each Q xs
each_map f [] h = tt
each_map f (x ∷ xs) h = (f x h.0, each_map f xs h.1)

-- equal at each element, equal maps
pub map_ext : {A B : Type 0} (f g : A → B) (xs : List A) → Each (λ x. f x ≡ g x) xs → map f xs ≡ map g xs
map_ext f g [] h = refl
map_ext f g (x ∷ xs) h = λ i. h.0 i ∷ map_ext f g xs h.1 i

-- a source whose pins have the same values gives the same value
pub out_of_ext : {A : Type 0} (apply : Kind → List A → A) (c : Source A) (f g : ℕ → A) → Each (λ x. f x ≡ g x) (pins_of c) → out_of apply c f ≡ out_of apply c g
out_of_ext apply (given a) f g h = refl
out_of_ext apply (gate d ps) f g h = ap (apply d) (map_ext f g ps h)

module _ {A : Type 0} (apply : Kind → List A → A) (other : A) (src : ℕ → Source A) where
  pub values_length : (n : ℕ) → length (values apply other src n) ≡ n
  unfolding values
  values_length zero = refl
  values_length (suc n) = length-append (values apply other src n) _ ∙ omega (arith, values_length n)

  -- the list of values has each signal's value at its place
  pub values_at : (n s : ℕ) → s < n → get_or (values apply other src n) s other ≡ value apply other src s
  unfolding values value
  values_at zero s h = absurd (omega arith)
  values_at (suc n) s h = go (values_at n s) (dec_lt s n)
    where
      go : (s < n → get_or (values apply other src n) s other ≡ value apply other src s) → Dec (s < n)
          → get_or (values apply other src (suc n)) s other ≡ value apply other src s
      go shorter (yes below) = get_or-append (values apply other src n) _ other s (rw values_length below) ∙ shorter below
      go shorter (no above) = let e : s ≡ n = omega arith in rw e

  -- each signal's value is what its source makes of the others'
  pub value_law : Falling src → (s : ℕ) → value apply other src s ≡ out_of apply (src s) (value apply other src)
  unfolding values value
  value_law falling s =
      get_or_at (values apply other src s) _ [] other s (values_length s)
      ∙ out_of_ext apply (src s) _ _ (each_map (λ x. values_at s x) (pins_of (src s)) (falling s))

-- Signals of two cards, side by side: what holds of given values and is kept by gates holds of every signal.
module _ {A B : Type 0} (apply : Kind → List A → A) (apply' : Kind → List B → B) (other : A) (other' : B) (R : ℕ → A → B → Type 0) where
  -- both are given, and related; or both are gates that keep the relation
  abbrev pub Kept : ℕ → Source A → Source B → Type 0
  Kept s c c' = (v : ℕ → A) (v' : ℕ → B) → Each (λ x. R x (v x) (v' x)) (pins_of c) → R s (out_of apply c v) (out_of apply' c' v')

  pub related : (src : ℕ → Source A) (src' : ℕ → Source B) → Falling src → Falling src' → ((s : ℕ) → Kept s (src s) (src' s))
      → (s : ℕ) → R s (value apply other src s) (value apply' other' src' s)
  related src src' falling falling' kept s = below (suc s) s (omega arith)
    where
      below : (n s : ℕ) → s < n → R s (value apply other src s) (value apply' other' src' s)
      below zero s h = absurd (omega arith)
      below (suc n) s h =
          subst₂ (R s) (sym (value_law apply other src falling s)) (sym (value_law apply' other' src' falling' s))
          (kept s _ _ (each_map (λ x less. below n x (omega arith)) (pins_of (src s)) (falling s)))

-- the sources of a card
module _ {A : Type 0} (card : Card) (other : A) (v : ℕ → A) where
  pub sources_input : (i : ℕ) → i < card.inputs → sources card other v i ≡ given (v i)
  unfolding sources
  sources_input i h = rw (lt-ltb i card.inputs h)

  pub sources_gate : (g : ℕ) → g < card.gates → sources card other v (card.inputs + g) ≡ gate (card.kind g) (card.pins g)
  unfolding sources
  sources_gate g h =
      rw (le-ltb (card.inputs + g) card.inputs (omega arith), lt-ltb (card.inputs + g) (signals card) (omega arith), add-sub_cancel_left)

  pub sources_above : (s : ℕ) → signals card ≤ s → sources card other v s ≡ given other
  unfolding sources
  sources_above s h = rw (le-ltb s card.inputs (omega arith), le-ltb s (signals card) h)

  -- a signal is an input, a gate's, or none
  pub sources_cases : (P : ℕ → Source A → Type 0) → ((i : ℕ) → i < card.inputs → P i (given (v i)))
      → ((g : ℕ) → g < card.gates → P (card.inputs + g) (gate (card.kind g) (card.pins g)))
      → ((s : ℕ) → signals card ≤ s → P s (given other))
      → (s : ℕ) → P s (sources card other v s)
  sources_cases P input driven above s = go (dec_lt s card.inputs) (dec_lt s (signals card))
    where
      go : Dec (s < card.inputs) → Dec (s < signals card) → P s (sources card other v s)
      go (yes h) d = rw (sources_input s h) (input s h)
      go (no h) (yes h') =
          let e : card.inputs + (s - card.inputs) ≡ s = omega arith in
          subst (λ t. P t (sources card other v t)) e
          (rw (sources_gate (s - card.inputs) (omega arith)) (driven (s - card.inputs) (omega arith)))
      go (no h) (no h') = rw (sources_above s (omega arith)) (above s (omega arith))

  pub sources_falling : WellFormed card → Falling (sources card other v)
  sources_falling formed = sources_cases (λ s c. Each (λ x. x < s) (pins_of c)) (λ i h. tt) (λ g h. formed g h) (λ s h. tt)

-- only the inputs' values matter
pub sources_ext : {A : Type 0} (card : Card) (other : A) (v w : ℕ → A) → ((i : ℕ) → i < card.inputs → v i ≡ w i)
    → sources card other v ≡ sources card other w
sources_ext card other v w same =
    fun_ext
    (sources_cases card other v (λ s c. c ≡ sources card other w s) (λ i h. ap given (same i h) ∙ sym (sources_input card other w i h))
    (λ g h. sym (sources_gate card other w g h)) (λ s h. sym (sources_above card other w s h)))
