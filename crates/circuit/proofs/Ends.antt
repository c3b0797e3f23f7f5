-- The equations of settled values and classes, and: a class starts and ends at the settled values. Assumes nothing.
use Prim.Native.Nat.{ℕ, ◌+◌, ◌<◌}
use mathlib.Core.Path.{◌≡◌, refl, sym, ◌∙◌, ap}
use mathlib.Core.Bool.{Bool, true, false}
use mathlib.Core.List.{List, map, map-map}
use Rattle.kung.specs.Class.{Class, c0, start, end, input_class}
use Rattle.kung.specs.Rule.{Kind, gate_class, gate_value}
use Rattle.kung.proofs.Laws.{End, first, last, end_of, ends_gate}
use Rattle.circuit.specs.Circuit.{Card, WellFormed, value, sources, out_of}
use Rattle.circuit.proofs.Laws.{map_ext, value_law, related, Kept, sources_input, sources_gate, sources_above, sources_cases, sources_falling}
use Rattle.circuit.specs.Settled.{settled, class_of}

module _ (card : Card) (formed : WellFormed card) where
  -- values that spread over the card, at an input and at a gate
  module _ {A : Type 0} (apply : Kind → List A → A) (other : A) (v : ℕ → A) where
    value_input : (i : ℕ) → i < card.inputs → value apply other (sources card other v) i ≡ v i
    value_input i h =
        value_law apply other (sources card other v) (sources_falling card other v formed) i
        ∙ ap (λ c. out_of apply c (value apply other (sources card other v))) (sources_input card other v i h)

    value_gate : (g : ℕ) → g < card.gates
        → value apply other (sources card other v) (card.inputs + g)
        ≡ apply (card.kind g) (map (value apply other (sources card other v)) (card.pins g))
    value_gate g h =
        value_law apply other (sources card other v) (sources_falling card other v formed) (card.inputs + g)
        ∙ ap (λ c. out_of apply c (value apply other (sources card other v))) (sources_gate card other v g h)

  pub settled_input : (v : ℕ → Bool) (i : ℕ) → i < card.inputs → settled card v i ≡ v i
  unfolding settled
  settled_input v = value_input gate_value false v

  pub settled_gate : (v : ℕ → Bool) (g : ℕ) → g < card.gates
      → settled card v (card.inputs + g) ≡ gate_value (card.kind g) (map (settled card v) (card.pins g))
  unfolding settled
  settled_gate v = value_gate gate_value false v

  module _ (a b : ℕ → Bool) where
    pub class_input : (i : ℕ) → i < card.inputs → class_of card a b i ≡ input_class (a i) (b i)
    unfolding class_of
    class_input = value_input gate_class c0 (λ i. input_class (a i) (b i))

    pub class_gate : (g : ℕ) → g < card.gates
        → class_of card a b (card.inputs + g) ≡ gate_class (card.kind g) (map (class_of card a b) (card.pins g))
    unfolding class_of
    class_gate = value_gate gate_class c0 (λ i. input_class (a i) (b i))

    abbrev vector_at : End → ℕ → Bool
    vector_at first = a
    vector_at last = b

    ends : (x : End) (s : ℕ) → end_of x (class_of card a b s) ≡ settled card (vector_at x) s
    unfolding class_of settled
    ends x =
        related gate_class gate_value c0 false (λ s k v. end_of x k ≡ v) (sources card c0 cs) (sources card false (vector_at x))
        (sources_falling card c0 cs formed) (sources_falling card false (vector_at x) formed)
        (sources_cases card c0 cs (λ s c. Kept gate_class gate_value c0 false (λ s k v. end_of x k ≡ v) s c (sources card false (vector_at x) s))
        (λ i h. rw (sources_input card false (vector_at x) i h) λ v v' p. at_input x i (a i) (b i) refl refl)
        (λ g h. rw (sources_gate card false (vector_at x) g h) λ v v' p. ends_gate x (card.kind g) (map v (card.pins g)) ∙ ap (gate_value (card.kind g)) (map-map (end_of x) v (card.pins g) ∙ map_ext _ v' (card.pins g) p))
        (λ s h. rw (sources_above card false (vector_at x) s h) λ v v' p. none x))
      where
        cs : ℕ → Class
        cs i = input_class (a i) (b i)

        at_input : (x : End) (i : ℕ) (u w : Bool) → a i ≡ u → b i ≡ w → end_of x (input_class u w) ≡ vector_at x i
        at_input first i true true p q = sym p
        at_input first i true false p q = sym p
        at_input first i false true p q = sym p
        at_input first i false false p q = sym p
        at_input last i true true p q = sym q
        at_input last i true false p q = sym q
        at_input last i false true p q = sym q
        at_input last i false false p q = sym q

        none : (x : End) → end_of x c0 ≡ false
        none first = refl
        none last = refl

    pub start_is : (s : ℕ) → settled card a s ≡ start (class_of card a b s)
    start_is s = sym (ends first s)

    pub end_is : (s : ℕ) → settled card b s ≡ end (class_of card a b s)
    end_is s = sym (ends last s)
