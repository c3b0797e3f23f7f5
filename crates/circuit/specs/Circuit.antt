-- A card, and values that spread over it from the inputs, gate 0 first. Settled values (Bool) and classes are both such values.
use Rattle.std.specs.Prelude.{ℕ, zero, suc, ◌+◌, ◌-◌, ◌<◌, cond, List, [], ◌∷◌, ◌++◌, map, ltb, get_or}
use Rattle.kung.specs.Rule.{Kind}

-- Where a signal's value comes from: it is given (an input, or a gate whose value is known), or a gate makes it of its pins' drivers.
pub data Source (A : Type 0) : Type 0 where
  given : A → Source A
  gate : Kind → List ℕ → Source A

abbrev pub pins_of : {A : Type 0} → Source A → List ℕ
pins_of (given a) = []
pins_of (gate d ps) = ps

-- what a source makes of the values v of all signals, by the gates' functions
abbrev pub out_of : {A : Type 0} → (Kind → List A → A) → Source A → (ℕ → A) → A
out_of apply (given a) v = a
out_of apply (gate d ps) v = apply d (map v ps)

module _ {A : Type 0} (apply : Kind → List A → A) (other : A) (src : ℕ → Source A) where
  -- the values of the signals below n, signal 0 first; `other` stands for those above
  unfoldable pub values : ℕ → List A
  values zero = []
  values (suc n) = values n ++ (out_of apply (src n) (λ s. get_or (values n) s other) ∷ [])

  unfoldable pub value : ℕ → A
  value s = get_or (values (suc s)) s other

-- the fact holds of each element
abbrev pub Each : {A : Type 0} → (A → Type 0) → List A → Type 0
Each P [] = Unit {0}
Each P (x ∷ xs) = P x × Each P xs

-- every pin names a signal below its own gate's
abbrev pub Falling : {A : Type 0} → (ℕ → Source A) → Type 0
Falling src = (s : ℕ) → Each (λ x. x < s) (pins_of (src s))

-- Document 01, "The card netlist": signals 0 to I - 1 are the inputs; gate g drives signal I + g.
pub record Card : Type 0 where
  pub inputs : ℕ
  pub gates : ℕ
  pub kind : ℕ → Kind
  pub pins : ℕ → List ℕ

abbrev pub signals : Card → ℕ
signals card = card.inputs + card.gates

-- "A pin names a signal number below its own gate's."
abbrev pub WellFormed : Card → Type 0
WellFormed card = (g : ℕ) → g < card.gates → Each (λ x. x < card.inputs + g) (card.pins g)

-- the card's sources where input i has the value `v i`; what is no signal is given as `other`
unfoldable pub sources : {A : Type 0} → Card → A → (ℕ → A) → ℕ → Source A
sources card other v s =
    cond (ltb s card.inputs) (given (v s))
    (cond (ltb s (signals card)) (gate (card.kind (s - card.inputs)) (card.pins (s - card.inputs))) (given other))
