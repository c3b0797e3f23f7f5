-- Lists of events by their turns, and a list without the events that are not allowed. Assumes nothing.
use Prim.Native.Nat.{ℕ, ◌≤◌}
use native.Mathlib.Omega.{arith}
use mathlib.Core.Path.{◌≡◌, refl, subst}
use mathlib.Core.Bool.{Bool, true, false, cond}
use mathlib.Core.List.{List, [], ◌∷◌, ◌++◌}
use Rattle.circuit.specs.Circuit.{Card, Each}
use Rattle.circuit.proofs.Laws.{each_map}
use Rattle.bench.specs.Bench.{State, Event, allowed, step, run, AllowedFrom, turn, GateAfterGate}

pub each_append : {A : Type 0} (P : A → Type 0) (xs ys : List A) → Each P xs → Each P ys → Each P (xs ++ ys)
each_append P [] ys p q = q
each_append P (x ∷ xs) ys p q = (p.0, each_append P xs ys p.1 q)

-- events of one turn, in any order
pub one_turn : (n : ℕ) (es : List Event) → Each (λ e. turn e ≡ n) es → GateAfterGate es
one_turn n [] h = tt
one_turn n (e ∷ es) h = (each_map (λ f p. omega (arith, h.0)) es h.1, one_turn n es h.1)

-- events of earlier turns, then those of later ones
pub turns_append : (n : ℕ) (xs ys : List Event) → Each (λ e. turn e ≤ n) xs → Each (λ e. n ≤ turn e) ys → GateAfterGate xs → GateAfterGate ys
    → GateAfterGate (xs ++ ys)
turns_append n [] ys p q f g = g
turns_append n (e ∷ xs) ys p q f g =
    (each_append (λ later. turn e ≤ turn later) xs ys f.0 (each_map (λ y l. omega (arith, p.0)) ys q), turns_append n xs ys p.1 q f.1 g)

module _ (card : Card) (a b : ℕ → Bool) where
  -- the events of a list that are allowed where they stand
  unfoldable pub thin : State → List Event → List Event
  thin st [] = []
  thin st (e ∷ es) = cond (allowed card a b st e) (e ∷ thin (step card a b st e) es) (thin (step card a b st e) es)

  idle : (st : State) (e : Event) → allowed card a b st e ≡ false → step card a b st e ≡ st
  unfolding step
  idle st e p = rw p

  pub thin_allowed : (es : List Event) (st : State) → AllowedFrom card a b st (thin st es)
  unfolding thin
  thin_allowed [] st = tt
  thin_allowed (e ∷ es) st = go (allowed card a b st e) refl (thin_allowed es (step card a b st e))
    where
      go : (t : Bool) → allowed card a b st e ≡ t → AllowedFrom card a b (step card a b st e) (thin (step card a b st e) es)
          → AllowedFrom card a b st (cond t (e ∷ thin (step card a b st e) es) (thin (step card a b st e) es))
      go true p rest = (p, rest)
      go false p rest = subst (λ t. AllowedFrom card a b t (thin (step card a b st e) es)) (idle st e p) rest

  pub thin_run : (es : List Event) (st : State) → run card a b st (thin st es) ≡ run card a b st es
  unfolding thin run
  thin_run [] st = refl
  thin_run (e ∷ es) st = go (allowed card a b st e) refl (thin_run es (step card a b st e))
    where
      go : (t : Bool) → allowed card a b st e ≡ t → run card a b (step card a b st e) (thin (step card a b st e) es) ≡ run card a b (step card a b st e) es
          → run card a b st (cond t (e ∷ thin (step card a b st e) es) (thin (step card a b st e) es)) ≡ run card a b (step card a b st e) es
      go true p rest = rest
      go false p rest = subst (λ t. run card a b t (thin (step card a b st e) es) ≡ run card a b (step card a b st e) es) (idle st e p) rest

  thin_each : (P : Event → Type 0) (es : List Event) (st : State) → Each P es → Each P (thin st es)
  unfolding thin
  thin_each P [] st h = tt
  thin_each P (e ∷ es) st h = go (allowed card a b st e) (thin_each P es (step card a b st e) h.1)
    where
      go : (t : Bool) → Each P (thin (step card a b st e) es) → Each P (cond t (e ∷ thin (step card a b st e) es) (thin (step card a b st e) es))
      go true rest = (h.0, rest)
      go false rest = rest

  pub thin_turns : (es : List Event) (st : State) → GateAfterGate es → GateAfterGate (thin st es)
  unfolding thin
  thin_turns [] st h = tt
  thin_turns (e ∷ es) st h = go (allowed card a b st e) (thin_turns es (step card a b st e) h.1)
    where
      go : (t : Bool) → GateAfterGate (thin (step card a b st e) es)
          → GateAfterGate (cond t (e ∷ thin (step card a b st e) es) (thin (step card a b st e) es))
      go true rest = (thin_each (λ later. turn e ≤ turn later) es (step card a b st e) h.0, rest)
      go false rest = rest
