-- What a signal's ends need, by its class. Assumes nothing.
use Prim.Native.Nat.{ℕ, ◌<◌}
use mathlib.Core.Path.{◌≡◌, refl, ◌∙◌, ap}
use mathlib.Core.Bool.{Bool, true, false}
use Rattle.kung.specs.Class.{clean, input_class}
use Rattle.circuit.specs.Circuit.{Card, WellFormed}
use Rattle.circuit.proofs.Ends.{settled_input, class_input, start_is, end_is}
use Rattle.circuit.specs.Settled.{class_of}
use Rattle.bench.specs.Bench.{needs}
use Rattle.bench.proofs.Flips.{alter}
use Rattle.bench.proofs.Clean.{need}

module _ (card : Card) (formed : WellFormed card) (a b : ℕ → Bool) where
  pub needs_is : (s : ℕ) → needs card a b s ≡ need (class_of card a b s)
  unfolding needs
  needs_is s = rw (start_is card formed a b s, end_is card formed a b s)

  pub needs_input : (i : ℕ) → i < card.inputs → needs card a b i ≡ alter (a i) (b i)
  unfolding needs
  needs_input i h = rw (settled_input card formed a i h, settled_input card formed b i h)

  pub input_clean : (i : ℕ) → i < card.inputs → clean (class_of card a b i) ≡ true
  input_clean i h = ap clean (class_input card formed a b i h) ∙ go (a i) (b i)
    where
      go : (u w : Bool) → clean (input_class u w) ≡ true
      go true true = refl
      go true false = refl
      go false true = refl
      go false false = refl
