-- What the forward method says of an accepted change: it calls an output clean exactly where its class is in the wanted set. Assumes nothing.
use Rattle.std.proofs.Common.{◌≡◌, ℕ, ◌+◌, ◌<◌, Bool, true, false, cond, ◌↔◌, List, get_or, Ok, sym, refl, ap, ◌∙◌, arith}
use mathlib.Core.Option.{some}
use Rattle.kung.specs.Class.{Class, c0, clean}
use Rattle.kung.specs.Sets.{has}
use Rattle.kung.proofs.Finite.{T→≡, ≡→T, implies, implied, every_class, class_at_lem}
use Rattle.kung.proofs.Listed.{get_d_tab}
use Rattle.circuit.proofs.Laws.{sources_above}
use Rattle.netlist.specs.Netlist.{inputs_of, gates_of, outputs_of, output_at, card_of}
use Rattle.changes.specs.declared.Task.{Task}
use Rattle.changes.specs.Changes.{version_of, layout_in, sources_of}
use Rattle.changes.specs.Refusals.{list_checked}
use Rattle.wanted.specs.Wanted.{wanted_in}
use Rattle.wanted.proofs.Laws.{has_clean}
use Rattle.search.specs.Search as search
use Rattle.search.specs.Search.{search}
use Rattle.search.proofs.Known.{search_known}
use Rattle.outputs.specs.Outputs.{verdict_byte}
use Rattle.simulate.specs.Full.{class_in}
use Rattle.simulate.proofs.Theorems.{class_value}
use Rattle.constants.specs.Constants.{is_constant, known_sources}
use Rattle.constants.specs.Change.{constants_in}
use Rattle.constants.proofs.Constants.{known_sources_lem}
use Rattle.constants.proofs.Theorems.{falling, constants_are}
use Rattle.forward.specs.Forward.{output_search, forward_bytes}

-- a class is judged by the wanted set
byte_clean : (w : ℕ) (k : Class) → verdict_byte (search.judged w k) ≡ 0 ↔ (has w k ≡ true)
unfolding search.judged
byte_clean w k = (λ e. to (has w k) e, λ e. rw e)
  where
    to : (b : Bool) → verdict_byte (cond b (search.clean k) search.hazardous) ≡ 0 → b ≡ true
    to true e = refl
    to false e = absurd (omega arith)

constant_is_clean : (k : Class) → is_constant k ≡ true → clean k ≡ true
unfolding every_class
constant_is_clean k h = T→≡ _ (implied (is_constant k) (clean k) (class_at_lem (λ k. implies (is_constant k) (clean k)) tt k) (≡→T _ h))

module _ {task : Task} (n l : List ℕ) (accepted : list_checked n l ≡ Ok task) (t : ℕ) where
  pub output_verdict : (out : ℕ) → (output_search n l t out).verdict ≡ search.judged (wanted_in n l t out) (class_in n l t (output_at n out))
  unfolding output_search sources_of card_of
  output_verdict out =
      search_known (sources_of n l t) _ (falling n l accepted t)
      (known_sources_lem (sources_of n l t) (falling n l accepted t) (inputs_of n + gates_of n) (λ s h. (c0, sources_above (card_of n) c0 _ s h))) (wanted_in n l t out)
      (output_at n out)
      ∙ ap (search.judged (wanted_in n l t out)) (sym (class_value n l t (output_at n out)))

  -- the forward method calls an output clean exactly where its class is in the wanted set
  pub forward_clean : (out : ℕ) → out < outputs_of n → get_or (forward_bytes n l t) out 0 ≡ 0 ↔ (has (wanted_in n l t out) (class_in n l t (output_at n out)) ≡ true)
  unfolding forward_bytes
  forward_clean out h =
      rw (get_d_tab (λ out. verdict_byte (output_search n l t out).verdict) (outputs_of n) out h, output_verdict out)
      (byte_clean (wanted_in n l t out) (class_in n l t (output_at n out)))

  -- one "on a constant signal [...] is compared with the declared ends without a search, at 0 gates and 0 pins"
  pub constant_output : (out : ℕ) (k : Class) → constants_in n l t (output_at n out) ≡ some k
      → output_search n l t out ≡ record { verdict = search.judged (wanted_in n l t out) k; gates = 0; pins = 0 }
  unfolding output_search search known_sources
  constant_output out k known = rw known

  -- in version 1 "one on a constant signal is clean with 0 gates visited"
  pub constant_clean : version_of l ≡ 1 → (out : ℕ) (k : Class) → output_at n out < inputs_of n + gates_of n → constants_in n l t (output_at n out) ≡ some k
      → output_search n l t out ≡ record { verdict = search.clean k; gates = 0; pins = 0 }
  unfolding search.judged
  constant_clean one out k h known =
      constant_output out k known
      ∙ rw (has_clean l (layout_in n l) t out one k, constant_is_clean k ((constants_are n l accepted t (output_at n out) h k).0 known).1)
