-- In an accepted change the constants are exactly the signals of class `0` or `1`, and one pass finds them. Assumes nothing.
use Prim.Native.Nat.{ℕ, suc, ◌+◌, ◌<◌}
use Rattle.std.specs.Prelude.{Ok}
use mathlib.Core.Path.{◌≡◌}
use mathlib.Core.Logic.{◌↔◌}
use mathlib.Core.Bool.{true}
use mathlib.Core.List.{List}
use mathlib.Core.Option.{none, some}
use Rattle.kung.specs.Class.{Class, c0}
use Rattle.circuit.specs.Circuit.{Falling, value}
use Rattle.circuit.proofs.Laws.{sources_falling}
use Rattle.netlist.specs.Netlist.{inputs_of, gates_of, card_of}
use Rattle.netlist.proofs.Accepted.{formed}
use Rattle.changes.specs.declared.Task.{Task}
use Rattle.changes.specs.Changes.{sources_of}
use Rattle.changes.specs.Refusals.{list_checked}
use Rattle.changes.proofs.Accepted.{listed}
use Rattle.simulate.specs.Full.{class_in}
use Rattle.simulate.proofs.Theorems.{class_value}
use Rattle.constants.specs.Constants.{is_constant, follows, spread}
use Rattle.constants.specs.Change.{constants_in}
use Rattle.constants.proofs.Constants.{in_pass, spread_stays, one_pass, constants_exactly}

module _ {task : Task} (n l : List ℕ) (accepted : list_checked n l ≡ Ok task) (t : ℕ) where
  pub falling : Falling (sources_of n l t)
  unfolding sources_of
  falling = sources_falling (card_of n) c0 _ (formed n (listed n l accepted).netlist_accepted).well_formed

  -- "until no gate's class follows from constant pins any more"
  pub constants_stay : (s : ℕ) → s < inputs_of n + gates_of n → spread (sources_of n l t) (suc (inputs_of n + gates_of n)) s ≡ constants_in n l t s
  constants_stay = spread_stays (sources_of n l t) falling (inputs_of n + gates_of n)

  -- one pass in gate order finds them
  pub constants_pass : (s : ℕ) → s < inputs_of n + gates_of n → value follows none (λ s. in_pass (sources_of n l t s)) s ≡ constants_in n l t s
  constants_pass = one_pass (sources_of n l t) falling (inputs_of n + gates_of n)

  -- the constants are exactly the signals of class `0` or `1`
  pub constants_are : (s : ℕ) → s < inputs_of n + gates_of n → (k : Class) → constants_in n l t s ≡ some k ↔ ((class_in n l t s ≡ k) × (is_constant k ≡ true))
  constants_are s h k = rw class_value (constants_exactly (sources_of n l t) falling (inputs_of n + gates_of n) s h k)
