use Prim.Native.Nat.{◌≤◌}
use mathlib.Core.Path.{◌≡◌}
use mathlib.Core.Bool.{◌&&◌}
use lib.Dec.{eqb, ltb}
use lib.ListN.{drop}
use Rattle.kung.specs.Rule.{each}
use Rattle.making.proofs.are_below.Given as goal

-- `are_below`: whether one of those passed is not below is 0 or 1. Assumes nothing.
abbrev pub invariant-loop-pin : goal.invariant-loop-pin
invariant-loop-pin l =
    (l.high ≤ 1) × (each (λ x. ltb x l.bound) l.fn.row ≡ eqb l.high 0 && each (λ x. ltb x l.bound) (drop l.pin-index l.fn.row))
