use Prim.Native.Nat.{◌<◌}
use native.Mathlib.Omega.{arith}
use mathlib.Core.Path.{◌≡◌, ◌∙◌, ap, ap₂}
use lib.ListN.{length, get_or}
use Rattle.kung.specs.Gates.{unite}
use Rattle.kung.proofs.Listed.{get_d_tab, length_tab}
use Rattle.rows.specs.Rows.{pin_in}
use Rattle.sweep.proofs.Pins.{set_none, set_next, set_all}
use Rattle.sweep.proofs.pin_set.Goals.{In-loop-pin}
use Rattle.sweep.proofs.pin_set.Goals as goal

-- the pin in hand
module _ (c : In-loop-pin) where
  eight : c.loop-pin.pin-index < 8
  eight = omega (arith, ap length c.pins_of-pin-items.ensures, length_tab (pin_in c.args.rows.now c.args.s) 0 8)

  pin_is : get_or c.pins_of-pin-items.result.now c.loop-pin.pin-index 0 ≡ pin_in c.args.rows.now c.args.s c.loop-pin.pin-index
  pin_is =
      ap (λ l. get_or l c.loop-pin.pin-index 0) c.pins_of-pin-items.ensures
      ∙ get_d_tab (pin_in c.args.rows.now c.args.s) 8 c.loop-pin.pin-index eight

pub loop-pin-init : goal.loop-pin-init
loop-pin-init c = set_none _ _

pub bounds-hot-pin : goal.bounds-hot-pin
bounds-hot-pin c =
    let at = (goal.at.bounds-hot-pin c).In-loop-pin in
    omega (arith, pin_is at, c.requires.0.below c.loop-pin.pin-index (eight at))

pub loop-pin-preserved : goal.loop-pin-preserved
loop-pin-preserved c =
    let at = (goal.at.loop-pin-preserved c).In-loop-pin in
    c.union-set.ensures ∙ ap₂ unite c.loop-pin.invariant (ap (λ x. get_or c.args.hot.now x 0) (pin_is at)) ∙ set_next _ _ _

pub returns : goal.returns
returns c =
    let all : c.loop-pin.pin-index ≡ 8 = omega (arith, ap length c.pins_of-pin-items.ensures, length_tab (pin_in c.args.rows.now c.args.s) 0 8) in
    c.loop-pin.invariant ∙ rw all (set_all c.args.hot.now c.args.rows.now c.args.s c.requires.0 c.requires.1)
