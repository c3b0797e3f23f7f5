use Prim.Native.Nat.{ℕ, ◌+◌, ◌-◌, ◌*◌, ◌<◌}
use native.Mathlib.Omega.{arith}
use mathlib.Core.Path.{◌≡◌, sym, ◌∙◌, ap}
use lib.ListN.{length, take, drop, length-drop}
use lib.Seq.{ext_get_or, get_or-drop, get_or-take, length-take-le}
use Rattle.kung.proofs.Listed.{get_d_tab, length_tab}
use Rattle.rows.specs.Rows.{pin_in}
use Rattle.rows.proofs.pins_of.Goals as goal

-- `rows::pins_of` meets its contract, number by number. Assumes nothing.
pub returns : goal.returns
returns c =
    let rows = c.args.rows.now in
    let at = 9 * c.args.s in
    let rest = drop at rows in
    let eight : at + 8 - at ≡ 8 = omega arith in
    let all : length (take 8 rest) ≡ 8 = length-take-le 8 rest (omega (arith, length-drop at rows)) in
    ap (λ (n : ℕ). take n rest) eight
    ∙ ext_get_or 0 (take 8 rest) _ (all ∙ sym (length_tab (pin_in rows c.args.s) 0 8))
    (λ k less.
    let low : k < 8 = omega (arith, all) in
    get_or-take 8 rest k 0 low ∙ get_or-drop at rows k 0 ∙ sym (get_d_tab (pin_in rows c.args.s) 8 k low))
