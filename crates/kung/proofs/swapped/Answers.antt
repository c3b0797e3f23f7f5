use mathlib.Core.Path.{◌≡◌, refl}
use mathlib.Core.Bool.{Bool, true, false}
use Prim.Native.Nat.{ℕ, ◌*◌, ◌/◌, ◌%◌, ◌^◌, ◌<◌}
use native.Mathlib.Omega.{arith}
use lib.Bits.{bit_or, bit_and}
use mir.Val.{bool_byte}
use Rattle.kung.specs.Sets.{set_of, has}
use Rattle.kung.specs.Members.{swap_if}
use Rattle.kung.specs.Tables.{tab}
use Rattle.kung.proofs.Listed.{agree}
use Rattle.kung.proofs.swapped.Goals as goal

-- `kung::swapped` meets its contract, by the list of its 256 values. Assumes nothing.
shifted : Bool → ℕ → ℕ
shifted b m = bit_or (bit_and m 85 * 2 ^ bool_byte b % 18446744073709551616) (bit_and m 170 / 2 ^ bool_byte b)

swaps : (b : Bool) (m : ℕ) → m < 256 → shifted b m ≡ swap_if b m
unfolding shifted swap_if set_of has tab
swaps true m below = agree (shifted true) (swap_if true) 256 refl m below
swaps false m below = agree (shifted false) (swap_if false) 256 refl m below

low : (b : Bool) → bool_byte b < 64
low true = omega arith
low false = omega arith

pub returns : goal.returns
unfolding shifted
returns c = swaps c.args.inverted c.args.set c.requires
