use mathlib.Core.Path.{◌≡◌, ◌∙◌, refl, sym}
use Prim.Native.Nat.{ℕ, ◌-◌, ◌<◌}
use mathlib.Core.Bool.{cond}
use lib.Bits.{bit_and}
use lib.Count.{count_trailing_zeros}
use lib.Dec.{eqb}
use borrow.Author.Tests.{eq-eqb, ne_eqb}
use Rattle.kung.specs.Sets.{has}
use Rattle.kung.specs.Members.{only_code, keep}
use Rattle.kung.specs.Tables.{tab}
use Rattle.kung.proofs.Listed.{agree}
use Rattle.kung.proofs.only_class.Goals as goal

-- `kung::only_class` meets its contract, by the list of its 256 values. Assumes nothing.
-- a byte with one bit has none where one less has some
by_bits : (m : ℕ) → m < 256 → only_code m ≡ cond (eqb m 0) 8 (cond (eqb (bit_and m (m - 1)) 0) (count_trailing_zeros 64 m) 8)
unfolding only_code keep has tab count_trailing_zeros
by_bits m h = agree only_code (λ m. cond (eqb m 0) 8 (cond (eqb (bit_and m (m - 1)) 0) (count_trailing_zeros 64 m) 8)) 256 refl m h

pub returns-then-set-eq0 : goal.returns-then-set-eq0
returns-then-set-eq0 c =
    let m = c.args.set in sym (by_bits m c.requires ∙ rw (eq-eqb m 0 c.if-set-eq0.true))

pub returns-then-rest-eq0 : goal.returns-then-rest-eq0
returns-then-rest-eq0 c =
    let m = c.args.set in
    sym (by_bits m c.requires ∙ rw (ne_eqb m 0 c.if-set-eq0.false, eq-eqb (bit_and m (m - 1)) 0 c.if-rest-eq0.true))

pub returns-else-rest-eq0 : goal.returns-else-rest-eq0
returns-else-rest-eq0 c =
    let m = c.args.set in
    sym (by_bits m c.requires ∙ rw (ne_eqb m 0 c.if-set-eq0.false, ne_eqb (bit_and m (m - 1)) 0 c.if-rest-eq0.false))
