use mathlib.Core.Path.{◌∙◌, ap}
use Prim.Native.Nat.{◌-◌}
use lib.Bits.{bit_or}
use Rattle.lookup.proofs.Lookups.{stop_at}
use Rattle.lookup.proofs.stop_bits.Goals as goal

-- `lookup::stop_bits` meets its contract. Assumes nothing.
pub returns : goal.returns
returns c =
    let a = c.args in
    ap (bit_or (255 - a.reach)) c.number_at.ensures
    ∙ stop_at a.waiter a.gate a.reach c.requires.0 c.requires.1 c.requires.2
