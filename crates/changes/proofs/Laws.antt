-- Laws of a change's place. Assumes nothing.
use Prim.Native.Nat.{ℕ, ◌*◌, ◌≤◌}
use native.Mathlib.Omega.{arith}
use native.Mathlib.Nat.{mul-le-mul}
use mathlib.Core.Bool.{Bool, true, false, cond}
use lib.Dec.{eqb}
use Rattle.changes.specs.Changes.{by_version, size_of}

-- a change's place is a small number
pub change_high : (width row t : ℕ) → width ≤ 32 → row ≤ 8 → t ≤ 1000 → t * size_of width row ≤ 80000
change_high width row t w r h = mul-le-mul {n₂ = 1000} {m₂ = 80} h (omega arith)

-- whichever the version, no list has more changes, or declares more outputs
pub version_high : (version one two most : ℕ) → one ≤ most → two ≤ most → by_version version one two ≤ most
version_high version one two most p q = go (eqb version 2)
  where
    go : (b : Bool) → cond b two one ≤ most
    go true = q
    go false = p
