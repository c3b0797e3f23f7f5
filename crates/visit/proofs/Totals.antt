-- The sums of the cells, which are kept as the search goes. Assumes nothing.
use Prim.Native.Nat.{ℕ, suc, ◌+◌, ◌*◌, ◌≤◌, ◌<◌}
use native.Mathlib.Omega.{arith}
use mathlib.Core.Path.{◌≡◌, ap₂}
use mathlib.Core.List.{List, [], ◌∷◌}
use lib.ListN.{length, get_or}
use Rattle.std.proofs.lemmas.Bool.Decides.{nat_tests}
use Rattle.kung.specs.Class.{Class}
use Rattle.search.specs.Search.{kept, put, next_of, total, visited_of, gates_visited, pins_taken}
use Rattle.search.proofs.Laws.{next_of_byte_of}
use Rattle.search.proofs.Counts.{total_put, visited_kept}
use Rattle.cells.specs.declared.Counts.{Counts}
use Rattle.visit.specs.Visits.{tally_of}

-- a sum of small numbers is small
total_few : (f : ℕ → ℕ) (most : ℕ) (cells : List ℕ) → ((t : ℕ) → f (get_or cells t 0) ≤ most) → total f cells ≤ most * length cells
unfolding total
total_few f most [] h = omega arith
total_few f most (b ∷ cells) h =
    let here : f b ≤ most = h 0 in
    let more : most * suc (length cells) ≡ most + most * length cells = omega arith in
    omega (arith, total_few f most cells (λ t. h (suc t)))

visited_once : (b : ℕ) → visited_of b ≤ 1
visited_once b = grind (arith, nat_tests)

pub gates_few : (cells : List ℕ) → gates_visited cells ≤ length cells
gates_few cells = omega (arith, total_few visited_of 1 cells (λ t. visited_once (get_or cells t 0)))

pub pins_few : (cells : List ℕ) → ((t : ℕ) → get_or cells t 0 < 256) → pins_taken cells ≤ 15 * length cells
pins_few cells bytes = total_few next_of 15 cells (λ t. omega (arith, bytes t))

-- one cell written: the sums before and after
pub tally_put : (cells : List ℕ) (s : ℕ) (p : Class) (next gates pins : ℕ) → s < length cells
    → gates + visited_of (get_or cells s 0) ≡ gates_visited cells + 1 → pins + next_of (get_or cells s 0) ≡ pins_taken cells + next
    → ◌≡◌ {A = Counts} record { gates = gates; pins = pins } (tally_of (put cells s (kept p next)))
tally_put cells s p next gates pins there g t =
    ap₂ (λ (x y : ℕ). record { gates = x; pins = y })
    (omega (arith, total_put visited_of cells s (kept p next) there, visited_kept p next))
    (omega (arith, total_put next_of cells s (kept p next) there, next_of_byte_of p next))
