-- Laws of gates by the set of their pins' classes. Assumes nothing.
use mathlib.Core.Path.{◌≡◌, refl, ◌∙◌, ap}
use mathlib.Core.Bool.{◌||◌, or_comm}
use mathlib.Core.List.{List, [], ◌∷◌}
use Prim.Native.Nat.{ℕ, ◌/◌, ◌%◌}
use lib.Dec.{eqb}
use Rattle.kung.specs.Class.{Class, same}
use Rattle.kung.specs.Rule.{some}
use Rattle.kung.specs.Operation.{op_at, invert_if}
use Rattle.kung.specs.Sets.{set_of, has}
use Rattle.kung.specs.Members.{members, insert, collect}
use Rattle.kung.specs.Gates.{gate_at}
use Rattle.kung.proofs.SetLaws.{has_set_of, set_of_ext, join_collect}

-- A gate's class depends on its operation, its inversion and the set of its pins' classes alone.
pub gate_collect : (g : ℕ) (ps : List Class) → gate_at g (members (collect ps)) ≡ gate_at g ps
unfolding gate_at
gate_collect g ps = ap (invert_if (eqb (g / 2 % 2) 1)) (join_collect (op_at g) ps)

-- the set of a list's classes is the union of the sets of each alone, so that a class more than once in the list changes nothing
pub collect_is : (ps : List Class) → collect ps ≡ set_of (λ c. some (λ k. same k c) ps)
unfolding collect some insert set_of
collect_is [] = refl
collect_is (k ∷ ps) =
    set_of_ext _ _
    (λ c. ap (λ m. has m c || same k c) (collect_is ps) ∙ ap (λ b. b || same k c) (has_set_of (λ c. some (λ k. same k c) ps) c)
    ∙ or_comm (some (λ k. same k c) ps) (same k c))
