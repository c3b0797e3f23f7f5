-- Laws of a signal's byte in a search. Assumes nothing.
use Prim.Native.Nat.{ℕ, ◌-◌, ◌/◌, ◌%◌, ◌≤◌, ◌<◌}
use native.Mathlib.Omega.{arith}
use mathlib.Core.Path.{◌≡◌, refl, sym, ◌∙◌, ap}
use mathlib.Core.Bool.{Bool, true, false, cond}
use mathlib.Core.List.{List}
use mathlib.Core.Option.{Option, none, some}
use lib.Dec.{ltb}
use lib.ListN.{get_or, set, get_or-map}
use lib.Seq.{map-set_same}
use borrow.Author.Tests.{lt-ltb, le-ltb}
use Rattle.std.proofs.lemmas.Bool.Decides.{nat_tests}
use Rattle.kung.specs.Class.{Class, code, of_code}
use Rattle.kung.specs.Operation.{op_at, invert_if, unit}
use Rattle.kung.proofs.Finite.{of_code_code}
use Rattle.kung.proofs.Laws.{invert_if_twice}
use Rattle.kung.proofs.SetLaws.{code_lt}
use Rattle.search.specs.Search.{new, kept}
use Rattle.checks.specs.Codes.{code_or}
use Rattle.cells.specs.Codes.{known_mark, open_mark, mark_of, begun_from}
use Rattle.cells.specs.Cells.{cell_in, known_of, known_in, told_in}
use Rattle.checks.proofs.Codes.{code_of_code}

-- a byte of a gate that is new, unfinished or known
pub cell_new : (v : Bool) (b : ℕ) → b < 16 → cell_in v b ≡ new
unfolding cell_in
cell_new v b h = rw (lt-ltb b 16 h)

pub cell_open : (v : Bool) (b : ℕ) → 16 ≤ b → b < 128 → cell_in v b ≡ kept (of_code b) (b / 8 - 2)
unfolding cell_in
cell_open v b l h = rw (le-ltb b 16 l, lt-ltb b 128 h)

pub cell_known : (v : Bool) (b : ℕ) → 128 ≤ b → cell_in v b ≡ kept (invert_if v (of_code b)) (b / 8 - 16)
unfolding cell_in
cell_known v b l = rw (le-ltb b 16 (omega arith), le-ltb b 128 l)

-- what is known stays where a gate's byte is written
pub known_small : (b : ℕ) → 8 ≤ b → known_of b ≡ 8
known_small b h = grind (arith, nat_tests)

pub known_set : (bytes : List ℕ) (s b : ℕ) → 8 ≤ get_or bytes s 0 → 8 ≤ b → known_in (set bytes s b) ≡ known_in bytes
known_set bytes s b old large = map-set_same known_of bytes s b 0 (known_small b large ∙ sym (known_small (get_or bytes s 0) old))

-- the marks of a gate with p and its next pin
pub same_code : (b : ℕ) (k : Class) → b % 8 ≡ code k → of_code b ≡ k
same_code b k e = sym (of_code_code (of_code b)) ∙ ap of_code (code_of_code b ∙ e) ∙ of_code_code k

known_cell : (v : Bool) (p : Class) (next : ℕ) → cell_in v (known_mark (code (invert_if v p)) next) ≡ kept p next
known_cell v p next =
    let k = invert_if v p in
    let small : code k < 8 = code_lt k in
    let b = known_mark (code k) next in
    let rest : b % 8 ≡ code k = omega arith in
    let pin : b / 8 - 16 ≡ next = omega arith in
    cell_known v b (omega arith) ∙ (λ i. kept (invert_if v (same_code b k rest i)) (pin i)) ∙ ap (λ k. kept k next) (invert_if_twice v p)

pub open_cell : (v : Bool) (p next : ℕ) → next ≤ 13 → cell_in v (open_mark p next) ≡ kept (of_code p) next
open_cell v p next few =
    let b = open_mark p next in
    let rest : b % 8 ≡ p % 8 = omega arith in
    let pin : b / 8 - 2 ≡ next = omega arith in
    cell_open v b (omega arith) (omega arith) ∙ (λ i. kept (same_code b (of_code p) (rest ∙ sym (code_of_code p)) i) (pin i))

-- by the only class of the gate's possible set, if it has one
pub mark_cell : (v : Bool) (p next : ℕ) (one : Option Class) → next ≤ 13 → ((k : Class) → one ≡ some k → k ≡ invert_if v (of_code p))
    → cell_in v (mark_of (code_or one) p next) ≡ kept (of_code p) next
mark_cell v p next (some k) few own =
    rw (lt-ltb (code k) 8 (code_lt k)) (ap (λ k. cell_in v (known_mark (code k) next)) (own k refl) ∙ known_cell v (of_code p) next)
mark_cell v p next none few own = open_cell v p next few

pub mark_told : (p next : ℕ) (one : Option Class) → next ≤ 13 → told_in (mark_of (code_or one) p next) ≡ code_or one
mark_told p next (some k) few =
    let b = known_mark (code k) next in
    let small : code k < 8 = code_lt k in
    rw (lt-ltb (code k) 8 small) (rw (le-ltb b 8 (omega arith), le-ltb b 128 (omega arith)) (omega arith))
mark_told p next none few = let b = open_mark p next in rw (le-ltb b 8 (omega arith), lt-ltb b 128 (omega arith))

pub mark_large : (class p next : ℕ) → 16 ≤ mark_of class p next
mark_large class p next = grind (arith, nat_tests)

-- a byte that tells a class ends in its code
pub told_class : (b : ℕ) → told_in b < 8 → of_code b ≡ of_code (told_in b)
told_class b h = go (ltb b 8) (ltb b 128) h
  where
    go : (t u : Bool) → cond t b (cond u 8 (b % 8)) < 8 → of_code b ≡ of_code (cond t b (cond u 8 (b % 8)))
    go true u h = refl
    go false true h = absurd (omega arith)
    go false false h = same_code b (of_code (b % 8)) (omega (arith, code_of_code (b % 8)))

-- a byte that tells none
pub untold_between : (b : ℕ) → told_in b ≡ 8 → (8 ≤ b) × (b < 128)
untold_between b e = grind (arith, nat_tests)

pub untold_searched : (bytes : List ℕ) (s : ℕ) → told_in (get_or bytes s 0) ≡ 8 → 8 ≤ get_or (known_in bytes) s 0
untold_searched bytes s untold =
    rw (get_or-map known_of bytes s 0, known_small (get_or bytes s 0) (untold_between (get_or bytes s 0) untold).0) (omega arith)

pub told_small : (b : ℕ) → told_in b ≤ 8
told_small b = grind (arith, nat_tests)

pub begun_next : (g b : ℕ) → begun_from g b / 8 - 2 ≡ b / 8 - 2
unfolding begun_from
begun_next g b = let small : code (unit (op_at g)) < 8 = code_lt (unit (op_at g)) in grind (arith, nat_tests)

-- bytes of which none is visited
pub fresh_known_of : (b : ℕ) → b ≤ 8 → known_of b ≡ b
fresh_known_of b h = grind (arith, nat_tests)
