-- Laws of wanted sets. Assumes nothing.
use Prim.Native.Nat.{ℕ, zero, suc, ◌+◌, ◌-◌, ◌*◌, ◌/◌, ◌%◌, ◌≤◌, ◌<◌}
use native.Mathlib.Omega.{arith}
use native.Mathlib.Nat.{zero-add}
use mathlib.Core.Path.{◌≡◌, refl, sym, ◌∙◌, ap, ap₂}
use mathlib.Core.List.{List, ◌∷◌, ◌++◌}
use mathlib.Core.Bool.{Bool, true, false, cond}
use borrow.Author.Tests.{lt-ltb, le-ltb, eq-eqb, ne_eqb}
use lib.Dec.{eqb, ltb}
use lib.ListN.{get_or, replicate}
use Rattle.std.specs.Prelude.{Ok}
use Rattle.kung.specs.Class.{Class, of_code, clean, input_class, same}
use Rattle.kung.specs.Sets.{set_of, has, clean_set}
use Rattle.kung.specs.Members.{insert}
use Rattle.kung.specs.Tables.{tab}
use Rattle.kung.proofs.Finite.{of_code_code}
use Rattle.kung.proofs.SetLaws.{has_set_of, insert_one}
use Rattle.kung.proofs.Listed.{get_d_tab}
use Rattle.words.specs.Words.{byte_at}
use Rattle.netlist.specs.Netlist.{outputs_of}
use Rattle.netlist.proofs.Accepted.{formed}
use Rattle.changes.specs.declared.Layout.{Layout}
use Rattle.changes.specs.declared.Task.{Task}
use Rattle.changes.specs.Changes.{version_of, width_of, layout_in, bit_in, bit_at, class_at, declared_class_at}
use Rattle.changes.specs.Refusals.{list_checked}
use Rattle.changes.proofs.Accepted.{listed, laid}
use Rattle.inputs.specs.Written.{code_in, written}
use Rattle.inputs.proofs.Laws.{drop_replicate, tab_add, tab_ext, written_all}
use Rattle.wanted.specs.Wanted.{wanted_at, wanted_in}
use Rattle.wanted.specs.Sets.{set_at, sets_at}

pub clean_set_lem : clean_set ≡ 15
unfolding set_of
clean_set_lem = refl

-- by the list's version
module _ (l : List ℕ) (layout : Layout) (t o : ℕ) where
  pub wanted_declared : layout.version ≡ 2 → wanted_at l layout t o ≡ set_of (same (declared_class_at l layout t o))
  unfolding wanted_at
  wanted_declared e = rw (eq-eqb layout.version 2 e)

  pub wanted_clean : (layout.version ≡ 2 → ⊥) → wanted_at l layout t o ≡ clean_set
  unfolding wanted_at
  wanted_clean e = rw (ne_eqb layout.version 2 e)

  -- "Version 1 lists keep their meaning."
  pub has_clean : layout.version ≡ 1 → (k : Class) → has (wanted_at l layout t o) k ≡ clean k
  has_clean e k = ap (λ w. has w k) (wanted_clean (λ two. absurd (omega arith))) ∙ has_set_of clean k

  pub has_declared : layout.version ≡ 2 → (k : Class) → has (wanted_at l layout t o) k ≡ same (declared_class_at l layout t o) k
  has_declared e k = ap (λ w. has w k) (wanted_declared e) ∙ has_set_of (same (declared_class_at l layout t o)) k

-- the set of the class by bit o of two rows, whose bytes and class the code has
pub set_by_bytes : (l : List ℕ) (starts ends o a b : ℕ) → a ≡ byte_at l (starts + o / 8) → b ≡ byte_at l (ends + o / 8) → (class : ℕ) → class ≡ code_in a b (o % 8)
    → insert 0 (of_code class) ≡ set_of (same (class_at l starts ends o))
unfolding class_at bit_at
set_by_bytes l starts ends o a b one two class e =
    let k = input_class (bit_in a (o % 8)) (bit_in b (o % 8)) in
    ap (λ c. insert 0 (of_code c)) e ∙ ap (insert 0) (of_code_code k) ∙ insert_one k ∙ rw (one, two)

-- the sets of all outputs of a change, as they are written
abbrev pub declared_set : List ℕ → Layout → (t o : ℕ) → ℕ
declared_set l layout t o = set_of (same (declared_class_at l layout t o))

all_clean : (g : ℕ → ℕ) (i n : ℕ) → ((k : ℕ) → k < n → g (i + k) ≡ 15) → tab g i n ≡ replicate n 15
unfolding tab
all_clean g i zero h = refl
all_clean g i (suc n) h =
    ap₂ ◌∷◌ (let e : i + 0 ≡ i = omega arith in rw e at (h 0 (omega arith)))
    (all_clean g (suc i) n (λ k less. let e : i + suc k ≡ suc i + k = omega arith in rw e at (h (suc k) (omega arith))))

pub sets_are : (l : List ℕ) (layout : Layout) (t : ℕ) → layout.row ≤ 8 → written (replicate 64 15) 0 (declared_set l layout t) (8 * layout.row) ≡ sets_at l layout t
unfolding sets_at
sets_are l layout t h =
    let m = 8 * layout.row in
    let e : m + (64 - m) ≡ 64 = omega arith in
    let g = set_at l layout t in
    written_all (replicate 64 15) (declared_set l layout t) m
    ∙ sym (ap (tab g 0) (sym e) ∙ rw zero-add at (tab_add g 0 m (64 - m))
    ∙ ap₂ ◌++◌ (tab_ext g (declared_set l layout t) 0 0 m (λ k less. rw (lt-ltb (0 + k) m (omega arith))))
    (all_clean g m (64 - m) (λ k less. rw (le-ltb (m + k) m (omega arith)) clean_set_lem) ∙ sym (drop_replicate m 64 15)))

-- an output whose ends are declared is in the rows; in version 1 there are none
by_version : (b : Bool) (outputs o declared clean : ℕ) → o < outputs
    → cond (ltb o (8 * width_of (cond b outputs 0))) declared clean ≡ cond b declared clean
by_version true outputs o declared clean h = rw (lt-ltb o (8 * width_of outputs) (omega arith))
by_version false outputs o declared clean h = rw (le-ltb o (8 * width_of 0) (omega arith))

-- of an accepted list they are the outputs' wanted sets
pub sets_in : {task : Task} (n l : List ℕ) → list_checked n l ≡ Ok task → (t : ℕ) (sets : List ℕ) → sets ≡ sets_at l task.layout t
    → (o : ℕ) → o < task.shape.outputs → get_or sets o 0 ≡ wanted_in n l t o
unfolding sets_at wanted_at
sets_in {task} n l accepted t sets e o h =
    let f = formed n (listed n l accepted).netlist_accepted in
    ap (λ s. get_or s o 0) e ∙ get_d_tab (set_at l task.layout t) 64 o (omega (arith, f.outputs_high))
    ∙ ap (λ layout. set_at l layout t o) (laid n l accepted)
    ∙ by_version (eqb (version_of l) 2) (outputs_of n) o (declared_set l (layout_in n l) t o) clean_set (omega (arith, f.outputs_are))
