-- The chain of refusals: where nothing before the spare bits is refused. Assumes nothing.
use Prim.Native.Nat.{ℕ, ◌+◌, ◌*◌, ◌≤◌}
use native.Mathlib.Omega.{arith}
use mathlib.Core.Path.{◌≡◌, ◌∙◌, ap}
use mathlib.Core.Bool.{true, false, not}
use mathlib.Core.List.{List}
use borrow.Author.Tests.{le-ltb, eq-eqb}
use lib.ListN.{length}
use Rattle.words.specs.Words.{long_at, marked, outside}
use Rattle.words.proofs.Laws.{inside}
use Rattle.refusals.proofs.Laws.{pass}
use Rattle.spares.specs.Spares.{first_spare}
use Rattle.changes.specs.Changes.{version_of, changes_of, most_changes, declared_of, width_of, size_of}
use Rattle.changes.specs.Refusals.{Listed, refuse_spare, after_netlist}

-- the first eleven bytes are there, and the mark, the version, the tie, the count and the length are right
pub record Opened (inputs outputs tie : ℕ) (l : List ℕ) : Type 0 where
  pub long : 11 ≤ length l
  pub mark : marked l 0x4C 0x43 0x54 ≡ true
  pub version : outside 1 2 (version_of l) ≡ false
  pub tied : long_at l 5 ≡ tie
  pub few : changes_of l ≤ most_changes (version_of l)
  pub whole : length l ≡ 11 + changes_of l * size_of (width_of inputs) (width_of (declared_of (version_of l) outputs))

pub list_pass : (inputs outputs tie : ℕ) (l : List ℕ) (next : Listed) → Opened inputs outputs tie l
    → after_netlist inputs outputs tie l next ≡ refuse_spare (first_spare (changes_of l) inputs (declared_of (version_of l) outputs) l 11) next
unfolding after_netlist
list_pass inputs outputs tie l next o =
    pass _ _ _ (le-ltb (length l) 11 o.long)
    ∙ pass _ _ _ (ap not o.mark)
    ∙ pass _ _ _ o.version
    ∙ pass _ _ _ (ap not (eq-eqb (long_at l 5) tie o.tied))
    ∙ pass _ _ _ (inside 0 (most_changes (version_of l)) (changes_of l) (omega arith) o.few)
    ∙ pass _ _ _ (ap not (eq-eqb _ _ o.whole))
