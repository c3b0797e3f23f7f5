-- The first line and the lines of each change to print are not empty. Assumes nothing.
use Rattle.std.specs.Prelude.{Ok, Err}
use Rattle.std.proofs.Common.{◌≡◌, ℕ, zero, suc, ◌+◌, ◌<◌, ◌≤◌, List, length, refl, arith, length-append}
use Rattle.netlist.specs.Netlist.{outputs_of}
use Rattle.netlist.proofs.Accepted.{formed}
use Rattle.changes.specs.Refusals.{Listed, list_checked}
use Rattle.changes.proofs.Accepted.{listed}
use Rattle.report.specs.Text.{counts_line, verdict_line, refusal_line}
use Rattle.report.proofs.Lengths.{line_some}
use Rattle.lines.specs.Texts.{texts, first_line}
use Rattle.text.specs.Listing.{output_line, change_lines, printed_changes}

module _ (n l : List ℕ) where
  -- the changes to print
  abbrev T : ℕ
  T = printed_changes (list_checked n l)

  output_some : (t o : ℕ) → 1 ≤ length (output_line n l t o)
  unfolding output_line verdict_line
  output_some t o = line_some _ _

  -- each has a line, since an accepted card has an output
  pub lines_some : (t : ℕ) → t < T → 1 ≤ length (change_lines n l t)
  unfolding change_lines texts printed_changes
  lines_some t early = find (list_checked n l) refl (omega arith)
    where
      go : (outputs : ℕ) → 1 ≤ outputs → 1 ≤ length (texts (output_line n l t) 0 outputs)
      go zero h = absurd (omega arith)
      go (suc k) h = simp length-append (omega (arith, output_some t (0 + k)))

      find : (listed : Listed) → list_checked n l ≡ listed → t < printed_changes listed → 1 ≤ length (texts (output_line n l t) 0 (outputs_of n))
      find (Err refusal) e h = absurd (omega arith)
      find (Ok task) e h = let f = formed n (listed n l e).netlist_accepted in go (outputs_of n) (omega (arith, f.outputs_low, f.outputs_are))

  pub first_some : 1 ≤ length (first_line (list_checked n l))
  unfolding first_line refusal_line counts_line
  first_some = go (list_checked n l)
    where
      go : (listed : Listed) → 1 ≤ length (first_line listed)
      go (Err refusal) = line_some _ _
      go (Ok task) = line_some _ _
