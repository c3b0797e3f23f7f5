-- What each answer of the check leaves in the rows. Assumes nothing.
use Prim.Native.Nat.{ℕ, ◌+◌, ◌*◌}
use mathlib.Core.Path.{◌≡◌}
use mathlib.Core.Bool.{Bool}
use mathlib.Core.List.{List}
use Rattle.std.specs.Prelude.{Err}
use Rattle.std.proofs.lemmas.Bool.Decides.{nat_tests}
use Rattle.words.specs.Words.{words_at}
use Rattle.words.proofs.Laws.{within, words_length, words_at_lem}
use Rattle.refusals.specs.declared.Refusal.{Refusal}
use Rattle.making.specs.Making.{put_at}
use Rattle.making.proofs.Making.{put_out, paste_more, paste_end}
use Rattle.netlist.specs.Netlist.{Checked, inputs_of, gates_of, outputs_of, entries_at, accepted, body}
use Rattle.netlist.specs.Decoded.{rows_from, with_outputs, decoded_by}
use Rattle.netlist.proofs.Refusals.{counts_body}
use Rattle.netlist.proofs.Passing.{body_late}

module _ (s rows : List ℕ) (answer : Checked) where
  pub kept_refused : {refusal : Refusal} → answer ≡ Err refusal → with_outputs answer s rows ≡ rows
  unfolding with_outputs
  kept_refused e = rw e

  -- by the counts that the code has read
  pub kept_read : answer ≡ accepted s → {i g o a : ℕ} → i ≡ inputs_of s → g ≡ gates_of s → o ≡ outputs_of s → a ≡ entries_at s
      → put_at rows (9 * (i + g)) (words_at o s a) ≡ with_outputs answer s rows
  unfolding with_outputs accepted
  kept_read e i g o a = rw (i, g, o, a, e)

-- what follows the counts is not refused early
pub decoded_body : (repeated : Bool) (s rows : List ℕ) → decoded_by repeated (body s) s rows ≡ with_outputs (body s) s (rows_from repeated (gates_of s) 0 s rows)
unfolding decoded_by
decoded_body repeated s rows = rw (body_late s)

-- what `check_counts` asks, and `keep_words`
pub ruleset counted = (nat_tests, within, counts_body, decoded_body)

pub ruleset copies = (words_length, words_at_lem, put_out, paste_more, paste_end)
