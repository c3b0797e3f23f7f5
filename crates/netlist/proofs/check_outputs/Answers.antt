use native.Mathlib.Omega.{arith}
use mathlib.Core.Path.{◌∙◌, sym}
use Rattle.netlist.proofs.Laws.{pins_read}
use Rattle.netlist.proofs.Refusals.{accepted_read}
use Rattle.netlist.proofs.Entries.{entries_more, entry_refused, entries_accepted}
use Rattle.netlist.proofs.Keeping.{kept_refused, kept_read}
use Rattle.netlist.proofs.check_outputs.Goals as goal

-- `check_outputs`: the entries one by one. Assumes nothing.
pub returns-then-inputs-gates : goal.returns-then-inputs-gates
returns-then-inputs-gates c =
    let e = entry_refused c.loop-k.invariant (omega arith) c.requires.0 c.word_in.ensures (omega arith) in
    record { value = sym e; rows_after = sym (kept_refused _ _ _ e) }

pub loop-k-preserved : goal.loop-k-preserved
loop-k-preserved c = entries_more c.loop-k.invariant (omega arith) c.requires.0 c.word_in.ensures (omega arith)

pub returns-else-end-s : goal.returns-else-end-s
returns-else-end-s c =
    let e = entries_accepted c.loop-k.invariant (omega arith) (omega arith) in
    let i = c.word_at-inputs.ensures in
    let g = c.word_at-gates.ensures in
    let o = c.word_at-outputs.ensures in
    record {
      value = accepted_read _ i g o (pins_read _ g c.requires.0) c.requires.0 ∙ sym e;
      rows_after = c.keep_words.ensures ∙ kept_read _ _ _ e i g o c.requires.0;
    }
