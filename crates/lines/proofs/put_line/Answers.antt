use Rattle.std.proofs.Common.{ℕ, ◌+◌, ◌^◌, ◌<◌, ◌≤◌, length, sym, ◌∙◌, arith}
use Rattle.netlist.proofs.Accepted.{formed}
use Rattle.changes.proofs.Accepted.{listed}
use Rattle.report.specs.declared.Text.{Text}
use Rattle.report.specs.Text.{counts_line, refusal_line}
use Rattle.report.specs.Appended.{Fits}
use Rattle.report.proofs.Lengths.{counts_length, refusal_length}
use Rattle.lines.specs.Texts.{first_line}
use Rattle.lines.proofs.put_line.Goals as goal

-- the line of the refusal, or of the counts: at most 64 bytes
refusal_fits : {text : Text} (number place : ℕ) → number < 2 ^ 8 → place < 2 ^ 64 → text.written + 64 ≤ length text.bytes.now → Fits text (refusal_line number place)
refusal_fits number place n p room = record { room = omega (arith, refusal_length number place n p) }

pub put_refusal-requires : goal.put_refusal-requires
put_refusal-requires c = refusal_fits _ _ (omega arith) (omega arith) c.requires

counts_fits : {text : Text} (inputs gates outputs changes : ℕ) → inputs < 10000 → gates < 10000 → outputs < 10000 → changes < 10000
    → text.written + 64 ≤ length text.bytes.now → Fits text (counts_line inputs gates outputs changes)
counts_fits inputs gates outputs changes i g o t room = record { room = omega (arith, counts_length inputs gates outputs changes i g o t) }

pub put_counts-requires : goal.put_counts-requires
put_counts-requires c =
    let l = listed _ _ (sym c.check.ensures ∙ c.in-Ok.is) in
    let f = formed _ l.netlist_accepted in
    counts_fits _ _ _ _ (omega arith) (omega arith) (omega arith) (omega arith) c.requires

pub returns-in-Err : goal.returns-in-Err
unfolding first_line
returns-in-Err c = rw (← c.check.ensures, c.in-Err.is) (rw (c.number.ensures, c.place.ensures) at c.put_refusal.ensures)

pub returns-in-Ok : goal.returns-in-Ok
unfolding first_line
returns-in-Ok c = rw (← c.check.ensures, c.in-Ok.is) c.put_counts.ensures
