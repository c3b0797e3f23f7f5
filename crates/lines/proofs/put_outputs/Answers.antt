use Rattle.std.proofs.Common.{◌≡◌, ℕ, ◌+◌, List, get_or, eqb, sym, refl, ap, ◌∙◌, subst, zero-add, add-one, arith}
use Rattle.changes.specs.Lent.{signals_of}
use Rattle.outputs.specs.Codes.{found_byte}
use Rattle.outputs.proofs.Outputs.{found_is, byte_code}
use Rattle.report.specs.declared.Line.{Line}
use Rattle.report.specs.Lines.{text_of}
use Rattle.report.specs.Appended.{Fits, Appended}
use Rattle.report.proofs.Appending.{nothing}
use Rattle.lines.specs.Texts.{texts}
use Rattle.lines.specs.Lent.{line_from, text_from}
use Rattle.lines.proofs.Laws.{texts_room, texts_then}
use Rattle.lines.proofs.put_outputs.Goals.{After-byte_of}
use Rattle.lines.proofs.put_outputs.Goals as goal

-- the line that is made is the output's
module _ (c : After-byte_of) where
  abbrev made : Line
  made =
      record {
        change = c.args.change;
        output = c.loop-output.output;
        class = get_or c.args.classes.now c.output_of-signal.result 0;
        clean = eqb c.byte_of.result 0;
        gates = c.find-found.result.gates;
        pins = c.find-found.result.pins;
      }

  abbrev texts_of : ℕ → List ℕ
  texts_of = text_from c.args.rows.now c.args.known.now c.args.wanted.now c.args.classes.now (signals_of c.args.shape) c.args.change

  made_is : made ≡ line_from c.args.rows.now c.args.known.now c.args.wanted.now c.args.classes.now (signals_of c.args.shape) c.args.change c.loop-output.output
  made_is =
      let at = c.output_of-signal.ensures in
      let found = found_is c.args.rows.now c.args.known.now c.args.wanted.now _ _ _ at _ (rw c.loop-output.invariant.known at c.find-found.ensures.found) in
      let byte = c.byte_of.ensures ∙ ap (λ f. found_byte f.verdict) found ∙ byte_code _ in
      λ i.
      record {
        change = c.args.change;
        output = c.loop-output.output;
        class = get_or c.args.classes.now (at i) 0;
        clean = eqb (byte i) 0;
        gates = (found i).gates;
        pins = (found i).pins;
      }

pub loop-output-init : goal.loop-output-init
unfolding texts
loop-output-init c = record { lines = nothing c.args.text.now (omega arith); known = refl }

pub put_verdict-requires : goal.put_verdict-requires
unfolding text_from
put_verdict-requires c =
    let k = (goal.at.put_verdict-requires c).After-byte_of in
    subst (λ line. Fits c.loop-output.text (text_of line)) (sym (made_is k))
    (texts_room (texts_of k) 0 c.loop-output.output c.loop-output.output c.args.shape.outputs (sym (zero-add _)) c.loop-output-test.true c.requires.fits c.loop-output.invariant.lines)

pub loop-output-preserved : goal.loop-output-preserved
unfolding text_from
loop-output-preserved c =
    let k = (goal.at.loop-output-preserved c).After-byte_of in
    record {
      lines =
          texts_then (texts_of k) 0 c.loop-output.output c.loop-output.output (c.loop-output.output + 1) (sym (zero-add _)) (add-one _) c.loop-output.invariant.lines
          (subst (λ line. Appended c.loop-output.text c.put_verdict.new.self (text_of line)) (made_is k) c.put_verdict.ensures);
      known = c.find-found.ensures.known ∙ c.loop-output.invariant.known;
    }
