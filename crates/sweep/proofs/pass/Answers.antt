use Prim.Native.Nat.{◌+◌}
use native.Mathlib.Omega.{arith}
use mathlib.Core.Path.{◌≡◌, sym, ◌∙◌, ap, ap₂}
use mathlib.Core.List.{◌++◌}
use native.Mathlib.Nat.{add_comm}
use mathlib.Core.Bool.{◌||◌}
use lib.Count.{count_trailing_zeros}
use lib.ListN.{length, set}
use Rattle.kung.specs.Class.{c0, c1, of_code}
use Rattle.kung.specs.Sets.{bit, has}
use Rattle.kung.specs.Members.{members, insert}
use Rattle.kung.specs.Gates.{gate_at}
use Rattle.kung.proofs.Finite.{of_code_code}
use Rattle.kung.proofs.SetLaws.{lowest_one}
use Rattle.kung.proofs.Unions.{bit_lt}
use Rattle.rows.specs.Rows.{gate_in}
use Rattle.sweep.specs.Sweep.{codes_of, hots_of}
use Rattle.sweep.proofs.Laws.{pass_starts, hot_starts, pass_more, hot_more, hot_rest, pass_touched, touched_none}
use borrow.Author.Rules.{rules}
use Rattle.sweep.proofs.pass.Goals.{At-loop-gate}
use Rattle.sweep.proofs.pass.Goals as goal

pub loop-gate-init : goal.loop-gate-init
loop-gate-init c =
    let a = c.args in (
      search rules,
      pass_starts a.rows.now a.buffer.now a.inputs a.gates (length a.hot.now) c.requires,
      hot_starts a.rows.now a.buffer.now a.inputs a.gates (length a.hot.now) c.requires a.hot.now c.heat.new.hot
          c.heat.ensures,
      touched_none a.rows.now a.buffer.now a.inputs a.gates _,
      search rules,
    )

pub loop-gate-preserved : goal.loop-gate-preserved
loop-gate-preserved c =
    let a = c.args in
    let h = c.loop-gate-test.true in
    let old = c.heat.new.hot in
    let pins = c.pin_set-set in
    let only = c.gate_set-only.ensures ∙ ap₂ (λ w m. insert 0 (gate_at (gate_in w) (members m))) c.word_of.ensures pins.ensures in
    let made = ap (count_trailing_zeros 8) only ∙ lowest_one _ in
    let alone = only ∙ ap (insert 0) (sym (ap of_code made ∙ of_code_code _)) in (
      search rules,
      pass_more a.rows.now a.buffer.now a.inputs a.gates (length a.hot.now) c.requires old c.loop-gate.hot c.loop-gate.gate h c.loop-gate.invariant.2 _ made
          c.loop-gate.buffer c.loop-gate.invariant.1,
      ap (λ b. set c.loop-gate.hot (a.inputs + c.loop-gate.gate) b) alone
          ∙ hot_more a.rows.now a.buffer.now a.inputs a.gates (length a.hot.now) c.requires old c.loop-gate.hot c.loop-gate.gate h c.loop-gate.invariant.2 _ made
          (omega (arith, c.requires.hot_room)),
      add_comm c.loop-gate.touched c.is_touched-touched.result
          ∙ ap₂ ◌+◌ (c.is_touched-touched.ensures ∙ ap (λ m. bit (has m c0 || has m c1)) pins.ensures) c.loop-gate.invariant.3
          ∙ pass_touched a.rows.now a.buffer.now a.inputs a.gates (length a.hot.now) c.requires old c.loop-gate.hot c.loop-gate.gate h c.loop-gate.invariant.2,
      omega (arith, c.is_touched-touched.ensures, bit_lt (has pins.result c0 || has pins.result c1)),
    )

pub returns : goal.returns
returns c =
    let a = c.args in
    let l = c.loop-gate in
    let e : l.gate ≡ a.gates = omega arith in
    record {
      codes = rw e at l.invariant.1;
      hots =
          (rw e at l.invariant.2)
          ∙ ap (λ rest. hots_of (codes_of a.rows.now a.buffer.now a.inputs a.gates (a.inputs + a.gates)) ++ rest)
          (hot_rest a.rows.now a.buffer.now a.inputs a.gates (length a.hot.now) c.requires a.hot.now c.heat.new.hot
          c.heat.ensures a.gates);
      touched = rw e at l.invariant.3;
    }
