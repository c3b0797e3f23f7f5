-- `visit::find` meets its contract. Assumes nothing.
use Prim.Native.Nat.{ℕ, suc, ◌+◌, ◌-◌, ◌≤◌, ◌<◌}
use native.Mathlib.Omega.{arith}
use native.Mathlib.Decide.{dec_lt}
use mathlib.Core.Path.{◌≡◌, refl, sym, ◌∙◌, ap, subst}
use mathlib.Core.List.{List}
use lib.ListN.{get_or}
use Rattle.cells.specs.Cells.{told_in}
use Rattle.visit.specs.Lent.{SearchReady, InputsGiven}
use Rattle.visit.proofs.Sources.{falling}
use Rattle.visit.proofs.Searches.{search_given, fresh_known, fresh_tally, fresh_marks, search_visited, known_left}
use borrow.Rule.Slice.PartMut.{put_mid}
use Rattle.visit.proofs.find.Goals as goal

pub returns-then-class-lt8-clause-found : goal.returns-then-class-lt8-clause-found
returns-then-class-lt8-clause-found c =
    let a = c.args in
    search_given a.rows.now a.known.now a.wanted a.s c.if-class-lt8.true c.judge.result c.judge.ensures

pub visit-ending-requires-clause-search_ready : goal.visit-ending-requires-clause-search_ready
visit-ending-requires-clause-search_ready c =
    let a = c.args in
    let ready = c.requires.0 in
    subst (SearchReady a.rows.now) (sym (fresh_known a.rows.now a.known.now ready.afresh)) ready

pub visit-ending-requires-clause-lends : goal.visit-ending-requires-clause-lends
visit-ending-requires-clause-lends c =
    let a = c.args in
    let afresh = c.requires.0.afresh in
    let eight : get_or a.known.now a.s 0 ≡ 8 = omega (arith, afresh a.s, c.if-class-lt8.false) in (
      record {
        there = c.requires.2;
        few = c.requires.0.few_signals;
        small = λ t. omega (arith, afresh t);
        tallied = fresh_tally a.rows.now a.known.now afresh;
        marked = fresh_marks a.rows.now a.known.now afresh (suc a.s);
      },
      ap told_in eight,
      omega arith,
      omega arith,
    )

-- the signal is no input
above_inputs : (first s : ℕ) (known : List ℕ) → InputsGiven first known → 8 ≤ get_or known s 0 → first ≤ s + 1
above_inputs first s known given searched = go (dec_lt s first)
  where
    go : Dec (s < first) → first ≤ s + 1
    go (yes input) = absurd (omega (arith, given s input))
    go (no above) = omega arith

pub returns-clause-found : goal.returns-clause-found
returns-clause-found c =
    let a = c.args in
    let v = c.visit-ending in
    search_visited a.rows.now a.known.now c.requires.0.afresh a.wanted a.s (falling a.rows.now a.known.now c.requires.0.gates_only)
    c.requires.2 c.if-class-lt8.false v.result v.new.cells v.new.tally v.ensures _ c.verdict_of.ensures refl refl

pub returns-clause-known : goal.returns-clause-known
returns-clause-known c =
    let a = c.args in
    let v = c.visit-ending in
    ap (put_mid a.first (a.s + 1 - a.first) v.new.cells) c.reset.ensures
    ∙ known_left a.rows.now a.known.now c.requires.0.afresh a.wanted a.s (falling a.rows.now a.known.now c.requires.0.gates_only)
    c.requires.2 c.if-class-lt8.false v.result v.new.cells v.new.tally v.ensures a.first c.requires.1
    (above_inputs a.first a.s a.known.now c.requires.1 c.if-class-lt8.false)
