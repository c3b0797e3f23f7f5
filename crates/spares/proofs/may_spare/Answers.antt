use Prim.Native.Nat.{◌+◌, ◌-◌, ◌*◌, ◌/◌, ◌≤◌, ◌<◌}
use native.Mathlib.Omega.{arith}
use native.Mathlib.Nat.{zero-mul, sub-zero}
use mathlib.Core.Path.{◌≡◌, ap}
use lib.ListN.{length}
use Rattle.words.specs.Words.{byte_at}
use Rattle.spares.specs.Spares.{width_of, last_place}
use Rattle.spares.proofs.Laws.{eight_clear, times_next, changes_left}
use Rattle.spares.proofs.United.{under_none, under_more, under_clear}
use borrow.Author.Tests.{leb-false}
use borrow.Author.Rules.{rules}
use Rattle.spares.proofs.may_spare.Goals.{In-loop-t}
use Rattle.spares.proofs.may_spare.Goals as goal

-- a turn has both bytes before it
room : (c : In-loop-t) → (let a = c.args in
    let l = c.loop-t in
    l.last + (a.bits + 7) / 8 + 1 + (a.changes - (l.t + 1)) * a.size ≤ length a.list.now)
room c =
    let a = c.args in
    let l = c.loop-t in
    omega (arith, l.invariant.1, changes_left a.changes l.t a.size c.loop-t-test.true)

pub returns-then-used-eq8 : goal.returns-then-used-eq8
returns-then-used-eq8 c =
    let l = c.args.list.now in
    record { clear = λ e t h. eight_clear c.args.bits l _ c.if-used-eq8.true (λ at. let low : byte_at l at < 256 = omega (arith, c.type_inv.list at) in low) }

pub loop-t-init : goal.loop-t-init
loop-t-init c =
    let p = c.requires in
    let a = c.args in
    (search rules, rw sub-zero (omega (arith, p.4, p.0)), rw zero-mul (omega (arith, p.0)), under_none a.bits a.list.now a.at a.size 0)

pub bounds-list-last-in-loop-t : goal.bounds-list-last-in-loop-t
bounds-list-last-in-loop-t c = omega (arith, room (goal.at.bounds-list-last-in-loop-t c).In-loop-t)

pub loop-t-preserved : goal.loop-t-preserved
loop-t-preserved c =
    let a = c.args in
    let l = c.loop-t in
    let here : l.last ≡ last_place a.bits (a.at + l.t * a.size) = omega (arith, l.invariant.2) in
    let there : l.last + width_of a.bits ≡ last_place a.bits (a.at + l.t * a.size + width_of a.bits) = omega (arith, l.invariant.2) in (
      search rules,
      omega (arith, room (goal.at.loop-t-preserved c).In-loop-t),
      omega (arith, l.invariant.2, times_next l.t a.size),
      under_more a.bits a.list.now a.at a.size l.t l.all _ _ l.invariant.3 (ap (byte_at a.list.now) here) (ap (byte_at a.list.now) there),
    )

pub returns : goal.returns
returns c =
    let a = c.args in
    record {
      clear =
          λ e t h.
          under_clear a.bits a.list.now a.at a.size c.loop-t.t c.loop-t.all _ c.loop-t.invariant.3 c.byte_past.ensures (leb-false _ _ e) t
          (omega (arith, h, c.loop-t-test.false));
    }
