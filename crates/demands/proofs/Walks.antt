-- Demand 1 of the gate walk: opening one, and a step of any. Assumes nothing.
use Rattle.std.specs.Prelude.{Option, Some, None, Ok}
use Rattle.std.proofs.Common.{◌≡◌, ℕ, ◌<◌, ◌≤◌, Bool, true, false, not, ◌&&◌, leb, ◌⊎◌, ◌↔◌, List, length, sym, refl, ap, ◌∙◌, inl, inr, arith, Bor, leb-false, leb-true}
use mathlib.Core.Bool.{false≢true}
use Rattle.words.specs.Words.{outside}
use Rattle.std.proofs.lemmas.Bool.Decides.{nat_tests}
use Rattle.records.specs.Records.{kind_at, count_at, past_record, no_kind, least_pins, most_pins, unfit}
use Rattle.records.proofs.Meanings.{least_some, most_eight}
use Rattle.netlist.specs.Netlist.{gates_of, place_of, shape_of, accepted, checked}
use Rattle.netlist.proofs.Accepted.{formed}
use Rattle.netlist.proofs.Proper.{first_refusal}
use Rattle.walk.specs.declared.Walk.{Walk}
use Rattle.walk.specs.Walk.{whole, found, walk_of, opened, opened_by, size_of}
use Rattle.walk.proofs.Laws.{whole_formed, whole_room, found_none, found_no_record, found_record, record_found}
use Rattle.walk.proofs.Theorems.{finds, none, empty_none, hands_back, refused_none}
use Rattle.demands.specs.Demands.{GivesNone, GivesRecord, Opening, WholeRecord, Step}

-- a kind, and a pin count that it takes
unfit_within : (kind count : ℕ) → unfit kind count ≡ false → ((1 ≤ kind) × (kind ≤ 6)) × ((least_pins kind ≤ count) × (count ≤ most_pins kind))
unfolding unfit no_kind outside
unfit_within kind count e = grind (arith, nat_tests)

-- a record is whole by the walk's test exactly where it is by the sentence
module _ (n : List ℕ) (place : ℕ) where
  whole_fit : whole n place ≡ true → unfit (kind_at n place) (count_at n place) ≡ false
  whole_fit e = go (unfit (kind_at n place) (count_at n place)) e
    where
      go : (b : Bool) → not b && leb (past_record n place) (length n) ≡ true → b ≡ false
      go true h = absurd (false≢true h)
      go false h = refl

  whole_exactly : (whole n place ≡ true) ↔ WholeRecord n place
  whole_exactly = (
    (λ e.
        let fit = unfit_within (kind_at n place) (count_at n place) (whole_fit e) in
        record { kind_low = fit.0.0; kind_high = fit.0.1; count_low = fit.1.0; count_high = fit.1.1; inside = whole_room n place e }),
    λ r.
        whole_formed n place
        (record {
          kind_low = r.kind_low;
          kind_high = r.kind_high;
          count_low = r.count_low;
          count_high = r.count_high;
          count_some = omega (arith, least_some (kind_at n place));
          count_eight = omega (arith, most_eight (kind_at n place));
          room = r.inside;
        }),
  )

module _ (w : Walk) where
  -- what a step that gives a record finds
  given : GivesRecord w → found w ≡ Some (past_record w.netlist.now w.place)
  given some = go (found w) refl
    where
      go : (f : Option ℕ) → found w ≡ f → f ≡ Some (past_record w.netlist.now w.place)
      go (Some past) e = ap Some (record_found w.netlist.now w.place w.number w.count past e).2
      go None e = absurd (some (none w e).0)

  none_found : GivesNone w → found w ≡ None
  none_found h = empty_none w (ap size_of h)

  none_when : GivesNone w → (w.count ≤ w.number) ⊎ (WholeRecord w.netlist.now w.place → ⊥)
  none_when h = go (leb w.count w.number) (whole w.netlist.now w.place) refl refl
    where
      go : (a b : Bool) → leb w.count w.number ≡ a → whole w.netlist.now w.place ≡ b
          → (w.count ≤ w.number) ⊎ (WholeRecord w.netlist.now w.place → ⊥)
      go true b all _ = inl (leb-true w.count w.number all)
      go false false _ e = inr (λ r. false≢true (sym e ∙ (whole_exactly w.netlist.now w.place).1 r))
      go false true left e =
          let f = found_record w.netlist.now w.place w.number w.count (leb-false w.count w.number left) e in
          let d = none_found h in
          cc

  when_none : (w.count ≤ w.number) ⊎ (WholeRecord w.netlist.now w.place → ⊥) → GivesNone w
  when_none (inl all) = (none w (sym (found_none w.netlist.now w.place w.number w.count all))).0
  when_none (inr unread) = go (whole w.netlist.now w.place) refl
    where
      go : (b : Bool) → whole w.netlist.now w.place ≡ b → GivesNone w
      go true e = absurd (unread ((whole_exactly w.netlist.now w.place).0 e))
      go false e = (none w (sym (found_no_record w.netlist.now w.place w.number w.count e))).0

  pub step : Step w
  step =
      record {
        gives_none = (none_when, when_none);
        gives_record = λ some. (finds w _ (given some)).0;
        moves_on = λ some. (finds w _ (given some)).1;
        stays = λ h. (none w (none_found h)).1;
        none_by_length = (λ h. ap size_of h, λ h. (none w (empty_none w h)).0);
      }

module _ (s : Bor (List ℕ)) where
  carries : checked s.now ≡ accepted s.now
      → opened s ≡ Ok (record { walk = record { netlist = s; number = 0; place = 11; count = gates_of s.now }; shape = shape_of s.now })
  unfolding accepted shape_of
  carries e = rw e

  -- gate 0's record is whole
  first_whole : checked s.now ≡ accepted s.now → 0 < gates_of s.now → WholeRecord s.now 11
  unfolding accepted shape_of place_of
  first_whole e some = (whole_exactly s.now 11).0 (whole_formed s.now 11 ((formed s.now e).records 0 some))

  first_step : checked s.now ≡ accepted s.now → 0 < gates_of s.now → GivesRecord (walk_of s)
  first_step e some h = go ((step (walk_of s)).gives_none.0 h)
    where
      go : (gates_of s.now ≤ 0) ⊎ (WholeRecord s.now 11 → ⊥) → ⊥
      go (inl all) = omega arith
      go (inr unread) = unread (first_whole e some)

  pub opening : Opening s
  unfolding accepted
  opening =
      record {
        checks = ap (opened_by s) (first_refusal s.now);
        carries = carries;
        refused = refused_none s;
        hands_back = λ e. hands_back s e;
        first_step = first_step;
      }
