-- The search is right: it answers clean with class k exactly where the signal's class is k and k is wanted.
use Prim.Native.Nat.{ℕ, zero, suc, ◌<◌, ◌≤◌}
use native.Mathlib.Omega.{arith}
use mathlib.Core.Path.{◌≡◌, refl, sym, ◌∙◌, ap, subst}
use mathlib.Core.Logic.{◌↔◌}
use mathlib.Core.Bool.{Bool, true, false, cond, false≢true}
use mathlib.Core.List.{List, [], ◌∷◌, map}
use mathlib.Core.Option.{Option, none, some}
use lib.ListN.{drop}
use Rattle.kung.specs.Class.{Class, c0, clean as is_clean}
use Rattle.kung.specs.Rule.{Kind, gate_class}
use Rattle.kung.specs.Operation.{Op, op_of, inverts, invert_if, join, join_all, unit}
use Rattle.kung.specs.Sets.{has, meets, image, possible, wanted_for, clean_set}
use Rattle.kung.proofs.Laws.{join_all_cons, join_all_nil, join_unit, join_unit_right, join_assoc, gate_class_op}
use Rattle.kung.proofs.SetLaws.{has_set_of, in_image, in_possible, meets_intro, meets_elim}
use Rattle.circuit.specs.Circuit.{Source, given, gate, value, Each, Falling}
use Rattle.circuit.proofs.Laws.{value_law}
use Rattle.search.specs.Search.{Cell, new, kept, cell_of, cell_at, put, fresh, possible_of, pins_left, only, Waiting, nobody, waits, Outcome, stopped, known, unfinished, same_result, known_or, checks, told_or, driver_of, Ended, Visit, fetch, react, end_or, take_pin, take_pins, arrive, visit, clean, hazardous, judged, verdict_of, answer_of, end_from, search}
use Rattle.search.proofs.Laws.{at_put, cell_of_byte_of, put_other, only_has, only_last, not_has, drop_next, each_drop, fresh_at}

-- what the waiting gate's p joined with the class k is
abbrev Result : Waiting → Class → Class → Type 0
Result nobody k r = ⊥
Result (waits o p) k r = join o p k ≡ r

module _ (src : ℕ → Source Class) where
  abbrev pub class : ℕ → Class
  class s = value gate_class c0 src s

  -- what a gate gives, of p and the pins left
  abbrev out_from : Kind → Class → List ℕ → Class
  out_from d p left = invert_if (inverts d) (join (op_of d) p (join_all (op_of d) (map class left)))

  -- a gate's p and next pin fit its class
  abbrev Fits : ℕ → Source Class → Class → ℕ → Type 0
  Fits s (given k) p next = ⊥
  Fits s (gate d ps) p next = class s ≡ out_from d p (drop next ps)

  abbrev Holds : ℕ → Source Class → Cell → Type 0
  Holds s c new = Unit {0}
  Holds s c (kept p next) = Fits s c p next

  -- The invariant, for the signals of P: those for which no visit is under way. A waiting gate's cell is behind its visit.
  abbrev Inv : (ℕ → Type 0) → List ℕ → Type 0
  Inv P cells = (t : ℕ) → P t → Holds t (src t) (cell_at cells t)

  abbrev But : (ℕ → Type 0) → ℕ → ℕ → Type 0
  But P s t = P t × (t ≡ s → ⊥)

  -- what the end of a visit says of the signal's class k
  abbrev Right : (ℕ → Type 0) → Class → (wanted : ℕ) → Waiting → Outcome → List ℕ → Type 0
  Right P k w wt stopped cells = has w k ≡ false
  Right P k w wt (known j) cells = (k ≡ j) × (has w j ≡ true) × Inv P cells
  Right P k w wt (unfinished r) cells = Result wt k r × Inv P cells

  abbrev RightEnd : (ℕ → Type 0) → Class → (wanted : ℕ) → Waiting → Ended → Type 0
  RightEnd P k w wt ended = Right P k w wt ended.0 ended.1

  inv_put : (P : ℕ → Type 0) (cells : List ℕ) (s : ℕ) (p : Class) (next : ℕ) → Inv (But P s) cells → Fits s (src s) p next
      → Inv P (put cells s (kept p next))
  unfolding cell_at cell_of
  inv_put P cells s p next inv fits =
      at_put (λ t b. P t → Holds t (src t) (cell_of b)) cells s (kept p next) (λ here. rw (cell_of_byte_of (kept p next)) fits) (λ here. tt)
      (λ t other here. inv t (here, other))

  same_result_lem : (wt : Waiting) (m : ℕ) (k r : Class) → same_result wt m ≡ some r → has m k ≡ true → Result wt k r
  unfolding same_result
  same_result_lem nobody m k r e h = let z : ◌≡◌ {A = ℕ} 0 1 = cc in omega arith
  same_result_lem (waits o p) m k r e h = only_has (image o p m) r (join o p k) e (in_image o p m k h)

  -- the checks, at a set that has the class
  checked : (P : ℕ → Type 0) (k : Class) (m w : ℕ) (wt : Waiting) (cells : List ℕ) (go_on : List ℕ → Ended) → has m k ≡ true → Inv P cells
      → (only m ≡ none → RightEnd P k w wt (go_on cells)) → RightEnd P k w wt (end_or (checks m w wt) cells go_on)
  unfolding checks
  checked P k m w wt cells go_on h inv later = go (meets m w) refl (only m) refl (same_result wt m) refl
    where
      go : (b : Bool) → meets m w ≡ b → (one : Option Class) → only m ≡ one → (same : Option Class) → same_result wt m ≡ same
          → RightEnd P k w wt (end_or (cond b (known_or one same) (some stopped)) cells go_on)
      go false e one e₁ same e₂ = not_has w k (λ f. false≢true (sym e ∙ meets_intro m w k h f))
      go true e (some j) e₁ same e₂ =
          let both = meets_elim m w e in
          (only_has m j k e₁ h, subst (λ i. has w i ≡ true) (only_has m j both.0 e₁ both.1) both.2, inv)
      go true e none e₁ (some r) e₂ = (same_result_lem wt m k r e₂ h, inv)
      go true e none e₁ none e₂ = later e₁

  -- what a gate gives is in its possible set
  possible_out : (d : Kind) (p : Class) (left : List ℕ) → has (possible_of d p left) (out_from d p left) ≡ true
  unfolding possible_of
  possible_out d p [] = rw (join_all_nil, join_unit_right) (in_possible (op_of d) (inverts d) p false p)
  possible_out d p (x ∷ left) = in_possible (op_of d) (inverts d) p true (join_all (op_of d) (map class (x ∷ left)))

  -- with one pin more taken
  out_taken : (d : Kind) (p : Class) (x : ℕ) (left : List ℕ) → out_from d p (x ∷ left) ≡ out_from d (join (op_of d) p (class x)) left
  out_taken d p x left = rw (join_all_cons, join_assoc)

  -- a class that is not wanted of a pin makes the gate's class not wanted
  unwanted : (d : Kind) (p : Class) (x : ℕ) (left : List ℕ) (w : ℕ)
      → has (wanted_for (op_of d) (inverts d) p (pins_left left) w) (class x) ≡ false → has w (out_from d p (x ∷ left)) ≡ false
  unfolding wanted_for possible_of
  unwanted d p x left w e = not_has w (out_from d p (x ∷ left)) λ h. false≢true (sym e ∙ wanted h)
    where
      wanted : has w (out_from d p (x ∷ left)) ≡ true → has (wanted_for (op_of d) (inverts d) p (pins_left left) w) (class x) ≡ true
      wanted h =
          has_set_of (λ k. meets (possible (op_of d) (inverts d) (join (op_of d) p k) (pins_left left)) w) (class x)
          ∙ meets_intro (possible_of d (join (op_of d) p (class x)) left) w (out_from d p (x ∷ left)) (rw out_taken (possible_out d (join (op_of d) p (class x)) left)) h

  -- what a taken pin says of the class k behind it
  abbrev Taken : (ℕ → Type 0) → Class → (wanted : ℕ) → Op → Class → Outcome → List ℕ → Type 0
  Taken P k w o p stopped cells = has w k ≡ false
  Taken P k w o p (known j) cells = (join o p k ≡ join o p j) × Inv P cells
  Taken P k w o p (unfinished r) cells = (join o p k ≡ r) × Inv P cells

  abbrev TakenEnd : (ℕ → Type 0) → Class → (wanted : ℕ) → Op → Class → Ended → Type 0
  TakenEnd P k w o p ended = Taken P k w o p ended.0 ended.1

  weaken : (P : ℕ → Type 0) (k : Class) (w : ℕ) (o : Op) (p : Class) (e : Outcome) (cells : List ℕ) → Right P k w (waits o p) e cells → Taken P k w o p e cells
  weaken P k w o p stopped cells h = h
  weaken P k w o p (known j) cells h = (ap (join o p) h.0, h.2)
  weaken P k w o p (unfinished r) cells h = h

  -- a visit of signals below n is right, whatever signals P have no visit under way
  abbrev VisitRight : ℕ → Visit → Type 1
  VisitRight n v = (P : ℕ → Type 0) (s : ℕ) (p : Class) (next w : ℕ) (wt : Waiting) (cells : List ℕ)
      → s < n → ((t : ℕ) → t ≤ s → P t) → Fits s (src s) p next → Inv P cells → RightEnd P (class s) w wt (v s p next w wt cells)

  -- the waiting gate's new p is its p joined with the class k behind the pin
  reacted : (P Q : ℕ → Type 0) (c : Class) (w : ℕ) (wt : Waiting) (k : Class) (v : ℕ) (o : Op) (p : Class) (e : Outcome) (cells : List ℕ)
      (go_on : Class → List ℕ → Ended) → (has v k ≡ false → has w c ≡ false)
      → ((q : Class) (cells : List ℕ) → join o p k ≡ q → Inv Q cells → RightEnd P c w wt (go_on q cells))
      → Taken Q k v o p e cells → RightEnd P c w wt (react e cells o p go_on)
  reacted P Q c w wt k v o p stopped cells go_on stop on h = stop h
  reacted P Q c w wt k v o p (known j) cells go_on stop on h = on (join o p j) cells h.0 h.1
  reacted P Q c w wt k v o p (unfinished r) cells go_on stop on h = on r cells h.0 h.1

  module _ (falling : Falling src) where
    class_given : (s : ℕ) (k : Class) → src s ≡ given k → class s ≡ k
    class_given s k e = value_law gate_class c0 src falling s ∙ rw e

    class_gate : (s : ℕ) (d : Kind) (ps : List ℕ) → src s ≡ gate d ps → class s ≡ invert_if (inverts d) (join_all (op_of d) (map class ps))
    class_gate s d ps e = value_law gate_class c0 src falling s ∙ rw (e, gate_class_op)

    -- a gate not visited yet
    fits_new : (s : ℕ) (d : Kind) (ps : List ℕ) → src s ≡ gate d ps → class s ≡ out_from d (unit (op_of d)) ps
    fits_new s d ps e = rw join_unit (class_gate s d ps e)

    -- taking a pin
    taken : (n : ℕ) (v : Visit) → VisitRight n v → (P : ℕ → Type 0) (x : ℕ) (w : ℕ) (o : Op) (p : Class) (cells : List ℕ)
        → x < n → ((t : ℕ) → t ≤ x → P t) → Inv P cells → TakenEnd P (class x) w o p (take_pin src v x w (waits o p) cells)
    unfolding take_pin driver_of
    taken n v ih P x w o p cells below free inv = go (src x) refl (cell_at cells x) (inv x (free x (omega arith)))
      where
        visited : (q : Class) (next : ℕ) → Fits x (src x) q next → TakenEnd P (class x) w o p (v x q next w (waits o p) cells)
        visited q next fits =
            let ended = v x q next w (waits o p) cells in
            weaken P (class x) w o p ended.0 ended.1 (ih P x q next w (waits o p) cells below free fits inv)

        again : (d : Kind) (q : Class) (left : List ℕ) (next : ℕ) → Fits x (src x) q next → class x ≡ out_from d q left
            → (one : Option Class) → only (possible_of d q left) ≡ one → TakenEnd P (class x) w o p (fetch v x (told_or one q next) w (waits o p) cells)
        again d q left next fits e (some j) e₁ =
            (ap (join o p) (only_has (possible_of d q left) j (class x) e₁ (rw e (possible_out d q left))), inv)
        again d q left next fits e none e₁ = visited q next fits

        go : (c : Source Class) → src x ≡ c → (cell : Cell) → Holds x (src x) cell
            → TakenEnd P (class x) w o p (fetch v x (driver_of c cell) w (waits o p) cells)
        go (given k) e cell holds = (ap (join o p) (class_given x k e), inv)
        go (gate d ps) e new holds = visited (unit (op_of d)) 0 (rw e (fits_new x d ps e))
        go (gate d ps) e (kept q next) holds = again d q (drop next ps) next holds (rw e at holds) (only (possible_of d q (drop next ps))) refl

    -- the loop over the pins left
    module _ (n : ℕ) (v : Visit) (ih : VisitRight n v) (P : ℕ → Type 0) (s : ℕ) (d : Kind) (ps : List ℕ) (is : src s ≡ gate d ps) (w : ℕ) (wt : Waiting)
        (below : s ≤ n) (free : (t : ℕ) → t ≤ s → P t) where
      pins_right : (left : List ℕ) (p : Class) (next : ℕ) (cells : List ℕ) → drop next ps ≡ left → Each (λ x. x < s) left → class s ≡ out_from d p left
          → Inv P cells → RightEnd P (class s) w wt (take_pins src v d s w wt left p next cells)
      unfolding take_pins cell_at
      pins_right [] p next cells rest fall e inv =
          checked P (class s) (possible_of d p []) w wt cells _ (rw e (possible_out d p [])) inv
          (λ more. let z : ◌≡◌ {A = ℕ} 0 1 = cc (only_last d p) in absurd (omega arith))
      pins_right (x ∷ left) p next cells rest fall e inv =
          checked P (class s) (possible_of d p (x ∷ left)) w wt cells _ (rw e (possible_out d p (x ∷ left))) inv
          λ more.
          let o = op_of d in
          let wanted = wanted_for o (inverts d) p (pins_left left) w in
          let cells₁ = put cells s (kept p (suc next)) in
          let ended = take_pin src v x wanted (waits o p) cells₁ in
          let less : x < s = fall.0 in
          reacted P (But P s) (class s) w wt (class x) wanted o p ended.0 ended.1
          (λ q cells. take_pins src v d s w wt left q (suc next) (put cells s (kept q (suc next))))
          (λ h. rw e (unwanted d p x left w h))
          (λ q cells' joined inv'.
          let fits : class s ≡ out_from d q left = e ∙ out_taken d p x left ∙ ap (λ q. out_from d q left) joined in
          let after : drop (suc next) ps ≡ left = drop_next next ps x left rest in
          pins_right left q (suc next) (put cells' s (kept q (suc next))) after fall.1 fits
          (inv_put P cells' s q (suc next) inv' (rw (is, after) fits)))
          (taken n v ih (But P s) x wanted o p cells₁ (omega arith)
          (λ t h. (free t (omega arith), λ same. omega arith))
          (λ t h. rw (put_other cells s t (kept p (suc next)) h.1) (inv t h.0)))

    visit_right : (n : ℕ) → VisitRight n (visit src n)
    unfolding visit
    visit_right zero P s p next w wt cells below free fits inv = absurd (omega arith)
    visit_right (suc n) P s p next w wt cells below free fits inv = go (visit_right n) (src s) refl fits
      where
        go : VisitRight n (visit src n) → (c : Source Class) → src s ≡ c → Fits s c p next
            → RightEnd P (class s) w wt (arrive src (visit src n) c s p next w wt cells)
        go ih (given k) e never = absurd never
        go ih (gate d ps) e fits' =
            pins_right n (visit src n) ih P s d ps e w wt (omega arith) free (drop next ps) p next (put cells s (kept p next)) refl
            (each_drop (λ x. x < s) next ps (rw e at (falling s))) fits' (inv_put P cells s p next (λ t h. inv t h.0) fits)

    -- CORE is right, for any wanted set
    pub search_right : (w s : ℕ) → (search src w s).verdict ≡ judged w (class s)
    unfolding search judged cell_at cell_of
    search_right w s = go (src s) refl
      where
        everywhere : ℕ → Type 0
        everywhere t = Unit {0}

        judge : (e : Outcome) (cells : List ℕ) → Right everywhere (class s) w nobody e cells → verdict_of e ≡ judged w (class s)
        judge stopped cells h = rw h
        judge (known j) cells h = rw (h.0, h.1)
        judge (unfinished r) cells h = absurd h.0

        go : (c : Source Class) → src s ≡ c → (answer_of w (end_from src (suc s) c w s (fresh (suc s)))).verdict ≡ judged w (class s)
        go (given k) e = ap (judged w) (sym (class_given s k e))
        go (gate d ps) e =
            let cells = fresh (suc s) in
            let ended = visit src (suc s) s (unit (op_of d)) 0 w nobody cells in
            judge ended.0 ended.1
            (visit_right (suc s) everywhere s (unit (op_of d)) 0 w nobody cells (omega arith) (λ t h. tt) (rw e (fits_new s d ps e))
            (λ t h. rw (fresh_at (suc s) t) tt))

    -- "clean with its class" exactly where the class is wanted, for any wanted set
    pub clean_exactly : (w s : ℕ) (k : Class) → (search src w s).verdict ≡ clean k ↔ ((class s ≡ k) × (has w k ≡ true))
    unfolding judged
    clean_exactly w s k = (λ e. to (has w (class s)) refl (sym (search_right w s) ∙ e), λ h. search_right w s ∙ rw (h.0, h.1))
      where
        to : (b : Bool) → has w (class s) ≡ b → cond b (clean (class s)) hazardous ≡ clean k → (class s ≡ k) × (has w k ≡ true)
        to true wanted e = let same : class s ≡ k = cc in (same, rw same at wanted)
        to false wanted e = let z : ◌≡◌ {A = ℕ} 0 1 = cc in absurd (omega arith)

    -- CORE as in document 01: clean with class k exactly where the signal's class is k and k is 0, 1, R or F
    pub core_exactly : (s : ℕ) (k : Class) → (search src clean_set s).verdict ≡ clean k ↔ ((class s ≡ k) × (is_clean k ≡ true))
    core_exactly s k = rw (has_set_of is_clean k) at (clean_exactly clean_set s k)
