-- Document 02, "Job 8": the cone is what its words say, and a search takes no more pins than it has. Assumes nothing.
use Prim.Native.Nat.{ℕ, zero, suc, ◌+◌, ◌-◌, ◌≤◌, ◌<◌}
use native.Mathlib.Omega.{arith}
use native.Mathlib.Nat.{add-zero, add-suc}
use native.Mathlib.Decide.{dec_lt}
use mathlib.Core.Path.{◌≡◌, refl, sym, ap, subst}
use mathlib.Core.Bool.{Bool, true, false, cond, ◌||◌, false≢true}
use mathlib.Core.List.{List, [], ◌∷◌}
use mathlib.Core.Logic.{◌⊎◌, inl, inr, ◌↔◌}
use borrow.Author.Tests.{eqb-true, eq-eqb, ne_eqb, lt-ltb}
use lib.Dec.{eqb, ltb}
use lib.ListN.{length}
use Rattle.kung.specs.Class.{Class}
use Rattle.kung.specs.Rule.{some}
use Rattle.circuit.specs.Circuit.{given, gate, pins_of, Each, Card, signals, WellFormed, sources}
use Rattle.circuit.proofs.Laws.{sources_input, sources_gate, sources_above, sources_falling}
use Rattle.search.specs.Search.{search}
use Rattle.search.specs.Pins.{Closed, sum_below, pins_in}
use Rattle.search.specs.Cone.{pins_behind, reaches_by, reaches, in_cone, cone_pins, is_pin, PinPath, here, through}
use Rattle.search.proofs.Counts.{search_pins}

-- a test of two halves
or_cases : (a b : Bool) → a || b ≡ true → (a ≡ true) ⊎ (b ≡ true)
or_cases true b h = inl refl
or_cases false b h = inr h

or_left : (a b : Bool) → a ≡ true → a || b ≡ true
or_left true b h = refl
or_left false b h = absurd (false≢true h)

or_right : (a b : Bool) → b ≡ true → a || b ≡ true
or_right true b h = refl
or_right false b h = h

-- the numbers of a list, by the test that finds each
abbrev In : ℕ → List ℕ → Type 0
In x xs = some (eqb x) xs ≡ true

-- a test that is passed is passed by a number of the list, and the other way
some_which : (test : ℕ → Bool) (xs : List ℕ) → some test xs ≡ true → (x : ℕ) × (In x xs × (test x ≡ true))
unfolding some
some_which test [] e = absurd (false≢true e)
some_which test (y ∷ xs) e = go (or_cases (test y) (some test xs) e) (some_which test xs)
  where
    go : (test y ≡ true) ⊎ (some test xs ≡ true) → (some test xs ≡ true → (x : ℕ) × (In x xs × (test x ≡ true)))
        → (x : ℕ) × (In x (y ∷ xs) × (test x ≡ true))
    go (inl first) later = (y, (or_left (eqb y y) _ (eq-eqb y y refl), first))
    go (inr rest) later = let found = later rest in (found.0, (or_right (eqb found.0 y) _ found.1.0, found.1.1))

some_of : (test : ℕ → Bool) (x : ℕ) (xs : List ℕ) → In x xs → test x ≡ true → some test xs ≡ true
unfolding some
some_of test x [] e h = absurd (false≢true e)
some_of test x (y ∷ xs) e h = go (or_cases (eqb x y) (some (eqb x) xs) e) (some_of test x xs)
  where
    go : (eqb x y ≡ true) ⊎ In x xs → (In x xs → test x ≡ true → some test xs ≡ true) → some test (y ∷ xs) ≡ true
    go (inl first) later = or_left (test y) _ (subst (λ y. test y ≡ true) (eqb-true x y first) h)
    go (inr rest) later = or_right (test y) _ (later rest h)

-- what holds of each element holds of the numbers of the list, and the other way
each_at : (P : ℕ → Type 0) (xs : List ℕ) → Each P xs → (x : ℕ) → In x xs → P x
unfolding some
each_at P [] h x e = absurd (false≢true e)
each_at P (y ∷ xs) h x e = go (or_cases (eqb x y) (some (eqb x) xs) e) (each_at P xs h.1 x)
  where
    go : (eqb x y ≡ true) ⊎ In x xs → (In x xs → P x) → P x
    go (inl first) later = subst P (sym (eqb-true x y first)) h.0
    go (inr rest) later = later rest

each_of : (P : ℕ → Type 0) (xs : List ℕ) → ((x : ℕ) → In x xs → P x) → Each P xs
unfolding some
each_of P [] h = tt
each_of P (y ∷ xs) h =
    (h y (or_left (eqb y y) _ (eq-eqb y y refl)), each_of P xs (λ x e. h x (or_right (eqb x y) _ e)))

-- the pins behind a signal are its source's
behind_is : {A : Type 0} (card : Card) (other : A) (v : ℕ → A) (s : ℕ) → pins_of (sources card other v s) ≡ pins_behind card s
unfolding sources pins_behind
behind_is card other v s = go (ltb s card.inputs) (ltb s (signals card))
  where
    go : (a b : Bool) → pins_of (cond a (given (v s)) (cond b (gate (card.kind (s - card.inputs)) (card.pins (s - card.inputs))) (given other)))
        ≡ cond a [] (cond b (card.pins (s - card.inputs)) [])
    go true b = refl
    go false true = refl
    go false false = refl

module _ (card : Card) where
  by→path : (n t s : ℕ) → reaches_by card n t s ≡ true → PinPath card t s
  unfolding reaches_by
  by→path zero t s e = absurd (false≢true e)
  by→path (suc n) t s e = go (or_cases (eqb t s) (some (reaches_by card n t) (pins_behind card s)) e) (λ x. by→path n t x)
    where
      go : (eqb t s ≡ true) ⊎ (some (reaches_by card n t) (pins_behind card s) ≡ true) → ((x : ℕ) → reaches_by card n t x ≡ true → PinPath card t x)
          → PinPath card t s
      go (inl same) shorter = here (eqb-true t s same)
      go (inr pins) shorter =
          let found = some_which (reaches_by card n t) (pins_behind card s) pins in
          through found.0 found.1.0 (shorter found.0 found.1.1)

  -- more pins too
  more : (n m t s : ℕ) → n ≤ m → reaches_by card n t s ≡ true → reaches_by card m t s ≡ true
  unfolding reaches_by
  more zero m t s h e = absurd (false≢true e)
  more (suc n) zero t s h e = absurd (omega arith)
  more (suc n) (suc m) t s h e =
      go (or_cases (eqb t s) (some (reaches_by card n t) (pins_behind card s)) e) (λ x. more n m t x (omega arith))
    where
      go : (eqb t s ≡ true) ⊎ (some (reaches_by card n t) (pins_behind card s) ≡ true)
          → ((x : ℕ) → reaches_by card n t x ≡ true → reaches_by card m t x ≡ true) → reaches_by card (suc m) t s ≡ true
      go (inl same) shorter = or_left (eqb t s) _ same
      go (inr pins) shorter =
          let found = some_which (reaches_by card n t) (pins_behind card s) pins in
          or_right (eqb t s) _ (some_of (reaches_by card m t) found.0 (pins_behind card s) found.1.0 (shorter found.0 found.1.1))

  -- what a pin of t names reaches whatever t reaches
  from_pin : (x t s : ℕ) → is_pin card x t ≡ true → PinPath card t s → PinPath card x s
  from_pin x t s pin (here e) = through x (subst (λ s. is_pin card x s ≡ true) e pin) (here refl)
  from_pin x t s pin (through y last path) = through y last (from_pin x t y pin path)

  -- "an output that is an input has an empty cone"
  pub input_empty : (s g : ℕ) → s < card.inputs → in_cone card s g ≡ false
  unfolding reaches reaches_by pins_behind some
  input_empty s g h = rw (ne_eqb (card.inputs + g) s (λ e. omega arith), lt-ltb s card.inputs h)

  pub input_pins : (s : ℕ) → s < card.inputs → cone_pins card s ≡ 0
  unfolding cone_pins sum_below
  input_pins s h = none card.gates
    where
      none : (g : ℕ) → sum_below (λ g. cond (in_cone card s g) (length (card.pins g)) 0) g ≡ 0
      none zero = refl
      none (suc g) = rw (input_empty s g h) (omega (arith, none g))

  module _ (formed : WellFormed card) where
    falls : (s x : ℕ) → is_pin card x s ≡ true → x < s
    falls s =
        each_at (λ x. x < s) (pins_behind card s)
        (subst (λ xs. Each (λ x. x < s) xs) (behind_is card false (λ i. false) s) (sources_falling card false (λ i. false) formed s))

    path→reaches : (t s : ℕ) → PinPath card t s → reaches card t s ≡ true
    unfolding reaches reaches_by
    path→reaches t s (here e) = or_left (eqb t s) _ (eq-eqb t s e)
    path→reaches t s (through x pin path) =
        let below : x < s = falls s x pin in
        or_right (eqb t s) _ (some_of (reaches_by card s t) x (pins_behind card s) pin (more (suc x) s t x (omega arith) (path→reaches t x path)))

    -- "every gate that reaches it through pins"
    pub reaches_path : (t s : ℕ) → (reaches card t s ≡ true) ↔ PinPath card t s
    unfolding reaches
    reaches_path t s = (by→path (suc s) t s, path→reaches t s)

    -- "the output's own gate"
    pub own_gate : (g : ℕ) → in_cone card (card.inputs + g) g ≡ true
    own_gate g = path→reaches (card.inputs + g) (card.inputs + g) (here refl)

    module _ (other : Class) (v : ℕ → Class) (s : ℕ) where
      pub cone_closed : Closed (sources card other v) (λ t. reaches card t s)
      cone_closed t h =
          subst (λ xs. Each (λ x. reaches card x s ≡ true) xs) (sym (behind_is card other v t))
          (each_of (λ x. reaches card x s ≡ true) (pins_behind card t)
          (λ x pin. path→reaches x s (from_pin x t s pin ((reaches_path t s).0 h))))

      inputs_none : (m : ℕ) → m ≤ card.inputs → pins_in (sources card other v) (λ t. reaches card t s) m ≡ 0
      unfolding sum_below
      inputs_none zero h = refl
      inputs_none (suc m) h = rw (sources_input card other v m (omega arith)) (omega (arith, either (reaches card m s), inputs_none m (omega arith)))
        where
          either : (b : Bool) → ◌≡◌ {A = ℕ} (cond b 0 0) 0
          either true = refl
          either false = refl

      -- the pins of the signals that reach s are those of the cone's gates
      gates_pins : (g : ℕ) → g ≤ card.gates
          → pins_in (sources card other v) (λ t. reaches card t s) (card.inputs + g)
          ≡ sum_below (λ g. cond (in_cone card s g) (length (card.pins g)) 0) g
      unfolding sum_below
      gates_pins zero h = rw (add-zero card.inputs) (inputs_none card.inputs (omega arith))
      gates_pins (suc g) h =
          rw (add-suc card.inputs g, sources_gate card other v g (omega arith))
          (ap (λ n. cond (in_cone card s g) (length (card.pins g)) 0 + n) (gates_pins g (omega arith)))

      -- "CORE never takes more pins than the output's cone has": whatever set is wanted
      pub search_cone : (w : ℕ) → (search (sources card other v) w s).pins ≤ cone_pins card s
      unfolding cone_pins search
      search_cone w = go (dec_lt s (signals card))
        where
          go : Dec (s < signals card) → (search (sources card other v) w s).pins ≤ cone_pins card s
          go (yes h) =
              omega (
                arith,
                search_pins (sources card other v) (λ t. reaches card t s) cone_closed w s (signals card) (path→reaches s s (here refl)) h,
                gates_pins card.gates (omega arith),
              )
          go (no h) = rw (sources_above card other v s (omega arith)) (omega arith)
