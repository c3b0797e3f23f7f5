-- Constants are exactly the signals of class `0` or `1`, and a search that knows them is right. Assumes nothing.
use Prim.Native.Nat.{ℕ, zero, suc, ◌≤◌, ◌<◌}
use native.Mathlib.Omega.{arith}
use native.Mathlib.Decide.{dec_lt}
use mathlib.Core.Path.{◌≡◌, refl, sym, ◌∙◌, ap, ap₂}
use mathlib.Core.Logic.{◌⊎◌, inl, inr, ◌↔◌}
use mathlib.Core.Bool.{Bool, true, false, cond, ◌&&◌, ◌||◌, beq}
use mathlib.Core.List.{List, [], ◌∷◌, map, map-map}
use mathlib.Core.Option.{Option, none, some}
use Rattle.kung.specs.Class.{Class, c0, same}
use Rattle.kung.specs.Rule as rule
use Rattle.kung.specs.Rule.{Kind, gate_class, each, and_all, or_all, invert}
use Rattle.kung.specs.Operation.{Op, and, or, op_of, inverts, invert_if, join_all, join, controlling}
use Rattle.kung.proofs.Finite.{every_class, every_op, every_pair, class_at_lem, pair_at, beq→≡}
use Rattle.kung.proofs.Laws.{join_all_cons, join_all_nil, gate_class_op}
use Rattle.kung.proofs.SetLaws.{same_elim}
use Rattle.circuit.specs.Circuit.{Source, given, gate, pins_of, out_of, value, Each, Falling}
use Rattle.circuit.proofs.Laws.{map_ext, each_map, value_law, related}
use Rattle.search.proofs.Known.{Given}
use Rattle.constants.specs.Constants.{is_constant, constant_of, is_known_as, with_pin, all_known, gate_of_known, follows, constant_from, spread, or_known, known_sources}

-- the class that decides a gate alone, joined or not
abbrev decides : Op → Class → Bool
decides o k = same (controlling o) k

decides_join : (o : Op) (a b : Class) → decides o (join o a b) ≡ decides o a || decides o b
unfolding join join_all and_all or_all each rule.some every_pair every_op every_class
decides_join o a b = beq→≡ _ _ (pair_at (λ o a b. beq (decides o (join o a b)) (decides o a || decides o b)) tt o a b)

constant_join : (o : Op) (a b : Class) → is_constant (join o a b) ≡ decides o (join o a b) || (is_constant a && is_constant b)
unfolding join join_all and_all or_all each rule.some every_pair every_op every_class
constant_join o a b =
    beq→≡ _ _ (pair_at (λ o a b. beq (is_constant (join o a b)) (decides o (join o a b) || (is_constant a && is_constant b))) tt o a b)

decides_known : (o : Op) (k : Class) → is_known_as (controlling o) (constant_of k) ≡ decides o k
unfolding every_pair every_op every_class
decides_known o k = beq→≡ _ _ (pair_at (λ o k j. beq (is_known_as (controlling o) (constant_of k)) (decides o k)) tt o k k)

constant_inverted : (b : Bool) (k : Class) → is_constant (invert_if b k) ≡ is_constant k
unfolding every_class
constant_inverted true k = beq→≡ _ _ (class_at_lem (λ k. beq (is_constant (invert k)) (is_constant k)) tt k)
constant_inverted false k = refl

-- a gate is decided by one pin exactly if its operation gives the deciding class
decides_all : (o : Op) (ks : List Class) → rule.some (decides o) ks ≡ decides o (join_all o ks)
unfolding rule.some
decides_all and [] = rw join_all_nil
decides_all or [] = rw join_all_nil
decides_all o (k ∷ ks) =
    ap (λ b. decides o k || b) (decides_all o ks) ∙ sym (decides_join o k (join_all o ks)) ∙ ap (decides o) (sym (join_all_cons o k ks))

-- and it gives a constant if one pin decides it or all are constant
constant_all : (o : Op) (ks : List Class) → is_constant (join_all o ks) ≡ decides o (join_all o ks) || each is_constant ks
unfolding each
constant_all and [] = rw join_all_nil
constant_all or [] = rw join_all_nil
constant_all o (k ∷ ks) =
    ap is_constant (join_all_cons o k ks) ∙ constant_join o k (join_all o ks)
    ∙ ap (λ b. decides o (join o k (join_all o ks)) || (is_constant k && b)) (constant_all o ks)
    ∙ ap (λ b. b || (is_constant k && (decides o (join_all o ks) || each is_constant ks))) (decides_join o k (join_all o ks))
    ∙ absorbed (decides o k) (decides o (join_all o ks)) (is_constant k) (each is_constant ks)
    ∙ ap (λ b. b || (is_constant k && each is_constant ks)) (sym (decides_join o k (join_all o ks)) ∙ ap (decides o) (sym (join_all_cons o k ks)))
  where
    absorbed : (a j c e : Bool) → (a || j) || (c && (j || e)) ≡ (a || j) || (c && e)
    absorbed true j c e = refl
    absorbed false true c e = refl
    absorbed false false c e = refl

some_known : (o : Op) (ks : List Class) → rule.some (is_known_as (controlling o)) (map constant_of ks) ≡ rule.some (decides o) ks
unfolding rule.some
some_known o [] = refl
some_known o (k ∷ ks) = ap₂ ◌||◌ (decides_known o k) (some_known o ks)

all_known_lem : (ks : List Class) → all_known (map constant_of ks) ≡ cond (each is_constant ks) (some ks) none
unfolding all_known each
all_known_lem [] = refl
all_known_lem (k ∷ ks) = ap (with_pin (constant_of k)) (all_known_lem ks) ∙ go (is_constant k) (each is_constant ks)
  where
    go : (b e : Bool) → with_pin (cond b (some k) none) (cond e (some ks) none) ≡ cond (b && e) (some (k ∷ ks)) none
    go true true = refl
    go true false = refl
    go false e = refl

-- what follows from the pins that are constant is the gate's class where that is constant
follows_constant : (d : Kind) (ks : List Class) → follows d (map constant_of ks) ≡ constant_of (gate_class d ks)
unfolding follows
follows_constant d ks =
    rw (some_known, decides_all, all_known_lem)
    (go (decides (op_of d) (join_all (op_of d) ks)) (each is_constant ks) refl
    (ap is_constant (gate_class_op d ks) ∙ constant_inverted (inverts d) (join_all (op_of d) ks) ∙ constant_all (op_of d) ks))
  where
    go : (c e : Bool) → decides (op_of d) (join_all (op_of d) ks) ≡ c → is_constant (gate_class d ks) ≡ c || e
        → cond c (some (invert_if (inverts d) (controlling (op_of d)))) (gate_of_known d (cond e (some ks) none)) ≡ constant_of (gate_class d ks)
    go true e decided constant =
        rw (constant, gate_class_op d ks, ← same_elim (controlling (op_of d)) (join_all (op_of d) ks) decided)
    go false true decided constant = rw constant
    go false false decided constant = rw constant

-- a source whose pins' drivers are known where they are constant is known where it is
from_constants : (c : Source Class) (known : ℕ → Option Class) (v : ℕ → Class) → Each (λ x. known x ≡ constant_of (v x)) (pins_of c)
    → constant_from c known ≡ constant_of (out_of gate_class c v)
from_constants (given k) known v h = refl
from_constants (gate d ps) known v h =
    ap (follows d) (map_ext known (λ x. constant_of (v x)) ps h ∙ sym (map-map constant_of v ps)) ∙ follows_constant d (map v ps)

-- an input that is given is known as such, constant or not
pub known_given : (src : ℕ → Source Class) (n s : ℕ) (k : Class) → src s ≡ given k → known_sources src n s ≡ given k
unfolding known_sources spread
known_given src zero s k e = e
known_given src (suc n) s k e = rw e (go (is_constant k))
  where
    go : (b : Bool) → or_known (cond b (some k) none) (given k) ≡ given k
    go true = refl
    go false = refl

-- the same constants in one pass, gate 0 first
abbrev pub in_pass : Source Class → Source (Option Class)
in_pass (given k) = given (constant_of k)
in_pass (gate d ps) = gate d ps

module _ (src : ℕ → Source Class) (falling : Falling src) where
  abbrev class : ℕ → Class
  class = value gate_class c0 src

  -- after more rounds than its number a signal is known exactly if its class is constant
  pub spread_is : (n s : ℕ) → s < n → spread src n s ≡ constant_of (class s)
  unfolding spread
  spread_is zero s h = absurd (omega arith)
  spread_is (suc n) s h =
      from_constants (src s) (spread src n) class (each_map (λ x less. spread_is n x (omega arith)) (pins_of (src s)) (falling s))
      ∙ ap constant_of (sym (value_law gate_class c0 src falling s))

  -- after as many rounds as there are signals another round changes nothing
  pub spread_stays : (n s : ℕ) → s < n → spread src (suc n) s ≡ spread src n s
  spread_stays n s h = spread_is (suc n) s (omega arith) ∙ sym (spread_is n s h)

  pub one_pass : (n s : ℕ) → s < n → value follows none (λ s. in_pass (src s)) s ≡ spread src n s
  one_pass n s h =
      related gate_class follows c0 none (λ s k known. known ≡ constant_of k) src (λ s. in_pass (src s)) falling (λ s. passes s (src s) (falling s))
      (λ s v known. kept (src s) v known) s
      ∙ sym (spread_is n s h)
    where
      passes : (s : ℕ) (c : Source Class) → Each (λ x. x < s) (pins_of c) → Each (λ x. x < s) (pins_of (in_pass c))
      passes s (given k) h = tt
      passes s (gate d ps) h = h

      kept : (c : Source Class) (v : ℕ → Class) (known : ℕ → Option Class) → Each (λ x. known x ≡ constant_of (v x)) (pins_of c)
          → out_of follows (in_pass c) known ≡ constant_of (out_of gate_class c v)
      kept (given k) v known h = refl
      kept (gate d ps) v known h = from_constants (gate d ps) known v h

  -- the constants are exactly the signals of class `0` or `1`
  pub constants_exactly : (n s : ℕ) → s < n → (k : Class) → spread src n s ≡ some k ↔ ((class s ≡ k) × (is_constant k ≡ true))
  constants_exactly n s h k = (λ e. to (is_constant (class s)) refl (sym (spread_is n s h) ∙ e), λ p. spread_is n s h ∙ rw (p.0, p.1))
    where
      to : (b : Bool) → is_constant (class s) ≡ b → cond b (some (class s)) none ≡ some k → (class s ≡ k) × (is_constant k ≡ true)
      to true constant e = let same : class s ≡ k = cc in (same, rw same at constant)
      to false constant e = let z : ◌≡◌ {A = ℕ} 0 1 = cc in absurd (omega arith)

  -- constant gates are known with their class
  pub known_sources_lem : (n : ℕ) → ((s : ℕ) → n ≤ s → (k : Class) × (src s ≡ given k)) → Given gate_class c0 src (known_sources src n)
  unfolding known_sources
  known_sources_lem n above s = go (dec_lt s n)
    where
      below : (b : Bool) → (or_known (cond b (some (class s)) none) (src s) ≡ src s) ⊎ (or_known (cond b (some (class s)) none) (src s) ≡ given (class s))
      below true = inr refl
      below false = inl refl

      go : Dec (s < n) → (known_sources src n s ≡ src s) ⊎ (known_sources src n s ≡ given (class s))
      go (yes h) = rw (spread_is n s h) (below (is_constant (class s)))
      go (no h) = let k = above s (omega arith) in inl (known_given src n s k.0 k.1 ∙ sym k.1)
