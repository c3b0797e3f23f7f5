-- Laws of the classes, each once over the operation. Assumes nothing.
use mathlib.Core.Path.{◌≡◌, refl, sym, ◌∙◌, ap}
use mathlib.Core.Bool.{Bool, true, false, cond, not, ◌&&◌, ◌||◌, beq}
use mathlib.Core.List.{List, [], ◌∷◌, map}
use lib.Dec.{T}
use Rattle.kung.specs.Class.{Class, c0, c1, R, F, start, end, same}
use Rattle.kung.specs.Rule.{each, some, by_ends, and_all, or_all, invert, Kind, NOT, BUFFER, AND, OR, NAND, NOR, gate_class, gate_value}
use Rattle.kung.specs.Operation.{Op, and, or, op_of, inverts, invert_if, join_all, join, unit, value_all, not_if}
use Rattle.kung.proofs.Finite.{implies, implied, same→≡, every_class, every_op, every_bool, every_pair, class_at_lem, bool_at, pair_at, beq→≡}

pub invert_invert : (k : Class) → invert (invert k) ≡ k
unfolding every_class
invert_invert k = same→≡ _ _ (class_at_lem (λ k. same (invert (invert k)) k) tt k)

pub invert_if_twice : (b : Bool) (k : Class) → invert_if b (invert_if b k) ≡ k
invert_if_twice true k = invert_invert k
invert_if_twice false k = refl

-- AND reads six flags off its pins: some pin `0`; each starts at 1; each ends at 1; each is `1`; `1` or `R`; `1` or `F`
record Flags : Type 0 where
  zero : Bool
  starts : Bool
  ends : Bool
  ones : Bool
  rises : Bool
  falls : Bool

abbrev flags_of : List Class → Flags
flags_of ps =
    record {
      zero = some (same c0) ps;
      starts = each start ps;
      ends = each end ps;
      ones = each (same c1) ps;
      rises = each (λ k. same c1 k || same R k) ps;
      falls = each (λ k. same c1 k || same F k) ps;
    }

abbrev by_flags : Flags → Class
by_flags x = cond x.zero c0 (by_ends x.starts x.ends x.ones x.rises x.falls)

-- the flags with one pin more
abbrev with_pin : Class → Flags → Flags
with_pin k x =
    record {
      zero = same c0 k || x.zero;
      starts = start k && x.starts;
      ends = end k && x.ends;
      ones = same c1 k && x.ones;
      rises = (same c1 k || same R k) && x.rises;
      falls = (same c1 k || same F k) && x.falls;
    }

-- where all pins start at 1 those that are `1` or `R` are `1`; where all end at 1 those that are `1` or `F` are
abbrev fit : Flags → Bool
fit x = implies x.starts (beq x.rises x.ones) && implies x.ends (beq x.falls x.ones)

every_flags : (Class → Flags → Bool) → Bool
every_flags f =
    every_class (λ k. every_bool (λ z. every_bool (λ s. every_bool (λ e. every_bool (λ o. every_bool (λ r. every_bool (λ l.
    f k (record { zero = z; starts = s; ends = e; ones = o; rises = r; falls = l }))))))))

flags_at : (f : Class → Flags → Bool) → T (every_flags f) → (k : Class) (x : Flags) → T (f k x)
unfolding every_flags
flags_at f t k x =
    bool_at _
    (bool_at _ (bool_at _ (bool_at _ (bool_at _ (bool_at _ (class_at_lem _ t k) x.zero) x.starts) x.ends) x.ones) x.rises)
    x.falls

fits : (ps : List Class) → T (fit (flags_of ps))
unfolding each some every_class every_bool every_flags
fits [] = tt
fits (k ∷ ps) =
    implied (fit (flags_of ps)) (fit (flags_of (k ∷ ps))) (flags_at (λ k x. implies (fit x) (fit (with_pin k x))) tt k (flags_of ps)) (fits ps)

and_fold : (k : Class) (ps : List Class) → and_all (k ∷ ps) ≡ and_all (k ∷ and_all ps ∷ [])
unfolding and_all each some every_class every_bool every_flags
and_fold k ps =
    same→≡ _ _
    (implied (fit (flags_of ps)) (same (and_all (k ∷ ps)) (and_all (k ∷ and_all ps ∷ [])))
    (flags_at (λ k x. implies (fit x) (same (by_flags (with_pin k x)) (and_all (k ∷ by_flags x ∷ [])))) tt k (flags_of ps)) (fits ps))

map_invert : (ps : List Class) → map invert (map invert ps) ≡ ps
map_invert [] = refl
map_invert (k ∷ ps) = λ i. invert_invert k i ∷ map_invert ps i

-- the rule over all pins is the fold of the two-pin join
pub join_all_cons : (o : Op) (k : Class) (ps : List Class) → join_all o (k ∷ ps) ≡ join o k (join_all o ps)
unfolding join_all join or_all
join_all_cons and k ps = and_fold k ps
join_all_cons or k ps =
    ap invert (and_fold (invert k) (map invert ps) ∙ ap (λ x. and_all (invert k ∷ x ∷ [])) (sym (invert_invert (and_all (map invert ps)))))

pub join_all_nil : (o : Op) → join_all o [] ≡ unit o
unfolding join_all and_all or_all each some
join_all_nil and = refl
join_all_nil or = refl

-- a law of two classes, by one test
law2 : (f g : Op → Class → Class → Class) → T (every_pair (λ o a b. same (f o a b) (g o a b))) → (o : Op) (a b : Class) → f o a b ≡ g o a b
law2 f g t o a b = same→≡ _ _ (pair_at (λ o a b. same (f o a b) (g o a b)) t o a b)

pub join_comm : (o : Op) (a b : Class) → join o a b ≡ join o b a
unfolding join join_all and_all or_all each some every_pair every_op every_class
join_comm = law2 (λ o a b. join o a b) (λ o a b. join o b a) tt

pub join_idem : (o : Op) (a : Class) → join o a a ≡ a
unfolding join join_all and_all or_all each some every_pair every_op every_class
join_idem o a = law2 (λ o a b. join o a a) (λ o a b. a) tt o a a

pub join_unit : (o : Op) (a : Class) → join o (unit o) a ≡ a
unfolding join join_all and_all or_all each some every_pair every_op every_class
join_unit o a = law2 (λ o a b. join o (unit o) a) (λ o a b. a) tt o a a

pub join_assoc : (o : Op) (a b c : Class) → join o (join o a b) c ≡ join o a (join o b c)
unfolding join join_all and_all or_all each some every_pair every_op every_class
join_assoc o a b c =
    same→≡ _ _
    (class_at_lem (λ c. same (join o (join o a b) c) (join o a (join o b c)))
    (pair_at (λ o a b. every_class (λ c. same (join o (join o a b) c) (join o a (join o b c)))) tt o a b) c)

pub join_unit_right : (o : Op) (a : Class) → join o a (unit o) ≡ a
join_unit_right o a = join_comm o a (unit o) ∙ join_unit o a

-- the AND, and the OR, of one pin is that pin
pub join_all_one : (o : Op) (k : Class) → join_all o (k ∷ []) ≡ k
join_all_one o k = join_all_cons o k [] ∙ ap (join o k) (join_all_nil o) ∙ join_unit_right o k

-- a gate by its operation and inversion
pub gate_class_op : (d : Kind) (ps : List Class) → gate_class d ps ≡ invert_if (inverts d) (join_all (op_of d) ps)
unfolding gate_class join_all
gate_class_op NOT ps = refl
gate_class_op BUFFER ps = refl
gate_class_op AND ps = refl
gate_class_op OR ps = refl
gate_class_op NAND ps = refl
gate_class_op NOR ps = refl

pub gate_value_op : (d : Kind) (vs : List Bool) → gate_value d vs ≡ not_if (inverts d) (value_all (op_of d) vs)
unfolding gate_value value_all
gate_value_op NOT vs = refl
gate_value_op BUFFER vs = refl
gate_value_op AND vs = refl
gate_value_op OR vs = refl
gate_value_op NAND vs = refl
gate_value_op NOR vs = refl

-- An end of a class: start or end. Both go over to values alike.
pub data End : Type 0 where
  first last : End

abbrev pub end_of : End → Class → Bool
end_of first = start
end_of last = end

-- the two-pin operation over values
abbrev pub value2 : Op → Bool → Bool → Bool
value2 and v w = v && w
value2 or v w = v || w

pub value_all_cons : (o : Op) (v : Bool) (vs : List Bool) → value_all o (v ∷ vs) ≡ value2 o v (value_all o vs)
unfolding value_all each some
value_all_cons and v vs = refl
value_all_cons or v vs = refl

ends2 : (x : End) (o : Op) (a b : Class) → T (beq (end_of x (join o a b)) (value2 o (end_of x a) (end_of x b)))
unfolding join join_all and_all or_all each some every_pair every_op every_class
ends2 first = pair_at (λ o a b. beq (start (join o a b)) (value2 o (start a) (start b))) tt
ends2 last = pair_at (λ o a b. beq (end (join o a b)) (value2 o (end a) (end b))) tt

-- the ends of what a gate gives are the gate's values of its pins' ends
pub ends_join : (x : End) (o : Op) (ps : List Class) → end_of x (join_all o ps) ≡ value_all o (map (end_of x) ps)
unfolding value_all each some
ends_join x o [] = ap (end_of x) (join_all_nil o) ∙ none x o
  where
    none : (x : End) (o : Op) → end_of x (unit o) ≡ value_all o []
    none first and = refl
    none first or = refl
    none last and = refl
    none last or = refl
ends_join x o (k ∷ ps) =
    ap (end_of x) (join_all_cons o k ps) ∙ beq→≡ _ _ (ends2 x o k (join_all o ps)) ∙ ap (value2 o (end_of x k)) (ends_join x o ps)
    ∙ sym (value_all_cons o (end_of x k) (map (end_of x) ps))

pub ends_invert : (x : End) (k : Class) → end_of x (invert k) ≡ not (end_of x k)
unfolding every_class
ends_invert first k = beq→≡ _ _ (class_at_lem (λ k. beq (start (invert k)) (not (start k))) tt k)
ends_invert last k = beq→≡ _ _ (class_at_lem (λ k. beq (end (invert k)) (not (end k))) tt k)

pub ends_gate : (x : End) (d : Kind) (ps : List Class) → end_of x (gate_class d ps) ≡ gate_value d (map (end_of x) ps)
ends_gate x d ps =
    ap (end_of x) (gate_class_op d ps) ∙ inverted (inverts d) (join_all (op_of d) ps) ∙ ap (not_if (inverts d)) (ends_join x (op_of d) ps)
    ∙ sym (gate_value_op d (map (end_of x) ps))
  where
    inverted : (b : Bool) (k : Class) → end_of x (invert_if b k) ≡ not_if b (end_of x k)
    inverted true k = ends_invert x k
    inverted false k = refl
