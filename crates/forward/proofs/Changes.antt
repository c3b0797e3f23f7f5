-- In a change of an accepted list the bytes that the code keeps say which signals are constant. Assumes nothing.
use Rattle.std.proofs.Common.{◌≡◌, ℕ, zero, suc, ◌+◌, ◌-◌, ◌<◌, ◌≤◌, Bool, true, false, cond, ltb, List, ◌∷◌, ◌++◌, length, get_or, take, drop, sym, refl, ap, ◌∙◌, ap₂, arith, length-append, length-drop, length-take-le, get_or-take, lt-ltb}
use native.Mathlib.Decide.{dec_lt}
use mathlib.Core.Path.{fun_ext}
use mathlib.Core.Option.{none, some}
use lib.ListN.{get_or-append, get_or-eq_default}
use Rattle.kung.specs.Class.{Class, c0, code, of_code}
use Rattle.kung.specs.Rule.{gate_class}
use Rattle.kung.specs.Tables.{tab}
use Rattle.kung.proofs.Finite.{of_code_code}
use Rattle.kung.proofs.SetLaws.{code_lt}
use Rattle.circuit.specs.Circuit.{Source, given, gate, out_of, value}
use Rattle.circuit.proofs.Laws.{value_law, sources_cases}
use Rattle.rows.specs.Rows.{row_kind, row_pins}
use Rattle.netlist.specs.Netlist.{inputs_of, gates_of, gate_kind, gate_pins, card_of}
use Rattle.netlist.specs.Formed.{Formed}
use Rattle.netlist.proofs.Accepted.{formed}
use Rattle.changes.specs.declared.Task.{Task}
use Rattle.changes.specs.Changes.{sources_of}
use Rattle.changes.specs.Lent.{Accepts, signals_of}
use Rattle.changes.proofs.Accepted.{listed}
use Rattle.inputs.specs.Written.{input_codes, written}
use Rattle.inputs.proofs.Laws.{written_all, written_kept}
use Rattle.wanted.specs.Sets.{sets_at}
use Rattle.wanted.proofs.Laws.{sets_in}
use Rattle.search.specs.Search.{search}
use Rattle.search.specs.Pins.{sum_below}
use Rattle.sweep.specs.Sweep.{codes_of, is_constant_code, touched_by}
use Rattle.visit.specs.Source.{signal_of, source_from}
use Rattle.visit.specs.Cells.{Afresh}
use Rattle.outputs.specs.Outputs.{verdict_byte, search_from, byte_from, sum_from}
use Rattle.outputs.specs.Lent.{OutputsReady}
use Rattle.outputs.proofs.Ready.{output_is, outputs_ready}
use Rattle.simulate.proofs.Laws.{filled_codes, filled_after}
use Rattle.simulate.specs.Full.{class_in, codes}
use Rattle.simulate.proofs.Theorems.{class_value, codes_length}
use Rattle.constants.specs.Constants.{is_constant, constant_of, or_known, known_sources}
use Rattle.constants.specs.Change.{touched_in}
use Rattle.constants.proofs.Constants.{known_given}
use Rattle.constants.proofs.Theorems.{falling}
use Rattle.constants.proofs.Touched.{sum_ext, constant_code, signals_are, codes_below, constant_is, touched_is}
use Rattle.forward.specs.Forward.{output_search, forward_bytes, visited_in}
use Rattle.forward.specs.Known.{known_or8, known_codes, swept_codes}
use Rattle.forward.proofs.Bytes.{written_below, written_at}

tab_from : (f g : ℕ → ℕ) (i m : ℕ) → ((k : ℕ) → k < m → f (i + k) ≡ g (i + k)) → tab f i m ≡ tab g i m
unfolding tab
tab_from f g i zero h = refl
tab_from f g i (suc m) h =
    ap₂ ◌∷◌ (let e : i + 0 ≡ i = omega arith in rw e at (h 0 (omega arith)))
    (tab_from f g (suc i) m (λ k less. let e : i + suc k ≡ suc i + k = omega arith in rw e at (h (suc k) (omega arith))))

pub tab_ext : (f g : ℕ → ℕ) (n : ℕ) → ((k : ℕ) → k < n → f k ≡ g k) → tab f 0 n ≡ tab g 0 n
tab_ext f g n h = tab_from f g 0 n (λ k less. let e : 0 + k ≡ k = omega arith in rw e (h k less))

-- a byte is read as its class, or as the gate that stands there
abbrev read : ℕ → Source Class → Source Class
read b c = cond (ltb b 8) (given (of_code b)) c

read_given : (k : Class) (c : Source Class) → read (code k) c ≡ given k
read_given k c = rw (lt-ltb (code k) 8 (code_lt k), of_code_code k)

read_known : (k : Class) (c : Source Class) → read (known_or8 (code k)) c ≡ or_known (constant_of k) c
read_known k c = rw constant_code (go (is_constant k))
  where
    go : (b : Bool) → read (cond b (code k) 8) c ≡ or_known (cond b (some k) none) c
    go true = read_given k c
    go false = refl

module _ (n l rows : List ℕ) (task : Task) (a : Accepts true n l rows task) (t : ℕ) (old : List ℕ) (room : signals_of task.shape ≤ length old) where
  abbrev i : ℕ
  i = task.shape.inputs

  abbrev g : ℕ
  g = task.shape.gates

  abbrev o : ℕ
  o = task.shape.outputs

  f : Formed n task.shape
  f = formed n (listed n l a.accepted).netlist_accepted

  -- the bytes that the inputs' codes are filled in, and those that the gate pass then leaves
  abbrev filled : List ℕ
  filled = input_codes l task.layout t i ++ drop i old

  abbrev swept : List ℕ
  swept = codes n l t ++ drop (i + g) old

  swept_is : swept_codes rows filled i g ≡ swept
  unfolding swept_codes
  swept_is = ap₂ ◌++◌ (filled_codes n l rows task a t old) (filled_after n l rows task a t old)

  all_signals : inputs_of n + gates_of n ≡ i + g
  all_signals = signals_are n l rows task a t

  codes_few : length (codes n l t) ≡ i + g
  codes_few = codes_length n l t ∙ all_signals

  swept_below : (s : ℕ) → s < i + g → get_or swept s 0 ≡ code (class_in n l t s)
  swept_below s h = get_or-append (codes n l t) (drop (i + g) old) 0 s (rw codes_few h) ∙ codes_below n l rows task a t s h

  -- then, with 8 for the gates to be searched, a byte for each signal
  abbrev marked : List ℕ
  marked = known_codes swept i g

  abbrev pub known : List ℕ
  known = take (i + g) marked

  abbrev src : ℕ → Source Class
  src = known_sources (sources_of n l t) (inputs_of n + gates_of n)

  class_given : (s : ℕ) (k : Class) → sources_of n l t s ≡ given k → class_in n l t s ≡ k
  class_given s k d =
      class_value n l t s ∙ value_law gate_class c0 (sources_of n l t) (falling n l a.accepted t) s
      ∙ ap (λ c. out_of gate_class c (value gate_class c0 (sources_of n l t))) d

  swept_length : length swept ≡ length old
  swept_length = omega (arith, length-append (codes n l t) (drop (i + g) old), codes_few, length-drop (i + g) old)

  inputs_fit : i ≤ length swept
  inputs_fit = omega (arith, swept_length)

  pub marked_length : length marked ≡ length old
  unfolding known_codes
  marked_length = written_kept swept i _ g (omega (arith, swept_length)) ∙ swept_length

  pub known_length : length known ≡ i + g
  known_length = length-take-le (i + g) marked (omega (arith, marked_length))

  known_input : (s : ℕ) → s < i → get_or known s 0 ≡ code (class_in n l t s)
  unfolding known_codes
  known_input s h = get_or-take (i + g) marked s 0 (omega arith) ∙ written_below swept i _ g inputs_fit s h ∙ swept_below s (omega arith)

  known_gate : (h : ℕ) → h < g → get_or known (i + h) 0 ≡ known_or8 (code (class_in n l t (i + h)))
  unfolding known_codes
  known_gate h below =
      get_or-take (i + g) marked (i + h) 0 (omega arith) ∙ written_at swept i _ g inputs_fit h below ∙ ap known_or8 (swept_below (i + h) (omega arith))

  known_above : (s : ℕ) → i + g ≤ s → get_or known s 0 ≡ 0
  known_above s h = get_or-eq_default known 0 {n = s} (rw known_length h)

  -- each signal's byte tells its source
  source_at : (s : ℕ) → source_from rows known s ≡ src s
  unfolding sources_of card_of known_sources source_from signal_of
  source_at s =
      sources_cases (card_of n) c0 _ (λ s c. sources_of n l t s ≡ c → source_from rows known s ≡ src s) (λ s h. input s h _) driven above s refl
    where
      row : ℕ → Source Class
      row s = gate (row_kind rows s) (row_pins rows s)

      input : (s : ℕ) → s < inputs_of n → (k : Class) → sources_of n l t s ≡ given k → source_from rows known s ≡ src s
      input s h k d =
          ap (λ b. read b (row s)) (known_input s (omega (arith, f.inputs_are)) ∙ ap code (class_given s k d))
          ∙ read_given k (row s)
          ∙ sym (known_given (sources_of n l t) (inputs_of n + gates_of n) s k d)

      driven : (h : ℕ) → h < gates_of n → sources_of n l t (inputs_of n + h) ≡ gate (gate_kind n h) (gate_pins n h)
          → source_from rows known (inputs_of n + h) ≡ src (inputs_of n + h)
      driven h below d =
          let s = inputs_of n + h in
          ap₂ read
          (ap (λ m. get_or known (m + h) 0) (sym f.inputs_are) ∙ known_gate h (omega (arith, f.gates_are))
          ∙ ap (λ m. known_or8 (code (class_in n l t (m + h)))) f.inputs_are)
          (λ i. gate (a.decoded.kinds_are h below i) (a.decoded.pins_are h below i))
          ∙ read_known (class_in n l t s) (gate (gate_kind n h) (gate_pins n h))
          ∙ ap₂ or_known (sym (constant_is n l rows task a t s (omega (arith, all_signals)))) (sym d)

      above : (s : ℕ) → inputs_of n + gates_of n ≤ s → sources_of n l t s ≡ given c0 → source_from rows known s ≡ src s
      above s h d =
          ap (λ b. read b (row s)) (known_above s (omega (arith, all_signals))) ∙ read_given c0 (row s)
          ∙ sym (known_given (sources_of n l t) (inputs_of n + gates_of n) s c0 d)

  -- so the searches are those of the forward method
  module _ (wanted : List ℕ) (wants : wanted ≡ sets_at l task.layout t) where
    search_is : (out : ℕ) → out < o → search_from rows known wanted (i + g) out ≡ output_search n l t out
    unfolding search_from output_search
    search_is out h =
        λ i. search (fun_ext source_at i) (sets_in n l a.accepted t wanted wants out h i) (output_is n l rows task a out h i)

    pub visited_is : sum_from (λ a. a.gates) rows known wanted (i + g) o ≡ visited_in n l t
    unfolding visited_in
    visited_is = sum_ext _ _ o (λ out h. ap (λ a. a.gates) (search_is out h)) ∙ ap (sum_below _) f.outputs_are

    pub bytes_are : (buffer : List ℕ) → written buffer 0 (byte_from rows known wanted (i + g)) o ≡ forward_bytes n l t ++ drop o buffer
    unfolding forward_bytes
    bytes_are buffer =
        written_all buffer (byte_from rows known wanted (i + g)) o
        ∙ ap (λ bytes. bytes ++ drop o buffer)
        (tab_ext _ _ o (λ out h. ap (λ a. verdict_byte a.verdict) (search_is out h)) ∙ ap (tab _ 0) f.outputs_are)

  -- an input's byte is a class, and a gate's is one or 8
  known_below : (s : ℕ) → s < i → get_or known s 0 < 8
  known_below s h = omega (arith, known_input s h, code_lt (class_in n l t s))

  known_afresh : Afresh known
  known_afresh s = go (dec_lt s i) (dec_lt s (i + g))
    where
      few : (b : Bool) (k : Class) → cond b (code k) 8 ≤ 8
      few true k = omega (arith, code_lt k)
      few false k = omega arith

      go : Dec (s < i) → Dec (s < i + g) → get_or known s 0 ≤ 8
      go (yes below) d = omega (arith, known_below s below)
      go (no above) (yes below) =
          let e : i + (s - i) ≡ s = omega arith in
          let k = class_in n l t (i + (s - i)) in
          omega (arith, rw e at (known_gate (s - i) (omega arith)), rw e at (few (is_constant_code (code k)) k))
      go (no above) (no beyond) = omega (arith, known_above s (omega arith))

  -- the outputs can be searched
  pub searchable : (k : List ℕ) → k ≡ known → (room : ℕ) → o ≤ room → OutputsReady rows k task.shape room
  searchable k e room enough = rw e (outputs_ready n l rows task a known known_length known_afresh known_below room enough)

  -- the same, of what the calls hand back
  module _ (now : List ℕ) (e : now ≡ filled) where
    pub touched_by_lem : (r : ℕ) → r ≡ touched_by rows (codes_of rows now i g (i + g)) i g → r ≡ touched_in n l t
    touched_by_lem r d = d ∙ ap (λ b. touched_by rows (codes_of rows b i g (i + g)) i g) e ∙ touched_is n l rows task a t old

    pub known_by : (after : List ℕ) → after ≡ known_codes (swept_codes rows now i g) i g → take (i + g) after ≡ known
    known_by after d = ap (take (i + g)) (d ∙ ap (λ b. known_codes (swept_codes rows b i g) i g) e ∙ ap (λ b. known_codes b i g) swept_is)

  module _ (wanted : List ℕ) (wants : wanted ≡ sets_at l task.layout t) (k : List ℕ) (e : k ≡ known) where
    pub visited_by : (r : ℕ) → r ≡ sum_from (λ a. a.gates) rows k wanted (i + g) o → r ≡ visited_in n l t
    visited_by r d = d ∙ ap (λ k. sum_from (λ a. a.gates) rows k wanted (i + g) o) e ∙ visited_is wanted wants

    pub bytes_by : (buffer exit : List ℕ) → exit ≡ written buffer 0 (byte_from rows k wanted (i + g)) o → exit ≡ forward_bytes n l t ++ drop o buffer
    bytes_by buffer exit d = d ∙ ap (λ k. written buffer 0 (byte_from rows k wanted (i + g)) o) e ∙ bytes_are wanted wants buffer
