-- The changes of an accepted list: the rows of each method, and how far it counts. Assumes nothing.
use Rattle.std.proofs.Common.{◌≡◌, ℕ, zero, suc, ◌+◌, ◌*◌, ◌<◌, ◌≤◌, List, ◌++◌, Ok, get_or, drop, sym, refl, ap, ◌∙◌, ap₂, le_trans, suc-mul, add_comm, add-one, arith}
use mathlib.Core.Option.{Option}
use Rattle.kung.specs.Class.{Class}
use Rattle.kung.specs.Rule.{some}
use Rattle.kung.specs.Sets.{bit}
use Rattle.kung.specs.Tables.{tab}
use Rattle.kung.proofs.Unions.{bit_lt}
use Rattle.kung.proofs.Listed.{length_tab}
use Rattle.circuit.specs.Circuit.{Card}
use Rattle.netlist.specs.Netlist.{inputs_of, gates_of, outputs_of, output_at, card_of}
use Rattle.netlist.specs.Formed.{Formed}
use Rattle.netlist.proofs.Accepted.{formed}
use Rattle.changes.specs.declared.Task.{Task}
use Rattle.changes.specs.Changes.{layout_in, input_class_at}
use Rattle.changes.specs.Lent.{signals_of}
use Rattle.changes.specs.Refusals.{list_checked}
use Rattle.changes.proofs.Accepted.{listed}
use Rattle.jobs.specs.declared.Job.{Job}
use Rattle.inputs.specs.Written.{written}
use Rattle.inputs.proofs.Laws.{written_all}
use Rattle.simulate.proofs.Theorems.{codes_length}
use Rattle.wanted.specs.Sets.{sets_at}
use Rattle.wanted.proofs.Laws.{sets_in}
use Rattle.search.specs.Search.{Answer, search}
use Rattle.search.specs.Pins.{sum_below}
use Rattle.visit.specs.Lent.{inputs_known}
use Rattle.core_search.specs.Core.{search_of}
use Rattle.outputs.specs.Outputs.{verdict_byte, search_from, byte_from, sum_from}
use Rattle.outputs.proofs.Ready.{output_is}
use Rattle.core_search.proofs.Entry.{search_is}
use Rattle.outputs.proofs.Outputs.{search_few}
use Rattle.core_search.proofs.Theorems.{pins_within, gates_within}
use Rattle.constants.specs.Constants.{is_known, touched}
use Rattle.constants.specs.Change.{constants_in, touched_in}
use Rattle.constants.proofs.Touched.{sum_ext}
use Rattle.forward.proofs.Changes.{tab_ext}
use Rattle.forward.specs.Forward.{output_search, visited_in, forward_bytes}
use Rattle.lists.specs.Methods.{core_bytes, core_sum, full_of, forward_of, core_of}
use Rattle.lists.specs.Lent.{full_for, forward_for, core_for}
use Rattle.lists.proofs.Rows.{Regular}

-- numbers of at most b each
sum_high : (f : ℕ → ℕ) (b n : ℕ) → ((k : ℕ) → k < n → f k ≤ b) → sum_below f n ≤ n * b
unfolding sum_below
sum_high f b zero h = omega arith
sum_high f b (suc n) h = omega (arith, suc-mul n b, sum_high f b n (λ k l. h k (omega arith)), h n (omega arith))

-- no more gates are touched than there are
touched_few : (card : Card) (known : ℕ → Option Class) → touched card known ≤ card.gates
unfolding touched
touched_few card known =
    le_trans
    (sum_high (λ g. bit (some (λ x. is_known (known x)) (card.pins g))) 1 card.gates (λ g h. omega (arith, bit_lt (some (λ x. is_known (known x)) (card.pins g)))))
    (omega arith)

-- a sum over the first c changes, which stays far below 64 bits
pub record Counted (f : ℕ → ℕ) (c sum : ℕ) : Type 0 where
  pub is : sum ≡ sum_below f c
  pub high : sum ≤ 1179648 * c

pub counted_none : (f : ℕ → ℕ) → Counted f 0 0
unfolding sum_below
counted_none f = record { is = refl; high = omega arith }

pub counted_next : {f : ℕ → ℕ} {c sum : ℕ} → Counted f c sum → (more : ℕ) → more ≡ f c → f c ≤ 1179648 → Counted f (c + 1) (sum + more)
unfolding sum_below
counted_next {c = c} s more e h = record { is = rw (s.is, e, add-one c) (add_comm _ _); high = omega (arith, s.high) }

module _ {task : Task} (n l : List ℕ) (accepted : list_checked n l ≡ Ok task) where
  abbrev o : ℕ
  o = task.shape.outputs

  pub card : Formed n task.shape
  card = formed n (listed n l accepted).netlist_accepted

  pub full_regular : Regular (full_of n l) (signals_of task.shape)
  full_regular =
      let wide : signals_of task.shape ≡ inputs_of n + gates_of n = omega (arith, card.inputs_are, card.gates_are) in
      record { wide = wide; each = λ t. codes_length n l t ∙ sym wide }

  pub forward_regular : Regular (forward_of n l) o
  unfolding forward_bytes
  forward_regular = record { wide = card.outputs_are; each = λ t. length_tab _ 0 (outputs_of n) ∙ sym card.outputs_are }

  pub core_regular : Regular (core_of n l) o
  unfolding core_bytes
  core_regular = record { wide = card.outputs_are; each = λ t. length_tab _ 0 (outputs_of n) ∙ sym card.outputs_are }

  pub touched_high : (c : ℕ) → touched_in n l c ≤ 1179648
  unfolding touched_in card_of
  touched_high c = omega (arith, touched_few (card_of n) (constants_in n l c), card.gates_are, card.gates_high)

  -- a count of each output
  outputs_high : (f : ℕ → ℕ) → ((k : ℕ) → k < o → f k ≤ 18432) → sum_below f (outputs_of n) ≤ 1179648
  outputs_high f h =
      le_trans (sum_high f 18432 (outputs_of n) (λ k l. h k (omega (arith, card.outputs_are)))) (omega (arith, card.outputs_are, card.outputs_high))

  pub visited_high : (c : ℕ) → visited_in n l c ≤ 1179648
  unfolding visited_in output_search
  visited_high c =
      outputs_high _
      (λ k h. le_trans (search_few _ _ (output_at n k)) (omega (arith, card.output_below k h, card.inputs_high, card.gates_high)))

  pub searched_high : (c : ℕ) → (core_sum (λ a. a.gates) n l c ≤ 1179648) × (core_sum (λ a. a.pins) n l c ≤ 1179648)
  unfolding core_sum
  searched_high c =
      let pins : (k : ℕ) → (search_of n l c k).pins ≤ 16384 = λ k. omega (arith, pins_within n l accepted c k, card.pins_high, card.gates_high) in (
        outputs_high _ (λ k h. omega (arith, gates_within n l accepted c k, pins k)),
        outputs_high _ (λ k h. omega (arith, pins k)),
      )

-- so in a job
module _ (job : Job) where
  pub full_regular_for : Regular (full_for job) (signals_of job.task.shape)
  full_regular_for = full_regular _ _ job.accepts.accepted

  pub forward_regular_for : Regular (forward_for job) job.task.shape.outputs
  forward_regular_for = forward_regular _ _ job.accepts.accepted

  pub core_regular_for : Regular (core_for job) job.task.shape.outputs
  core_regular_for = core_regular _ _ job.accepts.accepted

-- what CORE knows of a change: the inputs, and no gate
abbrev pub inputs_for : Job → (t : ℕ) → List ℕ
inputs_for job t =
    inputs_known (inputs_of job.netlist.now) (gates_of job.netlist.now) (input_class_at job.list.now (layout_in job.netlist.now job.list.now) t)

-- CORE on a change
module _ (job : Job) (c : ℕ) (known : List ℕ) (is : known ≡ inputs_for job c) (wanted : List ℕ) (wants : wanted ≡ sets_at job.list.now job.task.layout c) where
  abbrev n : List ℕ
  n = job.netlist.now

  abbrev l : List ℕ
  l = job.list.now

  abbrev rows : List ℕ
  rows = job.rows.now

  abbrev outputs : ℕ
  outputs = job.task.shape.outputs

  abbrev signals : ℕ
  signals = signals_of job.task.shape

  search_same : (out : ℕ) → out < outputs → search_from rows known wanted signals out ≡ search_of n l c out
  unfolding search_from search_of
  search_same out h =
      search_is _ _ _ _ job.accepts c known is (get_or wanted out 0) _
      ∙ ap₂ (search _) (sets_in n l job.accepts.accepted c wanted wants out h) (output_is _ _ _ _ job.accepts out h)

  pub sums_are : (count : Answer → ℕ) → sum_from count rows known wanted signals outputs ≡ core_sum count n l c
  unfolding core_sum
  sums_are count =
      sum_ext _ _ outputs (λ out h. ap count (search_same out h)) ∙ ap (sum_below _) (card n l job.accepts.accepted).outputs_are

  pub bytes_are : (old : List ℕ) → written old 0 (byte_from rows known wanted signals) outputs ≡ core_bytes n l c ++ drop outputs old
  unfolding core_bytes
  bytes_are old =
      written_all old (byte_from rows known wanted signals) outputs
      ∙ ap (λ bytes. bytes ++ drop outputs old)
      (tab_ext _ _ outputs (λ out h. ap (λ a. verdict_byte a.verdict) (search_same out h)) ∙ ap (tab _ 0) (card n l job.accepts.accepted).outputs_are)
