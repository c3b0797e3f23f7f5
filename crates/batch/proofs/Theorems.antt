-- A call for every change gives what the calls for one change give. Assumes nothing.
use Rattle.std.proofs.Common.{◌≡◌, ℕ, Ok, Err, zero, suc, ◌+◌, ◌*◌, ◌<◌, ◌≤◌, List, [], ◌∷◌, ◌++◌, length, get_or, take, drop, sym, refl, ap, ◌∙◌, subst, append_assoc, arith, take_at, drop_at}
use native.Mathlib.Decide.{dec_lt}
use Rattle.kung.proofs.Listed.{get_d_tab}
use Rattle.refusals.specs.declared.Refusal.TheVariants.{BufferShort}
use Rattle.refusals.proofs.Laws.{passed, refused_not}
use Rattle.netlist.specs.Netlist.{inputs_of, gates_of, outputs_of}
use Rattle.changes.specs.Refusals.{Listed, list_checked}
use Rattle.changes.specs.declared.Task.{Task}
use Rattle.changes.proofs.Accepted.{listed}
use Rattle.simulate.specs.Full.{codes}
use Rattle.simulate.proofs.Answers as simulate
use Rattle.search.specs.Search.{Verdict, clean, hazardous}
use Rattle.search.specs.Pins.{sum_below}
use Rattle.core_search.specs.Core.{answered_with, search_of, core_answer}
use Rattle.outputs.specs.Outputs.{verdict_byte}
use Rattle.core_search.proofs.Entry.{answers}
use Rattle.constants.specs.Change.{touched_in}
use Rattle.forward.specs.Forward.{visited_in, forward_bytes}
use Rattle.forward.proofs.Answers as forward
use Rattle.lists.specs.declared.Judged.{Judged}
use Rattle.lists.specs.Methods.{rows, core_bytes, core_sum, Method, done_for}
use Rattle.lists.proofs.Rows.{Regular, rows_length}
use Rattle.lists.proofs.Changes.{card, full_regular, forward_regular, core_regular}
use Rattle.batch.specs.Batch.{AllAnswer, all_from, all_answer, all_buffer}
use Rattle.batch.specs.Single as single
use Rattle.batch.specs.Single.{FullAlone, ForwardAlone, Says, CoreAlone, RowByRow, SingleCalls}

-- row t of T rows, whatever follows them
rows_part : {m : Method} {w : ℕ} → Regular m w → (T t : ℕ) (rest : List ℕ) → t < T → take w (drop (t * w) (rows m.row T ++ rest)) ≡ m.row t
unfolding rows
rows_part r zero t rest early = absurd (omega arith)
rows_part {m} {w} r (suc T) t rest early =
    ap (λ b. take w (drop (t * w) b)) (append_assoc (rows m.row T) (m.row T) rest) ∙ go (rows_part r T t (m.row T ++ rest)) (dec_lt t T)
  where
    go : (t < T → take w (drop (t * w) (rows m.row T ++ (m.row T ++ rest))) ≡ m.row t) → Dec (t < T)
        → take w (drop (t * w) (rows m.row T ++ (m.row T ++ rest))) ≡ m.row t
    go ih (yes before) = ih before
    go ih (no last) =
        let e : t ≡ T = omega arith in
        rw e
        (ap (take w) (drop_at (rows m.row T) (m.row T ++ rest) (T * w) (rows_length r T))
        ∙ take_at (m.row T) rest w (r.each T))

-- a call that is not refused: its list is accepted, and it answers with the method's numbers
record Answered (m : Method) (n l buffer : List ℕ) (T width first second : ℕ) : Type 0 where
  task : Task
  accepted : list_checked n l ≡ Ok task
  changes_are : task.changes ≡ T
  width_is : width ≡ m.width
  first_is : first ≡ m.first T
  second_is : second ≡ m.second T

ok_same : {a b : Judged} → ◌≡◌ {A = AllAnswer} (Ok a) (Ok b) → a ≡ b
ok_same e = cc

module _ (m : Method) (n l buffer : List ℕ) {T width first second : ℕ}
    (done : all_answer m n l buffer ≡ Ok (record { changes = T; width = width; first = first; second = second })) where
  abbrev judged : Judged
  judged = record { changes = T; width = width; first = first; second = second }

  answered_by_lem : Answered m n l buffer T width first second
  unfolding all_answer all_from
  answered_by_lem = go (list_checked n l) refl done
    where
      go : (x : Listed) → list_checked n l ≡ x → all_from m x (length buffer) ≡ Ok judged → Answered m n l buffer T width first second
      go (Err refusal) e h = absurd (refused_not refusal judged h)
      go (Ok task) e h =
          let is : done_for m task.changes ≡ judged = ok_same (passed _ BufferShort (Ok (done_for m task.changes)) judged h).1 in
          let same : task.changes ≡ T = ap (λ j. j.changes) is in
          record {
            task = task;
            accepted = e;
            changes_are = same;
            width_is = ap (λ j. j.width) (sym is);
            first_is = ap (λ j. j.first) (sym is) ∙ ap m.first same;
            second_is = ap (λ j. j.second) (sym is) ∙ ap m.second same;
          }

  row_at : {w : ℕ} → Regular m w → (t : ℕ) → t < T → take width (drop (t * width) (all_buffer m n l buffer)) ≡ m.row t
  unfolding all_buffer
  row_at {w} r t early =
      let all : List ℕ = rows m.row T ++ drop (length (rows m.row T)) buffer in
      let full : all_buffer m n l buffer ≡ all = rw (done, ← (listed n l answered_by_lem.accepted).changes_are, answered_by_lem.changes_are) in
      let wide : width ≡ w = answered_by_lem.width_is ∙ sym r.wide in
      rw (full, wide) (rows_part r T t _ early)

  -- what holds of each row of the method holds of the rows in the buffer
  by_rows : {w : ℕ} (Alone : (change : ℕ) → (row : List ℕ) → (first second : ℕ) → Type 0) → Regular m w → (firsts seconds : ℕ → ℕ)
      → m.first T ≡ sum_below firsts T → m.second T ≡ sum_below seconds T → ((t : ℕ) → t < T → Alone t (m.row t) (firsts t) (seconds t))
      → RowByRow m Alone n l buffer T width first second
  by_rows Alone r firsts seconds first_sum second_sum each =
      record {
        firsts = firsts;
        seconds = seconds;
        each = λ t early. subst (λ row. Alone t row (firsts t) (seconds t)) (sym (row_at r t early)) (each t early);
        first_sum = answered_by_lem.first_is ∙ first_sum;
        second_sum = answered_by_lem.second_is ∙ second_sum;
      }

sum_none : (n : ℕ) → 0 ≡ sum_below (λ t. 0) n
unfolding sum_below
sum_none zero = refl
sum_none (suc n) = omega (arith, sum_none n)

-- inside a list the default does not count
get_d_any : (l : List ℕ) (k d e : ℕ) → k < length l → get_or l k d ≡ get_or l k e
get_d_any [] k d e h = absurd (omega arith)
get_d_any (x ∷ l) zero d e h = refl
get_d_any (x ∷ l) (suc k) d e h = get_d_any l k d e (omega arith)

-- each method's calls for a change of an accepted list
module _ {task : Task} (n l : List ℕ) (accepted : list_checked n l ≡ Ok task) (t : ℕ) (early : t < task.changes) where
  abbrev o : ℕ
  o = task.shape.outputs

  full_alone : FullAlone n l t (codes n l t) 0 0
  full_alone =
      let f = full_regular n l accepted in
      let d : (buffer : List ℕ) → inputs_of n + gates_of n ≤ length buffer → _ =
      λ buffer room. simulate.written n l t buffer accepted early (rw f.wide room) _ refl in
      record {
        answer = λ buffer room. sym (d buffer room).0;
        bytes = λ buffer room. ap (take (inputs_of n + gates_of n)) (sym (d buffer room).1) ∙ take_at (codes n l t) _ (inputs_of n + gates_of n) (f.each t ∙ f.wide);
        first_none = refl;
        second_none = refl;
      }

  forward_alone : ForwardAlone n l t (forward_bytes n l t) (touched_in n l t) (visited_in n l t)
  forward_alone =
      let f = forward_regular n l accepted in
      let d : (buffer : List ℕ) → outputs_of n ≤ length buffer → _ =
      λ buffer room. forward.forwarded n l t buffer accepted early (rw f.wide room) _ _ refl refl _ refl in
      record {
        answer = λ buffer room. sym (d buffer room).0;
        bytes = λ buffer room. ap (take (outputs_of n)) (sym (d buffer room).1) ∙ take_at (forward_bytes n l t) _ (outputs_of n) (f.each t ∙ f.wide);
      }

  core_byte : (output : ℕ) → output < o → get_or (core_bytes n l t) output 2 ≡ verdict_byte (search_of n l t output).verdict
  unfolding core_bytes
  core_byte output is =
      get_d_any (core_bytes n l t) output 2 0 (rw ((core_regular n l accepted).each t) is)
      ∙ get_d_tab (λ o. verdict_byte (search_of n l t o).verdict) (outputs_of n) output (omega (arith, (card n l accepted).outputs_are))

  core_says : (output : ℕ) → output < o
      → Says (get_or (core_bytes n l t) output 2) (search_of n l t output).gates (search_of n l t output).pins (core_answer n l t output)
  core_says output is = go (search_of n l t output).verdict (core_byte output is) (sym (answers n l t output accepted early is))
    where
      go : (v : Verdict) → get_or (core_bytes n l t) output 2 ≡ verdict_byte v
          → core_answer n l t output ≡ answered_with (record { verdict = v; gates = (search_of n l t output).gates; pins = (search_of n l t output).pins })
          → Says (get_or (core_bytes n l t) output 2) (search_of n l t output).gates (search_of n l t output).pins (core_answer n l t output)
      go (clean k) b a = single.clean _ b a
      go hazardous b a = single.hazardous b a

  core_alone : CoreAlone n l t (core_bytes n l t) (core_sum (λ a. a.gates) n l t) (core_sum (λ a. a.pins) n l t)
  unfolding core_sum
  core_alone =
      let f = core_regular n l accepted in
      record {
        gates = λ output. (search_of n l t output).gates;
        pins = λ output. (search_of n l t output).pins;
        each = λ output is. core_says output (rw f.wide is);
        long = f.each t ∙ f.wide;
        first_sum = refl;
        second_sum = refl;
      }

pub single_calls : (n l buffer : List ℕ) (T width first second : ℕ) → SingleCalls n l buffer T width first second
single_calls n l buffer T width first second =
    record {
      full =
          λ done.
          let a = answered_by_lem _ _ _ _ done in
          by_rows _ _ _ _ done _ (full_regular n l a.accepted) _ _ (sum_none T) (sum_none T) (λ t early. full_alone n l a.accepted t (omega (arith, a.changes_are)));
      forward =
          λ done.
          let a = answered_by_lem _ _ _ _ done in
          by_rows _ _ _ _ done _ (forward_regular n l a.accepted) _ _ refl refl (λ t early. forward_alone n l a.accepted t (omega (arith, a.changes_are)));
      core =
          λ done.
          let a = answered_by_lem _ _ _ _ done in
          by_rows _ _ _ _ done _ (core_regular n l a.accepted) _ _ refl refl (λ t early. core_alone n l a.accepted t (omega (arith, a.changes_are)));
    }
