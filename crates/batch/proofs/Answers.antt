-- What a method answers in each case, and what it leaves. Assumes nothing.
use Rattle.std.proofs.Common.{◌≡◌, ℕ, ◌*◌, ◌<◌, ◌≤◌, List, Ok, Err, ap, length, mul-le-mul, le-ltb, lt-ltb}
use Rattle.refusals.specs.Refusal.{refuse}
use Rattle.refusals.specs.declared.Refusal.{Refusal}
use Rattle.refusals.specs.declared.Refusal.TheVariants.{BufferShort}
use Rattle.changes.specs.declared.Task.{Task}
use Rattle.changes.specs.Refusals.{list_checked}
use Rattle.changes.proofs.Accepted.{listed}
use Rattle.lists.specs.declared.Judged.{Judged}
use Rattle.lists.specs.Methods.{Method}
use Rattle.lists.specs.Lent.{Judges}
use Rattle.lists.proofs.Rows.{Regular, rows_length}
use Rattle.batch.specs.Batch.{all_from, all_answer, all_buffer, Answers}

module _ (m : Method) (n l buffer : List ℕ) where
  pub refused_list : (refusal : Refusal) → list_checked n l ≡ Err refusal → Answers m n l buffer buffer (Err refusal)
  unfolding all_answer all_buffer all_from
  refused_list refusal e = record { answer = rw e; bytes = rw e }

  module _ {task : Task} {w : ℕ} (e : list_checked n l ≡ Ok task) (r : Regular m w) where
    pub refused_room : length buffer < task.changes * w → Answers m n l buffer buffer (Err BufferShort)
    unfolding all_answer all_buffer all_from refuse
    refused_room small =
        let short = lt-ltb (length buffer) (task.changes * m.width) (rw r.wide at small) in
        record { answer = rw (e, short); bytes = rw (e, short) }

    pub done : task.changes * w ≤ length buffer → (answer : Judged) (exit : List ℕ) → Judges m task.changes buffer exit answer → Answers m n l buffer exit (Ok answer)
    unfolding all_answer all_buffer all_from refuse
    done room answer exit h =
        let enough = le-ltb (length buffer) (task.changes * m.width) (rw r.wide at room) in
        record {
          answer = rw (e, enough) (ap Ok h.answer);
          bytes = rw (e, enough, ← (listed n l e).changes_are, rows_length r task.changes, r.wide) h.bytes;
        }

-- what all rows together take fits
pub rows_fit : {task : Task} (n l : List ℕ) → list_checked n l ≡ Ok task → (w : ℕ) → w ≤ 2304 → task.changes * w ≤ 2304000
rows_fit {task} n l e w h = mul-le-mul {n₁ = task.changes} {m₁ = w} {n₂ = 1000} {m₂ = 2304} (listed n l e).changes_high h
