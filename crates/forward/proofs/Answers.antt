-- What the forward method answers in each case, and what it leaves. Assumes nothing.
use Rattle.std.proofs.Common.{◌≡◌, ℕ, ◌<◌, ◌≤◌, List, ◌++◌, Ok, Err, length, get_or, drop, sym, refl, ap, ◌∙◌, le-ltb, lt-ltb, le-leb}
use borrow.Author.Tests.{lt-leb}
use lib.ListN.{get_or-append}
use Rattle.kung.proofs.Listed.{length_tab}
use Rattle.refusals.specs.Refusal.{refuse}
use Rattle.refusals.specs.declared.Refusal.{Refusal}
use Rattle.refusals.specs.declared.Refusal.TheVariants.{NoChange, BufferShort}
use Rattle.netlist.specs.Netlist.{outputs_of}
use Rattle.netlist.proofs.Accepted.{formed}
use Rattle.changes.specs.declared.Task.{Task}
use Rattle.changes.specs.Refusals.{list_checked}
use Rattle.changes.proofs.Accepted.{listed}
use Rattle.constants.specs.Change.{touched_in}
use Rattle.forward.specs.Forward.{ForwardAnswer, counted, forward_bytes, visited_in, forward_from, forward_answer, forward_buffer}

module _ (n l : List ℕ) (change : ℕ) (buffer : List ℕ) where
  -- a refusal is answered, and the buffer stays
  abbrev Refused : Refusal → Type 0
  Refused refusal = (◌≡◌ {A = ForwardAnswer} (Err refusal) (forward_answer n l change buffer)) × (buffer ≡ forward_buffer n l change buffer)

  pub refused_list : (refusal : Refusal) → list_checked n l ≡ Err refusal → Refused refusal
  unfolding forward_answer forward_buffer forward_from
  refused_list refusal e = (rw e, rw e)

  module _ {task : Task} (e : list_checked n l ≡ Ok task) where
    abbrev o : ℕ
    o = task.shape.outputs

    pub refused_change : task.changes ≤ change → Refused NoChange
    unfolding forward_answer forward_buffer forward_from refuse
    refused_change late = (rw (e, le-leb task.changes change late), rw (e, le-leb task.changes change late))

    module _ (early : change < task.changes) where
      pub refused_room : length buffer < o → Refused BufferShort
      unfolding forward_answer forward_buffer forward_from refuse
      refused_room small =
          (rw (e, lt-leb task.changes change early, lt-ltb (length buffer) o small), rw (e, lt-leb task.changes change early, lt-ltb (length buffer) o small))

      bytes_length : length (forward_bytes n l change) ≡ o
      unfolding forward_bytes
      bytes_length = length_tab _ 0 (outputs_of n) ∙ sym (formed n (listed n l e).netlist_accepted).outputs_are

      pub forwarded : o ≤ length buffer → (touched visited : ℕ) → touched ≡ touched_in n l change → visited ≡ visited_in n l change → (exit : List ℕ)
          → exit ≡ forward_bytes n l change ++ drop o buffer
          → (counted touched visited ≡ forward_answer n l change buffer) × (exit ≡ forward_buffer n l change buffer)
      unfolding forward_answer forward_buffer forward_from refuse
      forwarded room touched visited t v exit x = (
        rw (e, lt-leb _ change early, le-ltb (length buffer) o room, t, v),
        rw (e, lt-leb _ change early, le-ltb (length buffer) o room, bytes_length) x,
      )

      -- byte for byte: the outputs' bytes
      pub buffer_byte : o ≤ length buffer → (out : ℕ) → out < o → get_or (forward_buffer n l change buffer) out 0 ≡ get_or (forward_bytes n l change) out 0
      buffer_byte room out h =
          ap (λ b. get_or b out 0) (sym (forwarded room _ _ refl refl _ refl).1)
          ∙ get_or-append (forward_bytes n l change) (drop o buffer) 0 out (rw bytes_length h)
