-- The calls that are lent a buffer: number, words and the bytes that are left in it.
use Rattle.std.specs.Prelude.{◌≡◌, ℕ, List}
use Rattle.simulate.specs.Full.{full_answer, full_buffer}
use Rattle.forward.specs.Forward.{forward_answer, forward_buffer}
use Rattle.lists.specs.Methods.{Method}
use Rattle.batch.specs.Batch.{all_answer, all_buffer}
use Rattle.replies.specs.Replies.{Answered, simulated_answer, forwarded_answer, judged_answer}

-- full simulation's number, words and lent bytes
pub record Fulled (n l : List ℕ) (change : ℕ) (entry exit : List ℕ) (number : ℕ) (words : List ℕ) : Type 0 where
  pub answered : Answered (simulated_answer (full_answer n l change entry)) number words
  pub bytes_are : exit ≡ full_buffer n l change entry

-- the forward method's number, words and lent bytes
pub record ForwardedOf (n l : List ℕ) (change : ℕ) (entry exit : List ℕ) (number : ℕ) (words : List ℕ) : Type 0 where
  pub answered : Answered (forwarded_answer (forward_answer n l change entry)) number words
  pub bytes_are : exit ≡ forward_buffer n l change entry

-- a method's number, words and lent bytes for all changes of a list
pub record AllJudged (m : Method) (n l : List ℕ) (entry exit : List ℕ) (number : ℕ) (words : List ℕ) : Type 0 where
  pub answered : Answered (judged_answer (all_answer m n l entry)) number words
  pub bytes_are : exit ≡ all_buffer m n l entry
