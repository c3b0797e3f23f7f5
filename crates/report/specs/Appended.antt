-- What the code that makes a text does: each function appends its part to a text in a lent buffer.
use Rattle.std.specs.Prelude.{◌≡◌, List, ◌++◌, ℕ, ◌+◌, ◌≤◌, length, take, drop}
use Rattle.report.specs.declared.Text.{Text}

-- the buffer has room for more bytes
pub record Fits (text : Text) (more : List ℕ) : Type 0 where
  pub room : text.written + length more ≤ length text.bytes.now

-- They follow the text in its buffer, and the bytes after them are as they were.
pub record Appended (entry exit : Text) (more : List ℕ) : Type 0 where
  pub same_buffer : exit.bytes.ghost_name ≡ entry.bytes.ghost_name
  pub room : entry.written + length more ≤ length entry.bytes.now
  pub written : exit.written ≡ entry.written + length more
  pub bytes : exit.bytes.now ≡ take entry.written entry.bytes.now ++ more ++ drop (entry.written + length more) entry.bytes.now
