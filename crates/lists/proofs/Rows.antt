-- The rows of the changes in a buffer, from one change to the next. Assumes nothing.
use Rattle.std.proofs.Common.{◌≡◌, ℕ, zero, suc, ◌+◌, ◌-◌, ◌*◌, ◌<◌, ◌≤◌, List, ◌++◌, length, take, drop, sym, ap, ◌∙◌, ap₂, append_assoc, append-nil, mul-le-mul_right, suc-mul, zero-mul, add-one, arith, length-append, length-drop, drop_of_length-le, length-take-le, take_all, drop-drop, take_at, drop_at}
use borrow.Rule.Slice.PartMut.{put_mid}
use Rattle.lists.specs.Methods.{rows, Method}
use Rattle.lists.specs.Lent.{rowed, Judges}

-- each row of a method has w bytes
pub record Regular (m : Method) (w : ℕ) : Type 0 where
  pub wide : w ≡ m.width
  pub each : (t : ℕ) → length (m.row t) ≡ w

-- what each loop keeps: the rows of the first c of T changes stand at the buffer's start
pub record Begun (m : Method) (T c : ℕ) (entry now : List ℕ) : Type 0 where
  pub few : c ≤ T
  pub bytes : now ≡ rowed m c entry

-- the part of a buffer from a place on
pub lent_room : (at w : ℕ) (now : List ℕ) → at + w ≤ length now → w ≤ length (take (length now - at) (drop at now))
lent_room at w now h = omega (arith, length-drop at now, length-take-le (length now - at) (drop at now) (omega (arith, length-drop at now)))

module _ {m : Method} {w : ℕ} (r : Regular m w) where
  pub rows_length : (n : ℕ) → length (rows m.row n) ≡ n * w
  unfolding rows
  rows_length zero = sym (zero-mul w)
  rows_length (suc n) = length-append (rows m.row n) (m.row n) ∙ omega (arith, rows_length n, r.each n, suc-mul n w)

  pub begun_none : (T : ℕ) (b : List ℕ) → Begun m T 0 b b
  unfolding rows
  begun_none T b = record { few = omega arith; bytes = rw zero-mul }

  rowed_is : (c : ℕ) (b : List ℕ) → rowed m c b ≡ rows m.row c ++ drop (c * w) b
  rowed_is c b = ap (λ w. rows m.row c ++ drop (c * w) b) (sym r.wide)

  module _ {T c : ℕ} {b now : List ℕ} (enough : T * w ≤ length b) (s : Begun m T c b now) where
    -- the rows so far leave the buffer its length
    pub kept : length now ≡ length b
    kept =
        ap length (s.bytes ∙ rowed_is c b) ∙ length-append (rows m.row c) (drop (c * w) b)
        ∙ omega (arith, rows_length c, length-drop (c * w) b, mul-le-mul_right {m = c} {n = T} w s.few)

    -- after the last change they are all that the method has to say
    pub judges : T ≤ c → (first second : ℕ) → first ≡ m.first c → second ≡ m.second c
        → Judges m T b now (record { changes = T; width = w; first = first; second = second })
    judges last first second f g =
        let few = s.few in
        let e : c ≡ T = omega arith in
        record {
          answer = λ i. record { changes = T; width = r.wide i; first = (f ∙ ap m.first e) i; second = (g ∙ ap m.second e) i };
          bytes = rw e at s.bytes;
        }

    module _ (early : c < T) where
      -- there is room for the next
      pub room : c * w + w ≤ length now
      room = omega (arith, kept, suc-mul c w, mul-le-mul_right {m = suc c} {n = T} w early)

      -- so in the part from its place on
      pub row_room : w ≤ length (take (length now - c * w) (drop (c * w) now))
      row_room = lent_room (c * w) w now room

      -- one row more, written into that part
      pub begun_next : (exit : List ℕ) → exit ≡ m.row c ++ drop w (take (length now - c * w) (drop (c * w) now))
          → Begun m T (c + 1) b (put_mid (c * w) (length now - c * w) now exit)
      unfolding rows
      begun_next exit x =
          let rest = drop (c * w) now in
          let e = s.bytes in
          let long : length rest ≡ length now - c * w = length-drop (c * w) now in
          let before : take (c * w) now ≡ rows m.row c = ap (take (c * w)) (e ∙ rowed_is c b) ∙ take_at (rows m.row c) _ (c * w) (rows_length c) in
          let behind : rest ≡ drop (c * w) b = ap (drop (c * w)) (e ∙ rowed_is c b) ∙ drop_at (rows m.row c) _ (c * w) (rows_length c) in
          let more : suc c * w ≡ c * w + w = suc-mul c w in
          let lent : exit ≡ m.row c ++ drop (suc c * w) b =
          x ∙ ap (λ k. m.row c ++ drop w k) (take_all (length now - c * w) rest (omega (arith, long)) ∙ behind)
          ∙ ap (λ k. m.row c ++ k) (drop-drop w (c * w) b ∙ ap (λ k. drop k b) (sym more))
          in
          record {
            few = omega (arith, early);
            bytes =
                ap₂ ◌++◌ before (ap₂ ◌++◌ lent (drop_of_length-le rest {i = length now - c * w} (omega (arith, long))) ∙ append-nil _)
                ∙ sym (append_assoc (rows m.row c) (m.row c) (drop (suc c * w) b))
                ∙ rw add-one (sym (rowed_is (suc c) b));
          }
