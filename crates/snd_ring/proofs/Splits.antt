-- The two lent lists as marks, rows and room: what a write to the records leaves of each, and that nothing is lost. Assumes nothing.
use mathlib.Core.Path.{◌≡◌, refl, sym, ap, ◌∙◌}
use Prim.Native.Nat.{ℕ, ◌+◌, ◌-◌, ◌*◌, ◌/◌, ◌≤◌, ◌<◌}
use native.Mathlib.Omega.{arith}
use native.Mathlib.Nat.{div-le_self, div-mul-le_self, mul-add, mul-one, suc-mul, mul-le-mul_right}
use mathlib.Core.List.{List, [], ◌++◌, append-nil}
use lib.ListN.{length, get_or, set, take, drop, length-append, length-drop, length-set, take-append-drop, drop_of_length-le}
use lib.Seq.{length-take-le, take_at, drop_at, take-set-lt, drop-set-lt, take-set-le, drop-set-add, get_or-drop, get_or-take}
use borrow.Author.Rules.{part_to_end}
use Rattle.ring.specs.Lists.{Lists, lists}
use Rattle.ring.specs.Places.{place}
use Rattle.ring.specs.Records.{put_slot, number_at}
use Rattle.ring.proofs.Rows.{put_one, put_slot-length, row_in}
use Rattle.snd_ring.specs.Store.{Store, store, store_of, Sized}
use Rattle.snd_ring.specs.Steps.{with_marks, renumbered, written}

-- ---- how long each is

module _ (w : ℕ) (m : Lists) where
  pub marks-length : length (store_of w m).marks ≡ length m.records / (w + 1)
  unfolding store_of
  marks-length = length-take-le (length m.records / (w + 1)) m.records (div-le_self (length m.records) (w + 1))

  pub rows-length : length (store_of w m).rows ≡ length m.records - length m.records / (w + 1)
  unfolding store_of
  rows-length = length-drop (length m.records / (w + 1)) m.records

  pub store-room : (store_of w m).room ≡ m.room
  unfolding store_of
  store-room = refl

  -- nothing is lost
  pub store-records : (store_of w m).marks ++ (store_of w m).rows ≡ m.records
  unfolding store_of
  store-records = take-append-drop (length m.records / (w + 1)) m.records

  -- a place that was found by the number of slots
  pub place_by : (n s i q : ℕ) → n ≡ length m.records / (w + 1) → q ≡ place n s i → q ≡ place (length (store_of w m).marks) s i
  place_by n s i q e p = p ∙ ap (λ (n : ℕ). place n s i) (e ∙ sym marks-length)

pub store_one : (w : ℕ) (a b : Lists) → store_of w a ≡ store_of w b → a ≡ b
store_one w a b e =
    let r : a.records ≡ b.records = sym (store-records w a) ∙ ap (λ (m : Store). m.marks ++ m.rows) e ∙ store-records w b in
    let y : a.room ≡ b.room = sym (store-room w a) ∙ ap (λ (m : Store). m.room) e ∙ store-room w b in
    rw (r, y) refl

-- every row is within the records, however long they are
pub row_within : (w n q : ℕ) → q < n / (w + 1) → n / (w + 1) + (q * w + w) ≤ n
row_within w n q h =
    let a = rw (mul-add, mul-one) at (div-mul-le_self n (w + 1)) in
    let b = rw suc-mul at (mul-le-mul_right w h) in
    omega arith

-- and every slot within the room
pub room_within : (w : ℕ) (m : Lists) → Sized w (store_of w m) → (q : ℕ) → q < length m.records / (w + 1) → q * 1476 + 1476 ≤ length m.room
unfolding store_of
room_within w m z q h = row_in 1476 q (length (store_of w m).marks) m.room z.room-size (rw (marks-length w m) h)

-- as many slots are as many numbers and bytes
pub same-lengths : (w : ℕ) (a b : Lists) → Sized w (store_of w a) → Sized w (store_of w b) → length (store_of w a).marks ≡ length (store_of w b).marks
    → (length a.records ≡ length b.records) × (length a.room ≡ length b.room)
unfolding store_of
same-lengths w a b x y e =
    let f = ap (λ (n : ℕ). n * w) e in
    let g = rw length-append at (ap length (store-records w a)) in
    let h = rw length-append at (ap length (store-records w b)) in
    let i = x.rows-size in
    let j = y.rows-size in
    (omega arith, x.room-size ∙ ap (λ (n : ℕ). n * 1476) e ∙ sym y.room-size)

-- ---- one number is written

module _ (w : ℕ) (a b : List ℕ) (q k : ℕ) (h : q < length a / (w + 1)) where
  -- a mark
  pub store-mark : store_of w (lists (set a q k) b) ≡ with_marks (store_of w (lists a b)) (set (store_of w (lists a b)).marks q k)
  unfolding store_of
  store-mark = rw (length-set, take-set-lt (length a / (w + 1)) a q k h, drop-set-lt (length a / (w + 1)) a q k h)

  -- which is read
  pub mark-read : get_or a q 0 ≡ get_or (store_of w (lists a b)).marks q 0
  unfolding store_of
  mark-read = sym (get_or-take (length a / (w + 1)) a q 0 h)

-- number k of row q
module _ (w : ℕ) (a b : List ℕ) (q k : ℕ) (h : q < length a / (w + 1)) (d : k < w) where
  at_row : length a / (w + 1) + q * w + k ≡ length a / (w + 1) + (q * w + k)
  at_row = omega arith

  pub store-number : (x : ℕ) → store_of w (lists (set a (length a / (w + 1) + q * w + k) x) b) ≡ renumbered w (store_of w (lists a b)) q k x
  unfolding store_of
  store-number x =
      let n = row_within w (length a) q h in
      let i : q * w + k < length (drop (length a / (w + 1)) a) = rw length-drop (omega arith) in
      rw (
        at_row,
        length-set,
        take-set-le (length a / (w + 1)) a (length a / (w + 1) + (q * w + k)) x (omega arith),
        drop-set-add (length a / (w + 1)) a (q * w + k) x,
        put_one (drop (length a / (w + 1)) a) (q * w + k) x i,
      )

  pub number_read : get_or a (length a / (w + 1) + q * w + k) 0 ≡ number_at w (store_of w (lists a b)).rows q k
  unfolding store_of
  number_read = rw (at_row, get_or-drop)

-- ---- the marks are lent; the part behind them is lent, and y comes back

module _ (w : ℕ) (a b : List ℕ) (n : ℕ) (e : n ≡ length a / (w + 1)) where
  pub part-marks : take (n - 0) (drop 0 a) ≡ (store_of w (lists a b)).marks
  unfolding store_of
  part-marks = let z : n - 0 ≡ n = omega arith in rw (z, e)

  pub part-rows : take (length a - n) (drop n a) ≡ (store_of w (lists a b)).rows
  unfolding store_of
  part-rows = rw (e, part_to_end)

  module _ (y : List ℕ) (k : length y ≡ length (store_of w (lists a b)).rows) where
    abbrev back : List ℕ
    back = take n a ++ (y ++ drop (length a - n) (drop n a))

    front : length (take n a) ≡ n
    front = let s = div-le_self (length a) (w + 1) in length-take-le n a (omega arith)

    nothing_more : back ≡ take n a ++ y
    nothing_more =
        let z : drop (length a - n) (drop n a) ≡ [] = drop_of_length-le (drop n a) {i = length a - n} (rw length-drop (omega arith)) in
        rw (z, append-nil)

    pub back-length : length back ≡ length a
    back-length =
        let s = div-le_self (length a) (w + 1) in
        let r = rows-length w (lists a b) in
        rw (nothing_more, length-append, front) (omega arith)

    pub store-part : store_of w (lists back b) ≡ store (store_of w (lists a b)).marks y b
    unfolding store_of
    store-part = rw (back-length, ← e, nothing_more, take_at (take n a) y n front, drop_at (take n a) y n front)

-- ---- a slot is written: its row by way of that part, its mark, and its bytes

pub written_by : (w : ℕ) (a c : List ℕ) (n q k : ℕ) (x y : List ℕ) {r d : List ℕ} → n ≡ length a / (w + 1) → q < n → length x ≡ w
    → r ≡ put_slot w (take (length a - n) (drop n a)) q 0 x → d ≡ put_slot 1476 c q 0 y
    → store_of w (lists (set (take n a ++ (r ++ drop (length a - n) (drop n a))) q k) d) ≡ written w (store_of w (lists a c)) q k x y
unfolding written store_of
written_by w a c n q k x y {r} {d} e h whole f g =
    let u = rw (part-rows w a d n e) at f in
    let v : q * w + w ≤ length (store_of w (lists a d)).rows = let b = row_within w (length a) q (omega arith) in let l = rows-length w (lists a d) in omega arith in
    let s = ap length u ∙ put_slot-length w (store_of w (lists a d)).rows q 0 x (omega arith) v in
    let l = back-length w a d n e r s in
    store-mark w (take n a ++ (r ++ drop (length a - n) (drop n a))) d q k (rw l (omega arith))
    ∙ ap (λ (m : Store). with_marks m (set m.marks q k)) (store-part w a d n e r s)
    ∙ rw (u, g)

-- ---- for the answers that the check finds

pub ruleset lengths = (marks-length)

pub ruleset numbers = (store-number)
