-- The law between a send's memory function and its rule: what is seen in the memory afterwards is the rule's outcome of what was seen before.
-- Assumes nothing.
use Prim.Native.Nat.{ℕ, zero, suc, ◌+◌, ◌-◌, ◌*◌, ◌≤◌, ◌<◌}
use native.Mathlib.Omega.{arith}
use native.Mathlib.Decide.{dec_lt}
use mathlib.Core.Path.{◌≡◌, refl, sym, ap, ◌∙◌}
use mathlib.Core.Bool.{Bool, true, false}
use mathlib.Core.List.{List, [], ◌∷◌, ◌++◌, map}
use lib.ListN.{length, take, drop, get_or, set, length-map, get_or-map}
use Rattle.serial.specs.Branch.{pick}
use Rattle.ring.proofs.Rows.{part_length}
use Rattle.ring.proofs.Places.{place_in}
use Rattle.ring.proofs.Sequences.{map_append}
use Rattle.snd_ring.specs.Store.{Store, Stored, segment, waiting_of, Sound}
use Rattle.snd_ring.specs.Steps.{last_place}
use Rattle.snd_ring.proofs.Views.{segment_at, in_rows, in-room, waiting-length, waiting_at}
use Rattle.snd_ring.proofs.Fills.{fill-flight, fill-waiting}
use Rattle.block.specs.declared.sender.Sender.{Sender}
use Rattle.block.specs.Parts.{with_snd_ring}
use Rattle.sending.specs.Rules.{Segment}
use Rattle.sending.specs.Send.{fills, joins, pieces, needed, verdict, waits, cut, last_of, last_size, topped, with_waiting, filled, queued, left_by, send}
use Rattle.transmit.specs.Memory.{segment_of, seen, Side, frg}
use Rattle.send.specs.Memory.{last_length, joining, new, filled_at, sent_at, send_at}
use Rattle.send.proofs.Numbers.{fills-zero, joins_none, verdict_big, verdict-full, verdict-fits}
use Rattle.send.proofs.Spaces.{spaced-waiting}
use Rattle.send.proofs.Queues.{stored_of}
use Rattle.send.proofs.Steps.{fill-needs}
use Rattle.send.proofs.Sends.{free, joined, longer, pieces_of, filled_keeps, sent-behind, sent-keeps, send_by}

module _ {A B : Type 0} (f : A → B) where
  map-set : (l : List A) (i : ℕ) (x : A) → map f (set l i x) ≡ set (map f l) i (f x)
  map-set [] i x = refl
  map-set (y ∷ l) zero x = refl
  map-set (y ∷ l) (suc i) x = ap (λ (r : List B). f y ∷ r) (map-set l i x)

-- ---- what the decisions go by is the same of the memory and of what is seen in it

module _ (s : Sender) (m : Store) (o : Sound 8 s.ring m) where
  abbrev queue : List Stored
  queue = waiting_of 8 s.ring m

  abbrev end : ℕ
  end = s.ring.unsent - 1

  pub seen-waiting : length (seen s m).waiting ≡ s.ring.unsent
  unfolding seen
  seen-waiting = length-map queue segment_of ∙ waiting-length 8 s.ring m o

  last-of : last_of (seen s m).waiting ≡ segment_of (get_or queue end (segment [] []))
  unfolding last_of seen
  last-of = ap (λ (k : ℕ). get_or (map segment_of queue) (k - 1) (waits 0 [])) seen-waiting ∙ get_or-map segment_of queue end (segment [] [])

  module _ (some : 0 < s.ring.unsent) where
    abbrev q : ℕ
    q = last_place s.ring m.marks

    within : q < length m.marks
    within = let n = o.shaped.many in place_in (length m.marks) s.ring.start _ o.shaped.inside (omega arith)

    last-stands : get_or queue end (segment [] []) ≡ segment_at 8 m q
    last-stands =
        let e : s.ring.reach + end ≡ s.ring.reach + s.ring.unsent - 1 = omega arith in
        waiting_at 8 s.ring m end o (omega arith) (segment [] []) ∙ rw e

    last_row : length (get_or queue end (segment [] [])).row ≡ 8
    last_row = let h = in_rows 8 m o.shaped.sized q within in rw last-stands (part_length m.rows (q * 8 + 0) 8 (omega arith))

    pub seen_last : last_size (seen s m).waiting ≡ last_length s.ring m
    unfolding last_length
    seen_last =
        let h = in-room 8 m o.shaped.sized q within in
        let f = o.marked.fit (s.ring.reach + s.ring.unsent - 1) (omega arith) in
        rw (last-of, last-stands) (part_length m.room (q * 1476 + 0) _ (omega arith))

  -- where nothing waits the last one does not matter
  agrees : {A : Type 0} (f : ℕ → ℕ → A) → ((a b : ℕ) → f 0 a ≡ f 0 b) → f (length (seen s m).waiting) (last_size (seen s m).waiting) ≡ f s.ring.unsent (last_length s.ring m)
  agrees f z = ap (λ (k : ℕ). f k (last_size (seen s m).waiting)) seen-waiting ∙ go (dec_lt 0 s.ring.unsent)
    where
      same : (k a b : ℕ) → k ≡ 0 → f k a ≡ f k b
      same k a b e = rw e (z a b)

      go : Dec (0 < s.ring.unsent) → f s.ring.unsent (last_size (seen s m).waiting) ≡ f s.ring.unsent (last_length s.ring m)
      go (yes h) = ap (f s.ring.unsent) (seen_last h)
      go (no h) = same s.ring.unsent (last_size (seen s m).waiting) (last_length s.ring m) (omega arith)

joins-zero : (mss : ℕ) (stream : Bool) (a b n : ℕ) → joins mss stream 0 a n ≡ joins mss stream 0 b n
joins-zero mss stream a b n = joins_none mss stream 0 a n (fills-zero mss stream a) ∙ sym (joins_none mss stream 0 b n (fills-zero mss stream b))

needed-zero : (mss : ℕ) (stream : Bool) (a b n : ℕ) → needed mss stream 0 a n ≡ needed mss stream 0 b n
unfolding needed
needed-zero mss stream a b n = ap (λ (j : ℕ). pieces mss stream (n - j)) (joins-zero mss stream a b n)

-- ---- the fill and the new segments

-- frg is number 1 of a row
topped_is : (y k b : List ℕ) → 2 ≤ length k → segment_of (segment (set k frg 0) (b ++ y)) ≡ topped y (segment_of (segment k b))
topped_is y [] b h = absurd (omega arith)
topped_is y (a ∷ []) b h = absurd (omega arith)
topped_is y (a ∷ c ∷ k) b h = refl

-- a row as `cut` makes it is seen as the segment that it was made of
cut-seen : (mss : ℕ) (stream : Bool) (count : ℕ) (bytes : List ℕ) → map segment_of (map stored_of (cut mss stream count bytes)) ≡ cut mss stream count bytes
unfolding cut
cut-seen mss stream zero bytes = refl
cut-seen mss stream (suc count) bytes =
    ap (λ (l : List Segment). waits (pick stream 0 count) (take mss bytes) ∷ l) (cut-seen mss stream count (drop mss bytes))

module _ (mss : ℕ) (stream : Bool) (bytes : List ℕ) (s : Sender) (m : Store) (o : Sound 8 s.ring m) (small : mss ≤ 1476) where
  seen-fills : fills mss stream (length (seen s m).waiting) (last_size (seen s m).waiting) ≡ fills mss stream s.ring.unsent (last_length s.ring m)
  seen-fills = agrees s m o (fills mss stream) (λ a b. fills-zero mss stream a ∙ sym (fills-zero mss stream b))

  seen-joins : joins mss stream (length (seen s m).waiting) (last_size (seen s m).waiting) (length bytes) ≡ joining mss stream bytes s m
  seen-joins = agrees s m o (λ (q l : ℕ). joins mss stream q l (length bytes)) (λ a b. joins-zero mss stream a b (length bytes))

  pub seen-new : needed mss stream (length (seen s m).waiting) (last_size (seen s m).waiting) (length bytes) ≡ new mss stream bytes s m
  seen-new = agrees s m o (λ (q l : ℕ). needed mss stream q l (length bytes)) (λ a b. needed-zero mss stream a b (length bytes))

  longer-seen : fills mss stream s.ring.unsent (last_length s.ring m) ≡ true
      → seen s (longer mss stream bytes s m) ≡ with_waiting (seen s m) (set (seen s m).waiting (s.ring.unsent - 1) (topped (joined mss stream bytes s m) (segment_of (get_or (waiting_of 8 s.ring m) (s.ring.unsent - 1) (segment [] [])))))
  unfolding seen
  longer-seen e =
      let n = fill-needs mss stream bytes s m _ refl e o small (joining mss stream bytes s m) (omega arith) in
      let z = get_or (waiting_of 8 s.ring m) (s.ring.unsent - 1) (segment [] []) in
      let r = last_row s m o n.0 in
      rw (
        fill-flight 8 s.ring m o n.0 (joined mss stream bytes s m) n.1.1 frg 0 (omega arith),
        fill-waiting 8 s.ring m o n.0 (joined mss stream bytes s m) n.1.1 frg 0 (omega arith) (segment [] []),
        map-set segment_of (waiting_of 8 s.ring m) (s.ring.unsent - 1),
        topped_is (joined mss stream bytes s m) z.row z.payload (omega arith),
      )

  pub seen-filled : seen s (filled_at mss stream bytes s m) ≡ filled mss stream bytes (seen s m)
  unfolding filled_at filled pick
  seen-filled = go (fills mss stream s.ring.unsent (last_length s.ring m)) refl
    where
      go : (t : Bool) → fills mss stream s.ring.unsent (last_length s.ring m) ≡ t → seen s (pick t (longer mss stream bytes s m) m) ≡ filled mss stream bytes (seen s m)
      go true e = rw (seen-fills ∙ e, longer-seen e, seen-joins, seen-waiting s m o, last-of s m o)
      go false e = rw (seen-fills ∙ e)

  module _ (room : new mss stream bytes s m ≤ free s m) where
    abbrev after : Sender
    after = with_snd_ring s (sent_at mss stream bytes s m).ring

    sent-waiting : waiting_of 8 (sent_at mss stream bytes s m).ring (sent_at mss stream bytes s m).store
        ≡ waiting_of 8 s.ring (filled_at mss stream bytes s m) ++ map stored_of (pieces_of mss stream bytes s m)
    sent-waiting =
        (sent-behind mss stream bytes s m o small room).waiting
        ∙ rw (spaced-waiting (new mss stream bytes s m) s.ring (filled_at mss stream bytes s m) (filled_keeps mss stream bytes s m o small).sound)

    sent-shown : seen after (sent_at mss stream bytes s m).store
        ≡ with_waiting (seen s (filled_at mss stream bytes s m)) ((seen s (filled_at mss stream bytes s m)).waiting ++ pieces_of mss stream bytes s m)
    unfolding seen
    sent-shown =
        rw (
          (sent-keeps mss stream bytes s m o small room).flight,
          (filled_keeps mss stream bytes s m o small).flight,
          sent-waiting,
          map_append segment_of (waiting_of 8 s.ring (filled_at mss stream bytes s m)),
          cut-seen mss stream (new mss stream bytes s m),
        )

    pub seen-sent : seen after (sent_at mss stream bytes s m).store ≡ queued mss stream bytes (seen s m)
    unfolding queued
    seen-sent = sent-shown ∙ rw (seen-filled, seen-new, seen-joins)

  -- ---- send

  pub seen-send : seen (send_at mss stream bytes s m).sender (send_at mss stream bytes s m).store
      ≡ send mss stream bytes (seen s m) (length m.marks - (s.ring.flying + s.ring.unsent))
  unfolding send left_by
  seen-send =
      let n = new mss stream bytes s m in
      let f = free s m in
      rw seen-new
      (send_by mss stream bytes s m
      (λ (y : Side). seen y.sender y.store ≡ left_by mss stream bytes (seen s m) (verdict (new mss stream bytes s m) (free s m)))
      (λ h. rw (verdict_big n f h) seen-filled)
      (λ h k. rw (verdict-full n f h k))
      (λ h k. rw (verdict-fits n f h k) (seen-sent k)))
