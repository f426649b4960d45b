-- What a send does by cases, what it keeps, and what the code asks and leaves. Assumes nothing.
use Rattle.std.specs.Prelude.{Ok, Err}
use Prim.Native.Nat.{ℕ, ◌+◌, ◌-◌, ◌/◌, ◌≤◌, ◌<◌}
use native.Mathlib.Omega.{arith}
use mathlib.Core.Path.{◌≡◌, refl, sym, ap, ◌∙◌, subst}
use mathlib.Core.Bool.{Bool, true, false}
use mathlib.Core.List.{List}
use lib.ListN.{length, take, drop, length-set}
use Rattle.serial.specs.Branch.{pick}
use Rattle.ring.specs.Lists.{lists}
use Rattle.ring.proofs.Places.{by_less}
use Rattle.snd_ring.specs.declared.SndRing.{SndRing}
use Rattle.snd_ring.specs.Store.{Store, store_of, Shaped, Sound}
use Rattle.snd_ring.specs.Steps.{filled}
use Rattle.snd_ring.proofs.Splits.{marks-length}
use Rattle.snd_ring.proofs.Fills.{fill-flight, fill-sound}
use Rattle.block.specs.declared.sender.Sender.{Sender}
use Rattle.block.specs.declared.refusal.Refusal.TheVariants.{UserBufTooBig, SendPoolFull}
use Rattle.block.specs.Parts.{with_snd_ring}
use Rattle.sending.specs.Rules.{Segment}
use Rattle.sending.specs.Send.{fills, joins, needed, too_big, pool_full, fits, cut}
use Rattle.transmit.specs.Memory.{Side, side, frg}
use Rattle.send.specs.declared.Sent.{Sent}
use Rattle.send.specs.Memory.{Laid, laid, last_length, queued_at, spaced_at, joining, new, verdict_at, filled_at, sent_at, left_at, send_at, answer_at, SentAs}
use Rattle.send.proofs.Numbers.{joins-within, verdict_big, verdict-full, verdict-fits}
use Rattle.send.proofs.Spaces.{Keeps, keeps_same, keeps_on, spaced-keeps, spaced-unsent, spaced-room}
use Rattle.send.proofs.Queues.{Behind, queued-behind}
use Rattle.send.proofs.Steps.{fill-needs}

-- the free slots, gaps among them
abbrev pub free : Sender → Store → ℕ
free s m = length m.marks - (s.ring.flying + s.ring.unsent)

module _ (mss : ℕ) (stream : Bool) (bytes : List ℕ) (s : Sender) (m : Store) where
  -- the bytes that join the last queued segment, and the memory with them
  abbrev pub joined : List ℕ
  joined = take (joining mss stream bytes s m) bytes

  abbrev pub longer : Store
  longer = filled 8 s.ring m joined frg 0

  -- the new segments, and the ring and its memory that they are put in
  abbrev pub pieces_of : List Segment
  pieces_of = cut mss stream (new mss stream bytes s m) (drop (joining mss stream bytes s m) bytes)

  abbrev pub spaced : Laid
  spaced = spaced_at (new mss stream bytes s m) (laid s.ring (filled_at mss stream bytes s m))

  -- 8 leaves the fill, 12 leaves all, and else all is queued
  pub judged_big : 128 ≤ new mss stream bytes s m → verdict_at mss stream bytes s m ≡ too_big
  unfolding verdict_at
  judged_big h = verdict_big (new mss stream bytes s m) (free s m) h

  module _ (few : new mss stream bytes s m < 128) where
    pub judged-full : free s m < new mss stream bytes s m → verdict_at mss stream bytes s m ≡ pool_full
    unfolding verdict_at
    judged-full h = verdict-full (new mss stream bytes s m) (free s m) few h

    pub judged-fits : new mss stream bytes s m ≤ free s m → verdict_at mss stream bytes s m ≡ fits
    unfolding verdict_at
    judged-fits h = verdict-fits (new mss stream bytes s m) (free s m) few h

  -- by cases
  pub judged : {A : Type 0} → (128 ≤ new mss stream bytes s m → verdict_at mss stream bytes s m ≡ too_big → A)
      → (new mss stream bytes s m < 128 → free s m < new mss stream bytes s m → verdict_at mss stream bytes s m ≡ pool_full → A)
      → (new mss stream bytes s m < 128 → new mss stream bytes s m ≤ free s m → verdict_at mss stream bytes s m ≡ fits → A) → A
  judged big full all =
      by_less (new mss stream bytes s m) 128
      (λ h. by_less (free s m) (new mss stream bytes s m) (λ k. full h k (judged-full h k)) (λ k. all h k (judged-fits h k)))
      (λ h. big h (judged_big h))

  -- what holds of each of the three holds of a send
  pub send_by : (P : Side → Type 0) → (128 ≤ new mss stream bytes s m → P (side s (filled_at mss stream bytes s m)))
      → (new mss stream bytes s m < 128 → free s m < new mss stream bytes s m → P (side s m))
      → (new mss stream bytes s m < 128 → new mss stream bytes s m ≤ free s m → P (side (with_snd_ring s (sent_at mss stream bytes s m).ring) (sent_at mss stream bytes s m).store))
      → P (send_at mss stream bytes s m)
  unfolding send_at left_at
  send_by P big full all = judged (λ h v. rw v (big h)) (λ h k v. rw v (full h k)) (λ h k v. rw v (all h k))

module _ (mss : ℕ) (stream : Bool) (bytes : List ℕ) (s : Sender) (m : Store) (o : Sound 8 s.ring m) (small : mss ≤ 1476) where
  -- ---- the fill

  -- what holds of the memory as it is, and of the filled one
  filled_by : (P : Store → Type 0) → P m → (fills mss stream s.ring.unsent (last_length s.ring m) ≡ true → P (longer mss stream bytes s m)) → P (filled_at mss stream bytes s m)
  unfolding filled_at pick
  filled_by P a b = go (fills mss stream s.ring.unsent (last_length s.ring m)) refl
    where
      go : (t : Bool) → fills mss stream s.ring.unsent (last_length s.ring m) ≡ t → P (pick t (longer mss stream bytes s m) m)
      go true e = b e
      go false e = a

  longer-slots : length (longer mss stream bytes s m).marks ≡ length m.marks
  unfolding filled
  longer-slots = simp length-set

  pub filled_keeps : Keeps s.ring m (laid s.ring (filled_at mss stream bytes s m))
  filled_keeps =
      filled_by (λ (q : Store). Keeps s.ring m (laid s.ring q)) (keeps_same s.ring m o)
      (λ e.
      let n = fill-needs mss stream bytes s m _ refl e o small (joining mss stream bytes s m) (omega arith) in
      record {
        sound = fill-sound 8 s.ring m o n.0 (joined mss stream bytes s m) n.1.1 frg 0 (omega arith);
        slots = longer-slots;
        flight = fill-flight 8 s.ring m o n.0 (joined mss stream bytes s m) n.1.1 frg 0 (omega arith);
        flying = refl;
      })

  -- ---- and the new segments

  pub made-keeps : Keeps s.ring m (spaced mss stream bytes s m)
  made-keeps = keeps_on filled_keeps (spaced-keeps (new mss stream bytes s m) s.ring (filled_at mss stream bytes s m) filled_keeps.sound)

  module _ (room : new mss stream bytes s m ≤ free s m) where
    pub made-room : (spaced mss stream bytes s m).ring.reach + (spaced mss stream bytes s m).ring.unsent + new mss stream bytes s m ≤ length m.marks
    made-room =
        let e = filled_keeps.slots in
        let r = spaced-room (new mss stream bytes s m) s.ring (filled_at mss stream bytes s m) filled_keeps.sound (omega arith) in
        omega arith

    pub sent-behind : Behind (new mss stream bytes s m) (pieces_of mss stream bytes s m) (spaced mss stream bytes s m) (sent_at mss stream bytes s m)
    unfolding sent_at
    sent-behind =
        let e = made-keeps.slots in
        let r = made-room in
        queued-behind mss stream small (new mss stream bytes s m) (drop (joining mss stream bytes s m) bytes) (spaced mss stream bytes s m) made-keeps.sound (omega arith)

    pub sent-keeps : Keeps s.ring m (sent_at mss stream bytes s m)
    sent-keeps = keeps_on made-keeps sent-behind.keeps

    pub sent-unsent : (sent_at mss stream bytes s m).ring.unsent ≡ s.ring.unsent + new mss stream bytes s m
    sent-unsent =
        let a = sent-behind.more in
        let b = spaced-unsent (new mss stream bytes s m) s.ring (filled_at mss stream bytes s m) filled_keeps.sound in
        omega arith

-- ---- `send` on the lists a and b: the last queued segment has `last` bytes, and k new ones are needed

module _ (mss : ℕ) (stream : Bool) (bytes : List ℕ) (s : Sender) (a b : List ℕ) (o : Sound 8 s.ring (store_of 8 (lists a b))) (small : mss ≤ 1476)
    (last : ℕ) (l : (room : List ℕ) → last ≡ last_length s.ring (store_of 8 (lists a room))) (k : ℕ) (e : k ≡ needed mss stream s.ring.unsent last (length bytes)) where
  abbrev m : Store
  m = store_of 8 (lists a b)

  new_is : k ≡ new mss stream bytes s m
  new_is = e ∙ ap (λ (i : ℕ). needed mss stream s.ring.unsent i (length bytes)) (l b)

  pub sent_big : 128 ≤ k → (x : Sent) (m' : Store) → x ≡ record { sender = s; answer = Err UserBufTooBig } → m' ≡ filled_at mss stream bytes s m → SentAs mss stream bytes s m x m'
  unfolding send_at answer_at left_at
  sent_big h x m' d w =
      let v = judged_big mss stream bytes s m (rw new_is at h) in
      record { sends = rw (v, d, w); answers = rw (v, d) }

  -- of n slots u are in use
  module _ (few : k < 128) (n u : ℕ) (slots : n ≡ length a / 9) (used : u ≡ s.ring.flying + s.ring.unsent) where
    free_is : n - u ≡ free s m
    free_is = let h = marks-length 8 (lists a b) in omega arith

    pub sent-full : n - u < k → (x : Sent) → x ≡ record { sender = s; answer = Err SendPoolFull } → SentAs mss stream bytes s m x m
    unfolding send_at answer_at left_at
    sent-full h x d =
        let v = judged-full mss stream bytes s m (rw new_is at few) (rw (new_is, free_is) at h) in
        record { sends = rw (v, d); answers = rw (v, d) }

    -- all is queued, from byte `from` on: f is the filled memory, and the ring r in the lists a' and b' has room
    module _ (room : k ≤ n - u) (from : ℕ) (j : from ≡ joins mss stream s.ring.unsent last (length bytes)) (f : Store) (w : f ≡ filled_at mss stream bytes s m) where
      enough : new mss stream bytes s m ≤ free s m
      enough = rw (new_is, free_is) at room

      pub room-needs : Sound 8 s.ring f × (k ≤ 65535)
      room-needs = (rw w (filled_keeps mss stream bytes s m o small).sound, omega arith)

      module _ (r : SndRing) (a' b' : List ℕ) (y : laid r (store_of 8 (lists a' b')) ≡ spaced_at k (laid s.ring f)) where
        made_is : laid r (store_of 8 (lists a' b')) ≡ spaced mss stream bytes s m
        made_is = y ∙ rw (w, new_is)

        pub queue-needs : Shaped 8 r (store_of 8 (lists a' b')) × ((r.reach + r.unsent + k ≤ length a' / 9) × ((mss ≤ 1476) × (from ≤ length bytes)))
        queue-needs =
            let g : Keeps s.ring m (laid r (store_of 8 (lists a' b'))) = rw made_is (made-keeps mss stream bytes s m o small) in
            let h =
            subst (λ (x : Laid). x.ring.reach + x.ring.unsent + new mss stream bytes s m ≤ length m.marks) (sym made_is)
            (made-room mss stream bytes s m o small enough)
            in
            let n = marks-length 8 (lists a' b') in
            let d = g.slots in
            let i = new_is in
            let q = joins-within mss stream s.ring.unsent last (length bytes) in
            (g.sound.shaped, (omega arith, (small, omega arith)))

        pub sent_all : (z : Laid) → z ≡ queued_at (cut mss stream k (drop from bytes)) (laid r (store_of 8 (lists a' b'))) → (s' : Sender) → s' ≡ with_snd_ring s z.ring
            → SentAs mss stream bytes s m (record { sender = s'; answer = Ok (length bytes) }) z.store
        unfolding send_at answer_at left_at sent_at
        sent_all z g s' d =
            let v = judged-fits mss stream bytes s m (rw new_is at few) enough in
            record { sends = rw (v, d, g, made_is, j, l b, new_is); answers = rw v }
