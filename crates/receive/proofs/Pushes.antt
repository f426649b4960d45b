-- What a push leaves, by whether it is acknowledged, whether the ack list is full, and whether it lies in the window. Assumes nothing.
use Prim.Native.Nat.{ℕ, ◌+◌, ◌≤◌, ◌<◌}
use mathlib.Core.Path.{◌≡◌, refl, sym, ap, ◌∙◌}
use mathlib.Core.Bool.{Bool, true, false, not, ◌&&◌}
use mathlib.Core.List.{List, [], ◌∷◌}
use lib.ListN.{length}
use Rattle.serial.specs.Branch.{pick_true, pick-false}
use Rattle.serial.specs.Window.{in_window, acknowledged}
use Rattle.ring.specs.Lists.{Lists}
use Rattle.ring.specs.Records.{put_slot}
use Rattle.rcv_ring.specs.declared.RcvRing.{RcvRing}
use Rattle.rcv_ring.specs.Moves.{stored_at}
use Rattle.rcv_ring.specs.Moves as ring
use Rattle.rcv_ring.specs.Views.{held_at}
use Rattle.rcv_ring.proofs.Keeps.{store-sound}
use Rattle.block.specs.declared.receiver.Receiver.{Receiver}
use Rattle.block.specs.declared.acklist.AckList.{AckList}
use Rattle.block.specs.Parts.{with_rcv_ring}
use Rattle.receiving.specs.Rules.{Segment, skipped, listed, reached}
use Rattle.receiving.proofs.Laws.{or_left}
use Rattle.receive.specs.Memory.{side, move_buf_at, distance_of, stored_in, moved_at, push_at, full_at, acks_at, list_at, skips_at, PushedAs}
use Rattle.receive.specs.Fits.{Lies, Good}
use Rattle.receive.proofs.Seen.{slot_in}
use Rattle.receive.proofs.Exact.{sound-lies}

-- ---- `parse_data`: at the distance d its number is held, by the test t, or it is stored there

module _ (r : Receiver) (l : Lists) (s : Segment) (d : ℕ) (is : d ≡ distance_of r s) (t : Bool) (test : t ≡ held_at r.ring l.records d) where
  by_test : (b : Bool) → t ≡ b → held_at r.ring l.records (distance_of r s) ≡ b
  by_test b e = ap (held_at r.ring l.records) (sym is) ∙ sym test ∙ e

  pub data-held : t ≡ true → (r' : Receiver) → r' ≡ move_buf_at r l.records → side r' l ≡ moved_at (stored_in r l s)
  unfolding moved_at stored_in
  data-held e r' q = ap (λ (x : Receiver). side x l) q ∙ ap moved_at (sym (pick_true _ _ (by_test true e)))

  module _ (g : RcvRing) (w : Receiver) (l' : Lists) (x : g ≡ ring.reached r.ring d) (y : w ≡ with_rcv_ring r r.rcv_nxt g) (z : l' ≡ stored_at r.ring l d s.frg s.payload) where
    pub new-lies : Good r l → in_window r.rcv_nxt r.rcv_wnd s.sn ≡ true → s.frg < 65536 → length s.payload ≤ 1476 → Lies w l'.records
    new-lies good inside low fit = rw (y, x, z, is) (sound-lies (store-sound r.ring l good.sound (distance_of r s) s.frg s.payload (slot_in good s.sn inside) low fit))

    pub data-new : t ≡ false → (r' : Receiver) → r' ≡ move_buf_at w l'.records → side r' l' ≡ moved_at (stored_in r l s)
    unfolding moved_at stored_in
    data-new e r' q = ap (λ (x : Receiver). side x l') q ∙ ap moved_at (rw (y, x, z, is) (sym (pick-false _ _ (by_test false e))))

-- ---- `push`

module _ (r : Receiver) (a : AckList) (l : Lists) (list : List ℕ) (s : Segment) (ts : ℕ) where
  abbrev acked : Bool
  acked = acknowledged r.rcv_nxt r.rcv_wnd s.sn

  abbrev inside : Bool
  inside = in_window r.rcv_nxt r.rcv_wnd s.sn

  abbrev full : Bool
  full = full_at a.acks list

  -- whether it is skipped and whether it joins the list, by the two tests, and with a third whether it is stored
  module _ {b f : Bool} (e : acked ≡ b) (g : full ≡ f) where
    skips_by : skipped full r.rcv_nxt r.rcv_wnd s ≡ (b && f)
    unfolding skipped
    skips_by = rw (e, g)

    lists_by : listed full r.rcv_nxt r.rcv_wnd s ≡ (b && not (b && f))
    unfolding listed
    lists_by = rw (e, skips_by)

    reach_by : {i : Bool} → inside ≡ i → reached full r.rcv_nxt r.rcv_wnd s ≡ (i && not (b && f))
    unfolding reached
    reach_by h = rw (h, skips_by)

  -- it joins no list
  module _ (h : listed full r.rcv_nxt r.rcv_wnd s ≡ false) where
    same_count : a ≡ record { acks = acks_at full r s a.acks; waiting = a.waiting }
    unfolding acks_at
    same_count = rw (pick-false (a.acks + 1) a.acks h)

    same-list : list ≡ list_at full r s ts a.acks list
    unfolding list_at
    same-list = sym (pick-false _ _ h)

  -- not acknowledged, and so not in the window either: all as it was
  pub pushed_none : acked ≡ false → PushedAs r a l list s ts (record { receiver = r; acklist = a; skipped = 0 }) l list
  unfolding push_at skips_at
  pushed_none e =
      let j = lists_by e refl in
      record { receives = sym (pick-false _ _ (reach_by e refl (or_left inside _ e))); counts = same_count j; lists = same-list j; skips = sym (pick-false _ _ (skips_by e refl)) }

  -- acknowledged with a full list: skipped
  pub pushed-skipped : acked ≡ true → full ≡ true → PushedAs r a l list s ts (record { receiver = r; acklist = a; skipped = 1 }) l list
  unfolding push_at skips_at
  pushed-skipped e g =
      let j = lists_by e g in
      record { receives = sym (pick-false _ _ (reach_by e g refl ∙ neither inside)); counts = same_count j; lists = same-list j; skips = sym (pick_true _ _ (skips_by e g)) }
    where
      neither : (b : Bool) → (b && false) ≡ false
      neither true = refl
      neither false = refl

  -- acknowledged with room in the list
  module _ (e : acked ≡ true) (g : full ≡ false) (list' : List ℕ) (put : list' ≡ put_slot 2 list a.acks 0 (s.sn ∷ ts ∷ [])) where
    one_more : ◌≡◌ {A = AckList} (record { acks = a.acks + 1; waiting = a.waiting }) (record { acks = acks_at full r s a.acks; waiting = a.waiting })
    unfolding acks_at
    one_more = rw (pick_true (a.acks + 1) a.acks (lists_by e g))

    longer-list : list' ≡ list_at full r s ts a.acks list
    unfolding list_at
    longer-list = put ∙ sym (pick_true _ _ (lists_by e g))

    none-skipped : 0 ≡ skips_at full r s
    unfolding skips_at
    none-skipped = sym (pick-false _ _ (skips_by e g))

    -- from before the window: nothing is stored or moved
    pub pushed-old : inside ≡ false → PushedAs r a l list s ts (record { receiver = r; acklist = record { acks = a.acks + 1; waiting = a.waiting }; skipped = 0 }) l list'
    unfolding push_at
    pushed-old i = record { receives = sym (pick-false _ _ (reach_by e g i)); counts = one_more; lists = longer-list; skips = none-skipped }

    -- in the window
    pub pushed_in : inside ≡ true → (r' : Receiver) (l' : Lists) → side r' l' ≡ moved_at (stored_in r l s)
        → PushedAs r a l list s ts (record { receiver = r'; acklist = record { acks = a.acks + 1; waiting = a.waiting }; skipped = 0 }) l' list'
    unfolding push_at
    pushed_in i r' l' w = record { receives = w ∙ sym (pick_true _ _ (reach_by e g i)); counts = one_more; lists = longer-list; skips = none-skipped }
