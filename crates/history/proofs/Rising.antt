-- The numbers in flight rise in [snd_una, snd_nxt), which spans at most 65,535: una, acks, fastack, send and flush keep that, first over the rules and
-- then in the memory. Assumes nothing.
use Prim.Native.Nat.{ℕ, zero, suc, ◌+◌, ◌-◌, ◌≤◌, ◌<◌, ◌^◌, min}
use native.Mathlib.Omega.{arith}
use mathlib.Core.Path.{◌≡◌, refl, sym, ap, ◌∙◌, subst}
use mathlib.Core.Bool.{Bool, true, false, cond}
use mathlib.Core.List.{List, [], ◌∷◌, ◌++◌, map, map-append}
use lib.ListN.{length, take, drop, get_or, length-map}
use lib.Seq.{length-take-le}
use lib.Dec.{leb}
use borrow.Author.Tests.{leb-true}
use Rattle.serial.specs.Branch.{pick}
use Rattle.serial.specs.Wrap.{add32, sub32}
use Rattle.serial.specs.Window.{distance}
use Rattle.ring.specs.Places.{along}
use Rattle.ring.specs.Sequences.{removed}
use Rattle.snd_ring.specs.Store.{Store, Stored, flight_of, Sound}
use Rattle.snd_ring.specs.Store as memory
use Rattle.snd_ring.proofs.Views.{flight-length}
use Rattle.block.specs.declared.Kcp.{Kcp}
use Rattle.block.specs.declared.congestion.Congestion.{Congestion}
use Rattle.block.specs.declared.sender.Sender.{Sender}
use Rattle.receiving.specs.Rules.{Ordered}
use Rattle.receiving.proofs.Laws.{distance_self, ordered-length}
use Rattle.std.proofs.Common.{Option, Some, None}
use Rattle.sending.specs.declared.Ack.{Ack}
use Rattle.sending.specs.Rules.{Segment, Sending, numbers, acknowledged_by, una_of, seek, found, with_flying, shrunk, parse_una, parse_ack, in_range, raised, parse_fastack}
use Rattle.flushing.specs.declared.due.Record.{Record}
use Rattle.flushing.specs.declared.due.Pace.{Pace}
use Rattle.flushing.specs.declared.due.Due.{Due}
use Rattle.flushing.specs.declared.due.Due.TheVariants.{Idle, Fresh, TimedOut, Fast}
use Rattle.flushing.specs.Windows.{window_of, leaving, leaving_between}
use Rattle.flushing.specs.Due.{due_of, sent_as, flown_by}
use Rattle.flushing.specs.Pieces.{record_of, sent_out, numbered_from}
use Rattle.flushing.specs.Rules.{Outgoing, moved_out, window, pace, sent, flushed}
use Rattle.flushing.proofs.Leaving.{leaving_is, leaving-most}
use Rattle.transmit.specs.Memory.{sn, seen, flying_numbers, una_at, ack_at, fastack_at}
use Rattle.transmit.proofs.Numbers.{flying-numbers}
use Rattle.transmit.proofs.Seen.{seen-una, seen-ack, seen-fastack}
use Rattle.send.specs.Memory.{send_at}
use Rattle.send.proofs.Keep.{send-flight, send-beside}
use Rattle.output.specs.Memory.{outgoing, moved_at, flown_store, after_flush}
use Rattle.output.proofs.Found.{flush-seen}

-- the numbers l rise in [una, next), by their distance from una
pub record Rises (una next : ℕ) (l : List ℕ) : Type 0 where
  pub first : una < 2 ^ 32
  pub last : next < 2 ^ 32
  pub order : Ordered una 0 (distance una next) l
  pub near : distance una next ≤ 65535

-- ---- the order

-- of two numbers, the nearer one first
nearer : (una n x : ℕ) → una < 2 ^ 32 → n < 2 ^ 32 → x < 2 ^ 32 → distance una n ≤ distance una x → distance n x ≡ distance una x - distance una n
unfolding distance
nearer una n x u v w h = omega arith

-- numbers that rise behind n, by their distance from n
rebased : (una n : ℕ) → una < 2 ^ 32 → n < 2 ^ 32 → (lo hi : ℕ) (l : List ℕ) → distance una n ≤ lo → Ordered una lo hi l
    → Ordered n (lo - distance una n) (hi - distance una n) l
rebased una n u v lo hi [] h o = omega arith
rebased una n u v lo hi (x ∷ l) h o =
    let low = o.0 in
    let e = nearer una n x u v o.1 (omega arith) in
    let f : suc (distance una x) - distance una n ≡ suc (distance n x) = omega arith in
    (omega arith, o.1, subst (λ (i : ℕ). Ordered n i (hi - distance una n) l) f (rebased una n u v (suc (distance una x)) hi l (omega arith) o.2))

module _ (una hi : ℕ) where
  lower : (a b : ℕ) (l : List ℕ) → a ≤ b → Ordered una b hi l → Ordered una a hi l
  lower a b [] h o = omega arith
  lower a b (x ∷ l) h o = let low = o.0 in (omega arith, o.1, o.2)

  dropped : (lo k : ℕ) (l : List Segment) → Ordered una lo hi (numbers l) → Ordered una lo hi (numbers (drop k l))
  dropped lo zero l o = o
  dropped lo (suc k) [] o = o
  dropped lo (suc k) (s ∷ l) o =
      let low = o.0 in
      lower lo (suc (distance una s.sn)) (numbers (drop k l)) (omega arith) (dropped (suc (distance una s.sn)) k l o.2)

  without : (lo i : ℕ) (l : List Segment) → Ordered una lo hi (numbers l) → Ordered una lo hi (numbers (take i l ++ drop (suc i) l))
  without lo zero [] o = o
  without lo (suc i) [] o = o
  without lo zero (s ∷ l) o = dropped lo 1 (s ∷ l) o
  without lo (suc i) (s ∷ l) o = (o.0, o.1, without (suc (distance una s.sn)) i l o.2)

-- with snd_una set anew
renewed : (una next : ℕ) (l : List ℕ) → Rises una next l → Rises (una_of next l) next l
unfolding una_of
renewed una next [] r = let z = distance_self next r.last in record { first = r.last; last = r.last; order = omega arith; near = omega arith }
renewed una next (n ∷ l) r =
    let o = r.order in
    let v = o.1 in
    let long = ordered-length una (distance una next) (suc (distance una n)) l o.2 in
    let e : distance n next ≡ distance una next - distance una n = nearer una n next r.first v r.last (omega arith) in
    let z = distance_self n v in
    let f : suc (distance una n) - distance una n ≡ suc (distance n n) = omega arith in
    record {
      first = v;
      last = r.last;
      order = (
        omega arith,
        v,
        subst (λ (i : ℕ). Ordered n i (distance n next) l) f
            (subst (λ (hi : ℕ). Ordered n (suc (distance una n) - distance una n) hi l) (sym e)
            (rebased una n r.first v (suc (distance una n)) (distance una next) l (omega arith) o.2)),
      );
      near = let h = r.near in omega arith;
    }

-- ---- the rules

abbrev pub Risen : Sending → Type 0
Risen s = Rises s.una s.next (numbers s.flying)

shrunk_risen : (s : Sending) → Risen s → Risen (shrunk s)
unfolding shrunk
shrunk_risen s r = renewed s.una s.next (numbers s.flying) r

pub una_risen : (una : ℕ) (s : Sending) → Risen s → Risen (parse_una una s)
unfolding parse_una
una_risen una s r =
    shrunk_risen (with_flying s (drop (acknowledged_by una (numbers s.flying)) s.flying))
    (record { first = r.first; last = r.last; near = r.near; order = dropped s.una (distance s.una s.next) 0 (acknowledged_by una (numbers s.flying)) s.flying r.order })

pub ack_risen : (x : ℕ) (s : Sending) → Risen s → Risen (parse_ack x s)
unfolding parse_ack removed
ack_risen x s r = shrunk_risen _ (go (found s.una s.next x (numbers s.flying)))
  where
    go : (b : Bool) → Risen (cond b (with_flying s (removed s.flying (seek x (numbers s.flying)))) s)
    go true = record { first = r.first; last = r.last; near = r.near; order = without s.una (distance s.una s.next) 0 (seek x (numbers s.flying)) s.flying r.order }
    go false = r

same_numbers : (ack late : ℕ) (l : List Segment) → numbers (map (raised ack late) l) ≡ numbers l
same_numbers ack late [] = refl
same_numbers ack late (s ∷ l) = ap (λ (x : List ℕ). s.sn ∷ x) (same_numbers ack late l)

pub fastack_risen : (l : Option Ack) (s : Sending) → Risen s → Risen (parse_fastack l s)
unfolding parse_fastack
fastack_risen None s r = r
fastack_risen (Some l) s r = go (in_range s.una s.next l.sn)
  where
    go : (b : Bool) → Risen (cond b (with_flying s (map (raised l.sn l.ts) s.flying)) s)
    go true = subst (Rises s.una s.next) (sym (same_numbers l.sn l.ts s.flying)) r
    go false = r

-- ---- a flush

-- a flush goes by no wider a window than snd_wnd
pub window-within : (nocwnd : Bool) (c : Congestion) → window_of nocwnd c ≤ c.snd_wnd
unfolding window_of pick
window-within true c = omega arith
window-within false c = omega arith

-- as many leave the queue as the window lets: the numbers given out do not pass it
leaving-near : (una next window waiting : ℕ) → una < 2 ^ 32 → next < 2 ^ 32 → window ≤ 65535 → distance una next ≤ 65535
    → distance una next + leaving (add32 una window) next waiting ≤ 65535
unfolding distance leaving_between pick
leaving-near una next window waiting u n w h =
    let e = leaving_is (add32 una window) next waiting (omega arith) n in
    go (leb (sub32 (add32 una window) next) (2 ^ 31)) refl e
  where
    go : (b : Bool) → leb (sub32 (add32 una window) next) (2 ^ 31) ≡ b
        → leaving (add32 una window) next waiting ≡ pick b (min (sub32 (add32 una window) next) waiting) 0
        → distance una next + leaving (add32 una window) next waiting ≤ 65535
    go true l e = let k = leb-true (sub32 (add32 una window) next) (2 ^ 31) l in omega arith
    go false l e = omega arith

farther : (una next k : ℕ) → una < 2 ^ 32 → next < 2 ^ 32 → distance una next + k < 2 ^ 32 → distance una (add32 next k) ≡ distance una next + k
unfolding distance
farther una next k u n h = omega arith

-- their numbers rise from snd_nxt on
given : (una conv current rx_rto next hi : ℕ) (l : List Segment) → una < 2 ^ 32 → next < 2 ^ 32 → hi < 2 ^ 32 → distance una next + length l ≡ hi
    → Ordered una (distance una next) hi (numbers (numbered_from conv current rx_rto next l))
unfolding numbered_from
given una conv current rx_rto next hi [] u n h e = omega arith
given una conv current rx_rto next hi (s ∷ l) u n h e =
    let d = farther una next 1 u n (omega arith) in
    let f : distance una (add32 next 1) ≡ suc (distance una next) = omega arith in
    (omega arith, n, rw f at (given una conv current rx_rto (add32 next 1) hi l u (omega arith) h (omega arith)))

-- numbers that rise up to mid, and behind them others
joins : (una lo mid hi : ℕ) (l x : List ℕ) → Ordered una lo mid l → Ordered una mid hi x → Ordered una lo hi (l ++ x)
joins una lo mid hi [] x o p = lower una hi lo mid x o p
joins una lo mid hi (n ∷ l) x o p = (o.0, o.1, joins una (suc (distance una n)) mid hi l x o.2 p)

moved_risen : (conv current rx_rto window : ℕ) (s : Sending) → window ≤ 65535 → Risen s → Risen (moved_out conv current rx_rto window s)
unfolding moved_out
moved_risen conv current rx_rto window s w r =
    let k = leaving (add32 s.una window) s.next (length s.waiting) in
    let h = leaving-near s.una s.next window (length s.waiting) r.first r.last w r.near in
    let n : length (take k s.waiting) ≡ k = length-take-le k s.waiting (leaving-most (add32 s.una window) s.next (length s.waiting)) in
    let e : distance s.una (add32 s.next k) ≡ distance s.una s.next + k = farther s.una s.next k r.first r.last (omega arith) in
    record {
      first = r.first;
      last = omega arith;
      order = rw (map-append (λ (x : Segment). x.sn) s.flying, e)
          (joins s.una 0 (distance s.una s.next) _ (numbers s.flying) _ r.order
          (given s.una conv current rx_rto s.next _ (take k s.waiting) r.first r.last (omega arith) (omega arith)));
      near = rw e h;
    }

-- looked at, they keep their numbers
sent-number : (p : Pace) (d : Due) (r : Record) → (sent_as p d r).sn ≡ r.sn
unfolding sent_as
sent-number p Idle r = refl
sent-number p Fresh r = refl
sent-number p TimedOut r = refl
sent-number p Fast r = refl

sent-numbers : (p : Pace) (l : List Segment) → numbers (map (sent_out p) l) ≡ numbers l
unfolding flown_by
sent-numbers p [] = refl
sent-numbers p (s ∷ l) = rw (sent-number p (due_of p (record_of s)) (record_of s), sent-numbers p l)

pub flush_risen : (o : Outgoing) → window o ≤ 65535 → Risen o.sending → Risen (flushed o).after.sending
unfolding flushed
flush_risen o w r =
    subst (Rises (sent o).una (sent o).next) (sym (sent-numbers (pace o) (sent o).flying))
    (moved_risen o.settings.conv o.clock.current o.rx_rto (window o) o.sending w r)

-- ---- the memory

abbrev pub Flies : Sender → Store → Type 0
Flies s m = Rises s.snd_una s.snd_nxt (flying_numbers s.ring m)

as_seen : (s : Sender) (m : Store) → Flies s m → Risen (seen s m)
unfolding seen
as_seen s m f = subst (Rises s.snd_una s.snd_nxt) (sym (flying-numbers s m)) f

as-kept : (s : Sender) (m : Store) → Risen (seen s m) → Flies s m
unfolding seen
as-kept s m r = subst (Rises s.snd_una s.snd_nxt) (flying-numbers s m) r

module _ (s : Sender) (m : Store) (o : Sound 8 s.ring m) (f : Flies s m) where
  pub una-flies : (una : ℕ) → Flies (una_at una s m) m
  una-flies una = as-kept (una_at una s m) m (subst Risen (sym (seen-una una s m o)) (una_risen una (seen s m) (as_seen s m f)))

  pub ack-flies : (x : ℕ) → Flies (ack_at x s m).sender (ack_at x s m).store
  ack-flies x = as-kept (ack_at x s m).sender (ack_at x s m).store (subst Risen (sym (seen-ack x s m o)) (ack_risen x (seen s m) (as_seen s m f)))

  pub fastack-flies : (l : Option Ack) → Flies s (fastack_at l s m)
  fastack-flies l = as-kept s (fastack_at l s m) (subst Risen (sym (seen-fastack l s m o)) (fastack_risen l (seen s m) (as_seen s m f)))

  pub send-flies : (mss : ℕ) (stream : Bool) (bytes : List ℕ) → mss ≤ 1476 → Flies (send_at mss stream bytes s m).sender (send_at mss stream bytes s m).store
  unfolding flying_numbers
  send-flies mss stream bytes small =
      let e = send-beside mss stream bytes s m in
      let x = (send_at mss stream bytes s m).sender in
      let a : x.snd_una ≡ s.snd_una = ap (λ (y : Sender). y.snd_una) e in
      let b : x.snd_nxt ≡ s.snd_nxt = ap (λ (y : Sender). y.snd_nxt) e in
      rw (a, b, send-flight mss stream bytes s m o small) f

-- what a flush of the block leaves
pub flush-flies : (k : Kcp) (m : Store) (acks waiting : List ℕ) → Sound 8 k.sender.ring m → Flies k.sender m → k.congestion.snd_wnd < 65536
    → Flies (after_flush k (moved_at k m).sender.ring (flushed (outgoing k m acks waiting)).after).sender (flown_store k m)
unfolding outgoing
flush-flies k m acks waiting o f w =
    as-kept _ (flown_store k m)
    (subst Risen (sym (ap (λ (x : Outgoing). x.sending) (flush-seen k m acks waiting o)))
    (flush_risen (outgoing k m acks waiting) (let h = window-within k.settings.nocwnd k.congestion in omega arith) (as_seen k.sender m f)))

-- once all is acked nothing flies
pub acked_none : (s : Sender) (m : Store) → Sound 8 s.ring m → Flies s m → s.snd_una ≡ s.snd_nxt → s.ring.flying ≡ 0
unfolding flying_numbers
acked_none s m o f e =
    let z = distance_self s.snd_nxt f.last in
    let l = ordered-length s.snd_nxt (distance s.snd_nxt s.snd_nxt) 0 (flying_numbers s.ring m) (rw e at f.order) in
    let n = length-map (flight_of 8 s.ring m) (λ (x : Stored). get_or x.row sn 0) ∙ flight-length 8 s.ring m o in
    omega arith

-- nothing flies yet
pub fresh-flies : (s : Sender) (m : Store) → s.snd_nxt < 2 ^ 32 → s.snd_una ≡ s.snd_nxt → s.ring.reach ≡ 0 → Flies s m
unfolding flying_numbers flight_of memory.seen along
fresh-flies s m n a e = let z = distance_self s.snd_nxt n in record { first = omega arith; last = n; order = rw e (omega arith); near = rw a (omega arith) }
