-- The laws of flush_ack in lent memory: what the sizes say of the datagrams, and that what is written is what the rule packs. Assumes nothing.
use Prim.Native.Nat.{ℕ, zero, suc, ◌+◌, ◌*◌, ◌-◌, ◌/◌, ◌≤◌, ◌<◌}
use native.Mathlib.Nat.{zero-add, mul-suc}
use native.Mathlib.Omega.{arith}
use mathlib.Core.Path.{◌≡◌, refl, sym, ap, ◌∙◌}
use mathlib.Core.Bool.{Bool, true, false}
use mathlib.Core.List.{List, [], ◌∷◌, ◌++◌, map, append_assoc}
use lib.ListN.{length, take, drop, replicate, length-append, length-map}
use lib.Seq.{take_at, drop_at, length-take-le}
use lib.Dec.{ltb}
use Rattle.std.proofs.Common.{Ok, Err}
use borrow.Author.Tests.{lt-ltb, le-ltb}
use Rattle.serial.specs.Branch.{pick}
use Rattle.ring.specs.Records.{put}
use Rattle.flushing.specs.declared.headers.Told.{Told}
use Rattle.flushing.specs.Pack.{flat, sum_of, datagram_size, goes_size, stays_size, pack, pack_sizes}
use Rattle.flushing.specs.Rules.{Outgoing, told_by, flushed_ack, exceeds}
use Rattle.flushing.proofs.Packing.{length-flat, pack-sizes, pack-rest, joined, rest-most}
use Rattle.packing.specs.declared.packer.Packer.{Packer}
use Rattle.block.specs.declared.refusal.Refusal.TheVariants.{OutTooSmall}
use Rattle.packing.specs.Packer.{holding, sized}
use Rattle.packing.specs.Acks.{acks_from, acks_of, ack_bytes}
use Rattle.packing.specs.FlushAck.{Writing, writing, sent, room_of, put_out, flush_ack_at}
use Rattle.packing.proofs.Laying.{put_none, put-own, put-start, put_next}
use Rattle.packing.proofs.Turns.{sized-sum}
use Rattle.packing.proofs.AckBytes.{each_alike, total_alike, ack-sizes, acks-length, acks-split}

-- ---- whole pieces

-- where whole pieces of k bytes wait, they do so to the end: at most b of them
abbrev Whole : ℕ → ℕ → ℕ → ℕ → ℕ → Type 0
Whole mtu k u n b = (m : ℕ) × (m ≤ b) × ((pack_sizes mtu u (replicate n k)).1 ≡ k * m)

whole-pieces : (mtu k j n : ℕ) → Whole mtu k (k * j) n (j + n)
unfolding pack_sizes stays_size pick
whole-pieces mtu k j zero = (j, omega arith, refl)
whole-pieces mtu k j (suc n) = of (λ i. whole-pieces mtu k i n) (ltb mtu (k * j + k))
  where
    of : ((i : ℕ) → Whole mtu k (k * i) n (i + n)) → (t : Bool) → Whole mtu k (pick t k (k * j + k)) n (j + suc n)
    of f true = let e : k * 1 ≡ k = omega arith in ((f 1).0, omega (arith, (f 1).1), rw e at (f 1).2)
    of f false = ((f (suc j)).0, omega (arith, (f (suc j)).1), rw (mul-suc k j) at (f (suc j)).2)

-- once a datagram has gone out, whole pieces wait
whole-rest : (mtu k u n : ℕ) → (length (pack_sizes mtu u (replicate n k)).0 ≡ 0 → ⊥) → Whole mtu k u n n
unfolding pack_sizes goes_size stays_size pick
whole-rest mtu k u zero h = absurd (h refl)
whole-rest mtu k u (suc n) h = of (λ v. whole-rest mtu k v n) (ltb mtu (u + k)) h
  where
    of : ((v : ℕ) → (length (pack_sizes mtu v (replicate n k)).0 ≡ 0 → ⊥) → Whole mtu k v n n) → (t : Bool)
        → (length (pick t (datagram_size u) [] ++ (pack_sizes mtu (pick t k (u + k)) (replicate n k)).0) ≡ 0 → ⊥) → Whole mtu k (pick t k (u + k)) n (suc n)
    of f true h =
        let e : k * 1 ≡ k = omega arith in
        let i = whole-pieces mtu k 1 n in
        (i.0, omega (arith, i.1), rw e at i.2)
    of f false h = let i = f (u + k) h in (i.0, omega (arith, i.1), i.2)

-- ---- lists

none : {A : Type 0} (l : List A) → length l ≡ 0 → l ≡ []
none [] h = refl
none (x ∷ l) h = absurd (omega arith)

-- two ways to cut one list
same-cut : (a b c d : List ℕ) → length a ≡ length c → a ++ b ≡ c ++ d → (a ≡ c) × (b ≡ d)
same-cut a b c d h e = (
  sym (take_at a b (length c) h) ∙ ap (take (length c)) e ∙ take_at c d (length c) refl,
  sym (drop_at a b (length c) h) ∙ ap (drop (length c)) e ∙ drop_at c d (length c) refl,
)

-- ---- what the sizes say

module _ (t : Told) (acks : List ℕ) (mtu n held : ℕ) where
  -- the datagrams and the rest, behind the bytes w
  abbrev packed : List ℕ → List (List ℕ) × List ℕ
  packed w = pack mtu w (ack_bytes t (acks_of acks n))

  -- of the packer p that n acks come to
  pub record Found (w : List ℕ) (p : Packer) : Type 0 where
    pub start : p.start ≡ sum_of (map length (packed w).0)
    pub used : p.used ≡ length (packed w).1
    pub count : p.count ≡ length (map length (packed w).0)
    pub small : p.used ≤ 1500
    pub sum : p.start + p.used ≡ held + 24 * n
    pub whole : (p.count ≡ 0 → ⊥) → (p.used ≡ 24 * (p.used / 24)) × (p.used / 24 ≤ n)
    pub bytes : flat (packed w).0 ++ (packed w).1 ≡ w ++ flat (ack_bytes t (acks_of acks n))
    pub lengths : map length (packed w).0 ≡ (pack_sizes mtu held (replicate n 24)).0
    pub idle : p.count ≡ 0 → p.start ≡ 0

  pub found : (waiting : List ℕ) (p : Packer) → mtu ≤ 1500 → length waiting ≡ 1500 → held ≤ 1500 → p ≡ sized mtu (holding held) (replicate n 24) → Found (take held waiting) p
  unfolding sized sum_of
  found waiting p a l b e =
      let w = take held waiting in
      let d = length-take-le held waiting (omega arith) in
      let ps = ack_bytes t (acks_of acks n) in
      let ks = pack_sizes mtu held (replicate n 24) in
      let s : map length (packed w).0 ≡ ks.0 = pack-sizes mtu w ps ∙ rw (d, ack-sizes t acks 0 n) in
      let r : length (packed w).1 ≡ ks.1 = pack-rest mtu w ps ∙ rw (d, ack-sizes t acks 0 n) in
      let c : p.count ≡ length ks.0 = ap (λ (x : Packer). x.count) e ∙ zero-add _ in
      let u : p.used ≡ ks.1 = ap (λ (x : Packer). x.used) e in
      let f : p.start ≡ sum_of ks.0 = ap (λ (x : Packer). x.start) e ∙ zero-add _ in
      record {
        start = f ∙ ap sum_of (sym s);
        used = u ∙ sym r;
        count = c ∙ ap length (sym s);
        small = rw u (rest-most mtu 1500 a held (replicate n 24) b (each_alike 1500 24 n (omega arith)));
        sum = ap (λ (x : Packer). x.start + x.used) e ∙ sized-sum mtu (holding held) (replicate n 24) ∙ rw (total_alike n 24, zero-add);
        whole = λ h. let z = whole-rest mtu 24 held n (λ q. h (c ∙ q)) in (omega (arith, z.1, z.2), omega (arith, z.1, z.2));
        bytes = joined mtu w ps;
        lengths = s;
        idle = λ z. f ∙ ap sum_of (none ks.0 (sym c ∙ z));
      }

  -- ---- what is written

  module _ (waiting out lengths : List ℕ) (p : Packer) (l : length waiting ≡ 1500) (b : held ≤ 1500) (f : Found (take held waiting) p) where
    abbrev w : List ℕ
    w = take held waiting

    wide : length w ≡ held
    wide = length-take-le held waiting (omega arith)

    -- nothing goes out: all acks join the waiting bytes
    pub waits : p.count ≡ 0 → (x : List ℕ) → x ≡ put waiting held (flat (ack_bytes t (acks_from acks 0 (n - 0))))
        → writing x out lengths ≡ put_out (packed w) (writing waiting out lengths)
    unfolding flat
    waits z x e =
        let all = flat (ack_bytes t (acks_of acks n)) in
        let o : (packed w).0 ≡ [] = none (packed w).0 (sym (length-map (packed w).0 length) ∙ sym f.count ∙ z) in
        let s : (packed w).1 ≡ w ++ all = rw o at f.bytes in
        let v : put waiting held all ≡ put waiting 0 (w ++ all) =
        ap (λ (y : List ℕ). put y held all) (sym (put-own waiting held (omega arith))) ∙ put_next waiting w all held wide (omega arith) in
        let u : n - 0 ≡ n = omega arith in
        rw (o, e, u, put_none, put_none, v, s)

    -- datagrams go out: the first k acks behind the waiting bytes; the others wait
    pub sends : (p.count ≡ 0 → ⊥) → p.start ≤ length out → (k : ℕ) → k ≡ n - p.used / 24 → (x y o z : List ℕ)
        → o ≡ put out 0 w
        → y ≡ put o held (flat (ack_bytes t (acks_from acks 0 (k - 0))))
        → x ≡ put waiting 0 (flat (ack_bytes t (acks_from acks k (n - k))))
        → z ≡ put lengths 0 (pack_sizes mtu held (replicate n 24)).0
        → writing x y z ≡ put_out (packed w) (writing waiting out lengths)
    sends c g k e x y o z eo ey ex ez =
        let fore = flat (ack_bytes t (acks_from acks 0 k)) in
        let rest = flat (ack_bytes t (acks_from acks k (n - k))) in
        let h = f.whole c in
        let u : k - 0 ≡ k = omega arith in
        let v : n ≡ k + (n - k) = omega (arith, h.1) in
        let s : flat (ack_bytes t (acks_of acks n)) ≡ fore ++ rest = ap (λ (i : ℕ). flat (ack_bytes t (acks_of acks i))) v ∙ acks-split t acks 0 k (n - k) ∙ rw zero-add in
        let m : length (flat (packed w).0) ≡ length (w ++ fore) =
        length-flat (packed w).0 ∙ rw length-append (omega (arith, acks-length t acks 0 k, h.0, h.1, f.sum, f.start, wide)) in
        let q = same-cut (flat (packed w).0) (packed w).1 (w ++ fore) rest m (f.bytes ∙ ap (λ (i : List ℕ). w ++ i) s ∙ sym (append_assoc w fore rest)) in
        let i : y ≡ put out 0 (flat (packed w).0) = ey ∙ rw (eo, u, q.0) (put_next out w fore held wide (omega (arith, f.sum, h.0, h.1))) in
        let j : x ≡ put waiting 0 (packed w).1 = rw q.1 ex in
        let r : z ≡ put lengths 0 (map length (packed w).0) = rw f.lengths ez in
        rw (i, j, r)

  -- ---- the two tests

  module _ (m : Writing) (p : Packer) (f : Found (take held m.waiting) p) where
    pub no_bytes : length m.out < p.start → (Err OutTooSmall, m) ≡ flush_ack_at t mtu acks n held m
    unfolding flush_ack_at exceeds pick
    no_bytes h = rw (← f.start, lt-ltb (length m.out) p.start h)

    pub no_lengths : p.start ≤ length m.out → length m.lengths < p.count → (Err OutTooSmall, m) ≡ flush_ack_at t mtu acks n held m
    unfolding flush_ack_at exceeds pick
    no_lengths g h = rw (← f.start, ← f.count, le-ltb (length m.out) p.start g, lt-ltb (length m.lengths) p.count h)

    pub fits : p.start ≤ length m.out → p.count ≤ length m.lengths → (k : Writing) → k ≡ put_out (packed (take held m.waiting)) m
        → (Ok (sent p.count p.used), k) ≡ flush_ack_at t mtu acks n held m
    unfolding flush_ack_at exceeds pick
    fits g h k e =
        let c : length (packed (take held m.waiting)).0 ≡ p.count = sym (length-map (packed (take held m.waiting)).0 length) ∙ sym f.count in
        rw (← f.start, ← f.count, le-ltb (length m.out) p.start g, le-ltb (length m.lengths) p.count h) (rw (e, c, ← f.used))

-- ---- the rule

-- what is put at the start can be taken from it
pub put_view : (l x : List ℕ) → take (length x) (put l 0 x) ≡ x
put_view l x = ap (take (length x)) (put-start l x) ∙ take_at x (drop (length x) l) (length x) refl

-- in lent memory it is what the rule makes of the block whose acks and waiting bytes stand there
pub by-rule : (o : Outgoing) (acks : List ℕ) (n held : ℕ) (m : Writing) → o.acks ≡ acks_of acks n → o.waiting ≡ take held m.waiting
    → let after = flushed_ack o in
    flush_ack_at (told_by o) o.settings.mtu acks n held m
    ≡ pick (exceeds (room_of m) (map length after.datagrams)) (Err OutTooSmall, m) (Ok (sent (length after.datagrams) (length after.after.waiting)), put_out (after.datagrams, after.after.waiting) m)
unfolding flush_ack_at flushed_ack
by-rule o acks n held m a w = rw (a, w)
