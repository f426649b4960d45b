-- The laws of the front of a flush: its sizes, that it is what the rules put there, and how far it has been put at each step of the code.
-- Assumes nothing.
use Prim.Native.Nat.{ℕ, ◌+◌, ◌*◌, ◌-◌, ◌≤◌, ◌<◌, ◌^◌}
use native.Mathlib.Omega.{arith}
use mathlib.Core.Path.{◌≡◌, refl, sym, ap, ◌∙◌}
use mathlib.Core.Bool.{Bool, true, false}
use mathlib.Core.List.{List, [], ◌∷◌, ◌++◌, map, map-append, append-nil}
use lib.ListN.{length, take, replicate, length-append, length-replicate}
use lib.Seq.{length-take-le}
use Rattle.serial.specs.Branch.{pick, pick-ap}
use Rattle.ring.specs.Records.{put}
use Rattle.ring.proofs.Rows.{put-length}
use Rattle.wire.specs.Commands.{ask, tell}
use Rattle.flushing.specs.declared.headers.Told.{Told}
use Rattle.flushing.specs.Probing.{ask_set, tell_set}
use Rattle.flushing.specs.Pack.{flat, sum_of, pack_sizes}
use Rattle.flushing.specs.Pieces.{Ack, piece_bytes, ack_pieces, probe_piece, probe_pieces, probe_sizes}
use Rattle.flushing.proofs.Packing.{AtMost, at_most_append, sum_append, length-flat}
use Rattle.flushing.proofs.Calls.{header-size}
use Rattle.packing.specs.declared.packer.Packer.{Packer}
use Rattle.packing.specs.Packer.{holding, sized}
use Rattle.packing.specs.Acks.{acks_from, acks_of, ack_bytes, probe_head}
use Rattle.packing.specs.Front.{front_pieces, front_sizes}
use Rattle.packing.proofs.Laying.{put_next}
use Rattle.packing.proofs.Turns.{Going, going_start, going-sum, going-count, going-small, going_stage, going_end, Packing, packing-start, packing_stage-fits, packing_stage, packing-end}
use Rattle.packing.proofs.AckBytes.{each_alike, total_alike, ack-sizes, acks-length, probe-bytes}

-- ---- a probe, if it is to go out

abbrev pub probe_size : Bool → List ℕ
probe_size on = pick on (24 ∷ []) []

probe_each : (on : Bool) → AtMost 1500 (probe_size on)
unfolding pick
probe_each true = (omega arith, tt)
probe_each false = tt

probe-few : (on : Bool) → (sum_of (probe_size on) ≤ 24) × (length (probe_size on) ≤ 1)
unfolding pick sum_of
probe-few true = (omega arith, omega arith)
probe-few false = (omega arith, omega arith)

abbrev probe_of : Told → ℕ → Bool → List Ack → List (List ℕ)
probe_of t cmd on acks = pick on (probe_head t cmd acks ∷ []) []

probe-size : (t : Told) (cmd : ℕ) (on : Bool) (acks : List Ack) → map length (probe_of t cmd on acks) ≡ probe_size on
probe-size t cmd on acks = pick-ap (map length) on _ _ ∙ rw header-size

-- ---- sizes

module _ (n bits : ℕ) where
  abbrev probes : List ℕ
  probes = probe_size (ask_set bits) ++ probe_size (tell_set bits)

  -- those of the rules
  pub front-sizes-rule : front_sizes n bits ≡ replicate n 24 ++ probe_sizes bits
  unfolding front_sizes probe_sizes
  front-sizes-rule = refl

  pub front_each : AtMost 1500 (front_sizes n bits)
  unfolding front_sizes
  front_each =
      at_most_append 1500 (replicate n 24) probes (each_alike 1500 24 n (omega arith))
      (at_most_append 1500 (probe_size (ask_set bits)) (probe_size (tell_set bits)) (probe_each (ask_set bits)) (probe_each (tell_set bits)))

  pub front-sum : sum_of (front_sizes n bits) ≤ 24 * (n + 2)
  unfolding front_sizes
  front-sum =
      omega (
        arith,
        sum_append (replicate n 24) probes,
        sum_append (probe_size (ask_set bits)) (probe_size (tell_set bits)),
        total_alike n 24,
        (probe-few (ask_set bits)).0,
        (probe-few (tell_set bits)).0,
      )

  pub front-count : length (front_sizes n bits) ≤ n + 2
  unfolding front_sizes
  front-count =
      omega (
        arith,
        length-append (replicate n 24) probes,
        length-append (probe_size (ask_set bits)) (probe_size (tell_set bits)),
        length-replicate {A = ℕ} n 24,
        (probe-few (ask_set bits)).1,
        (probe-few (tell_set bits)).1,
      )

-- ---- bytes

module _ (t : Told) (bits : ℕ) (acks : List ℕ) (n : ℕ) where
  abbrev got : List Ack
  got = acks_of acks n

  abbrev asks : List (List ℕ)
  asks = probe_of t ask (ask_set bits) got

  abbrev tells : List (List ℕ)
  tells = probe_of t tell (tell_set bits) got

  abbrev pub front : List (List ℕ)
  front = front_pieces t bits got

  pub front-sizes : map length front ≡ front_sizes n bits
  unfolding front_pieces front_sizes
  front-sizes =
      map-append length (ack_bytes t got) (asks ++ tells)
      ∙ rw (map-append length asks tells, ack-sizes t acks 0 n, probe-size t ask (ask_set bits) got, probe-size t tell (tell_set bits) got)

  -- the pieces of the rules
  pub front-rule : front ≡ map piece_bytes (ack_pieces t got ++ probe_pieces t bits got)
  unfolding front_pieces
  front-rule =
      sym (map-append piece_bytes (ack_pieces t got) (probe_pieces t bits got)
      ∙ ap (λ (l : List (List ℕ)). ack_bytes t got ++ l) (map-append piece_bytes (probe_piece t ask (ask_set bits) got) (probe_piece t tell (tell_set bits) got))
      ∙ rw (probe-bytes t ask (ask_set bits) got, probe-bytes t tell (tell_set bits) got))

  pub front_length : length (flat front) ≡ sum_of (front_sizes n bits)
  front_length = length-flat front ∙ ap sum_of front-sizes

-- ---- the code that sizes it: the sizes ks are still to come

-- how much it comes to
pub front_bounds : (n bits mtu held : ℕ) (r : Packer) → mtu ≤ 1500 → n ≤ 4096 → held ≤ 1500 → r ≡ sized mtu (holding held) (front_sizes n bits)
    → (r.start + r.used ≤ 1500 + 24 * 4098) × (r.count ≤ 4098) × (r.used ≤ 1500)
front_bounds n bits mtu held r m a h e =
    let g = rw (← e) at (going_start mtu (holding held) (front_sizes n bits) h (front_each n bits)) in
    (omega (arith, going-sum g, front-sum n bits), omega (arith, (going-count g).1, front-count n bits), going-small g m)

pub record Sizing (n bits mtu held : ℕ) (p : Packer) (ks : List ℕ) : Type 0 where
  pub going : Going mtu p ks (sized mtu (holding held) (front_sizes n bits))
  pub most : mtu ≤ 1500
  pub few : n ≤ 4096
  pub short : held ≤ 1500

-- the acks are taken
pub sizing-acks : (n bits mtu held : ℕ) (p a : Packer) → mtu ≤ 1500 → n ≤ 4096 → held ≤ 1500 → p ≡ holding held → a ≡ sized mtu p (replicate n 24)
    → Sizing n bits mtu held a (probe_size (ask_set bits) ++ (probe_size (tell_set bits) ++ []))
unfolding front_sizes
sizing-acks n bits mtu held p a m b h e f =
    let g = going_start mtu (holding held) (front_sizes n bits) h (front_each n bits) in
    record { going = rw append-nil (going_stage (replicate n 24) (probes n bits) a g m (rw e at f)); most = m; few = b; short = h }

module _ {n bits mtu held : ℕ} {p : Packer} where
  -- what a probe asks of the numbers
  pub sizing-fits : {ks : List ℕ} → Sizing n bits mtu held p ks → (p.start + p.used + 24 < 2 ^ 32) × (p.count < 2 ^ 32)
  sizing-fits g =
      let b = front_bounds n bits mtu held _ g.most g.few g.short refl in
      (omega (arith, going-sum g.going, b.0), omega (arith, (going-count g.going).0, b.1))

  -- it is taken
  pub sizing-probe : (on s : Bool) (ks : List ℕ) (q : Packer) → Sizing n bits mtu held p (probe_size on ++ ks) → s ≡ on → q ≡ sized mtu p (probe_size s) → Sizing n bits mtu held q ks
  sizing-probe on s ks q g e f =
      record { going = going_stage (probe_size on) ks q g.going g.most (rw e at f); most = g.most; few = g.few; short = g.short }

  pub sizing-end : Sizing n bits mtu held p []
      → (p ≡ sized mtu (holding held) (front_sizes n bits)) × ((p.start + p.used ≤ 1500 + 24 * 4098) × (p.count ≤ 4098) × (p.used ≤ 1500))
  sizing-end g = let e = going_end g.going in (e, front_bounds n bits mtu held p g.most g.few g.short e)

-- ---- the code that puts it: the bytes w stand at the start of what was `out`, and the pieces ps are still to come

pub record Fronting (t : Told) (bits : ℕ) (acks : List ℕ) (n mtu held : ℕ) (w out lengths : List ℕ) (p : Packer) (o l : List ℕ) (ps : List (List ℕ)) : Type 0 where
  pub packing : Packing mtu p o l ps (sized mtu (holding held) (map length (front t bits acks n))) (put out 0 (w ++ flat (front t bits acks n)))
      (put lengths 0 (pack_sizes mtu held (map length (front t bits acks n))).0)
  pub most : mtu ≤ 1500
  pub few : n ≤ 4096
  pub short : held ≤ 1500

module _ (t : Told) (bits : ℕ) (acks : List ℕ) (n mtu held : ℕ) (waiting out lengths : List ℕ) where
  pub fronting-start : (o : List ℕ) → mtu ≤ 1500 → n ≤ 4096 → length waiting ≡ 1500 → held ≤ 1500
      → held + length (flat (front t bits acks n)) ≤ length out → length (pack_sizes mtu held (map length (front t bits acks n))).0 ≤ length lengths
      → o ≡ put out 0 (take held waiting) → Fronting t bits acks n mtu held (take held waiting) out lengths (holding held) o lengths (front t bits acks n)
  fronting-start o m a v h b c e =
      let ps = front t bits acks n in
      let w = take held waiting in
      let s : length w ≡ held = length-take-le held waiting (omega arith) in
      let z : 0 + held ≡ held = omega arith in
      let k : length o ≡ length out = ap length e ∙ put-length out 0 w (omega arith) in
      let d : put o (0 + held) (flat ps) ≡ put out 0 (w ++ flat ps) = rw (z, e) (put_next out w (flat ps) held s (omega arith)) in
      let each : AtMost 1500 (map length ps) = rw (front-sizes t bits acks n) (front_each n bits) in
      record {
        packing = rw d at (packing-start mtu (holding held) o lengths ps h each (omega arith) (omega arith));
        most = m;
        few = a;
        short = h;
      }

module _ {t : Told} {bits : ℕ} {acks : List ℕ} {n mtu held : ℕ} {w out lengths o l : List ℕ} where
  -- what the acks ask of the lists
  pub fronting-fits : Fronting t bits acks n mtu held w out lengths (holding held) o l (front t bits acks n)
      → (held + 24 * n ≤ length o) × (length (pack_sizes mtu held (replicate n 24)).0 ≤ length l)
  unfolding front_pieces
  fronting-fits g =
      let f = packing_stage-fits (ack_bytes t (acks_of acks n)) (asks t bits acks n ++ tells t bits acks n) g.packing in
      (omega (arith, f.0, acks-length t acks 0 n), omega (arith, rw (ack-sizes t acks 0 n) at f.1))

  -- they are put
  pub fronting-acks : (p a : Packer) (b k : List ℕ) → Fronting t bits acks n mtu held w out lengths (holding held) o l (front t bits acks n) → p ≡ holding held
      → a ≡ sized mtu p (replicate n 24)
      → b ≡ put o held (flat (ack_bytes t (acks_from acks 0 (n - 0))))
      → k ≡ put l p.count (pack_sizes mtu p.used (replicate n 24)).0
      → Fronting t bits acks n mtu held w out lengths a b k (asks t bits acks n ++ (tells t bits acks n ++ []))
  unfolding front_pieces
  fronting-acks p a b k g e f h i =
      let u : n - 0 ≡ n = omega arith in
      let z : 0 + held ≡ held = omega arith in
      let s = ack-sizes t acks 0 n in
      let x = ack_bytes t (acks_of acks n) in
      let y : b ≡ put o (0 + held) (flat x) = rw z (rw u at h) in
      record {
        packing = rw append-nil (packing_stage x (asks t bits acks n ++ tells t bits acks n) a b k g.packing g.most (rw s (rw e at f)) y (rw s (rw e at i)));
        most = g.most;
        few = g.few;
        short = g.short;
      }

  module _ {p : Packer} (cmd : ℕ) (on s : Bool) (head : List ℕ) (e : s ≡ on) (d : head ≡ probe_head t cmd (acks_of acks n)) (qs : List (List ℕ))
      (g : Fronting t bits acks n mtu held w out lengths p o l (probe_of t cmd on (acks_of acks n) ++ qs)) where
    abbrev given : List (List ℕ)
    given = pick s (head ∷ []) []

    same-probe : probe_of t cmd on (acks_of acks n) ≡ given
    same-probe = rw (e, d)

    -- what a probe asks of the numbers and the lists
    pub fronting-probe-fits : (p.start + p.used + 24 < 2 ^ 32)
        × ((p.used < 2 ^ 16)
        × ((p.start + p.used + length (flat given) ≤ length o)
        × (p.count + length (pack_sizes mtu p.used (map length given)).0 ≤ length l)))
    fronting-probe-fits =
        let f = packing_stage-fits given qs (rw same-probe at g.packing) in
        let r = going-sum g.packing.cutting.going in
        let b = front_bounds n bits mtu held _ g.most g.few g.short (ap (sized mtu (holding held)) (front-sizes t bits acks n)) in
        (omega (arith, r, b.0), (omega (arith, g.packing.cutting.going.small), f))

    -- it is put
    pub fronting-probe : (q : Packer) (b k : List ℕ) → q ≡ sized mtu p (map length given) → b ≡ put o (p.start + p.used) (flat given)
        → k ≡ put l p.count (pack_sizes mtu p.used (map length given)).0 → Fronting t bits acks n mtu held w out lengths q b k qs
    fronting-probe q b k f h i =
        record {
          packing = packing_stage given qs q b k (rw same-probe at g.packing) g.most f h i;
          most = g.most;
          few = g.few;
          short = g.short;
        }

  pub fronting-end : {p : Packer} → Fronting t bits acks n mtu held w out lengths p o l []
      → (p ≡ sized mtu (holding held) (map length (front t bits acks n)))
      × ((o ≡ put out 0 (w ++ flat (front t bits acks n))) × (l ≡ put lengths 0 (pack_sizes mtu held (map length (front t bits acks n))).0))
  fronting-end g = let e = packing-end g.packing in (e.0, (e.1, e.2))
