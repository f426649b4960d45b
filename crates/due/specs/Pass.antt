-- "the size is found before anything changes"; "datagrams put end to end in lent bytes and their lengths in a lent list": the segments of a flush, by
-- their sizes alone, and written. Assumes nothing.
use Rattle.std.specs.Prelude.{ℕ, ◌+◌, ◌≤◌, ◌<◌, ◌^◌, List, map, length}
use Rattle.ring.specs.Lists.{lists}
use Rattle.ring.specs.Records.{put}
use Rattle.snd_ring.specs.declared.SndRing.{SndRing}
use Rattle.snd_ring.specs.Store.{Store, store_of, Sized, Sound}
use Rattle.flushing.specs.declared.due.Pace.{Pace}
use Rattle.flushing.specs.declared.due.Tally.{Tally}
use Rattle.flushing.specs.declared.headers.Told.{Told}
use Rattle.flushing.specs.Pack.{flat, pack_sizes}
use Rattle.packing.specs.declared.packer.Packer.{Packer}
use Rattle.packing.specs.Packer.{sized}
use Rattle.flight.specs.Places.{Each}
use Rattle.flight.specs.Memory.{mark_in, flown_over, tally_over, pieces_over}

-- the ring is sound in these records with some room: sizes do not look at it
pub record Rung (r : SndRing) (records : List ℕ) : Type 0 where
  pub room : List ℕ
  pub sound : Sound 8 r (store_of 8 (lists records room))

-- what the write pass changes: the send memory, the lent bytes and lengths, how far the packing has come, and what is counted
pub record Pass : Type 0 where
  pub store : Store
  pub out : List ℕ
  pub lengths : List ℕ
  pub packer : Packer
  pub tally : Tally

abbrev pub pass : Store → List ℕ → List ℕ → Packer → Tally → Pass
pass m out lengths p t = record { store = m; out = out; lengths = lengths; packer = p; tally = t }

-- these pieces are put behind the bytes that are there, and the lengths of the datagrams that go out before them
abbrev pub bytes_put : Packer → List ℕ → List (List ℕ) → List ℕ
bytes_put p out ps = put out (p.start + p.used) (flat ps)

abbrev pub lengths_put : ℕ → Packer → List ℕ → List (List ℕ) → List ℕ
lengths_put mtu p lengths ps = put lengths p.count (pack_sizes mtu p.used (map length ps)).0

-- the segments at these places that go out are written, and their rows renewed
unfoldable pub pass_over : Told → Pace → ℕ → ℕ → List ℕ → Pass → Pass
pass_over told pace dead_link mtu qs x =
    let ps = pieces_over told pace qs x.store in
    pass (flown_over pace qs x.store) (bytes_put x.packer x.out ps) (lengths_put mtu x.packer x.lengths ps) (sized mtu x.packer (map length ps))
    (tally_over dead_link pace qs x.store x.tally)

-- the pieces and their lengths fit what is lent
pub record Roomy (mtu : ℕ) (p : Packer) (out lengths : List ℕ) (ps : List (List ℕ)) : Type 0 where
  pub small : p.used ≤ 1500
  pub bytes : p.start + p.used + length (flat ps) ≤ length out
  pub few : p.start + p.used + length (flat ps) < 2 ^ 32
  pub cuts : p.count + length (pack_sizes mtu p.used (map length ps)).0 ≤ length lengths

-- and the sizes of the memory agree, these places lie in it, and the payloads there fit their slots
pub record Fits (told : Told) (pace : Pace) (mtu : ℕ) (qs : List ℕ) (x : Pass) : Type 0 where
  pub agree : Sized 8 x.store
  pub below : Each (λ (q : ℕ). q < length x.store.marks) qs
  pub marks : Each (λ (q : ℕ). mark_in x.store q ≤ 1477) qs
  pub roomy : Roomy mtu x.packer x.out x.lengths (pieces_over told pace qs x.store)
