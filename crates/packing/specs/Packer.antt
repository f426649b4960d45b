-- "Before each piece, the waiting bytes go out if they and the piece exceed mtu": how far a packing has come, by numbers. Assumes nothing.
use Rattle.std.specs.Prelude.{ℕ, ◌+◌, Bool, ◌&&◌, List, length, ltb}
use Rattle.flushing.specs.Pack.{sum_of, datagram_size, pack_sizes}
use Rattle.packing.specs.declared.packer.Packer.{Packer}

-- before any piece: so many bytes wait
abbrev pub holding : ℕ → Packer
holding held = record { start = 0; used = held; count = 0 }

-- whether a datagram goes out before a piece of k bytes where n wait: "an empty write is no datagram"
unfoldable pub departs : ℕ → ℕ → ℕ → Bool
departs mtu n k = ltb 0 n && ltb mtu (n + k)

-- after further pieces of those sizes
unfoldable pub sized : ℕ → Packer → List ℕ → Packer
sized mtu p ks =
    let r = pack_sizes mtu p.used ks in
    record { start = p.start + sum_of r.0; used = r.1; count = p.count + length r.0 }

-- once what waits has gone out
unfoldable pub closed : Packer → Packer
closed p = record { start = p.start + p.used; used = 0; count = p.count + length (datagram_size p.used) }
