-- The write pass at a small closed case. Assumes nothing.
use Rattle.std.specs.Prelude.{ℕ, ◌≡◌, refl, false, true, List, [], ◌∷◌, ◌++◌, replicate}
use Rattle.serial.specs.Branch.{pick}
use Rattle.wire.specs.Header.{header_bytes}
use Rattle.ring.specs.Records.{put, part}
use Rattle.snd_ring.specs.Store.{Store, store}
use Rattle.flushing.specs.Due.{resends_fast, due_of, sent_as, flown_by, dies, with_sent}
use Rattle.flushing.specs.Pack.{flat, sum_of, datagram_size, goes_size, stays_size, pack_sizes}
use Rattle.packing.specs.Packer.{sized}
use Rattle.flight.specs.Memory.{record_in, renewed_at, flown_at, flown_over, tallied_at, tally_over, goes_at, piece_at, pieces_over}
use Rattle.due.specs.Pass.{pass, pass_over}

-- one slot, with a segment of one byte that was never sent, and one with a gap
two : List ℕ → Store
two a = store (2 ∷ 0 ∷ []) (a ++ (9 ∷ 0 ∷ 5 ∷ 0 ∷ 0 ∷ 0 ∷ 0 ∷ 0 ∷ [])) (replicate 2952 4)

-- 24 bytes wait, and with these 25 they exceed the mtu: they go out, and the length 24 is put; the fresh segment waits for rx_rto and rtomin
fresh : pass_over (record { conv = 7; wnd = 128; una = 3 }) (record { current = 1000; rx_rto = 200; rtomin = 25; resent = 2; nodelay = false; fastlimit = 5 }) 1 48 (0 ∷ 1 ∷ [])
    (pass (two (9 ∷ 0 ∷ 10 ∷ 1000 ∷ 1000 ∷ 200 ∷ 0 ∷ 0 ∷ [])) (replicate 50 0) (0 ∷ 0 ∷ []) (record { start = 0; used = 24; count = 0 }) (record { xmit = 5; dead = false; lost = false; change = false }))
    ≡ pass (two (9 ∷ 0 ∷ 10 ∷ 1000 ∷ 1225 ∷ 200 ∷ 0 ∷ 1 ∷ []))
    (replicate 24 0 ++ (9 ∷ 0 ∷ 0 ∷ 0 ∷ 81 ∷ 0 ∷ 128 ∷ 0 ∷ 232 ∷ 3 ∷ 0 ∷ 0 ∷ 10 ∷ 0 ∷ 0 ∷ 0 ∷ 3 ∷ 0 ∷ 0 ∷ 0 ∷ 1 ∷ 0 ∷ 0 ∷ 0 ∷ 4 ∷ 0 ∷ []))
    (24 ∷ 0 ∷ []) (record { start = 24; used = 25; count = 1 }) (record { xmit = 5; dead = true; lost = false; change = false })
unfolding pass_over flown_over flown_at tally_over tallied_at pieces_over piece_at goes_at record_in renewed_at flown_by due_of sent_as resends_fast with_sent dies sized pack_sizes goes_size stays_size datagram_size sum_of flat header_bytes put part pick two
fresh = refl
