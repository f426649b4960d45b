-- Definitions of this crate on closed cases, as one table under one statement. Assumes nothing.
use Prim.Native.Nat.{ℕ}
use mathlib.Core.Path.{◌≡◌, refl}
use mathlib.Core.Bool.{Bool, true, false, ◌&&◌}
use mathlib.Core.List.{List, [], ◌∷◌, ◌++◌, map}
use lib.IntN.{ℤ, pos, negsuc}
use Rattle.serial.specs.Branch.{pick}
use Rattle.block.specs.declared.receiver.Receiver.{Receiver}
use Rattle.block.specs.declared.Kcp.{Kcp}
use Rattle.block.specs.declared.set.Set.{Set}
use Rattle.block.specs.Refusals.{number_of_answer, values_of_answer}
use Rattle.block.specs.Parts.{with_probe, with_receiver}
use Rattle.block.specs.Sizes.{receive_sizes, send_sizes, ack_sizes}
use Rattle.block.specs.Fresh.{fresh, fresh_plain}
use Rattle.block.specs.WellFormed.{settings_fit, probe_fits, receiver_fits, sender_fits, acklist_fits, own_numbers, receive_numbers}
use Rattle.block.specs.Setters.{set_mtu, set_nodelay, set_fast_resend, interval_of, interval_of_signed, resend_of, minrto_of}

pub record Row : Type 0 where
  pub gives : List ℕ
  pub says : List ℕ

row : List ℕ → List ℕ → Row
row gives says = record { gives = gives; says = says }

bit : Bool → ℕ
bit true = 1
bit false = 0

-- the refusal's number and values, then mtu and mss afterwards
mtu : ℕ → List ℕ
mtu n = told (set_mtu (fresh_plain 7) n)
  where
    told : Set → List ℕ
    told s = (number_of_answer s.answer ∷ values_of_answer s.answer) ++ (s.block.settings.mtu ∷ s.block.settings.mss ∷ [])

-- interval, ts_flush, fastresend, rx_minrto and rx_rto, of a block with fastresend 3
nodelay : Bool → ℤ → ℤ → List ℕ
nodelay nd interval resend = told (set_nodelay (set_fast_resend (fresh_plain 7) 3) nd interval resend true)
  where
    told : Kcp → List ℕ
    told k = k.clock.interval ∷ k.clock.ts_flush ∷ k.settings.fastresend ∷ k.estimator.minrto ∷ k.estimator.rto ∷ []

waits : ℕ → List ℕ
waits n = bit (own_numbers (with_probe (fresh_plain 7) (record { bits = 0; ts_probe = 0; probe_wait = n }))) ∷ []

-- a block with this window, the largest yet set, and so many queued, beside R slots
windows : ℕ → ℕ → ℕ → ℕ → List ℕ
windows R wnd largest queued =
    let r : Receiver = record { rcv_nxt = 0; rcv_wnd = wnd; largest = largest; ring = record { start = 0; queued = queued; reach = 0 } } in
    bit (own_numbers (with_receiver (fresh_plain 7) r) && receive_numbers R r) ∷ []

pub table : List Row
table =
    -- "mtu 49 and 1,501 get 10"; "mss = mtu − 24"
    row (mtu 49) (10 ∷ 49 ∷ 1400 ∷ 1376 ∷ [])
    ∷ row (mtu 50) (0 ∷ 50 ∷ 26 ∷ [])
    ∷ row (mtu 1500) (0 ∷ 1500 ∷ 1476 ∷ [])
    ∷ row (mtu 1501) (10 ∷ 1501 ∷ 1400 ∷ 1376 ∷ [])
    -- a negative interval is raised to 10, a negative resend keeps fastresend; ts_flush and rx_rto stay
    ∷ row (nodelay true (negsuc 0) (negsuc 0)) (10 ∷ 100 ∷ 3 ∷ 30 ∷ 200 ∷ [])
    ∷ row (nodelay false (pos 5001) (pos 0)) (5000 ∷ 100 ∷ 0 ∷ 100 ∷ 200 ∷ [])
    ∷ row (map interval_of (9 ∷ 10 ∷ 5000 ∷ 5001 ∷ [])) (10 ∷ 10 ∷ 5000 ∷ 5000 ∷ [])
    -- "Receive pool R: 256 to 1,024 slots. Send pool P: 128 to 1,024 slots. Ack list A: 128 to 4,096 pairs"
    ∷ row (bit (receive_sizes 255 376380) ∷ bit (receive_sizes 256 377856) ∷ bit (receive_sizes 256 377855) ∷ []) (0 ∷ 1 ∷ 0 ∷ [])
    ∷ row (bit (receive_sizes 1024 1511424) ∷ bit (receive_sizes 1025 1512900) ∷ []) (1 ∷ 0 ∷ [])
    ∷ row (bit (send_sizes 1152 188928) ∷ bit (send_sizes 1153 188928) ∷ bit (send_sizes 1143 187452) ∷ bit (send_sizes 9225 1512900) ∷ []) (1 ∷ 0 ∷ 0 ∷ 0 ∷ [])
    ∷ row (map (λ (n : ℕ). bit (ack_sizes n 1500)) (255 ∷ 256 ∷ 257 ∷ 8192 ∷ 8194 ∷ [])) (0 ∷ 1 ∷ 0 ∷ 1 ∷ 0 ∷ [])
    -- "probe_wait 0 or 7,000 to 120,000"
    ∷ row (waits 0 ++ waits 6999 ++ waits 7000 ++ waits 120000 ++ waits 120001) (1 ∷ 0 ∷ 1 ∷ 1 ∷ 0 ∷ [])
    -- "twice the largest window at most R, and rcv_wnd from 128 to that window", "queue .. at most the largest window"
    ∷ row (windows 256 128 128 128 ++ windows 256 128 128 129 ++ windows 256 127 128 0 ++ windows 256 129 128 0) (1 ∷ 0 ∷ 0 ∷ 0 ∷ [])
    ∷ row (windows 256 128 129 0 ++ windows 258 129 129 0 ++ windows 1026 512 512 512 ++ windows 1026 513 513 0) (0 ∷ 1 ∷ 1 ∷ 0 ∷ [])
    ∷ []

pub worked : map (λ (r : Row). r.gives) table ≡ map (λ (r : Row). r.says) table
unfolding row bit mtu nodelay waits windows table pick fresh settings_fit probe_fits receiver_fits sender_fits acklist_fits own_numbers set_mtu interval_of interval_of_signed resend_of minrto_of
worked = refl
