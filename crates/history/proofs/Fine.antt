-- What every call keeps of the block and its lent memory, part by part, so that no call that is handed it is refused by 15. Assumes nothing.
use Prim.Native.Nat.{ℕ, ◌≤◌, ◌<◌, ◌^◌}
use native.Mathlib.Omega.{arith}
use mathlib.Core.Path.{◌≡◌, refl, ap}
use mathlib.Core.Bool.{true}
use mathlib.Core.List.{List}
use lib.ListN.{length}
use Rattle.ring.specs.Lists.{Lists}
use Rattle.snd_ring.specs.Store.{Store, store_of, Sized, Sound}
use Rattle.snd_ring.proofs.Splits.{marks-length, rows-length, store-room}
use Rattle.block.specs.declared.Kcp.{Kcp}
use Rattle.block.specs.declared.congestion.Congestion.{Congestion}
use Rattle.block.specs.declared.receiver.Receiver.{Receiver}
use Rattle.block.specs.declared.acklist.AckList.{AckList}
use Rattle.block.specs.declared.sender.Sender.{Sender}
use Rattle.block.specs.Sizes.{Within, RingSizes, send_slots, AckSizes, pairs}
use Rattle.block.specs.WellFormed.{SettingsFit, ProbeFits, OwnNumbers}
use Rattle.block.proofs.Exact.{own-numbers, acks-exactly}
use Rattle.receive.specs.Fits.{receive_fits, ReceiveFits, Good}
use Rattle.receive.proofs.Exact.{exactly, lent-exactly, fits_of}
use Rattle.transmit.specs.Fits.{send_fits, SendFits}
use Rattle.transmit.proofs.Exact.{exactly as send-exactly, lent-exactly as send-lent-exactly, fits_of as send-fits-of, sender_fits_of}
use Rattle.kcp_input.specs.Input.{input_fits}
use Rattle.kcp_flush.proofs.Calls.{ack-exactly, flush-exactly}
use Rattle.history.specs.Calls.{Call, call_input, call_send, call_move_buf, call_peeksize, call_recv, call_flush_ack, call_flush, call_update, call_check, call_set_wndsize, call_set, call_get, Memory, passes}
use Rattle.history.specs.History.{Short}
use Rattle.history.proofs.Rising.{Flies}

-- ---- the parts

pub record FineReceive (r : Receiver) (l : Lists) : Type 0 where
  pub good : Good r l
  pub low : r.rcv_nxt < 2 ^ 32
  pub sizes : RingSizes 256 1024 (length l.records) 1 (length l.records) (length l.room)

-- a send window has 16 bits, so that the numbers in flight never come round
pub record FineSend (s : Sender) (c : Congestion) (m : Store) : Type 0 where
  pub sound : Sound 8 s.ring m
  pub flies : Flies s m
  pub slots : Within 128 (length m.marks) 1024
  pub narrow : Short c

-- the limits of the ack memory, "at most A acks", "at most 1,500 waiting bytes"
pub record FineAcks (a : AckList) (acks waiting : List ℕ) : Type 0 where
  pub memory : AckSizes (length acks) (length waiting)
  pub few : a.acks ≤ pairs (length acks)
  pub held : a.waiting ≤ 1500

pub record FineIn (k : Kcp) (rcv : Lists) (acks waiting : List ℕ) (m : Store) : Type 0 where
  pub settings : SettingsFit k.settings
  pub probe : ProbeFits k.probe
  pub receives : FineReceive k.receiver rcv
  pub sends : FineSend k.sender k.congestion m
  pub lists : FineAcks k.acklist acks waiting

abbrev pub Fine : Memory → Type 0
Fine m = FineIn m.block m.rcv m.acks m.waiting (store_of 8 m.snd)

-- ---- no call is refused by 15

pub own : {k : Kcp} {rcv : Lists} {acks waiting : List ℕ} {m : Store} → FineIn k rcv acks waiting m → OwnNumbers k
own {k} {m} f =
    let a = f.lists.few in
    let b = f.lists.memory.listed.high in
    record {
      settings = f.settings;
      probe = f.probe;
      receiver = f.receives.good.fits;
      sender = sender_fits_of k.sender m f.sends.sound f.sends.slots.high;
      acklist = record { acks = omega arith; waiting = f.lists.held };
    }

-- the lists of a store within the limits are within them
sizes_of : (l : Lists) → Sized 8 (store_of 8 l) → Within 128 (length (store_of 8 l).marks) 1024
    → RingSizes 128 1024 (send_slots (length l.records)) 9 (length l.records) (length l.room)
sizes_of l z w =
    let n = marks-length 8 l in
    let low = w.low in
    let high = w.high in
    record {
      few = record { low = omega arith; high = omega arith };
      recorded = let a = rows-length 8 l in let b = z.rows-size in omega arith;
      roomy = let a = ap length (store-room 8 l) in let b = z.room-size in omega arith;
    }

module _ (m : Memory) (f : Fine m) where
  fits-receive : ReceiveFits m.block m.rcv
  fits-receive = fits_of f.receives.sizes (own f) f.receives.good

  pub receive-fits : receive_fits m.block m.rcv ≡ true
  receive-fits = (exactly m.block m.rcv).tests fits-receive

  pub fits-send : SendFits m.block m.snd
  fits-send = send-fits-of m.block m.snd (own f) (sizes_of m.snd f.sends.sound.shaped.sized f.sends.slots) f.sends.sound

  pub send-fits : send_fits m.block m.snd ≡ true
  send-fits = (send-exactly m.block m.snd).tests fits-send

  fits-acks : AckSizes (length m.acks) (length m.waiting) × (m.block.acklist.acks ≤ pairs (length m.acks))
  fits-acks = (f.lists.memory, f.lists.few)

  pub input-fits : input_fits m.block m.rcv m.acks m.waiting m.snd ≡ true
  unfolding input_fits
  input-fits =
      rw ((own-numbers m.block).tests (own f), (lent-exactly m.block.receiver m.rcv).tests fits-receive.lent, (send-lent-exactly m.block.sender m.snd).tests fits-send.lent)
      ((acks-exactly m.block.acklist m.acks m.waiting).tests fits-acks)

  pub passes-own : (c : Call) → passes c m ≡ true
  unfolding passes
  passes-own (call_input s bytes) = input-fits
  passes-own (call_send bytes) = send-fits
  passes-own call_move_buf = receive-fits
  passes-own call_peeksize = receive-fits
  passes-own (call_recv buf) = receive-fits
  passes-own (call_flush_ack out lengths) = (ack-exactly m.block m.acks m.waiting).tests (own f, fits-acks)
  passes-own (call_flush out lengths) = (flush-exactly m.block m.acks m.waiting m.snd).tests (own f, (fits-send.lent, fits-acks))
  passes-own (call_update current out lengths) = (flush-exactly m.block m.acks m.waiting m.snd).tests (own f, (fits-send.lent, fits-acks))
  passes-own (call_check current) = send-fits
  passes-own (call_set_wndsize sndwnd fits rcvwnd) = receive-fits
  passes-own (call_set x) = refl
  passes-own call_get = refl
