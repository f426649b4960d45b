-- "15 before all; 11 or 1 next; per segment 2, then 3, then 4": one datagram, with the memory of both sides and the ack memory. For all inputs the
-- answer, the skipped pushes, the block and every lent number and byte afterwards. Assumes nothing.
use Rattle.std.specs.Prelude.{ℕ, ◌≤◌, ◌≡◌, Bool, ◌&&◌, List, [], ◌∷◌, length, ltb, Err}
use Rattle.serial.specs.Branch.{pick}
use Rattle.ring.specs.Lists.{Lists}
use Rattle.snd_ring.specs.Store.{Store, store_of}
use Rattle.block.specs.declared.Kcp.{Kcp}
use Rattle.block.specs.declared.refusal.Refusal.{Refusal}
use Rattle.block.specs.declared.refusal.Refusal.TheVariants.{BadPool, DatagramTooBig, InvalidSegmentSize}
use Rattle.block.specs.Sizes.{AckSizes, pairs}
use Rattle.block.specs.WellFormed.{own_numbers, OwnNumbers, ack_lent}
use Rattle.receive.specs.Fits.{receive_lent, ReceiveLent}
use Rattle.transmit.specs.Fits.{send_lent, SendLent}
use Rattle.input.specs.Segment.{End}
use Rattle.input.specs.Datagram.{ReadOut, read_at, end_of, number_of_end, values_of_end}
use Rattle.block.specs.Refusals.{number_of_answer, values_of_count}

-- ---- "15 | block or lent memory not well formed, or a size outside the limits"

unfoldable pub input_fits : Kcp → Lists → List ℕ → List ℕ → Lists → Bool
input_fits k rcv acks waiting snd = own_numbers k && (receive_lent k.receiver rcv && (send_lent k.sender snd && ack_lent k.acklist acks waiting))

-- the same as facts; that the test is true exactly when they hold: proofs/Exact
pub record InputFits (k : Kcp) (rcv : Lists) (acks waiting : List ℕ) (snd : Lists) : Type 0 where
  pub own : OwnNumbers k
  pub rcvs : ReceiveLent k.receiver rcv
  pub snds : SendLent k.sender snd
  pub sizes : AckSizes (length acks) (length waiting)
  pub few : k.acklist.acks ≤ pairs (length acks)

-- ---- input

-- all as it was, and no push skipped
abbrev pub unread : Kcp → Lists → List ℕ → Store → Refusal → ReadOut
unread k rcv acks snd why = record { block = k; answer = Err why; skipped = 0; rcv = rcv; acks = acks; snd = snd }

module _ (k : Kcp) (rcv : Lists) (acks waiting : List ℕ) (snd : Lists) (s : List ℕ) where
  -- "11 | input over 1,500 bytes", "1 | input under 24 bytes", which carries the size
  unfoldable pub input_of : ReadOut
  input_of =
      pick (input_fits k rcv acks waiting snd)
      (pick (ltb 1500 (length s))
      (unread k rcv acks (store_of 8 snd) DatagramTooBig)
      (pick (ltb (length s) 24) (unread k rcv acks (store_of 8 snd) (InvalidSegmentSize (length s))) (read_at k rcv acks (store_of 8 snd) s)))
      (unread k rcv acks (store_of 8 snd) BadPool)

  -- where the datagram ends, by its bytes and the block's conv
  abbrev pub end_is : End
  end_is = end_of s k.settings.conv k.settings.input_conv

  unfoldable pub input_number : ℕ
  input_number =
      pick (input_fits k rcv acks waiting snd) (pick (ltb 1500 (length s)) 11 (pick (ltb (length s) 24) 1 (number_of_end end_is))) 15

  unfoldable pub input_values : List ℕ
  input_values =
      pick (input_fits k rcv acks waiting snd) (pick (ltb 1500 (length s)) [] (pick (ltb (length s) 24) (length s ∷ []) (values_of_end end_is))) []

  pub record Inputs (o : ReadOut) : Type 0 where
    pub is : o ≡ input_of
    pub refusal : number_of_answer o.answer ≡ input_number
    pub values : values_of_count o.answer ≡ input_values
    -- "the number of skipped pushes (0 to 62)"
    pub few : o.skipped ≤ 62
