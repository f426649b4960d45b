-- The public calls that are handed the receive memory: for all inputs the answer, the block and every lent number and byte afterwards.
-- "Order: 15 before all"; refused by 15 all is as it was. None of them changes a byte of the receive memory. Assumes nothing.
use Rattle.std.specs.Prelude.{ℕ, ◌≡◌, List, [], length, Result, Ok, Err}
use Rattle.serial.specs.Branch.{pick}
use Rattle.ring.specs.Lists.{Lists}
use Rattle.block.specs.declared.Kcp.{Kcp}
use Rattle.block.specs.declared.receiver.Receiver.{Receiver}
use Rattle.block.specs.declared.set.Set.{Set}
use Rattle.block.specs.declared.refusal.Refusal.{Refusal}
use Rattle.block.specs.declared.refusal.Refusal.TheVariants.{RecvQueueEmpty, ExpectingFragment, UserBufTooSmall, BadPool}
use Rattle.block.specs.Refusals.{number_of_answer, values_of_answer, values_of_count}
use Rattle.block.specs.Parts.{with_receiver, with_probe}
use Rattle.receiving.specs.Rules.{Answer, empty, expecting, longer, gives, too_large}
use Rattle.receive.specs.Memory.{move_buf_at, peek_at, answer_at, handed_at, bytes_at, probe_at, length_answer, number_in, values_in, windows_at}
use Rattle.receive.specs.Fits.{receive_fits}

-- refused by 15, and all as it was
abbrev pub bad_pool : Kcp → Set
bad_pool k = record { block = k; answer = Err BadPool }

-- what a call promises that answers nothing but whether it was refused; n is the number of its refusal, or 0
pub record Promised (outcome : Set) (n : ℕ) (r : Set) : Type 0 where
  pub is : r ≡ outcome
  pub refusal : number_of_answer r.answer ≡ n
  pub values : values_of_answer r.answer ≡ []

-- ---- `move_buf`

unfoldable pub move_buf_of : Kcp → Lists → Set
move_buf_of k l = pick (receive_fits k l) (record { block = with_receiver k (move_buf_at k.receiver l.records); answer = Ok tt }) (bad_pool k)

-- ---- peeksize

unfoldable pub peeksize_of : Kcp → Lists → Result ℕ Refusal
peeksize_of k l = pick (receive_fits k l) (length_answer (peek_at k.receiver l.records)) (Err BadPool)

pub record Peeked (k : Kcp) (l : Lists) (r : Result ℕ Refusal) : Type 0 where
  pub is : r ≡ peeksize_of k l
  pub refusal : number_of_answer r ≡ pick (receive_fits k l) (number_in (peek_at k.receiver l.records)) 15
  pub values : values_of_count r ≡ pick (receive_fits k l) (values_in (peek_at k.receiver l.records)) []

-- ---- recv

-- the block, the answer and the buffer after a recv
pub record RecvOut : Type 0 where
  pub block : Kcp
  pub answer : Result ℕ Refusal
  pub buf : List ℕ

-- a refusal leaves block and buffer
abbrev pub unhanded : Kcp → List ℕ → Refusal → RecvOut
unhanded k buf why = record { block = k; answer = Err why; buf = buf }

-- the block once recv left its receive side so: "sets the tell bit if the queue was at or over rcv_wnd and now is under"
abbrev pub handed_over : Kcp → Receiver → Kcp
handed_over k r = with_probe (with_receiver k r) (probe_at k.receiver r.ring.queued k.probe)

unfoldable pub out_by : Answer → Kcp → Lists → List ℕ → RecvOut
out_by empty k l buf = unhanded k buf RecvQueueEmpty
out_by expecting k l buf = unhanded k buf ExpectingFragment
out_by longer k l buf = unhanded k buf UserBufTooSmall
out_by (gives n) k l buf = record { block = handed_over k (handed_at k.receiver l.records); answer = Ok n; buf = bytes_at k.receiver l buf }

unfoldable pub recv_of : Kcp → Lists → List ℕ → RecvOut
recv_of k l buf = pick (receive_fits k l) (out_by (answer_at (length buf) k.receiver l.records) k l buf) (unhanded k buf BadPool)

pub record Receives (k : Kcp) (l : Lists) (buf : List ℕ) (o : RecvOut) : Type 0 where
  pub is : o ≡ recv_of k l buf
  pub refusal : number_of_answer o.answer ≡ pick (receive_fits k l) (number_in (answer_at (length buf) k.receiver l.records)) 15
  pub values : values_of_count o.answer ≡ pick (receive_fits k l) (values_in (answer_at (length buf) k.receiver l.records)) []

-- ---- `set_wndsize`

unfoldable pub set_wndsize_of : Kcp → Lists → ℕ → ℕ → Set
set_wndsize_of k l sndwnd rcvwnd = pick (receive_fits k l) (windows_at (length l.records) k sndwnd rcvwnd) (bad_pool k)

-- 15 before 14
unfoldable pub wndsize_number : Kcp → Lists → ℕ → ℕ
wndsize_number k l rcvwnd = pick (receive_fits k l) (pick (too_large (length l.records) rcvwnd) 14 0) 15
