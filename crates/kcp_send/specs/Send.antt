-- The public call send, which is handed the send memory: for all inputs the answer, the block and every lent number and byte afterwards.
-- "15 before all", "8 before 12", "It answers the bytes queued". Assumes nothing.
use Rattle.std.specs.Prelude.{ℕ, ◌≡◌, List, [], length, Result, Err}
use Rattle.serial.specs.Branch.{pick}
use Rattle.ring.specs.Lists.{Lists}
use Rattle.snd_ring.specs.Store.{Store, store_of}
use Rattle.block.specs.declared.Kcp.{Kcp}
use Rattle.block.specs.declared.refusal.Refusal.TheVariants.{BadPool}
use Rattle.block.specs.Parts.{with_sender}
use Rattle.sending.specs.Send.{Verdict}
use Rattle.transmit.specs.Fits.{send_fits}
use Rattle.send.specs.Memory.{verdict_at, send_at, answer_at, number_in, values_in}
use Rattle.block.specs.declared.refusal.Refusal.{Refusal}
use Rattle.block.specs.Refusals.{number_of_answer, values_of_count}

-- the block, the answer and the memory after a send
pub record SendOut : Type 0 where
  pub block : Kcp
  pub answer : Result ℕ Refusal
  pub store : Store

module _ (k : Kcp) (l : Lists) (bytes : List ℕ) where
  abbrev pub verdict_of : Verdict
  verdict_of = verdict_at k.settings.mss k.settings.stream bytes k.sender (store_of 8 l)

  -- refused by 15 all is as it was
  unfoldable pub send_of : SendOut
  send_of =
      let x = send_at k.settings.mss k.settings.stream bytes k.sender (store_of 8 l) in
      pick (send_fits k l)
      (record { block = with_sender k x.sender; answer = answer_at k.settings.mss k.settings.stream bytes k.sender (store_of 8 l); store = x.store })
      (record { block = k; answer = Err BadPool; store = store_of 8 l })

  pub record Sends (o : SendOut) : Type 0 where
    pub is : o ≡ send_of
    pub refusal : number_of_answer o.answer ≡ pick (send_fits k l) (number_in verdict_of) 15
    pub values : values_of_count o.answer ≡ pick (send_fits k l) (values_in (length bytes) verdict_of) []
