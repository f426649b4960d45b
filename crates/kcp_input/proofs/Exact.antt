-- The test of input is true exactly when its facts hold; and what the walk needs of the facts. Assumes nothing.
use Prim.Native.Nat.{ℕ, ◌≤◌, ◌<◌}
use native.Mathlib.Omega.{arith}
use mathlib.Core.List.{List}
use lib.ListN.{length}
use Rattle.ring.specs.Lists.{Lists}
use Rattle.block.specs.declared.Kcp.{Kcp}
use Rattle.block.proofs.Exact.{Exactly, exactly_both, exactly_as, acks-exactly, own-numbers}
use Rattle.receive.specs.Fits.{Good}
use Rattle.receive.proofs.Exact.{lent-good}
use Rattle.receive.proofs.Exact as Receive
use Rattle.transmit.specs.Fits.{Lies}
use Rattle.transmit.proofs.Exact.{sound_of, lies_of}
use Rattle.transmit.proofs.Exact as Send
use Rattle.kcp_input.specs.Input.{input_fits, InputFits}

module _ (k : Kcp) (rcv : Lists) (acks waiting : List ℕ) (snd : Lists) where
  pub exactly : Exactly (input_fits k rcv acks waiting snd) (InputFits k rcv acks waiting snd)
  unfolding input_fits
  exactly =
      exactly_as
      (λ p. record { own = p.0; rcvs = p.1.0; snds = p.1.1.0; sizes = p.1.1.1.0; few = p.1.1.1.1 })
      (λ f. (f.own, (f.rcvs, (f.snds, (f.sizes, f.few)))))
      (exactly_both (own-numbers k) (exactly_both (Receive.lent-exactly k.receiver rcv) (exactly_both (Send.lent-exactly k.sender snd) (acks-exactly k.acklist acks waiting))))

-- ---- what the walk needs

module _ {k : Kcp} {rcv : Lists} {acks waiting : List ℕ} {snd : Lists} (f : InputFits k rcv acks waiting snd) where
  pub fits-good : Good k.receiver rcv
  fits-good = lent-good f.own.receiver f.rcvs

  pub fits-lies : Lies k.sender snd.records
  fits-lies = lies_of k.sender snd.records snd.room (sound_of {k = k} {l = snd} (record { own = f.own; lent = f.snds }))

  pub few-acks : length acks ≤ 8192
  few-acks = let z = f.sizes in let a = z.listed.high in let b = z.paired in omega arith

  pub some-mss : 0 < k.settings.mss
  some-mss = let l = f.own.settings.mtu.low in let e = f.own.settings.mss in omega arith
