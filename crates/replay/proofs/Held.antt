-- How many segments are held, either side of the test. Assumes nothing.
use Prim.Native.Nat.{ℕ}
use mathlib.Core.Path.{◌≡◌, sym, ◌∙◌}
use mathlib.Core.Bool.{Bool, true, false, not}
use borrow.Author.Tests.{not-true, not-false}
use Rattle.serial.specs.Branch.{pick_true, pick-false}
use Rattle.ring.specs.Lists.{Lists}
use Rattle.ring.specs.Counting.{count}
use Rattle.block.specs.declared.Kcp.{Kcp}
use Rattle.receive.specs.Fits.{receive_fits}
use Rattle.replay.specs.Judge.{held_in}

module _ (k : Kcp) (l : Lists) {t : Bool} (tested : t ≡ receive_fits k l) where
  pub unfit : not t ≡ true → 4294967295 ≡ held_in k l
  unfolding held_in
  unfit fails = sym (pick-false _ _ (sym tested ∙ not-true t fails))

  pub counted : not t ≡ false → (n : ℕ) → n ≡ count 65536 l.records k.receiver.ring.start k.receiver.ring.queued k.receiver.ring.reach → n ≡ held_in k l
  unfolding held_in
  counted holds n e = e ∙ sym (pick_true _ _ (sym tested ∙ not-false t holds))
