-- The kind of each cmd, and that the cmd of a kind that was told is the cmd again. Assumes nothing.
use Rattle.std.specs.Prelude.{Result, Ok}
use Prim.Native.Nat.{ℕ}
use mathlib.Core.Path.{◌≡◌, refl, sym}
use mathlib.Core.Bool.{Bool, true, false}
use lib.Dec.{eqb}
use borrow.Author.Tests.{ne_eqb, eqb-true}
use Rattle.serial.specs.Branch.{pick}
use Rattle.wire.specs.declared.Kind.TheVariants.{Push, Ack, Ask, Tell}
use Rattle.wire.specs.Commands.{push, ack, ask, tell, unsupported, command_of, said_by}
use Rattle.wire.specs.declared.Kind.{Kind}
use Rattle.wire.specs.declared.UnsupportedCmd.{UnsupportedCmd}

module _ {cmd : ℕ} where
  pub kind-push : cmd ≡ push → command_of cmd ≡ Ok Push
  unfolding command_of pick
  kind-push e = rw e refl

  pub kind-ack : cmd ≡ ack → command_of cmd ≡ Ok Ack
  unfolding command_of pick
  kind-ack e = rw e refl

  pub kind-ask : cmd ≡ ask → command_of cmd ≡ Ok Ask
  unfolding command_of pick
  kind-ask e = rw e refl

  pub kind-tell : cmd ≡ tell → command_of cmd ≡ Ok Tell
  unfolding command_of pick
  kind-tell e = rw e refl

  -- "cmd not 81 to 84"
  pub kind-other : (cmd ≡ push → ⊥) → (cmd ≡ ack → ⊥) → (cmd ≡ ask → ⊥) → (cmd ≡ tell → ⊥) → command_of cmd ≡ unsupported cmd
  unfolding command_of pick
  kind-other p a q t = rw (ne_eqb cmd push p, ne_eqb cmd ack a, ne_eqb cmd ask q, ne_eqb cmd tell t) refl

-- a choice by a test whose either side has the cmd
sided : (cmd : ℕ) (a b : Result Kind UnsupportedCmd) (t : Bool) → (t ≡ true → said_by a ≡ cmd) → said_by b ≡ cmd → said_by (pick t a b) ≡ cmd
unfolding pick
sided cmd a b true h k = h refl
sided cmd a b false h k = k

pub command_kind : (cmd : ℕ) → said_by (command_of cmd) ≡ cmd
unfolding command_of
command_kind cmd =
    sided cmd _ _ (eqb cmd push) (λ h. sym (eqb-true cmd push h))
    (sided cmd _ _ (eqb cmd ack) (λ h. sym (eqb-true cmd ack h))
    (sided cmd _ _ (eqb cmd ask) (λ h. sym (eqb-true cmd ask h))
    (sided cmd _ _ (eqb cmd tell) (λ h. sym (eqb-true cmd tell h)) refl)))
