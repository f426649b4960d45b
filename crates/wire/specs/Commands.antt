-- "cmd 81 push, 82 ack, 83 window ask, 84 window tell". Assumes nothing.
use Rattle.std.specs.Prelude.{ℕ, eqb, Result, Ok, Err}
use Rattle.serial.specs.Branch.{pick}
use Rattle.wire.specs.declared.Kind.{Kind}
use Rattle.wire.specs.declared.Kind.TheVariants.{Push, Ack, Ask, Tell}
use Rattle.wire.specs.declared.UnsupportedCmd.{UnsupportedCmd}

abbrev pub push : ℕ
push = 81

abbrev pub ack : ℕ
ack = 82

abbrev pub ask : ℕ
ask = 83

abbrev pub tell : ℕ
tell = 84

-- a cmd that is none of the four
abbrev pub unsupported : ℕ → Result Kind UnsupportedCmd
unsupported cmd = Err (record { cmd = cmd })

-- what a cmd says
unfoldable pub command_of : ℕ → Result Kind UnsupportedCmd
command_of cmd =
    pick (eqb cmd push) (Ok Push) (pick (eqb cmd ack) (Ok Ack) (pick (eqb cmd ask) (Ok Ask) (pick (eqb cmd tell) (Ok Tell) (unsupported cmd))))

-- the cmd of a kind
abbrev pub cmd_of : Kind → ℕ
cmd_of Push = push
cmd_of Ack = ack
cmd_of Ask = ask
cmd_of Tell = tell

-- the cmd that says it
abbrev pub said_by : Result Kind UnsupportedCmd → ℕ
said_by (Ok kind) = cmd_of kind
said_by (Err e) = e.cmd
