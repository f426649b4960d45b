-- The table of numbered refusals, and "1 carries the size, 2 the own and the met conv, 3 len and the bytes left, 4 the cmd, 10 the mtu; the
-- others carry nothing more". Assumes nothing.
use Rattle.std.specs.Prelude.{ℕ, List, [], ◌∷◌, length, get_or, Result, Ok, Err}
use Rattle.block.specs.declared.refusal.Refusal.{Refusal}
use Rattle.block.specs.declared.refusal.Refusal.TheVariants.{
  InvalidSegmentSize,
  ConvInconsistent,
  InvalidSegmentDataSize,
  UnsupportedCmd,
  RecvQueueEmpty,
  ExpectingFragment,
  UserBufTooSmall,
  UserBufTooBig,
  NeedUpdate,
  InvalidMtu,
  DatagramTooBig,
  SendPoolFull,
  OutTooSmall,
  WindowTooLarge,
  BadPool,
  ShortHeader,
}
use Rattle.block.specs.declared.refusal.Values.{Values}
use Rattle.wire.specs.Helpers.{sixteen}

abbrev pub number_of : Refusal → ℕ
number_of (InvalidSegmentSize size) = 1
number_of (ConvInconsistent own met) = 2
number_of (InvalidSegmentDataSize len left) = 3
number_of (UnsupportedCmd cmd) = 4
number_of RecvQueueEmpty = 5
number_of ExpectingFragment = 6
number_of UserBufTooSmall = 7
number_of UserBufTooBig = 8
number_of NeedUpdate = 9
number_of (InvalidMtu mtu) = 10
number_of DatagramTooBig = 11
number_of SendPoolFull = 12
number_of OutTooSmall = 13
number_of WindowTooLarge = 14
number_of BadPool = 15
number_of ShortHeader = sixteen

abbrev pub values_of : Refusal → List ℕ
values_of (InvalidSegmentSize size) = size ∷ []
values_of (ConvInconsistent own met) = own ∷ met ∷ []
values_of (InvalidSegmentDataSize len left) = len ∷ left ∷ []
values_of (UnsupportedCmd cmd) = cmd ∷ []
values_of RecvQueueEmpty = []
values_of ExpectingFragment = []
values_of UserBufTooSmall = []
values_of UserBufTooBig = []
values_of NeedUpdate = []
values_of (InvalidMtu mtu) = mtu ∷ []
values_of DatagramTooBig = []
values_of SendPoolFull = []
values_of OutTooSmall = []
values_of WindowTooLarge = []
values_of BadPool = []
values_of ShortHeader = []

-- the number of an answer, 0 where nothing is refused
abbrev pub number_of_answer : {A : Type 0} → Result A Refusal → ℕ
number_of_answer (Ok x) = 0
number_of_answer (Err why) = number_of why

-- the values of an answer that carries none where nothing is refused
abbrev pub values_of_answer : {A : Type 0} → Result A Refusal → List ℕ
values_of_answer (Ok x) = []
values_of_answer (Err why) = values_of why

-- and of one that counts: bytes, or milliseconds
abbrev pub values_of_count : Result ℕ Refusal → List ℕ
values_of_count (Ok count) = count ∷ []
values_of_count (Err why) = values_of why

-- a list of at most two values as a row
abbrev pub row_of : List ℕ → Values
row_of l = record { count = length l; first = get_or l 0 0; second = get_or l 1 0 }
