-- "Payload slot: 1,476 bytes. mtu: 50 to 1,500; mss = mtu − 24. Receive pool R: 256 to 1,024 slots. Send pool P: 128 to 1,024 slots.
-- Ack list A: 128 to 4,096 pairs. R, P, A are the lent sizes".
-- Each side is lent records, so many numbers for each slot, and room; the ack memory is pairs and the bytes that wait.
-- Assumes nothing.
use Rattle.std.specs.Prelude.{ℕ, ◌-◌, ◌*◌, ◌/◌, ◌≤◌, ◌≡◌, Bool, ◌&&◌, leb, eqb}

-- x is from least to most, as a test and as a fact
abbrev pub within : ℕ → ℕ → ℕ → Bool
within least x most = leb least x && leb x most

pub record Within (least x most : ℕ) : Type 0 where
  pub low : least ≤ x
  pub high : x ≤ most

-- "mtu: 50 to 1,500"
abbrev pub mtu_size : ℕ → Bool
mtu_size mtu = within 50 mtu 1500

-- "mss = mtu − 24"
abbrev pub mss_of : ℕ → ℕ
mss_of mtu = mtu - 24

-- least to most slots, with records of `width` numbers; "Payload slot: 1,476 bytes"
abbrev pub ring_sizes : ℕ → ℕ → ℕ → ℕ → ℕ → ℕ → Bool
ring_sizes least most slots width records room =
    within least slots most && (eqb records (width * slots) && eqb room (1476 * slots))

pub record RingSizes (least most slots width records room : ℕ) : Type 0 where
  pub few : Within least slots most
  pub recorded : records ≡ width * slots
  pub roomy : room ≡ 1476 * slots

-- "Receive pool R: 256 to 1,024 slots": one number for each
abbrev pub receive_sizes : ℕ → ℕ → Bool
receive_sizes records room = ring_sizes 256 1024 records 1 records room

-- "Send pool P: 128 to 1,024 slots": a mark and eight numbers for each
abbrev pub send_slots : ℕ → ℕ
send_slots records = records / 9

abbrev pub send_sizes : ℕ → ℕ → Bool
send_sizes records room = ring_sizes 128 1024 (send_slots records) 9 records room

-- how many pairs a list of so many numbers has
abbrev pub pairs : ℕ → ℕ
pairs acks = acks / 2

-- "Ack list A: 128 to 4,096 pairs", with 1,500 bytes that may wait
abbrev pub ack_sizes : ℕ → ℕ → Bool
ack_sizes acks waiting = within 128 (pairs acks) 4096 && (eqb acks (2 * pairs acks) && eqb waiting 1500)

pub record AckSizes (acks waiting : ℕ) : Type 0 where
  pub listed : Within 128 (pairs acks) 4096
  pub paired : acks ≡ 2 * pairs acks
  pub kept : waiting ≡ 1500
