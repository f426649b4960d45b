-- Each test of Sizes and WellFormed is true exactly when the record of facts beside it holds. Assumes nothing.
use Prim.Native.Nat.{ℕ, ◌+◌, ◌*◌, ◌≤◌, ◌<◌}
use mathlib.Core.Path.{◌≡◌, refl}
use mathlib.Core.Bool.{Bool, true, false, ◌&&◌, ◌||◌}
use mathlib.Core.Logic.{◌⊎◌, inl, inr, ⊎_elim}
use mathlib.Core.List.{List}
use lib.ListN.{length}
use lib.Dec.{leb, ltb, eqb}
use borrow.Author.Tests.{leb-true, le-leb, ltb-true, lt-ltb, eqb-true, eq-eqb}
use Rattle.block.specs.declared.settings.Settings.{Settings}
use Rattle.block.specs.declared.probe.Probe.{Probe}
use Rattle.block.specs.declared.receiver.Receiver.{Receiver}
use Rattle.block.specs.declared.acklist.AckList.{AckList}
use Rattle.block.specs.declared.sender.Sender.{Sender}
use Rattle.block.specs.declared.Kcp.{Kcp}
use Rattle.block.specs.Sizes.{within, Within, mss_of, pairs, ring_sizes, RingSizes, ack_sizes, AckSizes}
use Rattle.block.specs.WellFormed.{settings_fit, SettingsFit, probe_fits, ProbeFits, receiver_fits, ReceiverFits, sender_fits, SenderFits, acklist_fits, AckListFits, own_numbers, OwnNumbers, receive_numbers, ReceiveNumbers, send_numbers, SendNumbers, ack_lent}

-- the test t is true exactly when P holds
pub record Exactly (t : Bool) (P : Type 0) : Type 0 where
  pub holds : t ≡ true → P
  pub tests : P → t ≡ true

pub exactly_le : (a b : ℕ) → Exactly (leb a b) (a ≤ b)
exactly_le a b = record { holds = leb-true a b; tests = le-leb a b }

pub exactly_lt : (a b : ℕ) → Exactly (ltb a b) (a < b)
exactly_lt a b = record { holds = ltb-true a b; tests = lt-ltb a b }

pub exactly_eq : (a b : ℕ) → Exactly (eqb a b) (a ≡ b)
exactly_eq a b = record { holds = eqb-true a b; tests = eq-eqb a b }

pub exactly_both : {s t : Bool} {P Q : Type 0} → Exactly s P → Exactly t Q → Exactly (s && t) (P × Q)
exactly_both {s = true} p q = record { holds = λ h. (p.holds refl, q.holds h); tests = λ x. q.tests x.1 }
exactly_both {s = false} p q = record { holds = λ h. (p.holds h, q.holds (cc)); tests = λ x. p.tests x.0 }

pub exactly-either : {s t : Bool} {P Q : Type 0} → Exactly s P → Exactly t Q → Exactly (s || t) (P ⊎ Q)
exactly-either {s = true} p q = record { holds = λ h. inl (p.holds h); tests = λ x. refl }
exactly-either {s = false} p q = record { holds = λ h. inr (q.holds h); tests = λ x. ⊎_elim (λ a. (cc (p.tests a))) q.tests x }

-- of facts that say the same
pub exactly_as : {t : Bool} {P Q : Type 0} → (P → Q) → (Q → P) → Exactly t P → Exactly t Q
exactly_as f g p = record { holds = λ h. f (p.holds h); tests = λ x. p.tests (g x) }

-- ---- sizes

pub exactly-within : (least x most : ℕ) → Exactly (within least x most) (Within least x most)
exactly-within least x most =
    exactly_as (λ p. record { low = p.0; high = p.1 }) (λ w. (w.low, w.high)) (exactly_both (exactly_le least x) (exactly_le x most))

pub ring-sizes : (least most slots width records room : ℕ) → Exactly (ring_sizes least most slots width records room) (RingSizes least most slots width records room)
ring-sizes least most slots width records room =
    exactly_as
    (λ p. record { few = p.0; recorded = p.1.0; roomy = p.1.1 })
    (λ w. (w.few, (w.recorded, w.roomy)))
    (exactly_both (exactly-within least slots most) (exactly_both (exactly_eq records (width * slots)) (exactly_eq room (1476 * slots))))

pub ack-sizes : (acks waiting : ℕ) → Exactly (ack_sizes acks waiting) (AckSizes acks waiting)
ack-sizes acks waiting =
    exactly_as
    (λ p. record { listed = p.0; paired = p.1.0; kept = p.1.1 })
    (λ w. (w.listed, (w.paired, w.kept)))
    (exactly_both (exactly-within 128 (pairs acks) 4096) (exactly_both (exactly_eq acks (2 * pairs acks)) (exactly_eq waiting 1500)))

-- ---- the block

pub settings-fit : (s : Settings) → Exactly (settings_fit s) (SettingsFit s)
unfolding settings_fit
settings-fit s =
    exactly_as (λ p. record { mtu = p.0; mss = p.1 }) (λ w. (w.mtu, w.mss)) (exactly_both (exactly-within 50 s.mtu 1500) (exactly_eq s.mss (mss_of s.mtu)))

pub probe-fits : (p : Probe) → Exactly (probe_fits p) (ProbeFits p)
unfolding probe_fits
probe-fits p =
    exactly_as (λ x. record { wait = x }) (λ w. w.wait) (exactly-either (exactly_eq p.probe_wait 0) (exactly-within 7000 p.probe_wait 120000))

pub receiver-fits : (r : Receiver) → Exactly (receiver_fits r) (ReceiverFits r)
unfolding receiver_fits
receiver-fits r =
    exactly_as
    (λ p. record { window = p.0; queue = p.1.0.0; buffer = p.1.0.1; most = p.1.1.0; start = p.1.1.1 })
    (λ w. (w.window, ((w.queue, w.buffer), (w.most, w.start))))
    (exactly_both (exactly-within 128 r.rcv_wnd r.largest)
    (exactly_both (exactly_both (exactly_le r.ring.queued r.largest) (exactly_le r.ring.reach r.largest))
    (exactly_both (exactly_le r.largest 512) (exactly_lt r.ring.start 1024))))

pub sender-fits : (s : Sender) → Exactly (sender_fits s) (SenderFits s)
unfolding sender_fits
sender-fits s =
    exactly_as
    (λ p. record { used = p.0; gaps = p.1.0.0; front = p.1.0.1; start = p.1.1 })
    (λ w. (w.used, ((w.gaps, w.front), w.start)))
    (exactly_both (exactly_le (s.ring.reach + s.ring.unsent) 1024)
    (exactly_both (exactly_both (exactly_le s.ring.flying s.ring.reach) (exactly-either (exactly_eq s.ring.reach 0) (exactly_lt 0 s.ring.flying)))
    (exactly_lt s.ring.start 1024)))

pub acks-exactly : (a : AckList) (acks waiting : List ℕ) → Exactly (ack_lent a acks waiting) (AckSizes (length acks) (length waiting) × (a.acks ≤ pairs (length acks)))
unfolding ack_lent
acks-exactly a acks waiting = exactly_both (ack-sizes (length acks) (length waiting)) (exactly_le a.acks (pairs (length acks)))

pub acklist-fits : (a : AckList) → Exactly (acklist_fits a) (AckListFits a)
unfolding acklist_fits
acklist-fits a =
    exactly_as (λ p. record { acks = p.0; waiting = p.1 }) (λ w. (w.acks, w.waiting)) (exactly_both (exactly_le a.acks 4096) (exactly_le a.waiting 1500))

pub own-numbers : (k : Kcp) → Exactly (own_numbers k) (OwnNumbers k)
unfolding own_numbers
own-numbers k =
    exactly_as
    (λ p. record { settings = p.0.0; probe = p.0.1; receiver = p.1.0.0; sender = p.1.0.1; acklist = p.1.1 })
    (λ w. ((w.settings, w.probe), ((w.receiver, w.sender), w.acklist)))
    (exactly_both (exactly_both (settings-fit k.settings) (probe-fits k.probe))
    (exactly_both (exactly_both (receiver-fits k.receiver) (sender-fits k.sender)) (acklist-fits k.acklist)))

-- ---- beside lent sizes

pub receive-numbers : (slots : ℕ) (r : Receiver) → Exactly (receive_numbers slots r) (ReceiveNumbers slots r)
receive-numbers slots r =
    exactly_as (λ p. record { start = p.0; twice = p.1 }) (λ w. (w.start, w.twice)) (exactly_both (exactly_lt r.ring.start slots) (exactly_le (2 * r.largest) slots))

pub send-numbers : (slots : ℕ) (s : Sender) → Exactly (send_numbers slots s) (SendNumbers slots s)
send-numbers slots s =
    exactly_as (λ p. record { start = p.0; used = p.1 }) (λ w. (w.start, w.used)) (exactly_both (exactly_lt s.ring.start slots) (exactly_le (s.ring.reach + s.ring.unsent) slots))
