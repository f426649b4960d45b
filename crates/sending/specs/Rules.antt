-- The sending side's rules over lists of segments: of 01's Input what is done with una, Ack, and the two steps at an input's end, (a) and (b).
-- Every decision is a function of numbers and lists of numbers, so that the functions over memory make the same. Assumes nothing.
use Rattle.std.specs.Prelude.{ℕ, suc, ◌+◌, ◌-◌, ◌/◌, max, Bool, cond, not, Option, Some, None, ◌&&◌, ◌||◌, List, [], ◌∷◌, map, length, drop, get_or, ltb, leb, eqb}
use Rattle.serial.specs.Branch.{pick}
use Rattle.serial.specs.Wrap.{add32, add16, add64, mul64, low16, not_before, after}
use Rattle.ring.specs.Sequences.{removed}
use Rattle.sending.specs.declared.Ack.{Ack}
use Rattle.sending.specs.declared.Window.{Window}

-- a segment that was sent, or waits to be sent: what a resend and the ack of it need
pub record Segment : Type 0 where
  pub conv : ℕ
  pub frg : ℕ
  pub sn : ℕ
  pub ts : ℕ
  pub resendts : ℕ
  pub rto : ℕ
  pub fastack : ℕ
  pub xmit : ℕ
  pub payload : List ℕ

-- snd_una and snd_nxt, the segments in flight (the send buffer), and those that wait (the send queue)
pub record Sending : Type 0 where
  pub una : ℕ
  pub next : ℕ
  pub flying : List Segment
  pub waiting : List Segment

abbrev pub numbers : List Segment → List ℕ
numbers l = map (λ (s : Segment). s.sn) l

abbrev pub with_flying : Sending → List Segment → Sending
with_flying s l = record { una = s.una; next = s.next; flying = l; waiting = s.waiting }

-- ---- "send-buffer segments are dropped from the front while timediff(una, sn) > 0; snd_una = front number, or snd_nxt"

-- how many of the numbers in flight are dropped
unfoldable pub acknowledged_by : ℕ → List ℕ → ℕ
acknowledged_by una [] = 0
acknowledged_by una (n ∷ l) = let more = acknowledged_by una l in cond (after una n) (suc more) 0

unfoldable pub una_of : ℕ → List ℕ → ℕ
una_of next [] = next
una_of next (n ∷ l) = n

-- snd_una set anew, as `shrink_buf`
unfoldable pub shrunk : Sending → Sending
shrunk s = record { una = una_of s.next (numbers s.flying); next = s.next; flying = s.flying; waiting = s.waiting }

unfoldable pub parse_una : ℕ → Sending → Sending
parse_una una s = shrunk (with_flying s (drop (acknowledged_by una (numbers s.flying)) s.flying))

-- ---- "If sn lies in [snd_una, snd_nxt) by timediff, the matching segment is removed, searching from the front and stopping at the first
-- ---- number greater than sn as a plain unsigned number; snd_una is then set anew"

unfoldable pub in_range : ℕ → ℕ → ℕ → Bool
in_range una next sn = not_before sn una && not (not_before sn next)

abbrev pub stops : ℕ → ℕ → Bool
stops sn n = ltb sn n

-- where the search ends, and whether the number stands there
unfoldable pub seek : ℕ → List ℕ → ℕ
seek sn [] = 0
seek sn (n ∷ l) = let more = seek sn l in cond (eqb n sn || stops sn n) 0 (suc more)

unfoldable pub meets : ℕ → List ℕ → Bool
meets sn l = ltb (seek sn l) (length l) && eqb (get_or l (seek sn l) 0) sn

unfoldable pub found : ℕ → ℕ → ℕ → List ℕ → Bool
found una next sn l = in_range una next sn && meets sn l

unfoldable pub parse_ack : ℕ → Sending → Sending
parse_ack sn s =
    shrunk (cond (found s.una s.next sn (numbers s.flying)) (with_flying s (removed s.flying (seek sn (numbers s.flying)))) s)

-- ---- "A datagram's first ack sets max_ack and latest_ts; a later one only if both sn and ts are later"

unfoldable pub later : Option Ack → Ack → Ack
later None a = a
later (Some l) a = pick (after a.sn l.sn && after a.ts l.ts) a l

-- ---- (a) "If an ack was seen and max_ack lies in [snd_una, snd_nxt): of the send-buffer segments, front to back, every flight record numbered
-- ---- before it, with ts not later than latest_ts, gains one fastack"

-- "not later": timediff(latest_ts, ts) ≥ 0, which at a distance of exactly 2^31 does not hold. "Every": a number past max_ack ends nothing
unfoldable pub gains : ℕ → ℕ → ℕ → ℕ → Bool
gains max_ack latest_ts sn ts = after max_ack sn && not_before latest_ts ts

-- the fastack of a flight record afterwards
unfoldable pub fastack_of : ℕ → ℕ → ℕ → ℕ → ℕ → ℕ
fastack_of max_ack latest_ts sn ts fastack = pick (gains max_ack latest_ts sn ts) (add32 fastack 1) fastack

abbrev pub raised : ℕ → ℕ → Segment → Segment
raised max_ack latest_ts s = record {
  conv = s.conv;
  frg = s.frg;
  sn = s.sn;
  ts = s.ts;
  resendts = s.resendts;
  rto = s.rto;
  fastack = fastack_of max_ack latest_ts s.sn s.ts s.fastack;
  xmit = s.xmit;
  payload = s.payload;
}

unfoldable pub parse_fastack : Option Ack → Sending → Sending
parse_fastack None s = s
parse_fastack (Some l) s = cond (in_range s.una s.next l.sn) (with_flying s (map (raised l.sn l.ts) s.flying)) s

-- ---- (b) "If .. cwnd < rmt_wnd, the window grows as in `input`: by 1 and incr by mss while under ssthresh; otherwise the incr rule of the
-- ---- source, its u16 cast kept"; then the source's cut to rmt_wnd. One step for each input; whether snd_una moved forward is asked by input.

-- "if incr < mss { incr = mss }; incr += (mss * mss) / incr + (mss / 16)"
unfoldable pub past_threshold : ℕ → ℕ → ℕ
past_threshold mss incr = add64 (max incr mss) (add64 (mul64 mss mss / max incr mss) (mss / 16))

-- "if (cwnd + 1) * mss <= incr { cwnd = ((incr + mss - 1) / mss) as u16 }"; mss is not 0 behind the test for 15
unfoldable pub rounded_up : ℕ → ℕ → ℕ → ℕ
rounded_up mss incr cwnd = pick (leb (mul64 (cwnd + 1) mss) incr) (low16 (add64 incr (mss - 1) / mss)) cwnd

unfoldable pub opened : ℕ → ℕ → Window → Window
opened mss ssthresh w =
    pick (ltb w.cwnd ssthresh)
    (record { cwnd = add16 w.cwnd 1; incr = add64 w.incr mss })
    (record { cwnd = rounded_up mss (past_threshold mss w.incr) w.cwnd; incr = past_threshold mss w.incr })

-- "if cwnd > rmt_wnd { cwnd = rmt_wnd; incr = rmt_wnd * mss }"
unfoldable pub cut_to : ℕ → ℕ → Window → Window
cut_to mss rmt_wnd w = pick (ltb rmt_wnd w.cwnd) (record { cwnd = rmt_wnd; incr = mul64 rmt_wnd mss }) w

unfoldable pub grown : ℕ → ℕ → ℕ → Window → Window
grown mss ssthresh rmt_wnd w = pick (ltb w.cwnd rmt_wnd) (cut_to mss rmt_wnd (opened mss ssthresh w)) w
