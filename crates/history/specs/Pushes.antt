-- What the segments of a datagram do to the receive side, as the events of its history: a push for each push segment that is not refused, in
-- the order in which the walk meets them. That 15, 11 and 1 let no segment be read is said in History. Assumes nothing.
use Rattle.std.specs.Prelude.{ℕ, zero, suc, ◌+◌, ◌-◌, List, [], ◌∷◌, ◌++◌, length, leb, Result, Ok, Err}
use Rattle.serial.specs.Branch.{pick}
use Rattle.wire.specs.declared.Header.{Header}
use Rattle.wire.specs.declared.Kind.TheVariants.{Push, Ack, Ask, Tell}
use Rattle.wire.specs.Header.{header_at}
use Rattle.receiving.specs.History.{Event, event_push}
use Rattle.receive.specs.Memory.{full_at}
use Rattle.input.specs.Segment.{Met, End, through, stopped, verdict_of, push_of, payload_at, segment_at}
use Rattle.block.specs.declared.refusal.Refusal.{Refusal}
use Rattle.wire.specs.declared.Kind.{Kind}

-- the push of a segment, if it is one; whether the ack list is full is asked when its turn comes
unfoldable pub push_by : List ℕ → ℕ → Header → Met → Result Kind Refusal → List Event
push_by s at h m (Ok Push) = event_push (full_at m.block.acklist.acks m.acks) (push_of h (payload_at s at h.len)) ∷ []
push_by s at h m (Ok Ack) = []
push_by s at h m (Ok Ask) = []
push_by s at h m (Ok Tell) = []
push_by s at h m (Err why) = []

unfoldable pub push_at_segment : List ℕ → ℕ → Met → List Event
push_at_segment s at m =
    let h = header_at s at in
    push_by s at h m (verdict_of m.block.settings.conv m.block.settings.input_conv h (length s - at - 24))

unfoldable pub behind : (ℕ → Met → List Event) → Met → End → List Event
behind go m (through next) = go next m
behind go m (stopped why) = []

-- from byte `at` on, as `walk_from` walks
unfoldable pub pushes_from : List ℕ → ℕ → ℕ → Met → List Event
pushes_from s zero at m = []
pushes_from s (suc fuel) at m =
    pick (leb (at + 24) (length s))
    (push_at_segment s at m ++ behind (λ next n. pushes_from s fuel next n) (segment_at s at m).met (segment_at s at m).end)
    []

unfoldable pub pushes_of : List ℕ → Met → List Event
pushes_of s m = pushes_from s (length s) 0 m
