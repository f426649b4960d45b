-- What a ring holds: the queue, and what is held past the next number awaited. Assumes nothing.
use Rattle.std.specs.Prelude.{ℕ, zero, suc, ◌+◌, ◌-◌, min, Bool, false, cond, not, ◌&&◌, ◌||◌, List, [], ◌∷◌, map, eqb, ltb}
use Rattle.ring.specs.Lists.{Lists}
use Rattle.rcv_ring.specs.declared.RcvRing.{RcvRing}
use Rattle.rcv_ring.specs.Places.{mark_at, frg_at, payload_at}

-- what stands in a slot
pub record Content : Type 0 where
  pub frg : ℕ
  pub payload : List ℕ

abbrev pub content : ℕ → List ℕ → Content
content f x = record { frg = f; payload = x }

abbrev pub content_at : RcvRing → Lists → ℕ → Content
content_at r l i = content (frg_at r l.records i) (payload_at r l i)

-- a held one, and how far it lies past the next number awaited
pub record Held : Type 0 where
  pub distance : ℕ
  pub content : Content

abbrev pub held : ℕ → Content → Held
held d c = record { distance = d; content = c }

-- f of the n indices from i on
unfoldable pub span : {A : Type 0} → (ℕ → A) → ℕ → ℕ → List A
span f i zero = []
span f i (suc n) = f i ∷ span f (suc i) n

-- those of the n distances from d on that are held, by their marks m, each with its content
unfoldable pub kept : (ℕ → ℕ) → (ℕ → Content) → ℕ → ℕ → List Held
kept m s d zero = []
kept m s d (suc n) = let more = kept m s (suc d) n in cond (eqb (m d) 0) more (held d (s d) ∷ more)

-- the queue, front first
unfoldable pub queue_of : RcvRing → Lists → List Content
queue_of r l = span (content_at r l) 0 r.queued

-- the mark and the content at distance d
abbrev pub mark_past : RcvRing → List ℕ → ℕ → ℕ
mark_past r records d = mark_at r records (r.queued + d)

abbrev pub content_past : RcvRing → Lists → ℕ → Content
content_past r l d = content_at r l (r.queued + d)

-- what is held, nearest first
unfoldable pub held_of : RcvRing → Lists → List Held
held_of r l = kept (mark_past r l.records) (content_past r l) 0 r.reach

-- whether distance d is held: by its mark, and among what is held
unfoldable pub held_at : RcvRing → List ℕ → ℕ → Bool
held_at r records d = ltb d r.reach && not (eqb (mark_past r records d) 0)

unfoldable pub is_there : ℕ → List Held → Bool
is_there d [] = false
is_there d (x ∷ l) = eqb x.distance d || is_there d l

-- l with h in its place, by distance
unfoldable pub put_by : Held → List Held → List Held
put_by h [] = h ∷ []
put_by h (x ∷ l) = let more = put_by h l in cond (ltb h.distance x.distance) (h ∷ x ∷ l) (x ∷ more)

-- every distance falls by k
abbrev pub closer : ℕ → List Held → List Held
closer k l = map (λ (h : Held). held (h.distance - k) h.content) l

-- how many of the n distances from d on are held, up to the first that is not
unfoldable pub leading : (ℕ → ℕ) → ℕ → ℕ → ℕ
leading m d zero = 0
leading m d (suc n) = let more = leading m (suc d) n in cond (eqb (m d) 0) 0 (suc more)

-- how many of what is held moves to a queue that has room for so many
unfoldable pub ready_of : RcvRing → List ℕ → ℕ → ℕ
ready_of r records left = leading (mark_past r records) 0 (min r.reach left)
