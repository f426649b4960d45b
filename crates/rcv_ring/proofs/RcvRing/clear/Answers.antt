-- `rcv_ring::RcvRing::clear` meets its contract: its indices are one run of places or two. Assumes nothing.
use Rattle.std.proofs.Common.{◌+◌, ◌-◌, ◌∙◌, ap, refl, length, arith, rules}
use Rattle.rcv_ring.specs.Moves.{cleared}
use Rattle.rcv_ring.proofs.Words.{cleared_off, cleared-length, filled_run, clear_one, clear_two}
use Rattle.rcv_ring.proofs.RcvRing.clear.Goals as goal

pub returns-then-d-self : goal.returns-then-d-self
returns-then-d-self c = let a = c.args in cleared_off a.self.start (a.self.queued + a.self.reach) a.d a.self.reach a.records.now c.if-d-self.true

pub returns-then-n-left : goal.returns-then-n-left
returns-then-n-left c =
    let a = c.args in
    filled_run _ _ _ _ (a.d - a.self.reach) (c.fill.ensures.after (λ y h. search rules)) (omega arith) (omega arith)
    ∙ clear_one a.records.now a.self.start (a.self.queued + a.self.reach) (a.d - a.self.reach) _ (omega arith) (omega arith) c.place_of-a.ensures.0 (omega arith)

pub returns : goal.returns
returns c =
    let a = c.args in
    let p = c.place_of-a.result in
    let n = length a.records.now - p in
    let e = filled_run a.records.now c.fill-2.new.self p n n (c.fill-2.ensures.after (λ y h. search rules)) refl (omega (arith, c.place_of-a.ensures.1)) in
    let f = ap length e ∙ cleared-length 0 p n a.records.now in
    filled_run _ _ 0 _ _ (c.fill-3.ensures.after (λ y h. search rules)) refl (omega (arith, f))
    ∙ ap (cleared 0 0 _) e
    ∙ clear_two a.records.now a.self.start (a.self.queued + a.self.reach) (a.d - a.self.reach) _ (omega arith) (omega arith) c.place_of-a.ensures.0 (omega arith)
