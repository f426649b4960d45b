-- What the rules of the receive side keep beside demand 3: of the segments still queued, and of the bytes that a recv hands out. Assumes nothing.
use Prim.Native.Nat.{ℕ, zero, suc, ◌≤◌, ◌<◌, ◌%◌, ◌^◌, zero-le}
use native.Mathlib.Omega.{arith}
use native.Mathlib.Nat.{zero-add}
use mathlib.Core.Path.{◌≡◌, refl, ◌∙◌}
use mathlib.Core.Bool.{Bool, true, false, cond}
use mathlib.Core.Option.{some}
use mathlib.Core.List.{List, [], ◌∷◌, ◌++◌}
use lib.ListN.{length, take, get_or, length-append}
use lib.Dec.{ltb}
use borrow.Author.Tests.{ltb-false}
use Rattle.receiving.specs.Rules.{Segment, Receiving, marks, sizes, payloads, message, joined, sum, Answer, empty, expecting, longer, gives, expects, peeked, peek, unless_longer, recv_answer, given}
use Rattle.receiving.specs.History.{event_recv, Past, hands, first, none-segment}
use Rattle.receiving.proofs.Laws.{numbered_at, standing_at, first_append}
use Rattle.receiving.proofs.Theorem.{Inv, layout}

module _ (slots : ℕ) where
  module _ (r : Past) (i : Inv slots r) (k : ℕ) (h : k < length (r.handed ++ r.now.queue)) where
    pub number_at : (get_or (r.handed ++ r.now.queue) k none-segment).sn ≡ k % 2 ^ 32
    number_at = let e = numbered_at 0 (r.handed ++ r.now.queue) none-segment i.holds.numbered k h in omega arith

    pub first_at : first k r.pushes ≡ some (get_or (r.handed ++ r.now.queue) k none-segment)
    unfolding layout
    first_at = i.holds.same k ∙ rw (first_append, (rw zero-add at (standing_at 0 (r.handed ++ r.now.queue) none-segment k h)))

-- ---- the bytes that a recv hands out fit the buffer

joined-sum : (n : ℕ) (l : List Segment) → length (joined (payloads (take n l))) ≡ sum (take n (sizes l))
unfolding joined sum
joined-sum zero l = refl
joined-sum (suc n) [] = refl
joined-sum (suc n) (s ∷ l) = length-append s.payload (joined (payloads (take n l))) ∙ rw (joined-sum n l)

peek-sum : (l : List Segment) (n : ℕ) → peek l ≡ gives n → n ≡ sum (take (message (marks l)) (sizes l))
unfolding peek peeked
peek-sum [] n e = cc
peek-sum (s ∷ l) n e = go (expects s.frg (suc (length (marks l)))) e
  where
    go : (b : Bool) → cond b expecting (gives (sum (take (message (marks (s ∷ l))) (sizes (s ∷ l))))) ≡ gives n → n ≡ sum (take (message (marks (s ∷ l))) (sizes (s ∷ l)))
    go true e = cc
    go false e = cc

pub hands-within : (room : ℕ) (r : Receiving) → length (joined (payloads (hands (event_recv room) r))) ≤ room
unfolding hands recv_answer given unless_longer joined
hands-within room r = go (peek r.queue) refl
  where
    kept : (n : ℕ) (b : Bool) → ltb room n ≡ b → n ≡ sum (take (message (marks r.queue)) (sizes r.queue))
        → length (joined (payloads (take (given (cond b longer (gives n)) r) r.queue))) ≤ room
    kept n true e s = zero-le
    kept n false e s = let a = joined-sum (message (marks r.queue)) r.queue in let b = ltb-false room n e in omega arith

    go : (a : Answer) → peek r.queue ≡ a → length (joined (payloads (take (given (unless_longer room a) r) r.queue))) ≤ room
    go empty e = zero-le
    go expecting e = zero-le
    go longer e = zero-le
    go (gives n) e = kept n (ltb room n) refl (peek-sum r.queue n e)
