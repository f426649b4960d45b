-- What each public call promises, on either side of its tests. Assumes nothing.
use Rattle.std.specs.Prelude.{Result, Ok, Err}
use Prim.Native.Nat.{ℕ}
use mathlib.Core.Path.{◌≡◌, refl, sym, ap, ◌∙◌}
use mathlib.Core.Bool.{Bool, true, false, not}
use mathlib.Core.List.{List, []}
use lib.ListN.{length}
use borrow.Author.Tests.{not-true, not-false}
use Rattle.serial.specs.Branch.{pick, pick_true, pick-false}
use Rattle.ring.specs.Lists.{Lists}
use Rattle.block.specs.declared.Kcp.{Kcp}
use Rattle.block.specs.declared.probe.Probe.{Probe}
use Rattle.block.specs.declared.receiver.Receiver.{Receiver}
use Rattle.block.specs.declared.set.Set.{Set}
use Rattle.block.specs.declared.refusal.Refusal.{Refusal}
use Rattle.block.specs.declared.refusal.Refusal.TheVariants.{BadPool}
use Rattle.block.specs.Parts.{with_receiver, with_probe}
use Rattle.block.specs.Refusals.{number_of_answer, values_of_answer, values_of_count}
use Rattle.receiving.specs.Rules.{Answer, empty, expecting, longer, gives, too_large}
use Rattle.receive.specs.Memory.{RecvSide, move_buf_at, peek_at, answer_at, recv_by, recv_at, probe_at, length_answer, number_in, values_in, windows_at}
use Rattle.receive.specs.Fits.{receive_fits}
use Rattle.kcp_receive.specs.Calls.{bad_pool, move_buf_of, Promised, peeksize_of, Peeked, handed_over, RecvOut, unhanded, out_by, recv_of, Receives, set_wndsize_of, wndsize_number}

-- ---- an answer of the rules, and the answer that is told, have the same number and the same values

numbered : (a : Answer) → number_of_answer (length_answer a) ≡ number_in a
unfolding length_answer
numbered empty = refl
numbered expecting = refl
numbered longer = refl
numbered (gives n) = refl

valued : (a : Answer) → values_of_count (length_answer a) ≡ values_in a
unfolding length_answer
valued empty = refl
valued expecting = refl
valued longer = refl
valued (gives n) = refl

-- ---- recv, by what the rules answer

answered : (a : Answer) (k : Kcp) (l : Lists) (buf : List ℕ) → (out_by a k l buf).answer ≡ length_answer a
unfolding out_by length_answer
answered empty k l buf = refl
answered expecting k l buf = refl
answered longer k l buf = refl
answered (gives n) k l buf = refl

-- the receive side told a refusal: the block and the buffer stay
by-refused : (a : Answer) (k : Kcp) (l : Lists) (buf : List ℕ) (why : Refusal) (after : List ℕ)
    → Err why ≡ (recv_by a k.receiver l buf).answer → after ≡ (recv_by a k.receiver l buf).buf → unhanded k after why ≡ out_by a k l buf
unfolding recv_by out_by
by-refused empty k l buf why after e f = cc
by-refused expecting k l buf why after e f = cc
by-refused longer k l buf why after e f = cc
by-refused (gives n) k l buf why after e f = cc

-- or a length: the block has the receive side that it left
by_length : (a : Answer) (k : Kcp) (l : Lists) (buf : List ℕ) (n : ℕ) (o : RecvSide) → o ≡ recv_by a k.receiver l buf → Ok n ≡ (recv_by a k.receiver l buf).answer
    → record { block = handed_over k o.receiver; answer = o.answer; buf = o.buf } ≡ out_by a k l buf
unfolding recv_by out_by
by_length empty k l buf n o e f = cc
by_length expecting k l buf n o e f = cc
by_length longer k l buf n o e f = cc
by_length (gives m) k l buf n o e f = ap (λ (s : RecvSide). record { block = handed_over k s.receiver; answer = s.answer; buf = s.buf }) e

module _ (k : Kcp) (l : Lists) where
  -- ---- the memory is not well formed: 15, and all as it was
  module _ {t : Bool} (tested : t ≡ receive_fits k l) (fails : not t ≡ true) where
    unfit : receive_fits k l ≡ false
    unfit = sym tested ∙ not-true t fails

    pub unmoved : (r : Set) → r ≡ bad_pool k → Promised (move_buf_of k l) (pick (receive_fits k l) 0 15) r
    unfolding move_buf_of
    unmoved r e = rw e (record { is = sym (pick-false _ _ unfit); refusal = sym (pick-false _ _ unfit); values = refl })

    pub unpeeked : (r : Result ℕ Refusal) → r ≡ Err BadPool → Peeked k l r
    unfolding peeksize_of
    unpeeked r e = rw e (record { is = sym (pick-false _ _ unfit); refusal = sym (pick-false _ _ unfit); values = sym (pick-false _ _ unfit) })

    pub unreceived : (buf : List ℕ) (r : Result ℕ Refusal) → r ≡ Err BadPool → Receives k l buf (record { block = k; answer = r; buf = buf })
    unfolding recv_of
    unreceived buf r e = rw e (record { is = sym (pick-false _ _ unfit); refusal = sym (pick-false _ _ unfit); values = sym (pick-false _ _ unfit) })

    pub unset : (sndwnd rcvwnd : ℕ) (r : Set) → r ≡ bad_pool k → Promised (set_wndsize_of k l sndwnd rcvwnd) (wndsize_number k l rcvwnd) r
    unfolding set_wndsize_of wndsize_number
    unset sndwnd rcvwnd r e = rw e (record { is = sym (pick-false _ _ unfit); refusal = sym (pick-false _ _ unfit); values = refl })

  -- ---- it is
  module _ {t : Bool} (tested : t ≡ receive_fits k l) (passes : not t ≡ false) where
    fit : receive_fits k l ≡ true
    fit = sym tested ∙ not-false t passes

    pub moved : (r : Receiver) (b : Kcp) → r ≡ move_buf_at k.receiver l.records → b ≡ with_receiver k r → Promised (move_buf_of k l) (pick (receive_fits k l) 0 15) (record { block = b; answer = Ok tt })
    unfolding move_buf_of
    moved r b e f = record { is = rw (f, e) (sym (pick_true _ _ fit)); refusal = sym (pick_true _ _ fit); values = refl }

    pub peeks : (r : Result ℕ Refusal) → r ≡ length_answer (peek_at k.receiver l.records) → Peeked k l r
    unfolding peeksize_of
    peeks r e =
        let a = peek_at k.receiver l.records in
        record { is = e ∙ sym (pick_true _ _ fit); refusal = ap number_of_answer e ∙ numbered a ∙ sym (pick_true _ _ fit); values = ap values_of_count e ∙ valued a ∙ sym (pick_true _ _ fit) }

    module _ (buf : List ℕ) where
      receives : (o : RecvOut) → o ≡ out_by (answer_at (length buf) k.receiver l.records) k l buf → Receives k l buf o
      unfolding recv_of
      receives o e =
          let a = answer_at (length buf) k.receiver l.records in
          let f : o.answer ≡ length_answer a = ap (λ (x : RecvOut). x.answer) e ∙ answered a k l buf in
          record { is = e ∙ sym (pick_true _ _ fit); refusal = ap number_of_answer f ∙ numbered a ∙ sym (pick_true _ _ fit); values = ap values_of_count f ∙ valued a ∙ sym (pick_true _ _ fit) }

      -- the receive side, the answer and the buffer that recv leaves
      module _ (r : Receiver) {x : Result ℕ Refusal} (after : List ℕ) (e : record { receiver = r; answer = x; buf = after } ≡ recv_at k.receiver l buf) where
        -- refused by 5, 6 or 7
        pub refuses : {why : Refusal} → x ≡ Err why → Receives k l buf (record { block = k; answer = x; buf = after })
        unfolding recv_at
        refuses {why} h =
            rw h
            (receives (unhanded k after why)
            (by-refused (answer_at (length buf) k.receiver l.records) k l buf why after (sym h ∙ ap (λ (s : RecvSide). s.answer) e) (ap (λ (s : RecvSide). s.buf) e)))

        -- a length: with the block that has the receiver and then the probe
        pub received : {n : ℕ} → x ≡ Ok n → (probe : Probe) → probe ≡ probe_at k.receiver r.ring.queued k.probe
            → (b c : Kcp) → b ≡ with_receiver k r → c ≡ with_probe b probe → Receives k l buf (record { block = c; answer = Ok n; buf = after })
        unfolding recv_at
        received {n} h probe p b c f g =
            rw (g, f, p, ← h)
            (receives (record { block = handed_over k r; answer = x; buf = after })
            (by_length (answer_at (length buf) k.receiver l.records) k l buf n (record { receiver = r; answer = x; buf = after }) e (sym h ∙ ap (λ (s : RecvSide). s.answer) e)))

    module _ (sndwnd rcvwnd : ℕ) where
      abbrev large : Bool
      large = too_large (length l.records) rcvwnd

      window-number : (t : Bool) → large ≡ t → number_of_answer (windows_at (length l.records) k sndwnd rcvwnd).answer ≡ pick large 14 0
      unfolding windows_at
      window-number true e = ap (λ (s : Set). number_of_answer s.answer) (pick_true _ _ e) ∙ sym (pick_true _ _ e)
      window-number false e = ap (λ (s : Set). number_of_answer s.answer) (pick-false _ _ e) ∙ sym (pick-false _ _ e)

      window-values : (t : Bool) → large ≡ t → values_of_answer (windows_at (length l.records) k sndwnd rcvwnd).answer ≡ []
      unfolding windows_at
      window-values true e = ap (λ (s : Set). values_of_answer s.answer) (pick_true _ _ e)
      window-values false e = ap (λ (s : Set). values_of_answer s.answer) (pick-false _ _ e)

      pub windowed : (r : Set) → r ≡ windows_at (length l.records) k sndwnd rcvwnd → Promised (set_wndsize_of k l sndwnd rcvwnd) (wndsize_number k l rcvwnd) r
      unfolding set_wndsize_of wndsize_number
      windowed r e = record {
        is = e ∙ sym (pick_true _ _ fit);
        refusal = ap (λ (s : Set). number_of_answer s.answer) e ∙ window-number _ refl ∙ sym (pick_true _ _ fit);
        values = ap (λ (s : Set). values_of_answer s.answer) e ∙ window-values _ refl;
      }
