-- A call that is refused by 15 leaves the block and all that it is handed, and does nothing to the receive side. Assumes nothing.
use mathlib.Core.Path.{◌≡◌, refl, ap, ◌∙◌}
use mathlib.Core.Bool.{false}
use mathlib.Core.List.{[]}
use Rattle.serial.specs.Branch.{pick-false}
use Rattle.block.specs.declared.set.Set.{Set}
use Rattle.input.specs.Datagram.{ReadOut}
use Rattle.output.specs.Memory.{Out, FlushOut}
use Rattle.kcp_receive.specs.Calls.{RecvOut, move_buf_of, recv_of, set_wndsize_of}
use Rattle.kcp_send.specs.Send.{SendOut, send_of}
use Rattle.kcp_input.specs.Input.{input_of}
use Rattle.kcp_flush.specs.Calls.{flush_ack_of, flush_of, update_of}
use Rattle.history.specs.Calls.{Call, call_input, call_send, call_move_buf, call_peeksize, call_recv, call_flush_ack, call_flush, call_update, call_check, call_set_wndsize, call_set, call_get, lists_of, Memory, with_block, flushed_to, leaves, passes, events}
use Rattle.history.proofs.Stores.{as_it_was}

pub bad-leaves : (c : Call) (m : Memory) → passes c m ≡ false → leaves c m ≡ m
unfolding passes leaves input_of send_of move_buf_of recv_of flush_ack_of flush_of update_of set_wndsize_of
bad-leaves (call_input s bytes) m e =
    ap (λ (o : ReadOut). record { block = o.block; rcv = o.rcv; acks = o.acks; waiting = m.waiting; snd = lists_of o.snd }) (pick-false _ _ e) ∙ as_it_was m
bad-leaves (call_send bytes) m e =
    ap (λ (o : SendOut). record { block = o.block; rcv = m.rcv; acks = m.acks; waiting = m.waiting; snd = lists_of o.store }) (pick-false _ _ e) ∙ as_it_was m
bad-leaves call_move_buf m e = ap (λ (o : Set). with_block m o.block) (pick-false _ _ e)
bad-leaves call_peeksize m e = refl
bad-leaves (call_recv buf) m e = ap (λ (o : RecvOut). with_block m o.block) (pick-false _ _ e)
bad-leaves (call_flush_ack out lengths) m e =
    ap (λ (o : Out). record { block = o.block; rcv = m.rcv; acks = m.acks; waiting = o.written.waiting; snd = m.snd }) (pick-false _ _ e)
bad-leaves (call_flush out lengths) m e = ap (λ (o : FlushOut). flushed_to m o) (pick-false _ _ e) ∙ as_it_was m
bad-leaves (call_update current out lengths) m e = ap (λ (o : FlushOut). flushed_to m o) (pick-false _ _ e) ∙ as_it_was m
bad-leaves (call_check current) m e = refl
bad-leaves (call_set_wndsize sndwnd fits rcvwnd) m e = ap (λ (o : Set). with_block m o.block) (pick-false _ _ e)
bad-leaves (call_set x) m e = cc
bad-leaves call_get m e = cc

pub bad-tells : (c : Call) (m : Memory) → passes c m ≡ false → events c m ≡ []
unfolding passes events
bad-tells (call_input s bytes) m e = rw e
bad-tells call_move_buf m e = rw e
bad-tells (call_recv buf) m e = rw e
bad-tells (call_set_wndsize sndwnd fits rcvwnd) m e = rw e
bad-tells (call_send bytes) m e = refl
bad-tells call_peeksize m e = refl
bad-tells (call_flush_ack out lengths) m e = refl
bad-tells (call_flush out lengths) m e = refl
bad-tells (call_update current out lengths) m e = refl
bad-tells (call_check current) m e = refl
bad-tells (call_set x) m e = refl
bad-tells call_get m e = refl
