-- The words that each call writes in the words of a block are those of the block that it leaves, and what stays is as it was. Assumes nothing.
use Rattle.std.specs.Prelude.{Err}
use Prim.Native.Nat.{ℕ}
use mathlib.Core.Path.{◌≡◌, refl}
use mathlib.Core.Bool.{Bool, true, false}
use mathlib.Core.List.{List}
use lib.ListN.{length, set}
use lib.Dec.{ltb}
use Rattle.serial.specs.Branch.{pick}
use Rattle.ring.specs.Lists.{Lists}
use Rattle.block.specs.declared.congestion.Congestion.{Congestion}
use Rattle.block.specs.declared.probe.Probe.{Probe}
use Rattle.block.specs.declared.receiver.Receiver.{Receiver}
use Rattle.block.specs.declared.Kcp.{Kcp}
use Rattle.block.specs.declared.set.Set.{Set}
use Rattle.block.specs.declared.refusal.Refusal.{Refusal}
use Rattle.block.specs.Parts.{with_congestion, with_receiver, with_probe}
use Rattle.words.specs.Words.{words_of, with_rcv_words, with_windows}
use Rattle.receiving.specs.Rules.{Answer, empty, expecting, longer, gives, tells, wanted, too_large}
use Rattle.receive.specs.Fits.{receive_fits}
use Rattle.receive.specs.Memory.{move_buf_at, answer_at, freed_at, handed_at, with_tell, probe_at, widened_at, send_window, receive_window, windows_at}
use Rattle.kcp_receive.specs.Calls.{move_buf_of, RecvOut, out_by, recv_of, set_wndsize_of}

-- what holds of either side holds of the choice
by-pick : {A : Type 0} (P : A → Type 0) (t : Bool) (a b : A) → P a → P b → P (pick t a b)
unfolding pick
by-pick P true a b p q = p
by-pick P false a b p q = q

module _ (k : Kcp) (l : Lists) where
  -- `move_buf` writes what it may change of the receive side
  abbrev Moved : Kcp → Type 0
  Moved b = with_rcv_words b.receiver (words_of k) ≡ words_of b

  pub move-words : Moved (move_buf_of k l).block
  unfolding move_buf_of move_buf_at with_rcv_words words_of
  move-words = by-pick (λ (s : Set). Moved s.block) (receive_fits k l) _ _ refl refl

  -- `set_wndsize` the windows
  abbrev Windowed : Kcp → Type 0
  Windowed b = with_windows b (words_of k) ≡ words_of b

  abbrev sends : ℕ → Kcp
  sends x = let c = k.congestion in with_congestion k (record { snd_wnd = x; rmt_wnd = c.rmt_wnd; cwnd = c.cwnd; ssthresh = c.ssthresh; incr = c.incr })

  by-window : (x rcvwnd : ℕ) → Windowed (with_receiver (sends x) (receive_window rcvwnd k.receiver))
  unfolding receive_window widened_at with_windows words_of
  by-window x rcvwnd =
      by-pick (λ (r : Receiver). Windowed (with_receiver (sends x) r)) (ltb 0 rcvwnd) (widened_at (wanted rcvwnd) k.receiver) k.receiver refl refl

  pub window-words : (sndwnd rcvwnd : ℕ) → Windowed (set_wndsize_of k l sndwnd rcvwnd).block
  unfolding set_wndsize_of windows_at send_window with_windows words_of
  window-words sndwnd rcvwnd =
      by-pick (λ (s : Set). Windowed s.block) (receive_fits k l) _ _
      (by-pick (λ (s : Set). Windowed s.block) (too_large (length l.records) rcvwnd) _ _ refl
      (by-pick (λ (c : Congestion). Windowed (with_receiver (with_congestion k c) (receive_window rcvwnd k.receiver))) (ltb 0 sndwnd) (sends sndwnd).congestion k.congestion
      (by-window sndwnd rcvwnd) (by-window k.congestion.snd_wnd rcvwnd)))
      refl

  module _ (buf : List ℕ) where
    -- recv what it may change of the receive side, and the bits of the probe
    abbrev Handed : Kcp → Type 0
    Handed b = set (with_rcv_words b.receiver (words_of k)) 15 b.probe.bits ≡ words_of b

    by-probe : (q : ℕ) → Handed (with_probe (with_receiver k (handed_at k.receiver l.records)) (probe_at k.receiver q k.probe))
    unfolding handed_at move_buf_at freed_at probe_at with_rcv_words words_of
    by-probe q =
        by-pick (λ (p : Probe). Handed (with_probe (with_receiver k (handed_at k.receiver l.records)) p)) (tells k.receiver.rcv_wnd k.receiver.ring.queued q) (with_tell k.probe) k.probe
        refl refl

    by-words : (a : Answer) → Handed (out_by a k l buf).block
    unfolding out_by with_rcv_words words_of
    by-words empty = refl
    by-words expecting = refl
    by-words longer = refl
    by-words (gives n) = by-probe (handed_at k.receiver l.records).ring.queued

    pub recv-words : Handed (recv_of k l buf).block
    unfolding recv_of with_rcv_words words_of
    recv-words = by-pick (λ (o : RecvOut). Handed o.block) (receive_fits k l) _ _ (by-words (answer_at (length buf) k.receiver l.records)) refl

    -- a refused recv leaves the block
    by-refused : (a : Answer) {why : Refusal} → (out_by a k l buf).answer ≡ Err why → (out_by a k l buf).block ≡ k
    unfolding out_by
    by-refused empty e = refl
    by-refused expecting e = refl
    by-refused longer e = refl
    by-refused (gives n) e = cc

    pub recv-refused : {why : Refusal} → (recv_of k l buf).answer ≡ Err why → (recv_of k l buf).block ≡ k
    unfolding recv_of
    recv-refused {why} =
        by-pick (λ (o : RecvOut). o.answer ≡ Err why → o.block ≡ k) (receive_fits k l) _ _ (by-refused (answer_at (length buf) k.receiver l.records)) (λ e. refl)
