-- What each exported function is promised to leave of words and lent memory is what `words_leave` says of the call that it makes. Assumes nothing.
use Prim.Native.Nat.{ℕ, ◌<◌}
use mathlib.Core.Path.{◌≡◌, refl, sym, ap, ◌∙◌}
use mathlib.Core.Bool.{Bool, true, false}
use mathlib.Core.List.{List}
use Rattle.serial.specs.Branch.{pick, pick-ap}
use Rattle.ring.specs.Lists.{Lists}
use Rattle.wire.specs.LittleEndian.{Octets}
use Rattle.snd_ring.specs.Store.{Store, store_of}
use Rattle.block.specs.Fresh.{Lent}
use Rattle.packing.specs.FlushAck.{Writing, writing}
use Rattle.kcp_receive.specs.Calls.{move_buf_of, set_wndsize_of}
use Rattle.kcp_flush.specs.Calls.{flush_ack_of, flush_of, update_of}
use Rattle.words.specs.Words.{at, block_of, is_block}
use Rattle.words.proofs.Back.{words_back}
use Rattle.host.specs.Words.{set_words, WordsSet}
use Rattle.host_receive.specs.Words.{Called, WordsReceived}
use Rattle.host_send.specs.Words.{WordsSent}
use Rattle.host_input.specs.Words.{Left, WordsRead}
use Rattle.host_flush.specs.Words.{Left as Out, WordsOut, WordsFlushed}
use Rattle.history.specs.Calls.{Setting, set_by, Call, call_input, call_send, call_move_buf, call_peeksize, call_recv, call_flush_ack, call_flush, call_update, call_check, call_set_wndsize, call_set, call_get, lists_of, Memory, lent_to, leaves}
use Rattle.history.proofs.Stores.{lists_back}
use Rattle.host_history.specs.Words.{Held, lent_of, words_leave}

same : {A : Type 0} (b : Bool) (x : A) → x ≡ pick b x x
unfolding pick
same true x = refl
same false x = refl

-- the memory that is left, part by part: m's where the words are a block, else as it was
parts : (b : Bool) (m : Memory) (l : Lent) {rcv snd : Lists} {acks waiting : List ℕ}
    → rcv ≡ pick b m.rcv l.rcv → snd ≡ pick b m.snd l.snd → acks ≡ pick b m.acks l.acks → waiting ≡ pick b m.waiting l.waiting
    → ◌≡◌ {A = Lent} (record { rcv = rcv; snd = snd; acks = acks; waiting = waiting }) (pick b (lent_of m) l)
unfolding pick
parts true m l r s a w = rw (r, s, a, w)
parts false m l r s a w = rw (r, s, a, w)

-- a send memory that is left
stored : (b : Bool) (q : Lists) (x : Store) {m : Store} → m ≡ pick b x (store_of 8 q) → lists_of m ≡ pick b (lists_of x) q
stored b q x e = ap lists_of e ∙ pick-ap lists_of b x (store_of 8 q) ∙ ap (pick b (lists_of x)) (lists_back q)

module _ (l : Lent) (words : List ℕ) where
  abbrev held : Held
  held = record { words = words; lent = l }

  abbrev b : Bool
  b = is_block words

  -- with these words, and the memory as it was
  abbrev with : List ℕ → Held
  with after = record { words = after; lent = l }

  unlent : (c : Call) {after : List ℕ} → after ≡ set_words (λ k. (leaves c (lent_to k l)).block) words → lent_of (leaves c (lent_to (block_of words) l)) ≡ l → with after ≡ words_leave c held
  unfolding words_leave
  unlent c e f = rw (e, f, ← same b l)

  pub set-leaves : (s : Setting) {n r : ℕ} {after : List ℕ} → WordsSet (set_by s) n words r after → with after ≡ words_leave (call_set s) held
  unfolding leaves
  set-leaves s p = unlent (call_set s) p.words refl

  pub move-buf-leaves : {r : ℕ} {after : List ℕ} → Called (λ k. move_buf_of k l.rcv) words r after → with after ≡ words_leave call_move_buf held
  unfolding leaves
  move-buf-leaves p = unlent call_move_buf p.words refl

  pub set_wndsize-leaves : (sndwnd : ℕ) (fits : sndwnd < 65536) (rcvwnd : ℕ) {r : ℕ} {after : List ℕ} → Called (λ k. set_wndsize_of k l.rcv sndwnd rcvwnd) words r after
      → with after ≡ words_leave (call_set_wndsize sndwnd fits rcvwnd) held
  unfolding leaves
  set_wndsize-leaves sndwnd fits rcvwnd p = unlent (call_set_wndsize sndwnd fits rcvwnd) p.words refl

  pub recv-leaves : (buf : List ℕ) {n r n' : ℕ} {buf' after : List ℕ} → WordsReceived l.rcv buf words n r buf' after n' → with after ≡ words_leave (call_recv buf) held
  unfolding leaves
  recv-leaves buf p = unlent (call_recv buf) p.words refl

  -- a function that only reads leaves the words, which are those of numbers of 32 bits
  module _ (fit : (i : ℕ) → at words i < 4294967296) where
    unwritten : words ≡ set_words (λ k. k) words
    unfolding set_words pick
    unwritten = go b refl
      where
        go : (t : Bool) → b ≡ t → words ≡ set_words (λ k. k) words
        go true e = sym (words_back words e fit) ∙ rw e
        go false e = rw e

    pub peeksize-leaves : held ≡ words_leave call_peeksize held
    unfolding leaves
    peeksize-leaves = unlent call_peeksize unwritten refl

    pub check-leaves : (current : ℕ) → held ≡ words_leave (call_check current) held
    unfolding leaves
    check-leaves current = unlent (call_check current) unwritten refl

    pub get-leaves : held ≡ words_leave call_get held
    unfolding leaves
    get-leaves = unlent call_get unwritten refl

  pub send-leaves : (bytes : List ℕ) {n r n' : ℕ} {m : Store} {after : List ℕ} → WordsSent l.snd bytes words n r m after n'
      → ◌≡◌ {A = Held} (record { words = after; lent = record { rcv = l.rcv; snd = lists_of m; acks = l.acks; waiting = l.waiting } }) (words_leave (call_send bytes) held)
  unfolding words_leave leaves
  send-leaves bytes p = rw (p.words, parts b (leaves (call_send bytes) (lent_to (block_of words) l)) l (same b l.rcv) (stored b l.snd _ p.store) (same b l.acks) (same b l.waiting))

  pub input-leaves : (s : List ℕ) (bytes : Octets s) {o : Left} → WordsRead l.rcv l.acks l.waiting l.snd s words o
      → ◌≡◌ {A = Held} (record { words = o.words; lent = record { rcv = o.rcv; snd = lists_of o.snd; acks = o.acks; waiting = l.waiting } }) (words_leave (call_input s bytes) held)
  unfolding words_leave leaves
  input-leaves s bytes p = rw (p.words, parts b (leaves (call_input s bytes) (lent_to (block_of words) l)) l p.receives (stored b l.snd _ p.sends) p.list (same b l.waiting))

  module _ (out lengths : List ℕ) where
    abbrev w : Writing
    w = writing l.waiting out lengths

    -- the waiting bytes of what is left to be written
    waits : (x : Writing) {y : Writing} → y ≡ pick b x w → y.waiting ≡ pick b x.waiting l.waiting
    waits x e = ap (λ (z : Writing). z.waiting) e ∙ pick-ap (λ (z : Writing). z.waiting) b x w

    pub flush-ack-leaves : {n : ℕ} {o : Out} → WordsOut (λ k. flush_ack_of k l.acks w) w words n o
        → ◌≡◌ {A = Held} (record { words = o.words; lent = record { rcv = l.rcv; snd = l.snd; acks = l.acks; waiting = o.written.waiting } }) (words_leave (call_flush_ack out lengths) held)
    unfolding words_leave leaves
    flush-ack-leaves p = rw (p.words, parts b (leaves (call_flush_ack out lengths) (lent_to (block_of words) l)) l (same b l.rcv) (same b l.snd) (same b l.acks) (waits _ p.bytes))

    pub flush-leaves : {n : ℕ} {o : Out} {m : Store} → WordsFlushed (λ k. flush_of k l.snd l.acks w) l.snd w words n o m
        → ◌≡◌ {A = Held} (record { words = o.words; lent = record { rcv = l.rcv; snd = lists_of m; acks = l.acks; waiting = o.written.waiting } }) (words_leave (call_flush out lengths) held)
    unfolding words_leave leaves
    flush-leaves p = rw (p.out.words, parts b (leaves (call_flush out lengths) (lent_to (block_of words) l)) l (same b l.rcv) (stored b l.snd _ p.sends) (same b l.acks) (waits _ p.out.bytes))

    pub update-leaves : (current : ℕ) {n : ℕ} {o : Out} {m : Store} → WordsFlushed (λ k. update_of k l.snd l.acks w current) l.snd w words n o m
        → ◌≡◌ {A = Held} (record { words = o.words; lent = record { rcv = l.rcv; snd = lists_of m; acks = l.acks; waiting = o.written.waiting } }) (words_leave (call_update current out lengths) held)
    unfolding words_leave leaves
    update-leaves current p = rw (p.out.words, parts b (leaves (call_update current out lengths) (lent_to (block_of words) l)) l (same b l.rcv) (stored b l.snd _ p.sends) (same b l.acks) (waits _ p.out.bytes))
