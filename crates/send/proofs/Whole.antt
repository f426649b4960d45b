-- A send that is not refused loses no byte and adds none: what waits afterwards is what waited, and the bytes behind it, in either mode.
-- Assumes nothing.
use Rattle.std.specs.Prelude.{Ok}
use Prim.Native.Nat.{ℕ, zero, suc, ◌-◌, ◌*◌, ◌≤◌, ◌<◌}
use native.Mathlib.Nat.{suc-mul, zero-mul}
use native.Mathlib.Omega.{arith}
use Rattle.std.proofs.lemmas.Grind.{div_ceil_times}
use native.Mathlib.Decide.{dec_lt}
use mathlib.Core.Path.{◌≡◌, refl, sym, ap, ◌∙◌}
use mathlib.Core.Bool.{Bool, true, false}
use mathlib.Core.List.{List, [], ◌∷◌, ◌++◌, append_assoc, append-nil}
use lib.ListN.{length, take, drop, get_or, set, length-drop, take-append-drop}
use Rattle.snd_ring.specs.Store.{Store, Sound}
use Rattle.block.specs.declared.sender.Sender.{Sender}
use Rattle.sending.specs.Rules.{Segment, Sending}
use Rattle.sending.specs.Send.{fills, pieces, needed, verdict, fits, waits, cut, last_of, last_size, topped, joining, new, filled, queued, left_by, send}
use Rattle.transmit.specs.Memory.{seen}
use Rattle.send.specs.Memory.{send_at, answer_at}
use Rattle.send.specs.Whole.{bytes_of}
use Rattle.send.proofs.Numbers.{fills_facts, joins_none, pieces-some, verdict-fits}
use Rattle.send.proofs.Twelve.{accepted}
use Rattle.send.proofs.Seen.{seen-new, seen-send}

bytes_append : (a b : List Segment) → bytes_of (a ++ b) ≡ bytes_of a ++ bytes_of b
unfolding bytes_of
bytes_append [] b = refl
bytes_append (s ∷ a) b = ap (λ (r : List ℕ). s.payload ++ r) (bytes_append a b) ∙ sym (append_assoc s.payload (bytes_of a) (bytes_of b))

-- ---- the pieces

module _ (mss : ℕ) (stream : Bool) where
  pub cut_whole : (count : ℕ) (bytes : List ℕ) → length bytes ≤ count * mss → bytes_of (cut mss stream count bytes) ≡ bytes
  unfolding bytes_of cut
  cut_whole zero [] h = refl
  cut_whole zero (x ∷ l) h = let z = zero-mul mss in absurd (omega arith)
  cut_whole (suc count) bytes h =
      let z = suc-mul count mss in
      let d = length-drop mss bytes in
      ap (λ (r : List ℕ). take mss bytes ++ r) (cut_whole count (drop mss bytes) (omega arith)) ∙ take-append-drop mss bytes

  -- there are enough of them
  pub pieces_cover : (n : ℕ) → 0 < mss → n ≤ pieces mss stream n * mss
  pieces_cover n pos = go (dec_lt 0 n)
    where
      go : Dec (0 < n) → n ≤ pieces mss stream n * mss
      go (yes h) =
          rw (← pieces-some mss stream n pos h) (div_ceil_times n mss pos).0
      go (no h) = omega arith

-- ---- the fill

last-topped : (l : List Segment) (i : ℕ) (d : Segment) (y : List ℕ) → length l ≡ suc i → bytes_of (set l i (topped y (get_or l i d))) ≡ bytes_of l ++ y
unfolding bytes_of
last-topped [] i d y e = absurd (omega arith)
last-topped (s ∷ []) zero d y e = append-nil (s.payload ++ y) ∙ ap (λ (r : List ℕ). r ++ y) (sym (append-nil s.payload))
last-topped (s ∷ t ∷ l) zero d y e = absurd (omega arith)
last-topped (s ∷ l) (suc i) d y e =
    ap (λ (r : List ℕ). s.payload ++ r) (last-topped l i d y (omega arith)) ∙ sym (append_assoc s.payload (bytes_of l) y)

module _ (mss : ℕ) (stream : Bool) (bytes : List ℕ) (s : Sending) where
  filled-bytes : bytes_of (filled mss stream bytes s).waiting ≡ bytes_of s.waiting ++ take (joining mss stream bytes s) bytes
  unfolding filled last_of
  filled-bytes = go (fills mss stream (length s.waiting) (last_size s.waiting)) refl
    where
      go : (b : Bool) → fills mss stream (length s.waiting) (last_size s.waiting) ≡ b
          → bytes_of (filled mss stream bytes s).waiting ≡ bytes_of s.waiting ++ take (joining mss stream bytes s) bytes
      go true e =
          let h = (fills_facts mss stream (length s.waiting) (last_size s.waiting) e).0 in
          rw e (last-topped s.waiting (length s.waiting - 1) (waits 0 []) (take (joining mss stream bytes s) bytes) (omega arith))
      go false e =
          rw (e, joins_none mss stream (length s.waiting) (last_size s.waiting) (length bytes) e) (sym (append-nil (bytes_of s.waiting)))

  -- ---- both

  pub queued-bytes : 0 < mss → bytes_of (queued mss stream bytes s).waiting ≡ bytes_of s.waiting ++ bytes
  unfolding queued needed
  queued-bytes pos =
      let j = joining mss stream bytes s in
      let d = length-drop (joining mss stream bytes s) bytes in
      let c = pieces_cover mss stream (length bytes - joining mss stream bytes s) pos in
      bytes_append (filled mss stream bytes s).waiting (cut mss stream (new mss stream bytes s) (drop j bytes))
      ∙ rw (filled-bytes, cut_whole mss stream (new mss stream bytes s) (drop j bytes) (omega arith), append_assoc, take-append-drop)

  pub send-bytes : (free : ℕ) → 0 < mss → verdict (new mss stream bytes s) free ≡ fits → bytes_of (send mss stream bytes s free).waiting ≡ bytes_of s.waiting ++ bytes
  unfolding send left_by
  send-bytes free pos e = rw e (queued-bytes pos)

-- ---- in the memory

pub sent-bytes : (mss : ℕ) (stream : Bool) (bytes : List ℕ) (s : Sender) (m : Store) → Sound 8 s.ring m → 26 ≤ mss → mss ≤ 1476
    → {n : ℕ} → answer_at mss stream bytes s m ≡ Ok n
    → (n ≡ length bytes) × (bytes_of (seen (send_at mss stream bytes s m).sender (send_at mss stream bytes s m).store).waiting ≡ bytes_of (seen s m).waiting ++ bytes)
sent-bytes mss stream bytes s m o low small e =
    let a = accepted mss stream bytes s m e in (
      a.0,
      rw (seen-send mss stream bytes s m o small)
          (send-bytes mss stream bytes (seen s m) _ (omega arith) (rw (seen-new mss stream bytes s m o small) (verdict-fits _ _ a.1.0 a.1.1))),
    )
