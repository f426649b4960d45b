-- The calls that change no lent memory: each step of the code against its definition. Assumes nothing.
use Rattle.std.specs.Prelude.{Result}
use Rattle.std.proofs.Common.{◌≡◌, ℕ, suc, refl, true, false, ◌-◌, ◌^◌, ltb, pos, negsuc, ◌<◌, ◌≤◌, Bool, List, take, ℤ, sym, ap, ◌∙◌, arith, to_z-of_z, w32, SFits, to_z, of_z}
use mir.Val.{sel}
use Rattle.serial.specs.Branch.{pick}
use Rattle.serial.specs.Wrap.{signed32}
use Rattle.ring.specs.Lists.{Lists}
use Rattle.wire.specs.declared.ShortHeader.{ShortHeader}
use Rattle.wire.specs.Helpers.{put_of, with_conv, ConvSet}
use Rattle.block.specs.declared.Kcp.{Kcp}
use Rattle.block.specs.Setters.{set_nodelay}
use Rattle.block.specs.declared.refusal.Refusal.{Refusal}
use Rattle.kcp_receive.specs.Calls.{RecvOut, recv_of}
use Rattle.recorded.specs.declared.rows.Row.{Row}
use Rattle.recorded.specs.declared.answers.Answer.{Answer}
use Rattle.recorded.specs.declared.looks.Made.{Made}
use Rattle.recorded.specs.Sums.{sum_of, zeros}
use Rattle.recorded.specs.Answers.{unknown, of_done, of_count, as_refusal}
use Rattle.recorded.specs.Looks.{made, by_recv, flag, recv_step}
use Rattle.recorded.proofs.Branches.{under, over}
use Rattle.recorded.proofs.Zeros.{zeros-part}

-- ---- set_nodelay

-- the bits d, read as signed
signed_is : (d : ℕ) → to_z w32 d ≡ signed32 d
unfolding signed32 pick
signed_is d = elim (ltb d (2 ^ 31)) as (λ (t : Bool). sel t (pos d) (negsuc (2 ^ 32 - suc d)) ≡ pick t (pos d) (negsuc (2 ^ 32 - 1 - d))) [ true ↦ refl | false ↦ ap negsuc (omega arith) ]

-- a signed argument holds bits
pub set-nodelay : (r : Row) (k : Kcp) {b c : ℤ} → b ≡ to_z w32 r.b → c ≡ to_z w32 r.c → SFits w32 b → SFits w32 c
    → {x : Kcp} → x ≡ set_nodelay k (flag r.a) (to_z w32 (of_z w32 b)) (to_z w32 (of_z w32 c)) (flag r.d)
    → x ≡ set_nodelay k (flag r.a) (signed32 r.b) (signed32 r.c) (flag r.d)
set-nodelay r k g i m n e = e ∙ rw (to_z-of_z {w = w32} m, to_z-of_z {w = w32} n, g, i, signed_is r.b, signed_is r.c)

-- ---- set_conv on bytes

pub put-made : (s : List ℕ) (conv : ℕ) {y z : List ℕ} → y ≡ s → {p : Result Unit ShortHeader} → ConvSet y conv p z
    → {n : ℕ} → n ≡ sum_of z → {q : Result Unit Refusal} → q ≡ as_refusal p → {x : Answer} → x ≡ of_done q n → x ≡ of_done (as_refusal (put_of s)) (sum_of (with_conv s conv))
put-made s conv f g h i e = e ∙ rw (i, h, g.bytes, g.answer, f)

-- ---- the receive memory

pub recv-made : {k : Kcp} {a : Result ℕ Refusal} {b : List ℕ} {o : RecvOut} → record { block = k; answer = a; buf = b } ≡ o → {n : ℕ} → n ≡ sum_of b
    → {x : Made} → x ≡ made k (of_count a n) → x ≡ by_recv o
recv-made {k} {a} f g e = e ∙ ap (λ (n : ℕ). made k (of_count a n)) g ∙ ap by_recv f

module _ (n : ℕ) (k : Kcp) (l : Lists) {x : Made} where
  pub recv-long : x ≡ made k unknown → 8192 < n → x ≡ recv_step n k l
  unfolding recv_step
  recv-long e h = e ∙ sym (under _ _ h)

  pub recv-fits : {b : List ℕ} → b ≡ zeros 8192 → x ≡ by_recv (recv_of k l (take n b)) → n ≤ 8192 → x ≡ recv_step n k l
  unfolding recv_step
  recv-fits f e h = e ∙ ap (λ (b : List ℕ). by_recv (recv_of k l b)) (ap (take n) f ∙ zeros-part n 8192 h) ∙ sym (over _ _ h)
