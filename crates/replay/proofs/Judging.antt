-- A step's verdict, and the loop over the recording: the tally of the whole is the tally from here. Assumes nothing.
use Prim.Native.Nat.{ℕ, zero, suc, ◌+◌, ◌-◌, ◌≤◌}
use native.Mathlib.Omega.{arith}
use mathlib.Core.Path.{◌≡◌, refl, sym, ap, ◌∙◌}
use mathlib.Core.Bool.{Bool, true, false}
use mathlib.Core.List.{List}
use lib.ListN.{length, take, drop}
use Rattle.serial.specs.Branch.{pick, pick_true, pick-false}
use Rattle.ring.specs.Lists.{Lists}
use Rattle.block.specs.declared.Kcp.{Kcp}
use Rattle.history.specs.Calls.{Memory}
use Rattle.recorded.specs.declared.rows.Row.{Row}
use Rattle.recorded.specs.declared.answers.Answer.{Answer}
use Rattle.replay.specs.declared.judge.Tally.{Tally}
use Rattle.recorded.specs.Sums.{sum_of}
use Rattle.recorded.specs.Rows.{row_at, next_at, handed_at, whole_at, Whole}
use Rattle.recorded.specs.declared.looks.Made.{Made}
use Rattle.recorded.specs.Looks.{made}
use Rattle.recorded.specs.declared.memory.LentMemory.{LentMemory}
use Rattle.recorded.specs.Memory.{memory_of}
use Rattle.recorded.specs.Calls.{Played, play_of}
use Rattle.replay.specs.Judge.{held_in, numbers_of, same, agrees, agreed, counted, none, judged_from, judged}

-- ---- the verdict

pub verdict : (a : Answer) (k : Kcp) (l : Lists) (r : Row) {h : ℕ} → h ≡ held_in k l → {ns : List ℕ} → ns ≡ numbers_of k h → {n : ℕ} → n ≡ sum_of ns
    → {t : Bool} → t ≡ same a n r → t ≡ agrees a k l r
unfolding agrees
verdict a k l r e f g i = i ∙ ap (λ (n : ℕ). same a n r) (g ∙ ap sum_of (f ∙ ap (numbers_of k) e))

-- ---- the tally

pub steps_more : (t : Tally) (ok : Bool) → (counted t ok).steps ≡ t.steps + 1
unfolding counted
steps_more t ok = refl

pub agreed_more : (t : Tally) (ok : Bool) → t.agreed ≤ t.steps → (counted t ok).agreed ≤ (counted t ok).steps
unfolding counted pick
agreed_more t true l = omega arith
agreed_more t false l = omega arith

-- ---- the loop

module _ (s : List ℕ) where
  -- the tally of the whole is that from here, and no more steps are counted than bytes are passed
  pub record Here (first : Memory) (at : ℕ) (m : Memory) (t : Tally) : Type 0 where
    pub fuel : ℕ
    pub enough : length s ≤ at + fuel
    pub within : at ≤ length s
    pub few : t.steps ≤ at
    pub fewer : t.agreed ≤ t.steps
    pub same : judged s first ≡ judged_from s fuel at m t

  pub here-first : (m : Memory) → Here m 0 m none
  unfolding judged
  here-first m = record { fuel = length s; enough = omega arith; within = omega arith; few = omega arith; fewer = omega arith; same = refl }

  module _ (at : ℕ) (m : Memory) (t : Tally) where
    -- one turn of the definition
    turn : (fuel : ℕ) → whole_at s at ≡ true
        → judged_from s (suc fuel) at m t
        ≡ judged_from s fuel (next_at s at) (play_of (row_at s at) (handed_at s at) m).memory (counted t (agreed (play_of (row_at s at) (handed_at s at) m) (row_at s at)))
    unfolding judged_from
    turn fuel h = pick_true _ _ h

    ends_from : (whole : Tally) (fuel : ℕ) → whole ≡ judged_from s fuel at m t → whole_at s at ≡ false → whole ≡ t
    unfolding judged_from
    ends_from whole zero e h = e
    ends_from whole (suc f) e h = e ∙ pick-false _ _ h

    goes_from : (first : Memory) (fuel : ℕ) → length s ≤ at + fuel → judged s first ≡ judged_from s fuel at m t → t.steps ≤ at → t.agreed ≤ t.steps
        → whole_at s at ≡ true → Whole s at
        → Here first (next_at s at) (play_of (row_at s at) (handed_at s at) m).memory (counted t (agreed (play_of (row_at s at) (handed_at s at) m) (row_at s at)))
    goes_from first zero a e n l h w = let x = w.numbers in absurd (omega arith)
    goes_from first (suc f) a e n l h w = record {
      fuel = f;
      enough = omega arith;
      within = w.bytes;
      few = let x = steps_more t (agreed (play_of (row_at s at) (handed_at s at) m) (row_at s at)) in omega arith;
      fewer = agreed_more t _ l;
      same = e ∙ turn f h;
    }

  -- What the loop asks, each from the facts that it has in hand.
  module _ {first : Memory} {at : ℕ} {m : Memory} {t : Tally} (here : Here first at m t) where
    pub ends : {b : Bool} → b ≡ whole_at s at → b ≡ false → t ≡ judged s first
    ends e h = sym (ends_from at m t (judged s first) here.fuel here.same (sym e ∙ h))

    pub goes : {b : Bool} → b ≡ whole_at s at → b ≡ true → Whole s at → {r : Row} → r ≡ row_at s at → {n : ℕ} → n ≡ r.bytes
        → {p : Played} → p ≡ play_of r (take (at + 44 + n - (at + 44)) (drop (at + 44) s)) m → {ok : Bool} → ok ≡ agreed p r → {t' : Tally} → t' ≡ counted t ok
        → Here first (at + 44 + n) p.memory t'
    goes e h w f {n} g i j k =
        let x : at + 44 + n - (at + 44) ≡ n = omega arith in
        rw (k, j, i, x, g, f) (goes_from at m t first here.fuel here.enough here.same here.few here.fewer (sym e ∙ h) w)

-- the loop's first block is the one that it is handed
pub from_block : (s : List ℕ) (l : LentMemory) {k : Kcp} {x : Made} {u : Answer} → x ≡ made k u → {t : Tally}
    → t ≡ judged s (memory_of x.block l) → t ≡ judged s (memory_of k l)
from_block s l e f = f ∙ ap (λ (x : Made). judged s (memory_of x.block l)) e
