-- `transmit::lent_fits` meets its contract. Assumes nothing.
use Prim.Native.Nat.{ℕ}
use native.Mathlib.Omega.{arith}
use mathlib.Core.Path.{sym, ap, ◌∙◌}
use mathlib.Core.List.{[]}
use lib.ListN.{length}
use Rattle.ring.specs.Lists.{lists}
use Rattle.snd_ring.specs.Store.{marks_fit}
use Rattle.snd_ring.proofs.Splits.{marks-length, part-marks}
use Rattle.block.specs.Sizes.{send_slots}
use Rattle.block.specs.WellFormed.{send_numbers}
use Rattle.block.proofs.Exact.{ring-sizes, send-numbers}
use Rattle.block.proofs.Together.{goes, stops}
use Rattle.transmit.specs.Fits.{send_lent}
use Rattle.transmit.proofs.lent_fits.Goals as goal

pub returns-then-not-send_sizes : goal.returns-then-not-send_sizes
unfolding send_lent
returns-then-not-send_sizes c =
    stops _ (sym c.send_sizes.ensures ∙ c.if-not-send_sizes.true)

pub marks_fit-requires : goal.marks_fit-requires
marks_fit-requires c =
    let a = c.args in
    let e = part-marks 8 a.records.now [] _ c.slots_in-slots.ensures in
    let l = ap length e ∙ marks-length 8 (lists a.records.now []) in
    let z = ((ring-sizes 128 1024 (send_slots (length a.records.now)) 9 (length a.records.now) (length a.room.now)).holds (sym c.send_sizes.ensures ∙ c.if-not-send_sizes.false)).few.high in
    let n = (send-numbers (send_slots (length a.records.now)) a.sender).holds (sym (c.send_numbers.ensures ∙ ap (λ (n : ℕ). send_numbers n c.args.sender) c.slots_in-slots.ensures) ∙ c.if-send_numbers.true) in
    record {
      within = record { many = omega arith; started = omega arith };
      unsent_in_bounds = omega arith;
    }

pub returns-then-send_numbers : goal.returns-then-send_numbers
unfolding send_lent
returns-then-send_numbers c =
    let a = c.args in
    c.marks_fit.ensures
    ∙ ap (marks_fit a.sender.ring) (part-marks 8 a.records.now a.room.now _ c.slots_in-slots.ensures)
    ∙ goes _ (sym (c.send_numbers.ensures ∙ ap (λ (n : ℕ). send_numbers n c.args.sender) c.slots_in-slots.ensures) ∙ c.if-send_numbers.true)
    ∙ goes _ (sym c.send_sizes.ensures ∙ c.if-not-send_sizes.false)

pub returns-else-send_numbers : goal.returns-else-send_numbers
unfolding send_lent
returns-else-send_numbers c =
    c.if-send_numbers.false
    ∙ stops _ (sym (c.send_numbers.ensures ∙ ap (λ (n : ℕ). send_numbers n c.args.sender) c.slots_in-slots.ensures) ∙ c.if-send_numbers.false)
    ∙ goes _ (sym c.send_sizes.ensures ∙ c.if-not-send_sizes.false)
