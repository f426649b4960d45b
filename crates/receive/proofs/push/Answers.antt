-- `receive::push` meets its contract. Assumes nothing.
use mathlib.Core.Path.{sym, ◌∙◌}
use borrow.Author.Tests.{le-leb, lt-leb}
use Rattle.ring.specs.Lists.{lists}
use Rattle.receive.proofs.Pushes.{pushed_none, pushed-skipped, pushed-old, pushed_in}
use Rattle.receive.proofs.push.Goals as goal

pub returns-then-not-acknowledged : goal.returns-then-not-acknowledged
returns-then-not-acknowledged c =
    let a = c.args in
    let l = lists a.records.now a.room.now in
    pushed_none a.receiver a.acklist l a.acks.now (record { sn = a.sn; frg = a.frg; payload = a.payload.now }) a.ts (sym c.acknowledged.ensures ∙ c.if-not-acknowledged.true)

pub returns-then-acks-n : goal.returns-then-acks-n
returns-then-acks-n c =
    let a = c.args in
    let l = lists a.records.now a.room.now in
    pushed-skipped a.receiver a.acklist l a.acks.now (record { sn = a.sn; frg = a.frg; payload = a.payload.now }) a.ts (sym c.acknowledged.ensures ∙ c.if-not-acknowledged.false) (le-leb _ _ c.if-acks-n.true)

pub returns-then-not-in_window : goal.returns-then-not-in_window
returns-then-not-in_window c =
    let a = c.args in
    let l = lists a.records.now a.room.now in
    let e = sym c.acknowledged.ensures ∙ c.if-not-acknowledged.false in
    pushed-old a.receiver a.acklist l a.acks.now (record { sn = a.sn; frg = a.frg; payload = a.payload.now }) a.ts e (lt-leb _ _ c.if-acks-n.false) _ c.put_record.ensures (sym c.in_window.ensures ∙ c.if-not-in_window.true)

pub parse_data-requires : goal.parse_data-requires
parse_data-requires c =
    let p = c.requires in
    record {
      good = p.good;
      sn_value = sym c.in_window.ensures ∙ c.if-not-in_window.false;
      payload_len_bound = p.payload_len_bound;
    }

pub returns : goal.returns
returns c =
    let a = c.args in
    let l = lists a.records.now a.room.now in
    let e = sym c.acknowledged.ensures ∙ c.if-not-acknowledged.false in
    let i = sym c.in_window.ensures ∙ c.if-not-in_window.false in
    pushed_in a.receiver a.acklist l a.acks.now (record { sn = a.sn; frg = a.frg; payload = a.payload.now }) a.ts e (lt-leb _ _ c.if-acks-n.false) _ c.put_record.ensures i _ _ c.parse_data.ensures
