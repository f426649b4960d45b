-- `host::setters::set_nodelay` meets its contract. Assumes nothing.
use Rattle.std.proofs.Common.{sym}
use native.Mathlib.Omega.{arith}
use mathlib.Core.Path.{refl}
use mir.Syntax.{w32}
use mir.Facts.{to_z-of_z}
use Rattle.block.specs.Setters.{set_nodelay}
use Rattle.words.specs.Words.{block_of, with_nodelay_words}
use Rattle.words.proofs.Tests.{block_length}
use Rattle.host.proofs.Words.{set-refused, set-done, nodelay-words, nodelay-put}
use Rattle.host.proofs.setters.set_nodelay.Goals as goal

pub returns-in_default : goal.returns-in_default
returns-in_default c = let a = c.args in set-refused (λ k. set_nodelay k a.nodelay a.interval a.resend a.nc) 0 a.words.now (sym c.in_default.ensures) refl

pub put_nodelay-requires : goal.put_nodelay-requires
put_nodelay-requires c = block_length c.args.words.now c.in-Some.ensures.0

pub returns : goal.returns
returns c =
    let a = c.args in
    let l = a.words.now in
    let f = c.ranges in
    set-done (λ k. set_nodelay k a.nodelay a.interval a.resend a.nc) 0 l (λ m. with_nodelay_words (set_nodelay (block_of l) a.nodelay a.interval a.resend a.nc) m) (sym c.in-Some.ensures.0) refl (λ i. omega (arith, c.slice_known-1.given i)) (nodelay-words (block_of l) a.nodelay a.interval a.resend a.nc) refl
    (nodelay-put l a.nodelay a.interval a.resend a.nc c.put_nodelay.ensures (rw (to_z-of_z {w = w32} f.interval, to_z-of_z {w = w32} f.resend) at c.set_nodelay-after.ensures) c.in-Some.ensures.1)
