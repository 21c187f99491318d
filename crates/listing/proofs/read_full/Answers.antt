-- `listing::read_full`: a read puts its bytes after those that were read before. Assumes nothing.
use Rattle.std.proofs.Common.{subst, rules}
use Rattle.std.specs.Io.KnownBytes.{Consumes}
use Rattle.std.proofs.KnownBytes.{Consumes-trans}
use Rattle.listing.proofs.Filled.{filled}
use Rattle.listing.proofs.read_full.Goals as goal

pub loop-done-preserved : goal.loop-done-preserved
loop-done-preserved g c =
    let inv = c.loop-done.invariant in
    let whole = filled c.loop-done.done c.in_ok-n.n c.loop-done.buffer c.read.new.buf inv.0 c.in_ok-n.ensures.bound.0 in
    (search rules, search rules, subst (Consumes _ _) whole (Consumes-trans _ _ _ _ _ inv.2 c.in_ok-n.ensures.bytes.0))
