-- `records::byte_at` meets its contract. Assumes nothing.
use mathlib.Core.Path.{sym}
use native.Mathlib.Omega.{arith}
use lib.ListN.{get_or-eq_default}
use Rattle.records.proofs.byte_at.Goals as goal

pub returns-then-i-s : goal.returns-then-i-s
returns-then-i-s c = (c.wide.ensures, omega (arith, c.wide.ensures, c.type_inv.s c.args.i))

pub returns : goal.returns
returns c = (sym (get_or-eq_default c.args.s.now 0 {n = c.args.i} c.if-i-s.false), omega arith)
