-- `layout::word_bytes` meets its contract. Assumes nothing.
use mathlib.Core.Path.{sym}
use native.Mathlib.Omega.{arith}
use Rattle.layout.proofs.JobLayout.{narrow_bytes, wide_bytes}
use Rattle.layout.proofs.word_bytes.Goals as goal

pub returns-then-format-ge-NARROW_BITS : goal.returns-then-format-ge-NARROW_BITS
returns-then-format-ge-NARROW_BITS c = sym (wide_bytes c.args.format (omega arith))

pub returns-then-format : goal.returns-then-format
returns-then-format c = sym (wide_bytes c.args.format (omega arith))

pub returns : goal.returns
returns c = sym (narrow_bytes c.args.format (omega arith))
