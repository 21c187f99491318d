-- `columns::allows` meets its contract: the test of the two bits. Assumes nothing.
use Rattle.columns.proofs.allows.Goals as goal

pub returns : goal.returns
returns c = rw (c.bit_at.ensures, c.bit_at-2.ensures)
