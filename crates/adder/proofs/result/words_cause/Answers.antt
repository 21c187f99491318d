-- `adder::result::words_cause` meets its contract. Assumes nothing.
use native.Mathlib.Omega.{arith}
use Rattle.format.proofs.Room.{word_room}
use Rattle.adder.proofs.result.words_cause.Goals as goal

pub overflow_add-width : goal.overflow_add-width
overflow_add-width c = omega (arith, word_room c.args.format c.requires)

pub overflow_add-width-2 : goal.overflow_add-width-2
overflow_add-width-2 c = omega (arith, word_room c.args.format c.requires)
