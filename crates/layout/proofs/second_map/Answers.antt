-- `layout::second_map` meets its contract: each presence is 0 or 1. Assumes nothing.
use native.Mathlib.Omega.{arith}
use Rattle.layout.proofs.Maps.{presence_lt}
use Rattle.layout.proofs.second_map.Goals as goal

pub overflow_mul-result : goal.overflow_mul-result
overflow_mul-result c = let j = c.args.job in omega (arith, presence_lt j.a.bounds, presence_lt j.b.bounds, presence_lt j.c.bounds, c.presence-a.ensures, c.presence-b.ensures, c.presence-c.ensures)

pub overflow_mul-result-2 : goal.overflow_mul-result-2
overflow_mul-result-2 c = let j = c.args.job in omega (arith, presence_lt j.a.bounds, presence_lt j.b.bounds, presence_lt j.c.bounds, c.presence-a.ensures, c.presence-b.ensures, c.presence-c.ensures)

pub overflow_add-result : goal.overflow_add-result
overflow_add-result c = let j = c.args.job in omega (arith, presence_lt j.a.bounds, presence_lt j.b.bounds, presence_lt j.c.bounds, c.presence-a.ensures, c.presence-b.ensures, c.presence-c.ensures)

pub overflow_add-result-2 : goal.overflow_add-result-2
overflow_add-result-2 c = let j = c.args.job in omega (arith, presence_lt j.a.bounds, presence_lt j.b.bounds, presence_lt j.c.bounds, c.presence-a.ensures, c.presence-b.ensures, c.presence-c.ensures)
