-- `word::exponent::unit_of` meets its contract. Assumes nothing.
use Rattle.std.proofs.Common.{◌≡◌, ℕ, ◌-◌, ap, arith}
use Rattle.word.specs.declared.Unit as exponent
use Rattle.word.proofs.exponent.unit_of.Goals as goal

of : ℕ → exponent.Unit
of n = record { 0 = n }

pub returns-then-exponent-eq0 : goal.returns-then-exponent-eq0
unfolding of
returns-then-exponent-eq0 c =
    let e : 0 ≡ c.args.exponent.0 - 1 = omega arith in
    ap of e
