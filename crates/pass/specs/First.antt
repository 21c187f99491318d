-- The first pair of exponent fields that admits a case (document 01: "Whether a case is left is settled at the first pair of exponents that
-- admits one"). Bounds play no part in it (`PairFits`). Assumes nothing.
use Rattle.std.specs.Prelude.{◌⊎◌, ◌≡◌, ◌^◌, ◌<◌}
use Rattle.job.specs.declared.Job.{Job}
use Rattle.word.specs.declared.Biased.{Biased}
use Rattle.special.specs.Asked.{PairFits}
use Rattle.pass.specs.declared.Exponents.{Exponents}

-- the exponent fields d of a and e of b come before p: a's is below, or b's with the same of a
abbrev pub Before : Biased → Biased → Exponents → Type 0
Before d e p = (d.0 < p.a.0) ⊎ ((d.0 ≡ p.a.0) × (e.0 < p.b.0))

-- no pair of exponent fields before p admits a case
abbrev pub NoneBefore : Job → Exponents → Type 0
NoneBefore j p = (d e : Biased) → Before d e p → PairFits j d e → ⊥

-- r is the first pair of exponent fields that admits a case, or past them all
pub record FirstPair (j : Job) (r : Exponents) : Type 0 where
  pub none : NoneBefore j r
  pub admits : r.a.0 < 2 ^ j.setting.format.w → PairFits j r.a r.b
