-- `outcome::subnormal::subnormal` meets its contract. Assumes nothing.
use mathlib.Core.Path.{◌≡◌, refl, ap, ◌∙◌, subst}
use Prim.Native.Nat.{ℕ, ◌+◌, ◌-◌, ◌*◌, ◌^◌, ◌≤◌, ◌<◌}
use native.Mathlib.Nat.{lt_of_lt_of_le}
use native.Mathlib.Omega.{arith}
use lib.Pow.{pow-add, pow_mono}
use Rattle.rounding.specs.Width.{aligned_bits}
use Rattle.making.specs.Making.{columns_of}
use Rattle.making.proofs.Made.{most_digits_bounds, made_lt}
use Rattle.outcome.specs.Question.{UnderPower}
use Rattle.outcome.proofs.BelowNormal.{subnormal_asked, subnormal_refused}
use Rattle.outcome.proofs.subnormal.subnormal.Goals as goal

-- a number of so few digits leaves room in the columns
low_room : (q f u small columns n : ℕ) → small + u ≡ f + q → aligned_bits q f ≤ columns → n < 2 ^ small → n + 2 ^ (0 + q - u) ≤ 2 ^ columns
low_room q f u small columns n place wide lt =
    let half : 2 ^ columns ≡ 2 ^ (columns - 1) * 2 = ap (λ (k : ℕ). 2 ^ k) (omega arith) ∙ pow-add 2 (columns - 1) 1 in
    let a = pow_mono {i = small} {j = columns - 1} (omega arith) in
    let b = pow_mono {i = 0 + q - u} {j = columns - 1} (omega arith) in
    omega arith

pub returns-in_default : goal.returns-in_default
returns-in_default c =
    let a = c.args in
    λ formed. subnormal_refused a.aligned.below a.format c.requires.0.supported a.sign a.unit a.small c.requires.2 a.c a.aligned c.in_default.ensures

pub under_power-x-requires : goal.under_power-x-requires
under_power-x-requires c =
    let a = c.args in
    (rw (c.columns.ensures c.requires.1) c.requires.1.columns, omega (arith, c.columns.ensures c.requires.1, c.requires.2, (most_digits_bounds a.aligned.below a.format.f a.aligned.like).0))

pub returns : goal.returns
returns c =
    let a = c.args in
    let so = c.in-Some in
    let b = most_digits_bounds a.aligned.below a.format.f a.aligned.like in
    let wide = pow_mono {i = a.format.f} {j = 2 + a.format.f} (omega arith) in
    let x = c.under_power-x in
    let few : UnderPower (columns_of a.format.f a.aligned) a.small x.result = subst (λ (k : ℕ). UnderPower k a.small x.result) (c.columns.ensures c.requires.1) x.ensures in
    λ formed. subnormal_asked a.aligned.below a.format c.requires.0.supported a.sign a.unit a.small c.requires.2 a.c a.aligned
    so.fraction x.result c.rounds_at.result so.ensures few
    (c.rounds_at.ensures formed (record {
      columns = omega (arith, b.0);
      care_lt = lt_of_lt_of_le so.ensures.care_lt wide;
      value_lt = lt_of_lt_of_le so.ensures.value_lt wide;
      leaves = λ n made met.
          low_room a.aligned.below a.format.f a.unit.0 a.small (columns_of a.format.f a.aligned) n c.requires.2 b.0
          ((few n (made_lt a.format.f a.aligned n made)).0 met);
      toward_zero = λ r. refl;
    }))
