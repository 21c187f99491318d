-- `answers::class_end` meets its contract. Assumes nothing.
use mathlib.Core.Path.{refl, ap}
use Prim.Native.Nat.{ℕ, ◌-◌}
use native.Mathlib.Omega.{arith}
use lib.Pow.{pow_pos}
use Rattle.format.proofs.Laws.{supported_of, unsupported_of}
use Rattle.word.proofs.Bounds.{exponents}
use Rattle.answers.proofs.Keeping.{end_short, end_long}
use Rattle.job.proofs.GuardLaws.{reach_most}
use Rattle.answers.proofs.class_end.Goals as goal

pub returns-then-not-supported : goal.returns-then-not-supported
returns-then-not-supported c = (λ v. absurd (unsupported_of c.supported.ensures c.if-not-supported.true v.setting.format), λ n. refl)

pub overflow_sub-ones : goal.overflow_sub-ones
overflow_sub-ones c = let ok = supported_of c.supported.ensures c.if-not-supported.false in let F = c.args.job.setting.format in omega (arith, exponents F ok c.power-ones.ensures, pow_pos F.w)

pub overflow_add-reach : goal.overflow_add-reach
overflow_add-reach c = record { fits = omega (arith, c.reach.ensures, reach_most c.args.job) }

pub overflow_add-reach-2 : goal.overflow_add-reach-2
overflow_add-reach-2 c = record { fits = omega (arith, c.reach.ensures, reach_most c.args.job) }

pub returns-then-ones-reach : goal.returns-then-ones-reach
returns-then-ones-reach c = (λ v E e l h. absurd (omega arith), λ n. refl)

pub never_past-requires : goal.never_past-requires
never_past-requires c = supported_of c.supported.ensures c.if-not-supported.false

pub returns-then-never_past : goal.returns-then-never_past
returns-then-never_past c =
    let ok = supported_of c.supported.ensures c.if-not-supported.false in
    let job = c.args.job in
    let is = ap (λ (n : ℕ). n - 1) (exponents job.setting.format ok c.power-ones.ensures) in
    (λ v. end_long job (c.power-ones.result - 1) is (omega (arith, is, c.if-ones-reach.false, c.reach.ensures)) (c.never_past.ensures c.if-never_past.true), λ n. absurd (n ok))

pub overflow_sub-result : goal.overflow_sub-result
overflow_sub-result c = omega (arith, c.if-ones-reach.false)

pub returns : goal.returns
returns c =
    let ok = supported_of c.supported.ensures c.if-not-supported.false in
    let job = c.args.job in
    let is = ap (λ (n : ℕ). n - 1) (exponents job.setting.format ok c.power-ones.ensures) in
    (λ v. end_short job (c.power-ones.result - 1) is (omega (arith, is, c.if-ones-reach.false, c.reach.ensures)), λ n. absurd (n ok))
