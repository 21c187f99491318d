-- `pass::span::span_end` meets its contract, by `earlier_answered`. Assumes nothing.
use Prim.Native.Nat.{◌+◌, ◌≤◌, ◌<◌}
use native.Mathlib.Omega.{arith}
use lib.Pow.{pow_mono}
use Rattle.format.proofs.Room.{exponent_room}
use Rattle.job.specs.declared.Job.{Job}
use Rattle.job.specs.Job.{Valid}
use Rattle.job.specs.Guards.{reach}
use Rattle.word.specs.declared.Biased.{Biased}
use Rattle.word.specs.Word.{all_ones}
use Rattle.special.specs.Asked.{PairFits}
use Rattle.classes.specs.Class.{far_gap}
use Rattle.pass.specs.Steps.{NoneBelow, PassOf}
use Rattle.pass.proofs.Fields.{pair_range}
use Rattle.pass.proofs.Spans.{only_far, earlier_answered}
use Rattle.pass.proofs.span.span_end.Goals as goal

pub returns-then-ea-ones : goal.returns-then-ea-ones
returns-then-ea-ones c = (omega arith, λ valid is none d from P. omega (arith, c.requires.1, (pair_range c.args.job c.args.ea d valid P).b_lt))

pub returns-then-ea-pass : goal.returns-then-ea-pass
returns-then-ea-pass c = (omega arith, λ valid is none d from P. omega (arith, c.requires.1, (pair_range c.args.job c.args.ea d valid P).b_lt))

pub overflow_add-far : goal.overflow_add-far
overflow_add-far c =
    let most = pow_mono {i = c.args.job.setting.format.w} {j = 16} (exponent_room c.args.job.setting.format c.requires.0) in
    record { fits = omega (arith, c.requires.1, c.requires.2, c.far_gap.ensures.0) }

pub returns-then-far-ones : goal.returns-then-far-ones
returns-then-far-ones c =
    let j : Job = c.args.job in
    let ea : Biased = c.args.ea in
    let gap = c.far_gap.ensures.1 in
    let answered : Valid j → PassOf j c.args.pass → NoneBelow j ea → (d : Biased) → (d.0 < all_ones j.setting.format → ea.0 + far_gap (reach j) ≤ d.0) → PairFits j ea d → ⊥ =
    λ valid is none d far P.
    let first = c.args.pass.first in
    let later = c.if-ea-pass.false in
    earlier_answered j valid first ea d (none first d (omega (arith, later))) is.first_some (omega (arith, later)) (is.first_meets (omega (arith, c.requires.1, c.requires.2, later)))
    (only_far j valid ea d (omega (arith, c.requires.1, c.requires.2, c.if-ea-ones.false)) (λ l. (omega (arith, later, is.first_some), λ near. omega (arith, far l))) P) P in
    (omega arith, λ valid is none d from P. answered valid is none d (λ l. omega arith) P)

pub returns-else-far-ones : goal.returns-else-far-ones
returns-else-far-ones c =
    let j : Job = c.args.job in
    let ea : Biased = c.args.ea in
    let gap = c.far_gap.ensures.1 in
    let answered : Valid j → PassOf j c.args.pass → NoneBelow j ea → (d : Biased) → (d.0 < all_ones j.setting.format → ea.0 + far_gap (reach j) ≤ d.0) → PairFits j ea d → ⊥ =
    λ valid is none d far P.
    let first = c.args.pass.first in
    let later = c.if-ea-pass.false in
    earlier_answered j valid first ea d (none first d (omega (arith, later))) is.first_some (omega (arith, later)) (is.first_meets (omega (arith, c.requires.1, c.requires.2, later)))
    (only_far j valid ea d (omega (arith, c.requires.1, c.requires.2, c.if-ea-ones.false)) (λ l. (omega (arith, later, is.first_some), λ near. omega (arith, far l))) P) P in
    (omega arith, λ valid is none d from P. answered valid is none d (λ l. absurd (omega (arith, c.requires.1))) P)
