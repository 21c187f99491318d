-- `pass::field::near_from` meets its contract. Assumes nothing.
use Prim.Native.Nat.{◌≤◌}
use native.Mathlib.Omega.{arith}
use Rattle.job.specs.Job.{Valid}
use Rattle.word.specs.declared.Biased.{Biased}
use Rattle.special.specs.Asked.{field_is}
use Rattle.pass.specs.Steps.{PassOf, NoneNear}
use Rattle.pass.proofs.Spans.{met_field}
use Rattle.pass.proofs.field.near_from.Goals as goal

-- none before the one that is met
pub returns-then-near-pass : goal.returns-then-near-pass
returns-then-near-pass c =
    let none_near : (r : Biased) → r.0 ≤ c.saturating_sub-near.result → Valid c.args.job → PassOf c.args.job c.args.pass → NoneNear c.args.job c.args.n r =
    λ r le valid is E d below from to.
    (met_field c.args.job.setting.format c.args.job.c.mask c.args.pass.c c.args.n.0 c.met_from.result c.requires valid.c.mask is.c c.met_from.ensures.1).none d from (omega (arith, c.saturating_sub-near.ensures)) in
    (omega arith, none_near (field_is c.saturating_sub-near.result) (omega arith))

pub returns-else-near-pass : goal.returns-else-near-pass
returns-else-near-pass c =
    let none_near : (r : Biased) → r.0 ≤ c.saturating_sub-near.result → Valid c.args.job → PassOf c.args.job c.args.pass → NoneNear c.args.job c.args.n r =
    λ r le valid is E d below from to.
    (met_field c.args.job.setting.format c.args.job.c.mask c.args.pass.c c.args.n.0 c.met_from.result c.requires valid.c.mask is.c c.met_from.ensures.1).none d from (omega (arith, c.saturating_sub-near.ensures)) in
    (omega arith, none_near c.args.pass.end (omega (arith, c.if-near-pass.false)))
