-- `pass::span::partner_from` meets its contract: fields that do not meet b's mask are passed over by `partners_met`, those that closed
-- classes or c's mask rule out by `asked_from`. Assumes nothing.
use mathlib.Core.Path.{refl, subst}
use Prim.Native.Nat.{ℕ, ◌<◌}
use native.Mathlib.Omega.{arith}
use Rattle.mask.specs.Mask.{WellFormed}
use Rattle.mask.specs.Next.{MetFrom}
use Rattle.job.specs.declared.Job.{Job}
use Rattle.job.specs.Job.{Valid}
use Rattle.word.specs.Masks.{exponent_mask}
use Rattle.special.specs.Asked.{field_is}
use Rattle.pass.specs.declared.pairs.Pass.{Pass}
use Rattle.pass.specs.Steps.{PassOf}
use Rattle.pass.proofs.Spans.{met_field, partners_met, partners_join}
use Rattle.pass.proofs.span.partner_from.Goals as goal

-- the next field that meets b's mask
met_at : (j : Job) (p : Pass) (n r : ℕ) → Valid j → PassOf j p → (j.setting.format.w < 64 → WellFormed j.setting.format.w p.b → MetFrom j.setting.format.w p.b n r)
    → MetFrom j.setting.format.w (exponent_mask j.setting.format j.b.mask) n r
met_at j p n r valid is met = met_field j.setting.format j.b.mask p.b n r valid.setting.format valid.b.mask is.b met

pub loop-eb-init : goal.loop-eb-init
loop-eb-init c = let a = c.args in (
  refl,
  omega arith,
  λ valid is kept. ((met_at a.job a.pass a.n.0 c.met_from.result valid is c.met_from.ensures.1).meets, λ d from to. absurd (omega arith)),
)

pub asked_from-next-requires : goal.asked_from-next-requires
asked_from-next-requires c = c.requires

-- none from n on was passed over that admits a case
pub returns-then-next-eb : goal.returns-then-next-eb
returns-then-next-eb c =
    let j : Job = c.args.job in
    let first = c.met_from in (
      omega (arith, first.ensures.0, c.loop-eb.invariant.1),
      λ valid is kept.
          let inv = c.loop-eb.invariant.2 valid is kept in
          (inv.0, partners_join j c.args.ea c.args.n (field_is first.result) c.loop-eb.eb (partners_met j valid c.args.n.0 first.result (met_at j c.args.pass c.args.n.0 first.result valid is first.ensures.1) c.args.ea) inv.1),
    )

pub loop-eb-smaller : goal.loop-eb-smaller
loop-eb-smaller c = omega (arith, c.met_from-in-loop-eb.ensures.0, c.asked_from-next.ensures.0, c.if-next-eb.false, c.loop-eb-test.true)

pub loop-eb-preserved : goal.loop-eb-preserved
loop-eb-preserved c = let a = c.args in
    let l = c.loop-eb in
    let passed = c.asked_from-next in
    let next = c.met_from-in-loop-eb in (
      l.invariant.0,
      omega (arith, l.invariant.1, passed.ensures.0, next.ensures.0),
      λ valid is kept.
          let inv = l.invariant.2 valid is kept in
          let met = met_at a.job a.pass passed.result.0 next.result valid is (subst (λ (v : ℕ). v < 64 → WellFormed v a.pass.b → MetFrom v a.pass.b passed.result.0 next.result) l.invariant.0 next.ensures.1) in
          (met.meets, partners_join a.job a.ea (field_is c.met_from.result) l.eb (field_is next.result) inv.1 (partners_join a.job a.ea l.eb passed.result (field_is next.result) (passed.ensures.1 valid is kept) (partners_met a.job valid passed.result.0 next.result met a.ea))),
    )

pub returns : goal.returns
returns c =
    let j : Job = c.args.job in
    let first = c.met_from in (
      omega (arith, first.ensures.0, c.loop-eb.invariant.1),
      λ valid is kept.
          let inv = c.loop-eb.invariant.2 valid is kept in
          (inv.0, partners_join j c.args.ea c.args.n (field_is first.result) c.loop-eb.eb (partners_met j valid c.args.n.0 first.result (met_at j c.args.pass c.args.n.0 first.result valid is first.ensures.1) c.args.ea) inv.1),
    )
