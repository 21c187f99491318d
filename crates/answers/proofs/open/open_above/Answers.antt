-- `answers::open::open_above` meets its contract: a run of ones is a run of closed classes, by `run_over`. Assumes nothing.
use mathlib.Core.Logic.{◌⊎◌, inl, inr}
use mathlib.Core.Path.{◌≡◌, sym, ap, ◌∙◌}
use Prim.Native.Nat.{◌+◌, ◌-◌, ◌≤◌, ◌<◌}
use native.Mathlib.Omega.{arith}
use Rattle.bits.specs.Bit.{bit}
use Rattle.word.specs.declared.Biased.{Biased}
use Rattle.classes.specs.Class.{far_gap, low_field}
use Rattle.answers.specs.Kept.{closed_bit}
use Rattle.answers.proofs.Runs.{low_zero, run_over}
use Rattle.answers.proofs.open.open_above.Goals as goal

pub returns-then-bit_at-eq1 : goal.returns-then-bit_at-eq1
returns-then-bit_at-eq1 c = (
  omega (arith, c.requires.2),
  omega arith,
  λ d from l.
      let top : closed_bit c.args.reach 1 (low_field c.args.reach d c.args.ea).0 ≡ c.args.reach + 3 + 1 = omega (arith, low_zero c.args.reach (d.0 - 1 - (c.args.ea.0 - 1)) c.args.ea.0 c.if-ea-eq0.true) in
      ap (bit c.args.closed) top ∙ sym c.bit_at.ensures ∙ c.if-bit_at-eq1.true,
)

pub returns-then-far-gap : goal.returns-then-far-gap
returns-then-far-gap c =
    let closed_at : (d : Biased) → c.args.eb.0 ≤ d.0
    → (far_gap c.args.reach < c.min-gap.result + c.run_from-run.result) ⊎ (d.0 < c.args.eb.0 + c.run_from-run.result)
    → bit c.args.closed (closed_bit c.args.reach 1 (low_field c.args.reach d c.args.ea).0) ≡ 1 = λ d from reach. run_over c.args.reach c.args.closed c.args.ea.0 c.args.eb.0 d.0 (c.min-gap.result) c.run_from-run.result
    (omega (arith, c.if-ea-eq0.false)) c.requires.1 from (omega (arith, c.min-gap.ensures)) reach c.run_from-run.ensures.1 in
    (omega (arith, c.requires.2), omega arith, λ d from l. closed_at d from (inl (omega (arith, c.if-far-gap.true))))

pub returns-then-end-eb : goal.returns-then-end-eb
returns-then-end-eb c =
    let closed_at : (d : Biased) → c.args.eb.0 ≤ d.0
    → (far_gap c.args.reach < c.min-gap.result + c.run_from-run.result) ⊎ (d.0 < c.args.eb.0 + c.run_from-run.result)
    → bit c.args.closed (closed_bit c.args.reach 1 (low_field c.args.reach d c.args.ea).0) ≡ 1 = λ d from reach. run_over c.args.reach c.args.closed c.args.ea.0 c.args.eb.0 d.0 (c.min-gap.result) c.run_from-run.result
    (omega (arith, c.if-ea-eq0.false)) c.requires.1 from (omega (arith, c.min-gap.ensures)) reach c.run_from-run.ensures.1 in
    (omega (arith, c.requires.2), omega arith, λ d from l. closed_at d from (inr (omega (arith, c.if-end-eb.true, c.requires.2))))

pub returns : goal.returns
returns c =
    let closed_at : (d : Biased) → c.args.eb.0 ≤ d.0
    → (far_gap c.args.reach < c.min-gap.result + c.run_from-run.result) ⊎ (d.0 < c.args.eb.0 + c.run_from-run.result)
    → bit c.args.closed (closed_bit c.args.reach 1 (low_field c.args.reach d c.args.ea).0) ≡ 1 = λ d from reach. run_over c.args.reach c.args.closed c.args.ea.0 c.args.eb.0 d.0 (c.min-gap.result) c.run_from-run.result
    (omega (arith, c.if-ea-eq0.false)) c.requires.1 from (omega (arith, c.min-gap.ensures)) reach c.run_from-run.ensures.1 in
    (omega arith, omega (arith, c.if-end-eb.false, c.requires.2), λ d from l. closed_at d from (inr (omega arith)))
