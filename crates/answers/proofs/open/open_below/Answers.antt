-- `answers::open::open_below` meets its contract: a run of ones is a run of closed classes, by `run_below`. Assumes nothing.
use mathlib.Core.Path.{◌≡◌, ap, ◌∙◌}
use Prim.Native.Nat.{ℕ, ◌+◌, ◌-◌, ◌≤◌, ◌<◌}
use native.Mathlib.Omega.{arith}
use Rattle.bits.specs.Bit.{bit}
use Rattle.bits.proofs.Laws.{bit_lt}
use Rattle.word.specs.declared.Biased.{Biased}
use Rattle.classes.specs.Class.{low_field}
use Rattle.answers.specs.Kept.{closed_bit}
use Rattle.answers.proofs.Runs.{low_zero, run_below}
use Rattle.answers.proofs.open.open_below.Goals as goal

pub returns-then-eb-eq0 : goal.returns-then-eb-eq0
returns-then-eb-eq0 c =
    let is = c.bit_at.ensures in (
      omega (arith, c.if-eb-eq0.true),
      λ d from l.
          let none : d.0 ≡ 0 = omega (arith, bit_lt c.args.closed 0, is) in (
            omega arith,
            ap (bit c.args.closed) (low_zero c.args.reach (c.args.ea.0 - 1 - (d.0 - 1)) d.0 none) ∙ omega (arith, bit_lt c.args.closed 0, is),
          ),
    )

pub returns-then-ea-from : goal.returns-then-ea-from
returns-then-ea-from c =
    let closed_at : 0 < c.run_from-run.result → (d : Biased) → c.args.eb.0 ≤ d.0 → d.0 ≤ c.args.ea.0
    → d.0 < c.max-from.result + c.run_from-run.result
    → bit c.args.closed (closed_bit c.args.reach 0 (low_field c.args.reach c.args.ea d).0) ≡ 1 = λ pos d from to l. let is = c.max-from.ensures in
    run_below c.args.reach c.args.closed c.args.ea.0 c.args.eb.0 d.0 c.run_from-run.result (omega (arith, c.requires.1)) (omega (arith, c.if-eb-eq0.false)) from to pos (omega (arith, is))
    (λ k h. ap (λ (n : ℕ). bit c.args.closed (n - (c.args.ea.0 - (c.args.reach + 3)) + 1 + k)) (omega (arith, is)) ∙ c.run_from-run.ensures.1 k h) in
    (omega (arith, c.requires.3), λ d from l. (omega arith, closed_at (omega (arith, c.if-run-eq0.false)) d from (omega arith) (omega (arith, c.if-ea-from.true, c.max-from.ensures))))

pub returns : goal.returns
returns c =
    let closed_at : 0 < c.run_from-run.result → (d : Biased) → c.args.eb.0 ≤ d.0 → d.0 ≤ c.args.ea.0
    → d.0 < c.max-from.result + c.run_from-run.result
    → bit c.args.closed (closed_bit c.args.reach 0 (low_field c.args.reach c.args.ea d).0) ≡ 1 = λ pos d from to l. let is = c.max-from.ensures in
    run_below c.args.reach c.args.closed c.args.ea.0 c.args.eb.0 d.0 c.run_from-run.result (omega (arith, c.requires.1)) (omega (arith, c.if-eb-eq0.false)) from to pos (omega (arith, is))
    (λ k h. ap (λ (n : ℕ). bit c.args.closed (n - (c.args.ea.0 - (c.args.reach + 3)) + 1 + k)) (omega (arith, is)) ∙ c.run_from-run.ensures.1 k h) in (
      omega (arith, c.max-from.ensures),
      λ d from l.
          let to : d.0 ≤ c.args.ea.0 = omega (arith, c.if-ea-from.false, c.max-from.ensures, c.requires.3) in
          (to, closed_at (omega (arith, c.if-run-eq0.false)) d from to l),
    )
