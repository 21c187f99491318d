-- `pass::span::span_of` meets its contract: a pair whose exponent field of a does not meet its mask admits no case, by `pair_asked`, where
-- no signs are left for finite operands no pair of finite ones does, by `signs_none`, and those 2 or more below a's by the contract of
-- `sum_from`. Assumes nothing.
use mathlib.Core.Bool.{false≢true, not, and-eq-true_iff}
use mathlib.Core.Path.{sym, ◌∙◌}
use Prim.Native.Nat.{◌-◌}
use native.Mathlib.Omega.{arith}
use lib.Dec.{ltb}
use borrow.Author.Tests.{not-true, not-false, ltb-true}
use Rattle.mask.specs.Mask.{Meets}
use Rattle.mask.proofs.Checks.{meets_tested}
use Rattle.job.specs.declared.Job.{Job}
use Rattle.job.specs.Job.{Valid}
use Rattle.word.specs.declared.Biased.{Biased}
use Rattle.word.specs.Masks.{exponent_mask}
use Rattle.special.specs.Asked.{field_is, PairFits}
use Rattle.pair.proofs.LikeSigns.{signs_none}
use Rattle.answers.specs.Kept.{NoPartner}
use Rattle.pass.specs.Steps.{NoneBelow, PassOf, SpanIn, SpanOf}
use Rattle.pass.proofs.Fields.{pair_asked}
use Rattle.pass.proofs.span.span_of.Goals as goal

pub returns-then-not-meets : goal.returns-then-not-meets
returns-then-not-meets c =
    let a = c.args in (
      λ valid is. record { within = omega (arith, c.requires.1); meets = λ l. absurd (omega arith) },
      λ valid is none.
          let no : (d : Biased) → PairFits a.job a.ea d → ⊥ = λ d P. false≢true (sym (not-true c.meets.result c.if-not-meets.true-raw) ∙ (meets_tested a.ea.0 c.meets.ensures is.a).1 (pair_asked a.job a.ea d valid P).a_exponent) in
          record { low = λ d from l. no d; high = λ d from. no d },
    )

pub returns-then-pass-ea : goal.returns-then-pass-ea
returns-then-pass-ea c =
    let met_at : PassOf c.args.job c.args.pass → Meets c.args.ea.0 (exponent_mask c.args.job.setting.format c.args.job.a.mask) = λ is. (let a = c.args in
    (meets_tested a.ea.0 c.meets.ensures is.a).0 (not-false c.meets.result c.if-not-meets.false-raw)) in
    let a = c.args in
    let last = c.span_end-end in
    let t = (and-eq-true_iff (not a.pass.signs) (ltb a.ea.0 (a.pass.past.0 - 1))).0 c.if-pass-ea.true in
    let finite = ltb-true a.ea.0 (a.pass.past.0 - 1) t.1 in (
      λ valid is. record { within = omega (arith, last.ensures.0, c.requires.1); meets = λ l. met_at is },
      λ valid is none. record {
        low = λ d from l. signs_none a.job valid a.ea d (record { supported = valid.setting.format; a_finite = omega (arith, c.requires.1); b_finite = omega (arith, c.requires.1) }) (sym is.signs ∙ not-true a.pass.signs t.0);
        high = last.ensures.1 valid is none;
      },
    )

pub sum_from-requires : goal.sum_from-requires
sum_from-requires c = c.requires.0

pub returns-then-sum_from-ea : goal.returns-then-sum_from-ea
returns-then-sum_from-ea c =
    let met_at : PassOf c.args.job c.args.pass → Meets c.args.ea.0 (exponent_mask c.args.job.setting.format c.args.job.a.mask) =
    λ is. (meets_tested c.args.ea.0 c.meets.ensures is.a).0 (not-false c.meets.result c.if-not-meets.false-raw) in
    let j : Job = c.args.job in
    let last : Biased = c.span_end-end.result in
    let span_at : (from : Biased) → (Valid j → PassOf j c.args.pass → NoPartner j c.args.ea (field_is 0) from)
    → (Valid j → PassOf j c.args.pass → SpanIn j c.args.ea (record { from = from; end = last })) × (Valid j → PassOf j c.args.pass → NoneBelow j c.args.ea → SpanOf j c.args.ea (record { from = from; end = last })) =
    λ from low. (
      (λ valid is. record { within = omega (arith, c.span_end-end.ensures.0, c.requires.1); meets = λ l. met_at is }),
      (λ valid is none. record { low = low valid is; high = c.span_end-end.ensures.1 valid is none }),
    ) in
    span_at (field_is 0) (λ valid is d from l. absurd (omega arith))

pub returns : goal.returns
returns c =
    let a = c.args in
    let sum = c.sum_from in
    let met_at : PassOf c.args.job c.args.pass → Meets c.args.ea.0 (exponent_mask c.args.job.setting.format c.args.job.a.mask) =
    λ is. (meets_tested c.args.ea.0 c.meets.ensures is.a).0 (not-false c.meets.result c.if-not-meets.false-raw) in
    let j : Job = c.args.job in
    let last : Biased = c.span_end-end.result in
    let span_at : (from : Biased) → (Valid j → PassOf j c.args.pass → NoPartner j c.args.ea (field_is 0) from)
    → (Valid j → PassOf j c.args.pass → SpanIn j c.args.ea (record { from = from; end = last })) × (Valid j → PassOf j c.args.pass → NoneBelow j c.args.ea → SpanOf j c.args.ea (record { from = from; end = last })) =
    λ from low. (
      (λ valid is. record { within = omega (arith, c.span_end-end.ensures.0, c.requires.1); meets = λ l. met_at is }),
      (λ valid is none. record { low = low valid is; high = c.span_end-end.ensures.1 valid is none }),
    ) in
    span_at (field_is c.saturating_sub.result)
    (λ valid is d from l. sum.ensures.1 valid is 0 a.ea d (omega arith) (omega (arith, sum.ensures.0, c.if-sum_from-ea.false)) (omega (arith, c.saturating_sub.ensures)))
