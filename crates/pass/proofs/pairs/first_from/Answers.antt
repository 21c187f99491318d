-- `pass::pairs::first_from` meets its contract: no pair before (ea, eb) admits a case, and the table has answers. The measures are the exponent
-- fields still to come. Assumes nothing.
use mathlib.Core.Bool.{false≢true}
use mathlib.Core.Logic.{inl}
use mathlib.Core.Path.{sym, ◌∙◌}
use Prim.Native.Nat.{◌+◌, ◌≤◌}
use native.Mathlib.Omega.{arith}
use Rattle.job.specs.Job.{Valid}
use Rattle.special.specs.Asked.{field_is, PairFits}
use Rattle.classes.specs.Class.{Asked}
use Rattle.answers.proofs.Keeping.{kept_fresh}
use Rattle.pass.specs.First.{NoneBefore}
use Rattle.pass.specs.Steps.{NoneBelow}
use Rattle.pass.proofs.Spans.{partners_join, none_before, none_over, none_next}
use Rattle.pass.proofs.pairs.first_from.Goals as goal

pub pass_of-pass-requires : goal.pass_of-pass-requires
pass_of-pass-requires c = c.requires

pub pairs-init : goal.pairs-init
pairs-init c = (λ valid. kept_fresh c.args.job, λ valid none. none)

pub span_of-span-requires : goal.span_of-span-requires
span_of-span-requires c = (c.requires, c.pass_of-pass.ensures.0, omega (arith, c.pairs-test.true))

pub partner_from-eb-requires : goal.partner_from-eb-requires
partner_from-eb-requires c = c.requires

pub loop-eb-init : goal.loop-eb-init
loop-eb-init c =
    let p = c.partner_from-eb in (
      omega arith,
      λ valid.
          let kept = c.pairs.invariant.0 valid in
          (kept, (p.ensures.1 valid (c.pass_of-pass.ensures.1 valid) kept).0, λ d from to. absurd (omega arith)),
    )

pub after-next-requires : goal.after-next-requires
after-next-requires c = (c.requires, c.pass_of-pass.ensures.0, omega (arith, c.pairs-test.true), omega (arith, c.loop-eb-test.true, c.span_of-span.type_inv))

pub partner_from-eb-requires-in-loop-eb : goal.partner_from-eb-requires-in-loop-eb
partner_from-eb-requires-in-loop-eb c = c.requires

pub loop-eb-smaller : goal.loop-eb-smaller
loop-eb-smaller c = omega (arith, c.partner_from-eb-in-loop-eb.ensures.0, c.after-next.ensures.0, c.loop-eb-test.true)

pub loop-eb-preserved : goal.loop-eb-preserved
loop-eb-preserved c =
    let asked-at : Valid c.args.job → Asked c.args.job c.pairs.ea c.loop-eb.eb = λ valid. let span = c.span_of-span in
    let inside = span.ensures.0 valid (c.pass_of-pass.ensures.1 valid) in
    let l = c.loop-eb in
    record {
      valid = valid;
      a_exponent = inside.meets (omega (arith, c.loop-eb-test.true, l.invariant.0, c.partner_from-eb.ensures.0, c.max.ensures));
      b_exponent = (l.invariant.1 valid).1 (omega (arith, c.loop-eb-test.true, inside.within));
    } in
    let l = c.loop-eb in
    let a = c.args in
    let ea = c.pairs.ea in
    let next = c.after-next in
    let p = c.partner_from-eb-in-loop-eb in (
      omega (arith, l.invariant.0, next.ensures.0, p.ensures.0),
      λ valid.
          let is = c.pass_of-pass.ensures.1 valid in
          let may = asked-at valid in
          let got = c.admits.ensures.exact may is.end (l.invariant.1 valid).0 in
          let never : PairFits a.job ea l.eb → ⊥ = λ P. false≢true (sym c.if-admits.false ∙ got.1.1 P) in
          let after = p.ensures.1 valid is got.0 in
          (got.0, after.0, partners_join a.job ea c.partner_from-eb.result l.eb p.result (l.invariant.1 valid).2 (partners_join a.job ea l.eb next.result p.result (next.ensures.1 valid may.b_exponent never) after.1)),
    )

pub overflow_add-ea : goal.overflow_add-ea
overflow_add-ea c = record { fits = omega (arith, c.pairs-test.true, c.pass_of-pass.type_inv) }

pub field_from-ea-requires : goal.field_from-ea-requires
field_from-ea-requires c = (c.requires, c.pass_of-pass.ensures.0)

pub pairs-smaller : goal.pairs-smaller
pairs-smaller c = omega (arith, c.field_from-ea.ensures.0, c.pairs-test.true)

pub pairs-preserved : goal.pairs-preserved
pairs-preserved c =
    let over-at : Valid c.args.job → NoneBefore c.args.job (record { a = c.pairs.ea; b = c.pairs.eb })
    → c.span_of-span.result.end.0 ≤ c.loop-eb.eb.0 → NoneBelow c.args.job (field_is (c.pairs.ea.0 + 1)) = λ valid none over. let is = c.pass_of-pass.ensures.1 valid in
    none_over c.args.job c.pairs.ea c.pairs.eb c.span_of-span.result none
    (c.span_of-span.ensures.1 valid is (λ d e l. none d e (inl l))) (field_is c.max.result) c.partner_from-eb.result c.loop-eb.eb
    (omega (arith, c.max.ensures)) (c.partner_from-eb.ensures.1 valid is (c.pairs.invariant.0 valid)).1 (c.loop-eb.invariant.1 valid).2 over in (
      λ valid. (c.loop-eb.invariant.1 valid).0,
      λ valid none.
          let j = c.args.job in
          let is = c.pass_of-pass.ensures.1 valid in
          none_next j c.field_from-ea.result
          (c.field_from-ea.ensures.1 valid is (c.loop-eb.invariant.1 valid).0 (over-at valid (c.pairs.invariant.1 valid none) (omega (arith, c.loop-eb-test.false)))),
    )

pub returns-after-pairs : goal.returns-after-pairs
returns-after-pairs c = λ valid none. record { none = c.pairs.invariant.1 valid none; admits = λ h. absurd (omega (arith, c.pass_of-pass.ensures.0, c.pairs-test.false)) }

pub returns-then-admits : goal.returns-then-admits
returns-then-admits c =
    let asked-at : Valid c.args.job → Asked c.args.job c.pairs.ea c.loop-eb.eb = λ valid. let span = c.span_of-span in
    let inside = span.ensures.0 valid (c.pass_of-pass.ensures.1 valid) in
    let l = c.loop-eb in
    record {
      valid = valid;
      a_exponent = inside.meets (omega (arith, c.loop-eb-test.true, l.invariant.0, c.partner_from-eb.ensures.0, c.max.ensures));
      b_exponent = (l.invariant.1 valid).1 (omega (arith, c.loop-eb-test.true, inside.within));
    } in
    let before_at : Valid c.args.job → NoneBefore c.args.job (record { a = c.pairs.ea; b = c.pairs.eb })
    → NoneBefore c.args.job (record { a = c.pairs.ea; b = c.loop-eb.eb }) = λ valid none. let is = c.pass_of-pass.ensures.1 valid in
    none_before c.args.job c.pairs.ea c.pairs.eb c.span_of-span.result none
    (c.span_of-span.ensures.1 valid is (λ d e l. none d e (inl l))) (field_is c.max.result) c.partner_from-eb.result c.loop-eb.eb
    (omega (arith, c.max.ensures)) (c.partner_from-eb.ensures.1 valid is (c.pairs.invariant.0 valid)).1 (c.loop-eb.invariant.1 valid).2 in
    let l = c.loop-eb in
    λ valid none.
    let got = c.admits.ensures.exact (asked-at valid) (c.pass_of-pass.ensures.1 valid).end (l.invariant.1 valid).0 in
    record {
      none = before_at valid (c.pairs.invariant.1 valid none);
      admits = λ h. got.1.0 c.if-admits.true;
    }
