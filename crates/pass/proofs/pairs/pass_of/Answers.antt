-- `pass::pairs::pass_of` meets its contract. Assumes nothing.
use mathlib.Core.Bool.{◌&&◌, true≢false}
use mathlib.Core.Path.{sym, ap₂, ◌∙◌}
use borrow.Author.Tests.{eq-eqb}
use Rattle.mask.proofs.Checks.{meets_tested}
use Rattle.word.proofs.Bounds.{exponents}
use Rattle.pass.proofs.Spans.{met_field}
use Rattle.pass.proofs.pairs.pass_of.Goals as goal

pub returns : goal.returns
returns c =
    let j = c.args.job in
    let F = j.setting.format in
    let past = exponents F c.requires c.power.ensures in
    let first = c.met_from in (
      past,
      λ valid.
          let met = met_field F j.a.mask c.exponent_mask-a.result 1 first.result c.requires valid.a.mask c.exponent_mask-a.ensures first.ensures.1 in
          record {
            a = c.exponent_mask-a.ensures;
            b = c.exponent_mask.ensures;
            c = c.exponent_mask-c.ensures;
            first_some = met.from;
            first_meets = met.meets;
            signs = c.signs_left.ensures;
            zero = λ no z.
                true≢false (sym (ap₂ ◌&&◌ (ap₂ ◌&&◌ ((meets_tested 0 c.meets.ensures c.exponent_mask-c.ensures).1 z.exponent)
                ((meets_tested 0 c.meets-2.ensures c.fraction_mask.ensures).1 z.fraction))
                (eq-eqb j.dropped.mask.care 0 z.unfixed)) ∙ no);
            end = c.class_end.ensures.0 valid;
          },
    )
