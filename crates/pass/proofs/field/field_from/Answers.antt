-- `pass::field::field_from` meets its contract, by `none_met` and `none_far`. Assumes nothing.
use native.Mathlib.Omega.{arith}
use Rattle.special.specs.Asked.{field_is}
use Rattle.pass.proofs.Spans.{met_field, none_met, none_far}
use Rattle.pass.proofs.field.field_from.Goals as goal

pub returns-then-ea-pass : goal.returns-then-ea-pass
returns-then-ea-pass c =
    let a = c.args in
    let F = a.job.setting.format in
    let first = c.met_from in (
      first.ensures.0,
      λ valid is kept. none_met a.job valid a.n.0 first.result (met_field F a.job.a.mask a.pass.a a.n.0 first.result c.requires.0 valid.a.mask is.a first.ensures.1),
    )

pub far_end-requires : goal.far_end-requires
far_end-requires c = c.requires

pub returns : goal.returns
returns c =
    let a = c.args in
    let F = a.job.setting.format in
    let one = c.met_from in
    let far = c.far_end in
    let two = c.met_from-2 in
    let first = a.pass.first in
    let later = c.if-ea-pass.false in (
      omega (arith, one.ensures.0, far.ensures.0, two.ensures.0),
      λ valid is kept none.
          let met = met_field F a.job.a.mask a.pass.a a.n.0 one.result c.requires.0 valid.a.mask is.a one.ensures.1 in
          let again = met_field F a.job.a.mask a.pass.a far.result.0 two.result c.requires.0 valid.a.mask is.a two.ensures.1 in
          none_met a.job valid far.result.0 two.result again
          (none_far a.job valid first (field_is one.result) far.result is.first_some (omega (arith, later)) is.first_meets
          (none_met a.job valid a.n.0 one.result met none) (far.ensures.1 valid is kept)),
    )
