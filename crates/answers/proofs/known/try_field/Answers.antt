-- `answers::known::try_field` meets its contract. Assumes nothing.
use mathlib.Core.Bool.{true, false≢true, true≢false}
use mathlib.Core.Logic.{◌↔◌}
use mathlib.Core.Path.{◌≡◌, sym, ap, ap₂, ◌∙◌, subst}
use native.Mathlib.Omega.{arith}
use lib.Bits.{bit_and}
use lib.Pow.{pow_pos}
use borrow.Author.Tests.{not-true}
use Rattle.mask.specs.declared.Mask.{Mask}
use Rattle.mask.specs.Mask.{WellFormed, meets}
use Rattle.mask.proofs.Checks.{meets_true}
use Rattle.word.specs.declared.Biased.{Biased}
use Rattle.word.specs.Masks.{exponent_mask}
use Rattle.word.proofs.Bounds.{exponents}
use Rattle.classes.specs.Class.{field_at, ClassAdmits, ClassFor}
use Rattle.classes.proofs.Classes.{only_formed}
use Rattle.answers.specs.Kept.{Never}
use Rattle.answers.proofs.Keeping.{refuse_more, only_is}
use Rattle.job.specs.Guards.{reach}
use Rattle.job.proofs.GuardLaws.{reach_most}
use Rattle.answers.proofs.known.try_field.Goals as goal

pub bit_of-bit-requires : goal.bit_of-bit-requires
bit_of-bit-requires c = rw c.reach-reach.ensures (omega (arith, reach_most c.args.job), c.requires.2)

pub returns-then-refused-bit-ne0 : goal.returns-then-refused-bit-ne0
returns-then-refused-bit-ne0 c = let a = c.args in λ p kept. (kept, λ e met. kept a.field (λ z. c.if-refused-bit-ne0.true (ap (bit_and a.refused) ((rw c.reach-reach.ensures at c.bit_of-bit.ensures)) ∙ z)))

pub field_at-requires : goal.field_at-requires
field_at-requires c = rw c.reach-reach.ensures (omega (arith, reach_most c.args.job), c.requires.1, omega (arith, c.requires.2, reach_most c.args.job))

pub returns-then-not-meets : goal.returns-then-not-meets
returns-then-not-meets c =
    let a = c.args in
    let is = c.meets.ensures ∙ ap₂ (λ (e : Biased) (m : Mask). meets e.0 m) ((rw c.reach-reach.ensures at c.field_at.ensures)) c.exponent_mask.ensures in
    λ p kept. (kept, λ e met. absurd (false≢true (sym (not-true c.meets.result c.if-not-meets.true-raw) ∙ is ∙ (meets_true (field_at (reach a.job) a.unit a.field).0 (exponent_mask a.job.setting.format a.job.c.mask)).1 met)))

pub overflow_sub-only : goal.overflow_sub-only
overflow_sub-only c = let F = c.args.job.setting.format in omega (arith, exponents F c.requires.0 c.power.ensures, pow_pos F.w)

pub returns-then-class_admits : goal.returns-then-class_admits
returns-then-class_admits c = λ p kept. (kept, λ e. absurd (true≢false e))

pub returns : goal.returns
returns c =
    let a = c.args in
    let F = a.job.setting.format in
    λ p kept.
    let asks = subst (λ (n : Mask). ClassFor a.job a.class → WellFormed F.w n → (c.class_admits.result ≡ true) ↔ ClassAdmits a.job a.class n) (only_is F c.power.result a.field c.requires.0 c.power.ensures) c.class_admits.ensures in
    let never : Never a.job a.class a.field = λ l A. false≢true (sym c.if-class_admits.false ∙ (asks p (only_formed F a.field (omega (arith, l, p.wide)))).1 A) in (
      rw ((rw c.reach-reach.ensures at c.bit_of-bit.ensures)) (refuse_more a.job a.class a.refused a.field c.requires.2 kept never),
      λ e met. never,
    )
