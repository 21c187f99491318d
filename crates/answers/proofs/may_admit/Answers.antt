-- `answers::may_admit` meets its contract. Assumes nothing.
use mathlib.Core.Bool.{true≢false}
use mathlib.Core.Path.{◌≡◌, sym, ap, ◌∙◌, subst, subst₂}
use Prim.Native.Nat.{ℕ, ◌<◌}
use native.Mathlib.Omega.{arith}
use lib.Pow.{pow_mono}
use borrow.Author.Tests.{not-false}
use Rattle.format.proofs.Room.{exponent_room}
use Rattle.word.specs.declared.Unit as exponent
use Rattle.classes.specs.declared.Class.{Class}
use Rattle.classes.specs.Class.{FiniteFields, class_of, ClassIn, ClassFor, Normal}
use Rattle.answers.specs.Kept.{NoField}
use Rattle.answers.proofs.Keeping.{class_in, pair_never}
use Rattle.job.specs.declared.Job.{Job}
use Rattle.job.specs.Guards.{reach}
use Rattle.job.proofs.GuardLaws.{reach_most}
use Rattle.classes.specs.declared.Fields.{Fields}
use Rattle.answers.proofs.may_admit.Goals as goal

pub returns-then-end-fields : goal.returns-then-end-fields
returns-then-end-fields c = λ valid end kept. (kept, λ e. absurd (true≢false e))

pub returns-then-not-normal : goal.returns-then-not-normal
returns-then-not-normal c = λ valid end kept. (kept, λ e. absurd (true≢false e))

-- the class that the code forms
of_reach : (j : Job) (p : Fields) (r : ℕ) (k : Class) → r ≡ reach j → (r < 64 → k ≡ class_of r p) → k ≡ class_of (reach j) p
of_reach j p r k er is = is (omega (arith, er, reach_most j)) ∙ ap (λ (n : ℕ). class_of n p) er

pub class_may-requires : goal.class_may-requires
class_may-requires c =
    let j = c.args.job in
    (omega (arith, reach_most j), subst (ClassIn (reach j)) (sym (of_reach j c.args.fields c.reach-reach.result c.class_of.result c.reach-reach.ensures c.class_of.ensures)) (class_in (reach j) c.args.fields c.requires))

pub returns : goal.returns
returns c =
    let a = c.args in
    let F = a.job.setting.format in
    let class = of_reach a.job a.fields c.reach-reach.result c.class_of.result c.reach-reach.ensures c.class_of.ensures in
    λ valid end kept.
    let by = end a.fields.larger a.fields.smaller (subst (λ (n : ℕ). Normal n a.fields.larger a.fields.smaller) c.reach-reach.ensures (c.normal.ensures (not-false c.normal.result c.if-not-normal.false-raw))) c.if-end-fields.false in
    let fin : FiniteFields F a.fields = record { by_size = c.requires; finite = by.1 } in
    let posed : ClassFor a.job c.class_of.result = record { valid = valid; wide = by.0.wide; class_in = subst (ClassIn (reach a.job)) (sym class) (class_in (reach a.job) a.fields c.requires) } in
    let most = pow_mono {i = F.w} {j = 16} (exponent_room F valid.setting.format) in
    let u = ap (λ (u : exponent.Unit). u.0) c.unit_of.ensures in
    let found = c.class_may.ensures posed (omega (arith, by.1)) kept in (
      found.0,
      λ e. pair_never a.job a.fields fin valid by.0 (subst₂ (λ (k : Class) (u : exponent.Unit). NoField a.job k u) class c.unit_of.ensures (found.1 e)),
    )
