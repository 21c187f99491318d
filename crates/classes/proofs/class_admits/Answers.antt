-- `classes::class_admits` meets its contract: it asks about the pair that stands for the class. Assumes nothing.
use Rattle.std.proofs.Common.{◌≡◌, ℕ, ◌+◌, ◌%◌, ◌^◌, ◌<◌, Bool, true, ◌↔◌, refl, ap, ◌∙◌, subst, subst₂, mod-eq_of_lt, arith}
use Rattle.mask.specs.declared.Mask.{Mask}
use Rattle.mask.specs.Mask.{WellFormed}
use Rattle.job.specs.declared.Job.{Job}
use Rattle.job.specs.declared.Role.TheVariants.{C}
use Rattle.job.specs.Job.{Valid}
use Rattle.job.specs.Role.{with_mask}
use Rattle.job.specs.Guards.{reach}
use Rattle.job.proofs.GuardLaws.{reach_most}
use Rattle.job.proofs.Roles.{valid_with}
use Rattle.word.specs.declared.Biased.{Biased}
use Rattle.word.specs.Word.{all_ones}
use Rattle.special.specs.Asked.{field_is}
use Rattle.pair.specs.Pair.{SomeSigns, FinitePair}
use Rattle.classes.specs.Class.{top_field, with_exponent, asking}
use Rattle.classes.proofs.ClassMasks.{asking_formed}
use Rattle.classes.proofs.class_admits.Goals as goal

-- what the answer about the job that the code forms tells
answered : (j t : Job) (n : Mask) (a b x y : Biased) (r : Bool) → Valid j → WellFormed j.setting.format.w n → t ≡ asking j n → a ≡ x → b ≡ y
    → x.0 < all_ones j.setting.format → y.0 < all_ones j.setting.format
    → (Valid t → FinitePair t.setting.format a b → (r ≡ true) ↔ SomeSigns t a b) → (r ≡ true) ↔ SomeSigns (asking j n) x y
answered j t n a b x y r v wn et ea eb hx hy h =
    subst₂ (λ (u w : Biased). Valid (asking j n) → FinitePair j.setting.format u w → (r ≡ true) ↔ SomeSigns (asking j n) u w) ea eb
    (subst (λ (i : Job). Valid i → FinitePair i.setting.format a b → (r ≡ true) ↔ SomeSigns i a b) et h)
    (valid_with C j (with_mask j.c (with_exponent j.setting.format j.c.mask n)) v (record { mask = asking_formed j.setting.format j.c.mask n v.c.mask wn; bounds = v.c.bounds }))
    (record { supported = v.setting.format; a_finite = hx; b_finite = hy })

-- the larger field that the code forms
top_is : (j : Job) (r n : ℕ) → r ≡ reach j → n ≡ (r + 4) % 2 ^ 64 → n ≡ (top_field (reach j)).0
top_is j r n er en = en ∙ ap (λ (m : ℕ). (m + 4) % 2 ^ 64) er ∙ mod-eq_of_lt (omega (arith, reach_most j)) ∙ omega arith

pub returns-then-class-eq0 : goal.returns-then-class-eq0
returns-then-class-eq0 c = λ p wn.
    let a = c.args in
    let t = c.asking-asked in
    let n = c.wrapping_add_u64 in
    let top = ap field_is (top_is a.job c.reach.result n.result c.reach.ensures n.ensures.value) in
    rw c.if-class-eq0.true
    (answered a.job t.result a.n (field_is n.result) a.class.low (top_field (reach a.job)) a.class.low c.finite_admits.result p.valid wn
    (t.ensures p.valid.setting.format p.valid.c.mask wn) top refl (omega (arith, p.wide)) (omega (arith, p.wide, p.class_in.low_le)) c.finite_admits.ensures.exact)

pub returns-else-class-eq0 : goal.returns-else-class-eq0
returns-else-class-eq0 c = λ p wn.
    let a = c.args in
    let t = c.asking-asked in
    let n = c.wrapping_add_u64 in
    let top = ap field_is (top_is a.job c.reach.result n.result c.reach.ensures n.ensures.value) in
    let one : a.class.order ≡ 1 = omega (arith, c.if-class-eq0.false, p.class_in.order_lt) in
    rw one
    (answered a.job t.result a.n a.class.low (field_is n.result) a.class.low (top_field (reach a.job)) c.finite_admits-else-class-eq0.result p.valid wn
    (t.ensures p.valid.setting.format p.valid.c.mask wn) refl top (omega (arith, p.wide, p.class_in.low_le)) (omega (arith, p.wide)) c.finite_admits-else-class-eq0.ensures.exact)
