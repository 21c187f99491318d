-- Jobs whose masks fix more: a mask narrowed by its bounds keeps all cases, one with a free bit fixed those with that bit. Assumes nothing.
use mathlib.Core.Path.{◌≡◌, sym, ap, ◌∙◌, subst}
use mathlib.Core.Logic.{◌↔◌}
use Prim.Native.Nat.{ℕ, ◌^◌, ◌≤◌, ◌<◌}
use native.Mathlib.Nat.{lt_of_lt_of_le, le_trans}
use native.Mathlib.Omega.{arith}
use lib.Bits.{and_le_r, or_add_and}
use lib.Pow.{pow_mono}
use Rattle.bits.specs.Bit.{bit}
use Rattle.format.specs.Format.{word_bits}
use Rattle.format.proofs.Room.{word_room}
use Rattle.mask.specs.declared.Mask.{Mask}
use Rattle.mask.specs.Mask.{WellFormed, Meets, fix, fixed}
use Rattle.mask.proofs.Fixing.{care_same, fixed_formed, fixed_meets, fix_free}
use Rattle.job.specs.declared.Setting.{Setting}
use Rattle.job.specs.declared.Wanted.{Wanted}
use Rattle.job.specs.declared.Job.{Job}
use Rattle.job.specs.declared.Role.{Role}
use Rattle.job.specs.declared.Role.TheVariants.{A, B, C}
use Rattle.job.specs.Job.{Valid}
use Rattle.job.specs.Role.{member, wanted, with_mask, with_word_mask, only_mask, unbounded}
use Rattle.job.proofs.Roles.{word_mask_own, word_mask_setting, unbounded_word_mask, valid_wanted, valid_with}
use Rattle.fit.specs.Fit.{Fits}
use Rattle.fit.proofs.Roles.{member_lt, fits_allowed, fits_with, fits_changed}
use Rattle.word.specs.Word.{biased}
use Rattle.pass.specs.declared.Exponents.{Exponents}
use Rattle.pass.specs.First.{NoneBefore}
use Rattle.narrowing.specs.Narrowing.{Narrows}
use Rattle.left.specs.Narrower.{openness, Narrower, Keeps, KeepsHalf, Open}

-- a mask of one word that fixes no less, bounds left out
pub unbounded_less : (role : Role) (j : Job) (m m' : Mask) → ((x : ℕ) → Meets x m' → Meets x m) → (a b c : ℕ)
    → Fits (unbounded (with_word_mask role j m')) a b c → Fits (unbounded (with_word_mask role j m)) a b c
unbounded_less role j m m' less a b c f =
    subst (λ (t : Job). Fits t a b c) (sym (unbounded_word_mask role j m))
    (fits_changed role (unbounded j) (only_mask m') (only_mask m) a b c (λ x h. record { mask = less x h.mask; within = tt })
    (subst (λ (t : Job). Fits t a b c) (unbounded_word_mask role j m') f))

-- a job whose cases, bounds left out, are cases of another has none with exponent fields that none of the other has
pub none_fewer : (j t : Job) → t.setting ≡ j.setting → ((a b c : ℕ) → Fits (unbounded t) a b c → Fits (unbounded j) a b c) → (n : Exponents) → NoneBefore j n → NoneBefore t n
none_fewer j t same fewer n none d e h p = none d e h (record {
  a = p.a;
  b = p.b;
  c = p.c;
  fits = fewer p.a p.b p.c p.fits;
  a_exponent = subst (λ (S : Setting). biased S.format p.a ≡ d) same p.a_exponent;
  b_exponent = subst (λ (S : Setting). biased S.format p.b ≡ e) same p.b_exponent;
})

module _ (role : Role) (j : Job) (valid : Valid j) (m : Mask) where
  abbrev own : Wanted
  own = wanted role j

  abbrev width : ℕ
  width = word_bits j.setting.format

  -- a mask that fixes no less makes a narrower job
  module _ (formed : WellFormed width m) (more : own.mask.care ≤ m.care) (less : (x : ℕ) → Meets x m → Meets x own.mask) where
    back : (a b c : ℕ) → Fits (with_word_mask role j m) a b c → Fits j a b c
    back a b c f =
        subst (λ (t : Job). Fits t a b c) (word_mask_own role j)
        (fits_changed role j (with_mask own m) own a b c (λ x h. record { mask = less x h.mask; within = h.within }) f)

    relaxed : (a b c : ℕ) → Fits (unbounded (with_word_mask role j m)) a b c → Fits (unbounded j) a b c
    relaxed a b c f = subst (λ (t : Job). Fits (unbounded t) a b c) (word_mask_own role j) (unbounded_less role j own.mask m less a b c f)

    mask_narrower : Narrower j (with_word_mask role j m)
    mask_narrower = record {
      setting = word_mask_setting role j m;
      valid = valid_with role j (with_mask own m) valid (record { mask = formed; bounds = (valid_wanted role j valid).bounds });
      back = back;
      relaxed = relaxed;
      opens = opens role more;
    }
      where
        opens : (r : Role) → (wanted r j).mask.care ≤ m.care → openness (with_word_mask r j m) ≤ openness j
        opens A h = omega (arith, h)
        opens B h = omega (arith, h)
        opens C h = omega (arith, h)

  -- one that is narrowed by the bounds keeps all cases
  pub narrows_narrower : Narrows j.setting.format own m → Narrower j (with_word_mask role j m) × Keeps j (with_word_mask role j m)
  narrows_narrower n = (
    mask_narrower n.formed n.more n.less,
    λ a b c f.
        let h = fits_allowed j a b c role f in
        fits_with j a b c role (with_mask own m) f (record { mask = n.kept (member role a b c) (member_lt j a b c role f) h.mask h.within; within = h.within }),
  )

  -- one with a free bit fixed keeps those with that bit
  pub fixed_narrower : (k v : ℕ) → Open j role k v → m ≡ fix own.mask k v
      → Narrower j (with_word_mask role j m) × KeepsHalf j role k v (with_word_mask role j m) × (openness (with_word_mask role j m) < openness j)
  fixed_narrower k v o e = (
    mask_narrower formed (omega (arith, more)) (λ x met. ((meets x).0 met).0),
    (λ a b c f is.
        let h = fits_allowed j a b c role f in
        fits_with j a b c role (with_mask own m) f (record { mask = (meets (member role a b c)).1 (h.mask, is); within = h.within })),
    falls role more small,
  )
    where
      wide : width ≤ 64
      wide = word_room j.setting.format valid.setting.format

      mask_formed : WellFormed width own.mask
      mask_formed = (valid_wanted role j valid).mask

      is_fixed : m ≡ fixed own.mask k v
      is_fixed = e ∙ fix_free own.mask k v (omega (arith, o.0, wide)) o.2 o.1

      formed : WellFormed width m
      formed = subst (WellFormed width) (sym is_fixed) (fixed_formed own.mask k v mask_formed.inside o.1 o.2 width mask_formed o.0)

      meets : (x : ℕ) → Meets x m ↔ (Meets x own.mask × (bit x k ≡ v))
      meets x = subst (λ (n : Mask). Meets x n ↔ (Meets x own.mask × (bit x k ≡ v))) (sym is_fixed) (fixed_meets own.mask k v mask_formed.inside o.1 o.2 x)

      more : own.mask.care < m.care
      more =
          let c : ℕ = own.mask.care in
          let e = ap (λ (n : Mask). n.care) is_fixed in
          let differ : (c ≡ m.care) → ⊥ = λ q. omega (arith, o.1, care_same own.mask k v o.1, ap (λ (n : ℕ). bit n k) (q ∙ e)) in
          omega (arith, e, or_add_and c (2 ^ k), and_le_r c (2 ^ k), differ)

      small : own.mask.care < 2 ^ 64
      small = lt_of_lt_of_le mask_formed.below (pow_mono {i = width} {j = 64} wide)

      falls : (r : Role) → (wanted r j).mask.care < m.care → (wanted r j).mask.care < 2 ^ 64 → openness (with_word_mask r j m) < openness j
      falls A h s = omega (arith, h, s)
      falls B h s = omega (arith, h, s)
      falls C h s = omega (arith, h, s)

-- a narrower job of a narrower one
pub narrower_trans : (j t u : Job) → Narrower j t → Narrower t u → Narrower j u
narrower_trans j t u p q = record {
  setting = q.setting ∙ p.setting;
  valid = q.valid;
  back = λ a b c f. p.back a b c (q.back a b c f);
  relaxed = λ a b c f. p.relaxed a b c (q.relaxed a b c f);
  opens = le_trans q.opens p.opens;
}

-- no case of a narrower job has exponent fields that none had
pub none_narrower : (j t : Job) → Narrower j t → (n : Exponents) → NoneBefore j n → NoneBefore t n
none_narrower j t p = none_fewer j t p.setting p.relaxed
