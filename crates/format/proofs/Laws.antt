-- What it means that a check names no cause. Assumes nothing.
use mathlib.Core.Path.{◌≡◌, refl, sym, ap, ◌∙◌}
use mathlib.Core.Bool.{Bool, true, false, and-eq-true_iff}
use mathlib.Core.Logic.{◌↔◌}
use Prim.Native.Nat.{ℕ, ◌-◌, ◌^◌, ◌≤◌, ◌<◌}
use native.Mathlib.Omega.{arith}
use borrow.Author.Tests.{ltb-true, leb-true, lt-ltb, le-leb}
use lib.Dec.{ltb, leb}
use lib.ListN.{get_or}
use Rattle.format.specs.declared.Format.{Format}
use Rattle.std.specs.Prelude.{List, [], ◌∷◌, Ok, Err, is_ok, is_err}
use Rattle.format.specs.declared.cause.Cause.{Cause}
use Rattle.format.specs.declared.cause.Cause.TheVariants as cause
use Rattle.format.specs.Cause.{number, Check, clear, unless, first}
use Rattle.format.specs.Limits.{least_exponent_bits, most_exponent_bits, least_fraction_bits, most_fraction_bits, most_operation, most_mode, within}
use Rattle.format.specs.Format.{Supported, format_cause, operation_cause, mode_cause, word_cause}

-- a cause is not clear
pub err_ok : {c : Cause} → Err c ≡ clear → ⊥
err_ok e = mathlib.Core.Bool.false≢true (ap is_ok e)

-- no cause has the number 0, so 0 can stand for none
pub number_positive : (c : Cause) → 0 < number c
unfolding number
number_positive cause.ExponentBits = omega arith
number_positive cause.FractionBits = omega arith
number_positive cause.Operation = omega arith
number_positive cause.Mode = omega arith
number_positive cause.Mask = omega arith
number_positive cause.Word = omega arith
number_positive cause.NoCase = omega arith
number_positive cause.Cut = omega arith
number_positive cause.MapBits = omega arith
number_positive cause.DefaultField = omega arith
number_positive cause.Buffer = omega arith
number_positive cause.WholeLength = omega arith
number_positive cause.Clash = omega arith
number_positive cause.SecondMask = omega arith
number_positive cause.ThirdMask = omega arith
number_positive cause.CarryMask = omega arith
number_positive cause.DroppedMask = omega arith
number_positive cause.Bounds = omega arith

-- the causes in the order of their numbers, and the cause of a number
causes : List Cause
causes =
    cause.ExponentBits ∷ cause.FractionBits ∷ cause.Operation ∷
    cause.Mode ∷ cause.Mask ∷ cause.Word ∷
    cause.NoCase ∷ cause.Cut ∷ cause.MapBits ∷
    cause.DefaultField ∷ cause.Buffer ∷ cause.WholeLength ∷
    cause.Clash ∷ cause.SecondMask ∷ cause.ThirdMask ∷
    cause.CarryMask ∷ cause.DroppedMask ∷ cause.Bounds ∷ []

cause_at : ℕ → Cause
cause_at n = get_or causes (n - 1) cause.Bounds

cause_back : (c : Cause) → cause_at (number c) ≡ c
unfolding number cause_at causes
cause_back cause.ExponentBits = refl
cause_back cause.FractionBits = refl
cause_back cause.Operation = refl
cause_back cause.Mode = refl
cause_back cause.Mask = refl
cause_back cause.Word = refl
cause_back cause.NoCase = refl
cause_back cause.Cut = refl
cause_back cause.MapBits = refl
cause_back cause.DefaultField = refl
cause_back cause.Buffer = refl
cause_back cause.WholeLength = refl
cause_back cause.Clash = refl
cause_back cause.SecondMask = refl
cause_back cause.ThirdMask = refl
cause_back cause.CarryMask = refl
cause_back cause.DroppedMask = refl
cause_back cause.Bounds = refl

-- no two causes have one number
pub number_same : (c d : Cause) → number c ≡ number d → c ≡ d
number_same c d e = sym (cause_back c) ∙ ap cause_at e ∙ cause_back d

-- a check names one cause
pub err_same : {c d : Cause} → ◌≡◌ {A = Check} (Err c) (Err d) → c ≡ d
err_same e = cc

-- a check that says Ok is clear
pub ok_clear : {r : Check} → is_ok r ≡ true → r ≡ clear
ok_clear {r = Ok u} e = refl
ok_clear {r = Err c} e = absurd (mathlib.Core.Bool.false≢true e)

pub not_err : {r : Check} → is_err r ≡ false → r ≡ clear
not_err {r = Ok u} e = refl
not_err {r = Err c} e = absurd (mathlib.Core.Bool.false≢true (sym e))

-- the first of two causes is none exactly when both checks are clear
pub first_none : (m n : Check) → first m n ≡ clear ↔ ((m ≡ clear) × (n ≡ clear))
first_none (Ok u) n = (λ e. (refl, e), λ b. b.1)
first_none (Err c) n = (λ e. absurd (err_ok e), λ b. absurd (err_ok b.0))

-- two checks, each with what it means that it is clear
pub both_none : {P Q : Type 0} (m n : Check) → (m ≡ clear) ↔ P → (n ≡ clear) ↔ Q → (first m n ≡ clear) ↔ (P × Q)
both_none m n p q = (
  λ e. (p.0 ((first_none m n).0 e).0, q.0 ((first_none m n).0 e).1),
  λ b. (first_none m n).1 (p.1 b.0, q.1 b.1),
)

-- where the first check names a cause, the later ones do not count
pub first_some : (m n : Check) → (m ≡ clear → ⊥) → first m n ≡ m
first_some (Ok u) n h = absurd (h refl)
first_some (Err c) n h = refl

-- a test names no cause exactly when it holds
pub unless_none : (t : Bool) (c : Cause) → unless t c ≡ clear ↔ (t ≡ true)
unless_none true c = (λ e. refl, λ e. refl)
unless_none false c = (λ e. absurd (err_ok e), λ e. absurd (mathlib.Core.Bool.false≢true e))

pub within_holds : (least most n : ℕ) → within least most n ≡ true ↔ ((least ≤ n) × (n ≤ most))
within_holds least most n = (
  λ e. let b = (and-eq-true_iff (leb least n) (leb n most)).0 e in (leb-true least n b.0, leb-true n most b.1),
  λ b. (and-eq-true_iff (leb least n) (leb n most)).1 (le-leb least n b.0, le-leb n most b.1),
)

pub format_none : (F : Format) → format_cause F ≡ clear ↔ Supported F
unfolding format_cause
format_none F =
    let w = within_holds least_exponent_bits most_exponent_bits F.w in
    let f = within_holds least_fraction_bits most_fraction_bits F.f in
    let law = both_none _ _ (unless_none (within least_exponent_bits most_exponent_bits F.w) cause.ExponentBits) (unless_none (within least_fraction_bits most_fraction_bits F.f) cause.FractionBits) in (
      (λ e.
          let b = law.0 e in
          let p = w.0 b.0 in
          let q = f.0 b.1 in
          record { w_least = p.0; w_most = p.1; f_least = q.0; f_most = q.1 }),
      λ s. law.1 (w.1 (s.w_least, s.w_most), f.1 (s.f_least, s.f_most)),
    )

-- what a caller learns from the test whether a format is supported
module _ {F : Format} {t : Bool} (tells : (t ≡ true) ↔ Supported F) where
  pub supported_of : t ≡ true → Supported F
  supported_of = tells.0

  pub unsupported_of : t ≡ false → Supported F → ⊥
  unsupported_of z ok = mathlib.Core.Bool.false≢true (sym z ∙ tells.1 ok)

pub operation_none : (op : ℕ) → operation_cause op ≡ clear ↔ (op ≤ most_operation)
unfolding operation_cause
operation_none op = (
  λ e. leb-true op most_operation ((unless_none (leb op most_operation) cause.Operation).0 e),
  λ h. (unless_none (leb op most_operation) cause.Operation).1 (le-leb op most_operation h),
)

pub mode_none : (m : ℕ) → mode_cause m ≡ clear ↔ (m ≤ most_mode)
unfolding mode_cause
mode_none m = (
  λ e. leb-true m most_mode ((unless_none (leb m most_mode) cause.Mode).0 e),
  λ h. (unless_none (leb m most_mode) cause.Mode).1 (le-leb m most_mode h),
)

pub word_none : (width x : ℕ) → word_cause width x ≡ clear ↔ (x < 2 ^ width)
unfolding word_cause
word_none width x = (
  λ e. ltb-true x (2 ^ width) ((unless_none (ltb x (2 ^ width)) cause.Word).0 e),
  λ h. (unless_none (ltb x (2 ^ width)) cause.Word).1 (lt-ltb x (2 ^ width) h),
)
