-- `word::unpack::operand_of` meets its contract: the fields that the code takes are those of the definition. Assumes nothing.
use Rattle.std.proofs.Common.{◌≡◌, ℕ, ◌+◌, ◌-◌, ◌/◌, ◌%◌, ◌^◌, sym, ap, ◌∙◌, ap₂, mod-lt, arith, pow_pos, eq-eqb, ne_eqb}
use Rattle.format.proofs.Room.{significand_room}
use Rattle.format.specs.declared.Format.{Format}
use Rattle.word.specs.declared.Finite as record_of
use Rattle.word.specs.declared.Operand.TheVariants.{Finite, Infinite, Nan}
use Rattle.word.specs.Word.{significand, biased, fraction, sign, all_ones}
use Rattle.word.specs.Operand.{operand_of}
use Rattle.word.proofs.Bounds.{exponents}
use Rattle.word.proofs.unpack.operand_of.Goals as goal

-- the kind by fields t, e, and what lies above them, s
module _ (F : Format) (x t e s p : ℕ) (ht : t ≡ fraction F x) (he : e ≡ (biased F x).0) (hs : s ≡ x / 2 ^ (F.w + F.f)) (hp : p ≡ 2 ^ F.w) where
  ones : e ≡ p - 1 → (biased F x).0 ≡ all_ones F
  ones h = sym he ∙ h ∙ ap (λ (n : ℕ). n - 1) hp

  infinite : e ≡ p - 1 → t ≡ 0 → Infinite (s % 2) ≡ operand_of F x
  unfolding operand_of
  infinite h z = rw (eq-eqb _ _ (ones h), eq-eqb _ _ (sym ht ∙ z)) (ap (λ (n : ℕ). Infinite (n % 2)) hs)

  nan : e ≡ p - 1 → (t ≡ 0 → ⊥) → Nan ≡ operand_of F x
  unfolding operand_of
  nan h z = rw (eq-eqb _ _ (ones h), ne_eqb _ _ (λ q. z (ht ∙ q)))

  number : ℕ → ℕ → ℕ → record_of.Finite
  number a b m = record { sign = a; exponent = record { 0 = b }; significand = m }

  finite : (e ≡ p - 1 → ⊥) → (m : ℕ) → m ≡ significand F.f e t → Finite (number (s % 2) e m) ≡ operand_of F x
  unfolding operand_of number
  finite h m hm =
      rw (ne_eqb _ _ (λ q. h (he ∙ q ∙ ap (λ (n : ℕ). n - 1) (sym hp))))
      (ap₂ (λ (a b : ℕ). Finite (number a b m)) (ap (λ (n : ℕ). n % 2) hs) he
      ∙ ap (λ (n : ℕ). Finite (number (sign F x) (biased F x).0 n)) (hm ∙ ap₂ (significand F.f) he ht))

pub overflow_sub-power : goal.overflow_sub-power
overflow_sub-power c =
    let F = c.args.format in
    rw (exponents F c.requires c.power.ensures) (pow_pos F.w)

pub significand-requires : goal.significand-requires
significand-requires c =
    (omega (arith, significand_room c.args.format c.requires), rw c.low-fraction.ensures (mod-lt c.args.x (pow_pos c.args.format.f)))

pub returns-then-fraction-eq0 : goal.returns-then-fraction-eq0
returns-then-fraction-eq0 c =
    let F = c.args.format in
    let low = c.low-fraction in
    let low2 = c.low-exponent in
    let high = c.high in
    infinite F c.args.x low.result low2.result c.high-sign.result c.power.result low.ensures (low2.ensures ∙ ap (λ (n : ℕ). n % 2 ^ F.w) high.ensures) c.high-sign.ensures (exponents F c.requires c.power.ensures) c.if-exponent-power.true c.if-fraction-eq0.true

pub returns-else-fraction-eq0 : goal.returns-else-fraction-eq0
returns-else-fraction-eq0 c =
    let F = c.args.format in
    let low = c.low-fraction in
    let low2 = c.low-exponent in
    let high = c.high in
    nan F c.args.x low.result low2.result c.high-sign.result c.power.result low.ensures (low2.ensures ∙ ap (λ (n : ℕ). n % 2 ^ F.w) high.ensures) c.high-sign.ensures (exponents F c.requires c.power.ensures) c.if-exponent-power.true c.if-fraction-eq0.false

pub returns-else-exponent-power : goal.returns-else-exponent-power
unfolding number
returns-else-exponent-power c =
    let F = c.args.format in
    let low = c.low-fraction in
    let low2 = c.low-exponent in
    let high = c.high in
    finite F c.args.x low.result low2.result c.high-sign.result c.power.result low.ensures (low2.ensures ∙ ap (λ (n : ℕ). n % 2 ^ F.w) high.ensures) c.high-sign.ensures (exponents F c.requires c.power.ensures) c.if-exponent-power.false c.significand.result c.significand.ensures
