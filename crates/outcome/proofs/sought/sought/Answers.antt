-- `outcome::sought::sought` meets its contract: within the format what stands above the fraction is tested and the fraction is left
-- open, past it the one word is tested. Assumes nothing.
use mathlib.Core.Path.{◌≡◌, ap, ap₂, ◌∙◌}
use Prim.Native.Nat.{ℕ, ◌+◌, ◌-◌, ◌*◌, ◌%◌, ◌^◌, ◌≤◌, ◌<◌}
use native.Mathlib.Nat.{mul-le-mul_right, one-mul, lt_of_le_of_lt}
use native.Mathlib.Omega.{arith}
use lib.Pow.{pow_pos, shl_exact}
use Rattle.bits.proofs.Laws.{one_shl}
use Rattle.format.specs.declared.Format.{Format}
use Rattle.format.specs.Format.{Supported}
use Rattle.format.proofs.Room.{exponent_room}
use Rattle.mask.specs.Mask.{meets}
use Rattle.word.specs.Word.{signed}
use Rattle.word.specs.Parts.{SignedFits}
use Rattle.word.proofs.Bounds.{infinity_lt}
use Rattle.rounding.specs.declared.Direction.{Direction}
use Rattle.rounding.specs.Rounding.{overflow_word}
use Rattle.rounding.proofs.Rounded.{overflow_le}
use Rattle.outcome.proofs.Room.{exponents_lt}
use Rattle.outcome.proofs.Fields.{within_seeks, past_seeks}
use Rattle.outcome.proofs.sought.sought.Goals as goal

module _ (F : Format) (ok : Supported F) where
  ones : (1 * 2 ^ F.w) % 2 ^ 64 ≡ 2 ^ F.w
  ones = one_shl F.w (omega (arith, exponent_room F ok))

  placed : (s : ℕ) → s < 2 → s * 2 ^ F.w % 2 ^ 64 ≡ s * 2 ^ F.w
  placed s h = shl_exact 1 F.w 64 h (omega (arith, exponent_room F ok))

  short : (s : ℕ) → s < 2 → s * 2 ^ F.w ≤ 2 ^ 16
  short s h =
      let l = mul-le-mul_right {m = s} {n = 1} (2 ^ F.w) (omega arith) in
      omega (arith, one-mul (2 ^ F.w), exponents_lt F ok)

  within : (e : ℕ) → e < (1 * 2 ^ F.w) % 2 ^ 64 - 1 → e < 2 ^ F.w - 1
  within e h = rw ones at h

  past : (e : ℕ) → (1 * 2 ^ F.w) % 2 ^ 64 - 1 ≤ e → 2 ^ F.w - 1 ≤ e
  past e h = rw ones at h

pub overflow_sub-format : goal.overflow_sub-format
overflow_sub-format c = rw (ones c.args.format c.requires.0) (pow_pos c.args.format.w)

pub overflow_add-sign : goal.overflow_add-sign
overflow_add-sign c =
    let F = c.args.format in
    let e = c.if-exponent-format.true in
    record { fits = rw (placed F c.requires.0 c.args.sign c.requires.1) (omega (arith, ones F c.requires.0, short F c.requires.0 c.args.sign c.requires.1, exponents_lt F c.requires.0)) }

pub returns-then-exponent-format : goal.returns-then-exponent-format
returns-then-exponent-format c =
    let a = c.args in
    let F = a.format in
    rw c.then_some.ensures
    (within_seeks F a.direction a.sign a.exponent a.c (within F c.requires.0 a.exponent.0 c.if-exponent-format.true) c.meets-met.result c.low.result
    (c.meets-met.ensures ∙ ap₂ meets (ap (λ (n : ℕ). n + a.exponent.0) (placed F c.requires.0 a.sign c.requires.1)) c.high-above.ensures)
    c.low.ensures)

-- the word past the largest finite number
past_word : (F : Format) → Supported F → (d : Direction) (s : ℕ) → s < 2 → (m w : ℕ) → m ≡ overflow_word F d → (SignedFits F s m → w ≡ signed F s m) → w ≡ signed F s (overflow_word F d)
past_word F ok d s hs m w em ew =
    ew (record { supported = ok; sign_lt = hs; magnitude_lt = rw em (lt_of_le_of_lt (overflow_le F d) (infinity_lt F ok)) }) ∙ ap (signed F s) em

pub returns : goal.returns
returns c =
    let a = c.args in
    let F = a.format in
    let o = c.overflow_word in
    let w = c.signed in
    rw c.then_some-2.ensures
    (past_seeks F a.direction a.sign a.exponent a.c (past F c.requires.0 a.exponent.0 c.if-exponent-format.false) c.meets-met-2.result
    (c.meets-met-2.ensures
    ∙ ap (λ (n : ℕ). meets n a.c) (past_word F c.requires.0 a.direction a.sign c.requires.1 o.result w.result (o.ensures.0 c.requires.0) w.ensures.0)))
