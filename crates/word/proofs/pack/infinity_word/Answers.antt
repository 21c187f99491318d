-- `word::pack::infinity_word` meets its contract. Assumes nothing.
use Rattle.std.proofs.Common.{◌≡◌, ℕ, ◌-◌, ◌*◌, ◌%◌, ◌^◌, refl, ap₂, lt_trans, arith, pow_pos}
use Rattle.format.specs.declared.Format.{Format}
use Rattle.format.specs.Format.{Supported}
use Rattle.format.proofs.Laws.{supported_of, unsupported_of}
use Rattle.word.specs.Word.{infinity_word}
use Rattle.word.proofs.Bounds.{place_power, exponents, exponent_place, infinity_lt}
use Rattle.word.proofs.pack.infinity_word.Goals as goal

-- the two powers are the format's
same : (F : Format) → Supported F → {p q : ℕ} → p ≡ 2 ^ F.w % 2 ^ 64 → q ≡ 2 ^ F.f % 2 ^ 64 → (p - 1) * q ≡ infinity_word F
same F ok ep eq = ap₂ (λ (m n : ℕ). (m - 1) * n) (exponents F ok ep) (exponent_place F ok eq)

pub returns-then-not-supported : goal.returns-then-not-supported
returns-then-not-supported c = (λ ok. absurd (unsupported_of c.supported.ensures c.if-not-supported.true ok), λ _. refl)

pub overflow_sub-result : goal.overflow_sub-result
overflow_sub-result c =
    let F = c.args.format in
    let ok = supported_of c.supported.ensures c.if-not-supported.false in
    rw (exponents F ok c.power.ensures) (pow_pos F.w)

pub overflow_mul-result : goal.overflow_mul-result
overflow_mul-result c =
    let F = c.args.format in
    let ok = supported_of c.supported.ensures c.if-not-supported.false in
    record { fits = rw (same F ok c.power.ensures c.power-2.ensures) (lt_trans (infinity_lt F ok) (omega (arith, place_power F ok))) }

pub returns : goal.returns
returns c =
    let F = c.args.format in
    let ok = supported_of c.supported.ensures c.if-not-supported.false in
    (λ _. same F ok c.power.ensures c.power-2.ensures, λ no. absurd (no ok))
