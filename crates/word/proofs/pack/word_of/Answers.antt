-- `word::pack::word_of` meets its contract. Assumes nothing.
use Rattle.std.proofs.Common.{◌≡◌, ℕ, ◌+◌, ◌*◌, ◌%◌, ◌^◌, ◌<◌, refl, ap, ◌∙◌, arith}
use Rattle.format.specs.declared.Format.{Format}
use Rattle.format.specs.Format.{Supported}
use Rattle.format.proofs.Laws.{supported_of, unsupported_of}
use Rattle.word.specs.Word.{signed}
use Rattle.word.proofs.Bounds.{place_power, exponents, exponent_place}
use Rattle.word.proofs.Fields.{together_lt}
use Rattle.word.proofs.pack.word_of.Goals as goal

-- an exponent field and a fraction, with the powers that the code takes for their widths
module _ (F : Format) (ok : Supported F) (e t p q : ℕ) (hp : p ≡ 2 ^ F.w % 2 ^ 64) (hq : q ≡ 2 ^ F.f % 2 ^ 64) (he : e < p) (ht : t < q) where
  exponent_lt : e < 2 ^ F.w
  exponent_lt = rw (exponents F ok hp) at he

  fraction_lt : t < 2 ^ F.f
  fraction_lt = rw (exponent_place F ok hq) at ht

  same : e * q + t ≡ e * 2 ^ F.f + t
  same = ap (λ (n : ℕ). e * n + t) (exponent_place F ok hq)

  below : e * q + t < 2 ^ (F.w + F.f)
  below = rw same (together_lt F e t exponent_lt fraction_lt)

  fits : e * q + t < 2 ^ 64
  fits = omega (arith, below, place_power F ok)

pub returns-then-not-supported : goal.returns-then-not-supported
returns-then-not-supported c = (λ h. absurd (unsupported_of c.supported.ensures c.if-not-supported.true h.supported), λ _. refl)

pub returns-then-power-e : goal.returns-then-power-e
returns-then-power-e c =
    let F = c.args.format in
    (λ h. absurd (omega (arith, h.exponent_lt, exponents F h.supported c.power.ensures, c.if-power-e.true)), λ _. refl)

pub returns-then-place-t : goal.returns-then-place-t
returns-then-place-t c =
    let F = c.args.format in
    (λ h. absurd (omega (arith, h.fraction_lt, exponent_place F h.supported c.power-place.ensures, c.if-place-t.true)), λ _. refl)

pub overflow_mul-e : goal.overflow_mul-e
overflow_mul-e c =
    let ok = supported_of c.supported.ensures c.if-not-supported.false in
    let p = c.power in
    let q = c.power-place in
    omega (arith, fits c.args.format ok c.args.e c.args.t p.result q.result p.ensures q.ensures (omega (arith, c.if-power-e.false)) (omega (arith, c.if-place-t.false)))

pub overflow_add-e : goal.overflow_add-e
overflow_add-e c =
    let ok = supported_of c.supported.ensures c.if-not-supported.false in
    let p = c.power in
    let q = c.power-place in
    omega (arith, fits c.args.format ok c.args.e c.args.t p.result q.result p.ensures q.ensures (omega (arith, c.if-power-e.false)) (omega (arith, c.if-place-t.false)))

pub returns : goal.returns
returns c =
    let F = c.args.format in
    let g = c.args.sign in
    let e = c.args.e in
    let t = c.args.t in
    let ok = supported_of c.supported.ensures c.if-not-supported.false in
    let p = c.power in
    let q = c.power-place in
    let he : e < p.result = omega (arith, c.if-power-e.false) in
    let ht : t < q.result = omega (arith, c.if-place-t.false) in
    let m = below F ok e t p.result q.result p.ensures q.ensures he ht in (
      λ h. c.signed.ensures.0 (record { supported = ok; sign_lt = h.sign_lt; magnitude_lt = m })
          ∙ ap (signed F g) (same F ok e t p.result q.result p.ensures q.ensures he ht),
      λ no. c.signed.ensures.1 (λ h. no (record {
        supported = ok;
        sign_lt = h.sign_lt;
        exponent_lt = exponent_lt F ok e t p.result q.result p.ensures q.ensures he ht;
        fraction_lt = fraction_lt F ok e t p.result q.result p.ensures q.ensures he ht;
      })),
    )
