-- `word::pack::signed` meets its contract. Assumes nothing.
use Rattle.std.proofs.Common.{◌≡◌, ℕ, ◌+◌, ◌*◌, ◌%◌, ◌^◌, ◌<◌, refl, ap, arith}
use Rattle.format.specs.declared.Format.{Format}
use Rattle.format.specs.Format.{Supported}
use Rattle.format.proofs.Laws.{supported_of, unsupported_of}
use Rattle.word.specs.Word.{signed}
use Rattle.word.proofs.Bounds.{place_bits, word_fits, sign_place}
use Rattle.word.proofs.Fields.{signed_lt}
use Rattle.word.proofs.pack.signed.Goals as goal

-- a sign bit and the word of a magnitude, with the power p that the code takes for the sign's place
module _ (F : Format) (ok : Supported F) (s m p : ℕ) (hp : p ≡ 2 ^ (F.w + F.f) % 2 ^ 64) where
  same : s * p + m ≡ signed F s m
  same = ap (λ (n : ℕ). s * n + m) (sign_place F ok hp)

  fits : s < 2 → m < p → s * p + m < 2 ^ 64
  fits hs hm = rw same (word_fits F ok (signed_lt F s m hs (omega (arith, sign_place F ok hp))))

pub returns-then-not-supported : goal.returns-then-not-supported
returns-then-not-supported c = (λ h. absurd (unsupported_of c.supported.ensures c.if-not-supported.true h.supported), λ _. refl)

pub returns-then-sign-ge2 : goal.returns-then-sign-ge2
returns-then-sign-ge2 c = (λ h. absurd (omega (arith, h.sign_lt, c.if-sign-ge2.true)), λ _. refl)

pub overflow_add-format : goal.overflow_add-format
overflow_add-format c =
    omega (arith, place_bits c.args.format (supported_of c.supported.ensures c.if-not-supported.false))

pub returns-then-place-magnitude : goal.returns-then-place-magnitude
returns-then-place-magnitude c =
    let F = c.args.format in
    (λ h. absurd (omega (arith, h.magnitude_lt, sign_place F h.supported c.power-place.ensures, c.if-place-magnitude.true)), λ _. refl)

pub overflow_mul-result : goal.overflow_mul-result
overflow_mul-result c =
    let ok = supported_of c.supported.ensures c.if-not-supported.false in
    omega (arith, fits c.args.format ok c.args.sign c.args.magnitude c.power-place.result c.power-place.ensures (omega (arith, c.if-sign-ge2.false)) (omega (arith, c.if-place-magnitude.false)))

pub overflow_add-result : goal.overflow_add-result
overflow_add-result c =
    let ok = supported_of c.supported.ensures c.if-not-supported.false in
    omega (arith, fits c.args.format ok c.args.sign c.args.magnitude c.power-place.result c.power-place.ensures (omega (arith, c.if-sign-ge2.false)) (omega (arith, c.if-place-magnitude.false)))

pub returns : goal.returns
returns c =
    let F = c.args.format in
    let ok = supported_of c.supported.ensures c.if-not-supported.false in
    let below : c.args.magnitude < 2 ^ (F.w + F.f) = omega (arith, sign_place F ok c.power-place.ensures, c.if-place-magnitude.false) in (
      λ _. same F ok c.args.sign c.args.magnitude c.power-place.result c.power-place.ensures,
      λ no. absurd (no (record { supported = ok; sign_lt = omega (arith, c.if-sign-ge2.false); magnitude_lt = below })),
    )
