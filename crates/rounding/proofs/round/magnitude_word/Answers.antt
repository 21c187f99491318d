-- `rounding::round::magnitude_word` meets its contract: x tells how many bits are dropped, and rounds as the magnitude does (proofs/Held). Assumes nothing.
use mathlib.Core.Path.{◌≡◌, ap, ap₂, ◌∙◌}
use Prim.Native.Nat.{ℕ, ◌+◌, ◌-◌, ◌*◌, ◌%◌, ◌^◌, ◌≤◌, ◌<◌}
use native.Mathlib.Nat.{lt_of_lt_of_le, mul-le-mul_right, add-mul, one-mul}
use native.Mathlib.Omega.{arith}
use lib.Ieee.{size}
use lib.Ieee.Digits.{size-lt, size-le}
use lib.Pow.{pow_mono, pow-add, shl_lt}
use Rattle.format.specs.declared.Format.{Format}
use Rattle.format.specs.Format.{Supported}
use Rattle.rounding.specs.Rounding.{dropped, magnitude_word}
use Rattle.rounding.specs.Sticky.{kept_part}
use Rattle.rounding.specs.Width.{guard_bits, aligned_bits, sum_bits}
use Rattle.format.proofs.Room.{significand_room}
use Rattle.word.proofs.Bounds.{place_power, exponent_place}
use Rattle.rounding.proofs.Held.{adder_guards, held_size, held_part}
use Rattle.rounding.proofs.round.magnitude_word.Goals as goal

module _ (F : Format) (ok : Supported F) (x u k : ℕ) (hu : u < 2 ^ F.w) (hx : x < 2 ^ sum_bits guard_bits F.f) (hk : k ≡ size x + u - aligned_bits guard_bits F.f) where
  digits : size x ≤ sum_bits guard_bits F.f
  digits = size-le x (sum_bits guard_bits F.f) hx

  -- the exponent part of the word
  upper : (p : ℕ) → p ≡ 2 ^ F.f % 2 ^ 64 → k * p ≤ 2 ^ 63 + 2 ^ 62
  upper p e =
      let h : k ≤ 2 ^ F.w + 1 = omega (arith, digits) in
      let m = mul-le-mul_right {m = k} {n = 2 ^ F.w + 1} (2 ^ F.f) h in
      let a = add-mul (2 ^ F.w) 1 (2 ^ F.f) in
      let q = pow-add 2 F.w F.f in
      let f = pow_mono {i = F.f} {j = 62} (omega (arith, significand_room F ok)) in
      rw (exponent_place F ok e) (omega (arith, place_power F ok, one-mul (2 ^ F.f)))

  -- the shifted x
  shifted : x * 2 ^ (u - k) < 2 ^ 61
  shifted =
      lt_of_lt_of_le (shl_lt (size x) (u - k) (size-lt x)) (pow_mono {i = size x + (u - k)} {j = 61} (omega (arith, digits, significand_room F ok)))

pub overflow_mul-result : goal.overflow_mul-result
overflow_mul-result c =
    let a = c.args in
    omega (arith, upper a.format c.requires.0 a.x a.u.0 c.dropped-k.result c.requires.1 c.requires.2 c.dropped-k.ensures c.power.result c.power.ensures)

pub kept_part-requires : goal.kept_part-requires
kept_part-requires c =
    let a = c.args in
    let room = significand_room a.format c.requires.0 in
    let b = pow_mono {i = sum_bits guard_bits a.format.f} {j = 61} (omega arith) in
    (omega (arith, b, c.requires.2), omega (arith, c.dropped-k.ensures), shifted a.format c.requires.0 a.x a.u.0 c.dropped-k.result c.requires.1 c.requires.2 c.dropped-k.ensures)

pub overflow_add-result : goal.overflow_add-result
overflow_add-result c =
    let a = c.args in
    omega (arith, upper a.format c.requires.0 a.x a.u.0 c.dropped-k.result c.requires.1 c.requires.2 c.dropped-k.ensures c.power.result c.power.ensures, c.kept_part.ensures.1)

pub returns : goal.returns
unfolding magnitude_word
returns c = λ X pos held.
    let F = c.args.format in
    let d = c.args.direction in
    let u = c.args.u.0 in
    let k : c.dropped-k.result ≡ dropped F X = omega (arith, c.dropped-k.ensures, held_size F guard_bits 1 X c.args.x u adder_guards pos held) in
    ap₂ ◌+◌ (ap₂ ◌*◌ k (exponent_place F c.requires.0 c.power.ensures))
    (c.kept_part.ensures.0 ∙ ap (kept_part guard_bits d c.args.x u) k ∙ held_part F guard_bits 1 X c.args.x u adder_guards pos held d c.requires.2)
