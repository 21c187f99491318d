-- `lines::text::word_digits` meets its contract. Assumes nothing.
use mathlib.Core.Path.{◌≡◌, ap}
use Prim.Native.Nat.{ℕ, ◌*◌}
use native.Mathlib.Omega.{arith}
use Rattle.lines.specs.Text.{word_digits}
use Rattle.lines.proofs.Texts.{word_digits_most}
use Rattle.lines.proofs.text.word_digits.Goals as goal

pub overflow_mul-result : goal.overflow_mul-result
unfolding word_digits
overflow_mul-result c =
    let twice : 2 * c.word_bytes.result ≡ word_digits c.args.format = ap (λ (n : ℕ). 2 * n) c.word_bytes.ensures in
    omega (arith, twice, word_digits_most c.args.format)

pub returns : goal.returns
unfolding word_digits
returns c =
    let twice : 2 * c.word_bytes.result ≡ word_digits c.args.format = ap (λ (n : ℕ). 2 * n) c.word_bytes.ensures in
    (twice, omega (arith, twice, word_digits_most c.args.format))
