-- `rounding::round::roundable` meets its contract. Assumes nothing.
use mathlib.Core.Path.{◌∙◌}
use mathlib.Core.Bool.{◌&&◌, and-eq-true_iff, false≢true}
use native.Mathlib.Omega.{arith}
use borrow.Author.Tests.{ltb-true, lt-ltb}
use lib.Dec.{ltb}
use Rattle.bits.proofs.Laws.{power_exact}
use Rattle.format.proofs.Laws.{supported_of, unsupported_of}
use Rattle.format.proofs.Room.{significand_room}
use Rattle.word.proofs.Bounds.{exponents}
use Rattle.rounding.specs.Width.{guard_bits, sum_bits}
use Rattle.rounding.proofs.round.roundable.Goals as goal

pub returns-then-not-supported : goal.returns-then-not-supported
returns-then-not-supported c = (λ e. absurd (false≢true e), λ R. absurd (unsupported_of c.supported.ensures c.if-not-supported.true R.supported))

pub overflow_add-format : goal.overflow_add-format
overflow_add-format c =
    omega (arith, significand_room c.args.format (supported_of c.supported.ensures c.if-not-supported.false))

pub returns : goal.returns
returns c =
    let F = c.args.format in
    let ok = supported_of c.supported.ensures c.if-not-supported.false in
    let p = c.power.result in
    let q = c.power-2.result in
    let ep = exponents F ok c.power.ensures in
    let eq = c.power-2.ensures ∙ power_exact (sum_bits guard_bits F.f) (omega (arith, significand_room F ok)) in
    let t = ltb c.args.sign 2 && ltb c.args.u.0 p in (
      λ e.
          let outer = (and-eq-true_iff t (ltb c.args.x q)).0 e in
          let inner = (and-eq-true_iff (ltb c.args.sign 2) (ltb c.args.u.0 p)).0 outer.0 in
          record {
            supported = ok;
            sign_lt = ltb-true c.args.sign 2 inner.0;
            unit_lt = rw ep at (ltb-true c.args.u.0 p inner.1);
            held_lt = rw eq at (ltb-true c.args.x q outer.1);
          },
      λ R.
          (and-eq-true_iff t (ltb c.args.x q)).1 (
            (and-eq-true_iff (ltb c.args.sign 2) (ltb c.args.u.0 p)).1
                (lt-ltb c.args.sign 2 R.sign_lt, lt-ltb c.args.u.0 p (rw ep R.unit_lt)),
            lt-ltb c.args.x q (rw eq R.held_lt),
          ),
    )
