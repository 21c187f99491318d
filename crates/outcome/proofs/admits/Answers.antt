-- `outcome::admits` meets its contract: what is in a format passes the checks. Assumes nothing.
use mathlib.Core.Path.{◌≡◌, sym, ◌∙◌}
use mathlib.Core.Bool.{false≢true}
use Prim.Native.Nat.{ℕ, ◌%◌, ◌^◌}
use native.Mathlib.Omega.{arith}
use Rattle.bits.proofs.Laws.{power_exact}
use Rattle.format.specs.declared.Format.{Format}
use Rattle.format.specs.Format.{Supported}
use Rattle.format.proofs.Laws.{supported_of, unsupported_of}
use Rattle.format.proofs.Room.{exponent_room}
use borrow.Author.Tests.{not-true, not-false}
use Rattle.outcome.proofs.admits.Goals as goal

-- 2^w is what the code forms
power : (F : Format) → Supported F → (p : ℕ) → p ≡ 2 ^ F.w % 2 ^ 64 → p ≡ 2 ^ F.w
power F ok p e = e ∙ power_exact F.w (omega (arith, exponent_room F ok))

pub returns-then-not-supported : goal.returns-then-not-supported
returns-then-not-supported c =
    let F = c.args.format in record {
      in_format = (λ t. absurd (false≢true t));
      exact = λ given. absurd (unsupported_of c.supported.ensures c.if-not-supported.true given.supported);
    }

pub returns-then-sign-gt1 : goal.returns-then-sign-gt1
returns-then-sign-gt1 c = record {
  in_format = (λ t. absurd (false≢true t));
  exact = λ given. absurd (omega (arith, c.if-sign-gt1.true, given.sign_lt));
}

pub returns-then-power-unit : goal.returns-then-power-unit
returns-then-power-unit c =
    let F = c.args.format in
    let p = c.power in record {
      in_format = (λ t. absurd (false≢true t));
      exact = λ given. absurd (omega (arith, c.if-power-unit.true, power F given.supported p.result p.ensures, given.unit_lt));
    }

pub returns-then-target-gt-MOST_DROPPED : goal.returns-then-target-gt-MOST_DROPPED
returns-then-target-gt-MOST_DROPPED c = record {
  in_format = (λ t. absurd (false≢true t));
  exact = λ given formed valid. absurd (omega (arith, c.if-target-gt-MOST_DROPPED.true, valid.g_most));
}

pub returns-then-not-roomy : goal.returns-then-not-roomy
returns-then-not-roomy c = record {
  in_format = (λ t. absurd (false≢true t));
  exact = λ given formed valid. absurd (false≢true (sym (not-true c.roomy.result c.if-not-roomy.true-raw) ∙ c.roomy.ensures.1 formed.room));
}

-- what has passed the checks
pub some_count-requires : goal.some_count-requires
some_count-requires c =
    let F = c.args.format in
    let p = c.power in
    let ok = supported_of c.supported.ensures c.if-not-supported.false in (
      record {
        supported = ok;
        sign_lt = omega (arith, c.if-sign-gt1.false);
        unit_lt = omega (arith, c.if-power-unit.false, power F ok p.result p.ensures);
      },
      c.roomy.ensures.0 (not-false c.roomy.result c.if-not-roomy.false-raw),
      omega (arith, c.if-target-gt-MOST_DROPPED.false),
    )

pub returns : goal.returns
returns c = record {
  in_format = (λ t. let passed = some_count-requires c.before in (passed.0, passed.1));
  exact = λ given formed valid. c.some_count.ensures formed valid;
}
