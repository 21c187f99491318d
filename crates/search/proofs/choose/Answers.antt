-- `search::choose` meets its contract: its two walks end at the chosen pair, by `walks_choose`. Assumes nothing.
use mathlib.Core.Path.{refl, sym, ap, subst}
use Prim.Native.Nat.{◌^◌, ◌<◌}
use native.Mathlib.Omega.{arith}
use Rattle.format.specs.Format.{Supported, word_bits}
use Rattle.format.proofs.Laws.{supported_of, unsupported_of}
use Rattle.format.proofs.Room.{word_room}
use Rattle.job.specs.declared.Role.TheVariants.{A, B}
use Rattle.job.specs.declared.Setting.{Setting}
use Rattle.word.proofs.Bounds.{exponents}
use Rattle.left.specs.Left.{Ready}
use Rattle.search.proofs.Choosing.{all_open, none_first, walks_choose}
use Rattle.search.proofs.choose.Goals as goal

pub returns-then-not-supported : goal.returns-then-not-supported
returns-then-not-supported c = record {
  unsupported = λ n. refl;
  chosen = λ valid. absurd (unsupported_of c.supported.ensures c.if-not-supported.true valid.setting.format);
}

pub overflow_add-width : goal.overflow_add-width
overflow_add-width c = let ok = supported_of c.supported.ensures c.if-not-supported.false in record { fits = omega (arith, word_room c.args.job.setting.format ok) }

pub overflow_add-width-then-first-power : goal.overflow_add-width-then-first-power
overflow_add-width-then-first-power c = let ok = supported_of c.supported.ensures c.if-not-supported.false in record { fits = omega (arith, word_room c.args.job.setting.format ok) }

pub follow-with_a-requires : goal.follow-with_a-requires
follow-with_a-requires c = supported_of c.supported.ensures c.if-not-supported.false

pub follow-with_b-requires : goal.follow-with_b-requires
follow-with_b-requires c = subst (λ (S : Setting). Supported S.format) (sym c.follow-with_a.ensures.0) (supported_of c.supported.ensures c.if-not-supported.false)

pub returns-then-first-power : goal.returns-then-first-power
returns-then-first-power c =
    let ok = supported_of c.supported.ensures c.if-not-supported.false in
    let a = c.args in
    let one = c.follow-with_a in record {
      unsupported = λ n. absurd (n ok);
      chosen = λ valid.
          let is = exponents a.job.setting.format ok c.power.ensures in
          let first = c.first_left-first.ensures valid (none_first a.job) in
          let within : c.first_left-first.result.a.0 < 2 ^ a.job.setting.format.w = omega (arith, is, c.if-first-power.true) in
          let ready : Ready a.job = record { valid = valid; left = first.left within } in
          let none = (first.first within).none in
          let with_a = one.ensures.1 (record { top = all_open a.job A (word_bits a.job.setting.format) ready refl; none = none }) in
          let with_b = c.follow-with_b.ensures.1 (record {
            top = all_open one.result B (word_bits a.job.setting.format) with_a.ready (ap (λ (S : Setting). word_bits S.format) (sym one.ensures.0));
            none = with_a.none c.first_left-first.result none;
          }) in
          (ready, walks_choose a.job a.r1 a.r2 one.result c.follow-with_b.result with_a with_b);
    }

pub returns : goal.returns
returns c =
    let ok = supported_of c.supported.ensures c.if-not-supported.false in
    let job = c.args.job in record {
      unsupported = λ n. refl;
      chosen = λ valid ready. (c.first_left-first.ensures valid (none_first job)).none (omega (arith, exponents job.setting.format ok c.power.ensures, c.if-first-power.false)) ready.left;
    }
