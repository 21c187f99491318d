-- `left::first_left` meets its contract. Assumes nothing.
use Rattle.std.specs.Prelude.{None, is_err}
use Rattle.format.proofs.Laws.{not_err}
use mathlib.Core.Bool.{Bool, true, false, not, ◌||◌, true≢false}
use mathlib.Core.Path.{◌≡◌, refl, sym, ap, ◌∙◌}
use Prim.Native.Nat.{◌^◌, ◌≤◌}
use native.Mathlib.Omega.{arith}
use Rattle.job.specs.declared.Job.{Job}
use Rattle.job.proofs.Laws.{job_none}
use Rattle.word.proofs.Bounds.{exponents}
use Rattle.pass.specs.declared.Exponents.{Exponents}
use Rattle.pass.specs.First.{FirstPair}
use Rattle.left.specs.First.{FirstLeft}
use Rattle.left.proofs.Halves.{past_none}
use Rattle.left.proofs.Stepping.{unstated_fits}
use Rattle.left.proofs.first_left.Goals as goal

-- of three tests none holds
neither : (x y z : Bool) → not ((x || y) || z) ≡ true → (x ≡ false) × (y ≡ false) × (z ≡ false)
neither false false false e = (refl, refl, refl)
neither true y z e = absurd (true≢false (sym e))
neither false true z e = absurd (true≢false (sym e))
neither false false true e = absurd (true≢false (sym e))

-- past all pairs none is left
past_left : (j : Job) (r : Exponents) → FirstPair j r → 2 ^ j.setting.format.w ≤ r.a.0 → FirstLeft j r
past_left j r is past = record { first = λ l. is; left = λ l. absurd (omega (arith, l, past)); none = λ l p. past_none j r is l p }

-- where no bounds are stated the pair tells
unstated : (j : Job) → j.a.bounds ≡ None → j.b.bounds ≡ None → j.c.bounds ≡ None → (r : Exponents) → FirstPair j r → FirstLeft j r
unstated j ea eb ec r is = record {
  first = λ l. is;
  left = λ l. let p = is.admits l in record { a = p.a; b = p.b; c = p.c; fits = unstated_fits j ea eb ec p.a p.b p.c p.fits };
  none = λ l p. past_none j r is l p;
}

pub returns-then-not-states_bounds : goal.returns-then-not-states_bounds
returns-then-not-states_bounds c =
    let j = c.args.job in
    let none = neither c.states_bounds.result c.states_bounds-2.result c.states_bounds-3.result c.if-not-states_bounds.true-raw in
    λ v before. unstated j (c.states_bounds.ensures none.0) (c.states_bounds-2.ensures none.1) (c.states_bounds-3.ensures none.2) c.first_pair-first.result (c.first_pair-first.ensures v before)

pub returns-then-is_err : goal.returns-then-is_err
returns-then-is_err c =
    let j = c.args.job in
    λ v. absurd (true≢false (sym c.if-is_err.true ∙ c.is_err.ensures.value ∙ ap is_err (c.cause_with.ensures ∙ (job_none j).1 v)))

pub returns-then-past-first : goal.returns-then-past-first
returns-then-past-first c =
    let j = c.args.job in
    λ v before.
    let e = exponents j.setting.format v.setting.format c.power-past.ensures in
    past_left j c.first_pair-first.result (c.first_pair-first.ensures v before) (omega (arith, e, c.if-past-first.true))

pub some_left-requires : goal.some_left-requires
some_left-requires c =
    (job_none c.args.job).0 (sym c.cause_with.ensures ∙ not_err (sym c.is_err.ensures.value ∙ c.if-is_err.false))

pub returns-then-some_left : goal.returns-then-some_left
returns-then-some_left c =
    let j = c.args.job in
    λ v before.
    let is = c.first_pair-first.ensures v before in
    record {
      first = λ l. is;
      left = λ l. (c.some_left.ensures is.none).0 c.if-some_left.true;
      none = λ l p. past_none j c.first_pair-first.result is l p;
    }

pub returns : goal.returns
returns c =
    let j = c.args.job in
    λ v before.
    let e = exponents j.setting.format v.setting.format c.power-past.ensures in
    let is = c.first_pair-first.ensures v before in
    record {
      first = λ l. absurd (omega (arith, l, e));
      left = λ l. absurd (omega (arith, l, e));
      none = λ l q. true≢false (sym ((c.some_left.ensures is.none).1 q) ∙ c.if-some_left.false);
    }
