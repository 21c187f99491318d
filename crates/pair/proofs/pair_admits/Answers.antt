-- `pair::pair_admits` meets its contract: fields that are not finite are special or none. Assumes nothing.
use mathlib.Core.Bool.{false≢true}
use mathlib.Core.Logic.{inl, inr}
use mathlib.Core.Path.{◌≡◌, sym, ◌∙◌}
use native.Mathlib.Decide.{ℕ_discrete}
use native.Mathlib.Omega.{arith}
use Rattle.job.specs.declared.Job.{Job}
use Rattle.job.specs.Job.{Valid}
use Rattle.word.specs.declared.Biased.{Biased}
use Rattle.word.specs.Word.{all_ones}
use Rattle.special.specs.Asked.{PairFits}
use Rattle.special.specs.Special.{Special}
use Rattle.special.proofs.Laws.{fields_in_range}
use Rattle.pair.specs.Pair.{FinitePair}
use Rattle.pair.proofs.pair_admits.Goals as goal

-- the fields of a case that are not both finite
special_fields : (j : Job) → Valid j → (ea eb : Biased) → PairFits j ea eb → (FinitePair j.setting.format ea eb → ⊥) → Special j.setting.format ea eb
special_fields j valid ea eb P none = go (ℕ_discrete ea.0 (all_ones j.setting.format)) (ℕ_discrete eb.0 (all_ones j.setting.format))
  where
    go : Dec (ea.0 ≡ all_ones j.setting.format) → Dec (eb.0 ≡ all_ones j.setting.format) → Special j.setting.format ea eb
    go (yes e) d = inl e
    go (no n) (yes e) = inr e
    go (no m) (no n) =
        let r = fields_in_range j valid ea eb P in
        absurd (none (record { supported = valid.setting.format; a_finite = omega (arith, r.a_lt, m); b_finite = omega (arith, r.b_lt, n) }))

pub finite_pair-requires : goal.finite_pair-requires
finite_pair-requires c = c.finite_fields.ensures.0 c.if-finite_fields.true

pub returns-then-finite_fields : goal.returns-then-finite_fields
returns-then-finite_fields c =
    let fin = finite_pair-requires c.before in record {
      in_range = (λ e. record { supported = fin.supported; a_lt = omega (arith, fin.a_finite); b_lt = omega (arith, fin.b_finite) });
      exact = λ valid. c.finite_pair.ensures valid;
    }

pub returns : goal.returns
returns c =
    let a = c.args in
    let no = c.if-finite_fields.false in
    let r = c.special_admits in record {
      in_range = (λ e. (r.ensures.special e).0);
      exact = λ valid. (
        (λ e. (r.ensures.exact valid (r.ensures.special e).1).0 e),
        λ P. (r.ensures.exact valid (special_fields a.job valid a.ea a.eb P (λ fin. false≢true (sym no ∙ c.finite_fields.ensures.1 fin)))).1 P,
      );
    }
