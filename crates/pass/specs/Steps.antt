-- What a pass over the exponent fields asks of each of them, and what its steps pass over. Nothing here is needed to read what it finds. Assumes
-- nothing.
-- Internal: no public contract cites this.
use Rattle.std.specs.Prelude.{false, ◌≡◌, ℕ, ◌+◌, ◌^◌, ◌≤◌, ◌<◌}
use Rattle.mask.specs.Mask.{Meets}
use Rattle.job.specs.declared.Job.{Job}
use Rattle.job.specs.Guards.{reach}
use Rattle.word.specs.declared.Biased.{Biased}
use Rattle.word.specs.Masks.{exponent_mask}
use Rattle.special.specs.Asked.{field_is, PairFits}
use Rattle.pair.specs.Signs.{signs_left}
use Rattle.classes.specs.Class.{InOrder}
use Rattle.classes.specs.Far.{FarBelow, LetsZero}
use Rattle.answers.specs.Kept.{ClassEnd, NoPartner}
use Rattle.pass.specs.declared.pairs.Pass.{Pass}
use Rattle.pass.specs.declared.span.Span.{Span}

-- no pair with an exponent field of a below n admits a case
abbrev pub NoneBelow : Job → Biased → Type 0
NoneBelow j n = (d e : Biased) → d.0 < n.0 → PairFits j d e → ⊥

-- c's mask lets through no exponent field from n on that is at most 2 above one below r
abbrev pub NoneNear : Job → Biased → Biased → Type 0
NoneNear j n r = (E d : ℕ) → E < r.0 → n.0 ≤ d → d ≤ E + 2 → d < 2 ^ j.setting.format.w → Meets d (exponent_mask j.setting.format j.c.mask) → ⊥

-- each field of a from n on and below r admits a case only with one of b that it is far below
abbrev pub OnlyFar : Job → Biased → Biased → Type 0
OnlyFar j n r = (d e : Biased) → n.0 ≤ d.0 → d.0 < r.0 → PairFits j d e → FarBelow j.setting.format (reach j) e d

-- no pair admits a case whose larger field is from n on and below r, and whose smaller one is 2 or more below it
abbrev pub NoSum : Job → Biased → Biased → Type 0
NoSum j n r = (o : ℕ) (E e : Biased) → n.0 ≤ E.0 → E.0 < r.0 → e.0 + 2 ≤ E.0 → InOrder (PairFits j) o E e → ⊥

-- what a pass over the exponent fields asks: the masks on them, a field from 1 on that meets a's mask, whether signs are
-- left for finite operands, whether c may be a zero, and one past the fields that the classes of pairs answer for
pub record PassOf (j : Job) (p : Pass) : Type 0 where
  pub a : p.a ≡ exponent_mask j.setting.format j.a.mask
  pub b : p.b ≡ exponent_mask j.setting.format j.b.mask
  pub c : p.c ≡ exponent_mask j.setting.format j.c.mask
  pub first_some : 1 ≤ p.first.0
  pub first_meets : p.first.0 < 2 ^ j.setting.format.w → Meets p.first.0 (exponent_mask j.setting.format j.a.mask)
  pub signs : p.signs ≡ signs_left j
  pub zero : p.zero ≡ false → LetsZero j → ⊥
  pub end : ClassEnd j p.end

-- b's exponent fields from `from` on and below `end` are fields of the format, and where there are such, e of a meets its mask
pub record SpanIn (j : Job) (e : Biased) (r : Span) : Type 0 where
  pub within : r.end.0 ≤ 2 ^ j.setting.format.w
  pub meets : r.from.0 < r.end.0 → Meets e.0 (exponent_mask j.setting.format j.a.mask)

-- no other one admits a case with e of a
pub record SpanOf (j : Job) (e : Biased) (r : Span) : Type 0 where
  pub low : NoPartner j e (field_is 0) r.from
  pub high : (d : Biased) → r.end.0 ≤ d.0 → PairFits j e d → ⊥
