-- The operands of a case have exponent fields below 2^w, and these meet the masks on them. Assumes nothing.
use mathlib.Core.Path.{◌≡◌, subst}
use Prim.Native.Nat.{ℕ, ◌+◌, ◌^◌, ◌<◌}
use native.Mathlib.Omega.{arith}
use Rattle.format.specs.declared.Format.{Format}
use Rattle.format.specs.Format.{word_bits}
use Rattle.mask.specs.declared.Mask.{Mask}
use Rattle.mask.specs.Mask.{WellFormed, Meets, high}
use Rattle.mask.proofs.ByParts.{low_formed, high_formed, meets_fields}
use Rattle.job.specs.declared.Job.{Job}
use Rattle.job.specs.Job.{Valid}
use Rattle.word.specs.declared.Biased.{Biased}
use Rattle.word.specs.Word.{biased}
use Rattle.word.proofs.Fields.{biased_lt}
use Rattle.special.specs.Asked.{InRange, PairFits}
use Rattle.classes.specs.Class.{Asked}
use Rattle.word.specs.Masks.{exponent_mask}

-- the exponent field of a word that meets a mask meets the mask on it
exponent_meets : (F : Format) (m : Mask) (x : ℕ) (e : Biased) → WellFormed (word_bits F) m → Meets x m → biased F x ≡ e → Meets e.0 (exponent_mask F m)
exponent_meets F m x e h met is = subst (λ (u : Biased). Meets u.0 (exponent_mask F m)) is ((meets_fields F.w F.f m h x).0 met).1

-- the mask on an exponent field is well formed
pub field_formed : (F : Format) (m : Mask) → WellFormed (word_bits F) m → WellFormed F.w (exponent_mask F m)
field_formed F m h = low_formed F.w (high F.f m) (high_formed (F.w + 1) F.f m (subst (λ (n : ℕ). WellFormed n m) (omega arith) h)).inside

-- the fields of a pair that admits a case are fields of the format
pub pair_range : (j : Job) (ea eb : Biased) → Valid j → PairFits j ea eb → InRange j.setting.format ea eb
pair_range j ea eb v p = record {
  supported = v.setting.format;
  a_lt = subst (λ (u : Biased). u.0 < 2 ^ j.setting.format.w) p.a_exponent (biased_lt j.setting.format p.a);
  b_lt = subst (λ (u : Biased). u.0 < 2 ^ j.setting.format.w) p.b_exponent (biased_lt j.setting.format p.b);
}

-- and it may be asked
pub pair_asked : (j : Job) (ea eb : Biased) → Valid j → PairFits j ea eb → Asked j ea eb
pair_asked j ea eb v p = record {
  valid = v;
  a_exponent = exponent_meets j.setting.format j.a.mask p.a ea v.a.mask p.fits.satisfies.a_allowed.mask p.a_exponent;
  b_exponent = exponent_meets j.setting.format j.b.mask p.b eb v.b.mask p.fits.satisfies.b_allowed.mask p.b_exponent;
}
