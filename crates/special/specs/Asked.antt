-- What is asked of a pair of exponent fields: whether some case whose operands have them fits (document 01, "Masks and choice": "whether
-- a case is left is settled at the first pair of exponents that admits one"). Bounds play no part in it: of a job that states any, the job
-- without them is asked about. Assumes nothing.
use Rattle.std.specs.Prelude.{◌≡◌, ℕ, ◌^◌, ◌<◌}
use Rattle.format.specs.declared.Format.{Format}
use Rattle.format.specs.Format.{Supported}
use Rattle.job.specs.declared.Job.{Job}
use Rattle.word.specs.declared.Biased.{Biased}
use Rattle.word.specs.Word.{biased}
use Rattle.job.specs.Role.{unbounded}
use Rattle.fit.specs.Fit.{Fits}

-- a number as an exponent field
abbrev pub field_is : ℕ → Biased
field_is n = record { 0 = n }

-- two exponent fields of a supported format
pub record InRange (F : Format) (ea eb : Biased) : Type 0 where
  pub supported : Supported F
  pub a_lt : ea.0 < 2 ^ F.w
  pub b_lt : eb.0 < 2 ^ F.w

-- some case whose operands have the exponent fields ea and eb fits, where bounds are left out
pub record PairFits (j : Job) (ea eb : Biased) : Type 0 where
  pub a : ℕ
  pub b : ℕ
  pub c : ℕ
  pub fits : Fits (unbounded j) a b c
  pub a_exponent : biased j.setting.format a ≡ ea
  pub b_exponent : biased j.setting.format b ≡ eb
