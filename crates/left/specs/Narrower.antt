-- Jobs whose masks fix more, and the step by which such a job is settled: each mask stands inside its bounds, one stands outside, or a free
-- bit of one is tried both ways. Assumes nothing.
-- Internal: no public contract cites this.
use Rattle.std.specs.Prelude.{cond, ◌≡◌, ℕ, ◌+◌, ◌-◌, ◌^◌, ◌≤◌, ◌<◌, ltb}
use Rattle.bits.specs.Bit.{bit}
use Rattle.format.specs.Format.{word_bits}
use Rattle.job.specs.declared.Job.{Job}
use Rattle.job.specs.declared.Role.{Role}
use Rattle.job.specs.declared.Role.TheVariants.{A, B, C}
use Rattle.job.specs.Job.{Valid}
use Rattle.job.specs.Role.{member, wanted, unbounded}
use Rattle.fit.specs.Fit.{Fits}
use Rattle.narrowing.specs.declared.Standing as relation
use Rattle.narrowing.specs.declared.Standing.TheVariants.{Inside, Outside, Across}
use Rattle.narrowing.specs.Narrowing.{Stands}
use Rattle.left.specs.declared.halving.Step as step
use Rattle.left.specs.declared.halving.Step.TheVariants.{Settled, Nothing, Split}
use Rattle.left.specs.Left.{Left}

-- ---- narrower jobs

-- it falls where a bit more is fixed
abbrev pub openness : Job → ℕ
openness j = (2 ^ 64 - j.a.mask.care) + ((2 ^ 64 - j.b.mask.care) + (2 ^ 64 - j.c.mask.care))

-- t is valid and fixes no less than j: its cases are cases of j, with bounds and without
pub record Narrower (j t : Job) : Type 0 where
  pub setting : t.setting ≡ j.setting
  pub valid : Valid t
  pub back : (a b c : ℕ) → Fits t a b c → Fits j a b c
  pub relaxed : (a b c : ℕ) → Fits (unbounded t) a b c → Fits (unbounded j) a b c
  pub opens : openness t ≤ openness j

-- each case of j is one of t
abbrev pub Keeps : Job → Job → Type 0
Keeps j t = (a b c : ℕ) → Fits j a b c → Fits t a b c

-- those whose word has the bit v at k are
abbrev pub KeepsHalf : Job → Role → ℕ → ℕ → Job → Type 0
KeepsHalf j role k v t = (a b c : ℕ) → Fits j a b c → bit (member role a b c) k ≡ v → Fits t a b c

-- ---- the next step

-- the step so far, and the standing of one word more: nothing is left where one stands outside, and of the bits to be tried the highest is
abbrev pub higher : step.Step → Role → ℕ → ℕ → step.Step
higher Settled role k v = Split role k v
higher Nothing role k v = Nothing
higher (Split r j u) role k v = cond (ltb j k) (Split role k v) (Split r j u)

abbrev pub further : step.Step → Role → relation.Standing → step.Step
further s role Inside = s
further s role Outside = Nothing
further s role (Across k v) = higher s role k v

-- the order in which the words are looked at
abbrev pub turn : Role → ℕ
turn A = 0
turn B = 1
turn C = 2

-- bit k of the word is free, and v is a bit
abbrev pub Open : Job → Role → ℕ → ℕ → Type 0
Open j role k v = (k < word_bits j.setting.format) × (bit (wanted role j).mask.care k ≡ 0) × (v < 2)

-- what a step says of a job, of whose words those before the n-th are looked at
abbrev pub StepOf : ℕ → Job → step.Step → Type 0
StepOf n j Settled = (role : Role) → turn role < n → Stands j.setting.format (wanted role j) Inside
StepOf n j Nothing = Left j → ⊥
StepOf n j (Split role k v) = Open j role k v
