-- How many bits below the last one a question about a job tells apart (document 02, W-206). No definition of the promise cites this file.
-- Assumes nothing.
use Rattle.std.specs.Prelude.{cond, ◌&&◌, ℕ, ◌+◌, ◌-◌, max, leb}
use Rattle.format.specs.Limits.{most_fraction_bits, most_dropped}
use Rattle.job.specs.declared.Dropped.{Dropped}
use Rattle.job.specs.declared.Job.{Job}
use Rattle.job.specs.Dropped.{normalised}

-- g, and one where none of the dropped bits is fixed or g is 0
unfoldable pub guards_of : Dropped → ℕ
guards_of D = max 1 (normalised D).g

-- the fraction bits and these, but for the first: f where one bit is told apart
abbrev pub reach_of : Job → ℕ
reach_of j = j.setting.format.f + guards_of j.dropped - 1

-- the same where neither f nor the number of these bits is above its limit, else 0
unfoldable pub reach : Job → ℕ
reach j = cond (leb j.setting.format.f most_fraction_bits && leb (guards_of j.dropped) most_dropped) (reach_of j) 0
