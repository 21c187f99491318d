-- The words of a case by their role, one definition for each use of "a, b, c" (document 01, "Masks and choice"). Assumes nothing.
use Rattle.std.specs.Prelude.{ℕ, None}
use Rattle.mask.specs.declared.Mask.{Mask}
use Rattle.job.specs.declared.Setting.{Setting}
use Rattle.job.specs.declared.Wanted.{Wanted}
use Rattle.job.specs.declared.Job.{Job}
use Rattle.job.specs.declared.Role.{Role}
use Rattle.job.specs.declared.Role.TheVariants.{A, B, C}
use Rattle.job.specs.Dropped.{free_dropped}

-- the word of a role in the case (a, b, c)
abbrev pub member : Role → ℕ → ℕ → ℕ → ℕ
member A a b c = a
member B a b c = b
member C a b c = c

-- what a job wants of it
abbrev pub wanted : Role → Job → Wanted
wanted A j = j.a
wanted B j = j.b
wanted C j = j.c

-- the job with that replaced
abbrev pub with_wanted : Role → Job → Wanted → Job
with_wanted A j w = record { setting = j.setting; a = w; b = j.b; c = j.c; carries = j.carries; dropped = j.dropped }
with_wanted B j w = record { setting = j.setting; a = j.a; b = w; c = j.c; carries = j.carries; dropped = j.dropped }
with_wanted C j w = record { setting = j.setting; a = j.a; b = j.b; c = w; carries = j.carries; dropped = j.dropped }

-- the same conditions with another mask
abbrev pub with_mask : Wanted → Mask → Wanted
with_mask w m = record { mask = m; bounds = w.bounds }

-- the job with another mask of that word
abbrev pub with_word_mask : Role → Job → Mask → Job
with_word_mask role j m = with_wanted role j (with_mask (wanted role j) m)

-- a word agrees with a mask, and nothing else is wanted of it
abbrev pub only_mask : Mask → Wanted
only_mask m = record { mask = m; bounds = None }

-- the job without its bounds
abbrev pub unbounded : Job → Job
unbounded j = record {
  setting = j.setting;
  a = only_mask j.a.mask;
  b = only_mask j.b.mask;
  c = only_mask j.c.mask;
  carries = j.carries;
  dropped = j.dropped;
}

-- the job that states four masks and nothing else
abbrev pub masked_job : Setting → Mask → Mask → Mask → Mask → Job
masked_job S a b c carries = record { setting = S; a = only_mask a; b = only_mask b; c = only_mask c; carries = carries; dropped = free_dropped }
