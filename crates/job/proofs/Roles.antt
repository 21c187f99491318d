-- What a job says of the word of a role, once over the roles. Assumes nothing.
use mathlib.Core.Path.{◌≡◌, refl, ap}
use Rattle.mask.specs.declared.Mask.{Mask}
use Rattle.job.specs.declared.Wanted.{Wanted}
use Rattle.job.specs.declared.Job.{Job}
use Rattle.job.specs.declared.Role.{Role}
use Rattle.job.specs.declared.Role.TheVariants.{A, B, C}
use Rattle.job.specs.Job.{ValidWanted, Valid}
use Rattle.job.specs.Role.{wanted, with_wanted, with_mask, with_word_mask, only_mask, unbounded}

pub wanted_with : (role : Role) (j : Job) (w : Wanted) → wanted role (with_wanted role j w) ≡ w
wanted_with A j w = refl
wanted_with B j w = refl
wanted_with C j w = refl

setting_with : (role : Role) (j : Job) (w : Wanted) → (with_wanted role j w).setting ≡ j.setting
setting_with A j w = refl
setting_with B j w = refl
setting_with C j w = refl

-- the word's own mask, and one put in place of another
pub word_mask_own : (role : Role) (j : Job) → with_word_mask role j (wanted role j).mask ≡ j
word_mask_own A j = refl
word_mask_own B j = refl
word_mask_own C j = refl

pub word_mask_same : (role : Role) (j : Job) (m m' : Mask) → with_word_mask role (with_word_mask role j m) m' ≡ with_word_mask role j m'
word_mask_same A j m m' = refl
word_mask_same B j m m' = refl
word_mask_same C j m m' = refl

pub word_mask_wanted : (role : Role) (j : Job) (m : Mask) → (wanted role (with_word_mask role j m)).mask ≡ m
word_mask_wanted role j m = ap (λ (w : Wanted). w.mask) (wanted_with role j (with_mask (wanted role j) m))

pub word_mask_setting : (role : Role) (j : Job) (m : Mask) → (with_word_mask role j m).setting ≡ j.setting
word_mask_setting role j m = setting_with role j (with_mask (wanted role j) m)

-- a job whose word has another mask, without its bounds
pub unbounded_word_mask : (role : Role) (j : Job) (m : Mask) → unbounded (with_word_mask role j m) ≡ with_wanted role (unbounded j) (only_mask m)
unbounded_word_mask A j m = refl
unbounded_word_mask B j m = refl
unbounded_word_mask C j m = refl

pub valid_wanted : (role : Role) (j : Job) → Valid j → ValidWanted j.setting.format (wanted role j)
valid_wanted A j v = v.a
valid_wanted B j v = v.b
valid_wanted C j v = v.c

pub valid_with : (role : Role) (j : Job) (w : Wanted) → Valid j → ValidWanted j.setting.format w → Valid (with_wanted role j w)
valid_with A j w v h = record { setting = v.setting; a = h; b = v.b; c = v.c; carries = v.carries; dropped = v.dropped }
valid_with B j w v h = record { setting = v.setting; a = v.a; b = h; c = v.c; carries = v.carries; dropped = v.dropped }
valid_with C j w v h = record { setting = v.setting; a = v.a; b = v.b; c = h; carries = v.carries; dropped = v.dropped }
