-- What a fitting case says of the word of a role, and what becomes of it where something else is wanted of that word; once over the roles.
-- Assumes nothing.
use Prim.Native.Nat.{ℕ, ◌^◌, ◌<◌}
use Rattle.format.specs.Format.{word_bits}
use Rattle.job.specs.declared.Wanted.{Wanted}
use Rattle.job.specs.declared.Job.{Job}
use Rattle.job.specs.declared.Role.{Role}
use Rattle.job.specs.declared.Role.TheVariants.{A, B, C}
use Rattle.job.specs.Role.{member, wanted, with_wanted}
use Rattle.fit.specs.Fit.{Allowed, Fits}

module _ (j : Job) (a b c : ℕ) where
  pub member_lt : (role : Role) → Fits j a b c → member role a b c < 2 ^ word_bits j.setting.format
  member_lt A f = f.right.a_word
  member_lt B f = f.right.b_word
  member_lt C f = f.right.c_word

  pub fits_allowed : (role : Role) → Fits j a b c → Allowed j.setting.format (member role a b c) (wanted role j)
  fits_allowed A f = f.satisfies.a_allowed
  fits_allowed B f = f.satisfies.b_allowed
  fits_allowed C f = f.satisfies.c_allowed

  -- something else is wanted of the word, and it is as wanted
  pub fits_with : (role : Role) (w : Wanted) → Fits j a b c → Allowed j.setting.format (member role a b c) w → Fits (with_wanted role j w) a b c
  fits_with A w f h = record {
    right = f.right;
    satisfies = record { a_allowed = h; b_allowed = f.satisfies.b_allowed; c_allowed = f.satisfies.c_allowed; row = f.satisfies.row; dropped = f.satisfies.dropped };
  }
  fits_with B w f h = record {
    right = f.right;
    satisfies = record { a_allowed = f.satisfies.a_allowed; b_allowed = h; c_allowed = f.satisfies.c_allowed; row = f.satisfies.row; dropped = f.satisfies.dropped };
  }
  fits_with C w f h = record {
    right = f.right;
    satisfies = record { a_allowed = f.satisfies.a_allowed; b_allowed = f.satisfies.b_allowed; c_allowed = h; row = f.satisfies.row; dropped = f.satisfies.dropped };
  }

-- two conditions on a word of which the first asks for no less
pub fits_changed : (role : Role) (j : Job) (w w' : Wanted) (a b c : ℕ) → ((x : ℕ) → Allowed j.setting.format x w → Allowed j.setting.format x w')
    → Fits (with_wanted role j w) a b c → Fits (with_wanted role j w') a b c
fits_changed A j w w' a b c h f = fits_with (with_wanted A j w) a b c A w' f (h a f.satisfies.a_allowed)
fits_changed B j w w' a b c h f = fits_with (with_wanted B j w) a b c B w' f (h b f.satisfies.b_allowed)
fits_changed C j w w' a b c h f = fits_with (with_wanted C j w) a b c C w' f (h c f.satisfies.c_allowed)
