-- The words of a case alike, by their role, as the bit walk needs them. Assumes nothing.
use mathlib.Core.Path.{◌≡◌, sym, ◌∙◌, subst}
use Prim.Native.Nat.{ℕ, ◌^◌, ◌<◌}
use Rattle.format.specs.Format.{Supported, word_bits}
use Rattle.format.proofs.Room.{word_room}
use Rattle.mask.specs.declared.Mask.{Mask}
use Rattle.mask.specs.Mask.{WellFormed, Meets}
use Rattle.choice.proofs.Walk.{Lawful}
use Rattle.job.specs.declared.Setting.{Setting}
use Rattle.job.specs.declared.Job.{Job}
use Rattle.job.specs.declared.Role.{Role}
use Rattle.job.specs.Job.{Valid}
use Rattle.job.specs.Role.{wanted, with_mask, with_word_mask}
use Rattle.job.proofs.Roles.{word_mask_same, word_mask_wanted, word_mask_setting, valid_wanted, valid_with}
use Rattle.fit.proofs.Roles.{member_lt, fits_allowed, fits_with}
use Rattle.pass.specs.declared.Exponents.{Exponents}
use Rattle.pass.specs.First.{NoneBefore}
use Rattle.left.proofs.Laws.{unbounded_less, none_fewer}
use Rattle.search.specs.Walk.{TripleFits, member_of, walk_of}

module _ (j : Job) (role : Role) where
  -- what a bit walk asks of its cases
  pub lawful : Supported j.setting.format → Lawful (walk_of j role) (word_bits j.setting.format)
  lawful ok = record {
    short = word_room j.setting.format ok;
    small = λ m p f. subst (λ (S : Setting). member_of role p < 2 ^ word_bits S.format) (word_mask_setting role j m) (member_lt (with_word_mask role j m) p.0 p.1 p.2 role f);
    meets = λ m p f. subst (Meets (member_of role p)) (word_mask_wanted role j m) (fits_allowed (with_word_mask role j m) p.0 p.1 p.2 role f).mask;
    replaced = λ m m' p f e. subst (λ (t : Job). TripleFits t p) (word_mask_same role j m m')
        (fits_with (with_word_mask role j m) p.0 p.1 p.2 role (with_mask (wanted role (with_word_mask role j m)) m') f
        (record { mask = e; within = (fits_allowed (with_word_mask role j m) p.0 p.1 p.2 role f).within }));
  }

  pub word_mask_formed : (m : Mask) → Valid (with_word_mask role j m) → WellFormed (word_bits j.setting.format) m
  word_mask_formed m v =
      subst (λ (S : Setting). WellFormed (word_bits S.format) m) (word_mask_setting role j m)
      (subst (WellFormed (word_bits (with_word_mask role j m).setting.format)) (word_mask_wanted role j m) (valid_wanted role (with_word_mask role j m) v).mask)

  pub word_mask_valid : (m m' : Mask) → Valid (with_word_mask role j m) → WellFormed (word_bits j.setting.format) m' → Valid (with_word_mask role j m')
  word_mask_valid m m' v w =
      subst Valid (word_mask_same role j m m')
      (valid_with role (with_word_mask role j m) (with_mask (wanted role (with_word_mask role j m)) m') v
      (record {
        mask = subst (λ (S : Setting). WellFormed (word_bits S.format) m') (sym (word_mask_setting role j m)) w;
        bounds = (valid_wanted role (with_word_mask role j m) v).bounds;
      }))

  -- where each word that meets m' meets m, no case with m' has exponent fields that none with m has
  pub none_less : (m m' : Mask) → ((x : ℕ) → Meets x m' → Meets x m) → (n : Exponents) → NoneBefore (with_word_mask role j m) n → NoneBefore (with_word_mask role j m') n
  none_less m m' less =
      none_fewer (with_word_mask role j m) (with_word_mask role j m') (word_mask_setting role j m' ∙ sym (word_mask_setting role j m)) (unbounded_less role j m m' less)
