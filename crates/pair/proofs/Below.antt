-- How many bits stand below the larger significand: enough to tell the wanted ones apart, and few enough for a word of 64 bits. The dropped
-- bits of two finite operands are then those of what their aligned significands make. Assumes nothing.
use Rattle.std.specs.Prelude.{Option, Some, None}
use mathlib.Core.Path.{◌≡◌, sym, subst}
use mathlib.Core.Bool.{Bool, true, false, true≢false}
use mathlib.Core.Logic.{inl, inr, ⊎_elim}
use Prim.Native.Nat.{ℕ, ◌+◌, ◌≤◌, ◌<◌}
use native.Mathlib.Decide.{dec_lt, dec_le, ℕ_discrete}
use native.Mathlib.Omega.{arith}
use lib.Dec.{eqb}
use lib.Ieee.{size}
use Rattle.format.specs.declared.Format.{Format}
use Rattle.format.specs.Format.{Supported, precision}
use Rattle.format.proofs.Room.{significand_room}
use Rattle.job.specs.declared.Dropped.{Dropped}
use Rattle.job.specs.Dropped.{ValidDropped}
use Rattle.job.specs.Guards.{guards_of}
use Rattle.job.proofs.GuardLaws.{guards_pos, guards_most, guards_cover}
use Rattle.word.specs.declared.Finite as record_of
use Rattle.word.specs.declared.Unit as exponent
use Rattle.word.specs.Word.{unit_of}
use Rattle.word.specs.Operand.{magnitude, Canonical}
use Rattle.rounding.specs.Dropped.{dropped_word}
use Rattle.rounding.specs.Width.{aligned_bits}
use Rattle.rounding.specs.Outcome.{NormalAt}
use Rattle.rounding.proofs.Held.{Guards}
use Rattle.significand.proofs.Tail.{Room}
use Rattle.adder.specs.Below.{finite_below}
use Rattle.adder.proofs.Aligned.{makes, below_bits, below_none}
use Rattle.fit.specs.Fit.{PartMeets}
use Rattle.fit.proofs.Laws.{unfixed_met}
use Rattle.outcome.specs.Outcome.{DropsAs}
use Rattle.pair.specs.Pair.{bits_below}

module _ (G : ℕ) (least : 1 ≤ G) where
  pub guards_of_lem : (like : Bool) → Guards (bits_below G like) G
  guards_of_lem true = record { least = least; few = omega arith; most = omega arith }
  guards_of_lem false = record { least = least; few = omega arith; most = omega arith }

  pub below_pos : (like : Bool) → 0 < bits_below G like
  below_pos like = omega (arith, (guards_of_lem like).few)

  -- in a difference one more
  pub below_more : (like : Bool) → like ≡ false → G + 1 < bits_below G like
  below_more true e = absurd (true≢false e)
  below_more false e = omega arith

-- a significand of a supported format has room for them
pub below_room : (F : Format) → Supported F → (D : Dropped) → ValidDropped D → (like : Bool) → Room (bits_below (guards_of D) like) (precision F)
below_room F ok D valid like =
    let g = guards_of_lem (guards_of D) (guards_pos D) like in
    record {
      some = omega (arith, g.few);
      few = omega (arith, g.most, guards_most D valid);
      short = omega (arith, g.most, guards_most D valid, significand_room F ok);
    }

-- a magnitude is at least the smallest normal one, or not
normal_dec : (q f : ℕ) (u : exponent.Unit) (x : ℕ) → Dec (NormalAt q f u x)
normal_dec q f u x = go (dec_lt 0 x) (dec_le (aligned_bits q f) (size x + u.0))
  where
    go : Dec (0 < x) → Dec (aligned_bits q f ≤ size x + u.0) → Dec (NormalAt q f u x)
    go (yes p) (yes r) = yes (record { some = p; reaches = r })
    go (no n) r = no (λ a. n a.some)
    go (yes p) (no n) = no (λ a. n a.reaches)

-- of two operands, y's unit not above x's and y not the larger where the signs are unlike
module _ (F : Format) (x y : record_of.Finite) (units : (unit_of y.exponent).0 ≤ (unit_of x.exponent).0) (ok : Supported F) (cx : Canonical F x) (cy : Canonical F y)
    (D : Dropped) (valid : ValidDropped D) (le : eqb x.sign y.sign ≡ false → magnitude y ≤ magnitude x) where
  abbrev G : ℕ
  G = guards_of D

  abbrev like : Bool
  like = eqb x.sign y.sign

  abbrev q : ℕ
  q = bits_below (guards_of D) (eqb x.sign y.sign)

  abbrev made : ℕ
  made = makes F x y units ok cx cy q G (guards_of_lem G (guards_pos D) like) (below_more G (guards_pos D) like)

  bits : (D.mask.care ≡ 0 → ⊥) → NormalAt q F.f (unit_of x.exponent) made → finite_below F D.g x y ≡ Some (dropped_word F D.g made)
  bits fixed n = below_bits F x y units ok cx cy q G (guards_of_lem G (guards_pos D) like) (below_more G (guards_pos D) like) D.g (guards_cover D fixed) le n

  none : (D.mask.care ≡ 0 → ⊥) → (NormalAt q F.f (unit_of x.exponent) made → ⊥) → finite_below F D.g x y ≡ None
  none fixed n = below_none F x y units ok cx cy q G (guards_of_lem G (guards_pos D) like) (below_more G (guards_pos D) like) D.g (guards_cover D fixed) le n

  pub drops_of : PartMeets (finite_below F D.g x y) D.mask → DropsAs F q (unit_of x.exponent) D made
  drops_of met = go (ℕ_discrete D.mask.care 0) (normal_dec q F.f (unit_of x.exponent) made)
    where
      go : Dec (D.mask.care ≡ 0) → Dec (NormalAt q F.f (unit_of x.exponent) made) → DropsAs F q (unit_of x.exponent) D made
      go (yes z) d = inl z
      go (no fixed) (yes n) = inr (n, subst (λ (b : Option ℕ). PartMeets b D.mask) (bits fixed n) met)
      go (no fixed) (no n) = inl (subst (λ (b : Option ℕ). PartMeets b D.mask) (none fixed n) met)

  pub drops_back : DropsAs F q (unit_of x.exponent) D made → PartMeets (finite_below F D.g x y) D.mask
  drops_back drops = go (ℕ_discrete D.mask.care 0)
    where
      go : Dec (D.mask.care ≡ 0) → PartMeets (finite_below F D.g x y) D.mask
      go (yes z) = unfixed_met (finite_below F D.g x y) D.mask valid.mask.inside z
      go (no fixed) = ⊎_elim (λ z. absurd (fixed z)) (λ p. subst (λ (b : Option ℕ). PartMeets b D.mask) (sym (bits fixed p.0)) p.1) drops
