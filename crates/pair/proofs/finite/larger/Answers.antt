-- `pair::finite::larger` meets its contract: the masks it builds are those of the definition, and `admits` decides. Assumes nothing.
use mathlib.Core.Bool.{Bool, true, false, false≢true}
use mathlib.Core.Logic.{◌↔◌}
use mathlib.Core.Path.{◌≡◌, ap, ap₂, ◌∙◌, subst}
use Prim.Native.Nat.{ℕ, ◌-◌, ◌<◌}
use native.Mathlib.Nat.{not-le_of_lt}
use native.Mathlib.Omega.{arith}
use lib.Dec.{eqb}
use Rattle.format.specs.declared.Format.{Format}
use Rattle.format.specs.Format.{Supported, precision}
use Rattle.format.proofs.Room.{significand_room}
use Rattle.mask.specs.declared.Mask.{Mask}
use Rattle.mask.specs.Mask.{WellFormed}
use Rattle.word.specs.declared.Unit as exponent
use Rattle.word.specs.Word.{unit_of}
use Rattle.significand.specs.Tail.{tail_mask}
use Rattle.significand.proofs.Significand.{significand_formed}
use Rattle.significand.proofs.Tail.{Room, tail_most, tail_below_zero}
use Rattle.job.specs.declared.Dropped.{Dropped}
use Rattle.job.specs.Dropped.{ValidDropped}
use Rattle.job.specs.Guards.{guards_of}
use Rattle.job.proofs.GuardLaws.{guards_pos, guards_most}
use Rattle.making.specs.declared.Aligned as pair
use Rattle.outcome.specs.declared.Target.{Target}
use Rattle.making.specs.Making.{Bounded, ZerosBelow, most_digits, Formed}
use Rattle.outcome.specs.Outcome.{Admits, InFormat}
use Rattle.pair.specs.declared.Side.{Side}
use Rattle.pair.specs.Pair.{FiniteSide, significands_of, gap_of, reversed_of, bits_below, aligned_of, target_of}
use Rattle.pair.proofs.Below.{below_pos, below_room}
use Rattle.pair.proofs.Rows.{reversed_parts}
use Rattle.pair.proofs.finite.larger.Goals as goal

pair_of : Bool → Bool → ℕ → Mask → Mask → Mask → pair.Aligned
pair_of like reversed below head tail carries = record { like = like; reversed = reversed; below = below; head = head; tail = tail; carries = carries }

-- what `admits` tells of the unit and the masks that it is handed, it tells of those that they equal
decided : (F : Format) (mode s : ℕ) (T : Target) (r : Bool) {u v : exponent.Unit} {A B : pair.Aligned} → u ≡ v → A ≡ B
    → (InFormat F s u → Formed F.f A → ValidDropped T.dropped → (r ≡ true) ↔ Admits F mode s u A T)
    → InFormat F s v → Formed F.f B → ValidDropped T.dropped → (r ≡ true) ↔ Admits F mode s v B T
decided F mode s T r {u} {v} {A} {B} e q h =
    subst (λ (n : exponent.Unit). InFormat F s n → Formed F.f B → ValidDropped T.dropped → (r ≡ true) ↔ Admits F mode s n B T) e
    (subst (λ (n : pair.Aligned). InFormat F s u → Formed F.f n → ValidDropped T.dropped → (r ≡ true) ↔ Admits F mode s u n T) q h)

-- what is asked of `admits` is in order
in_format : (F : Format) → Supported F → (x : Side) → FiniteSide F x → InFormat F x.sign (unit_of x.exponent)
in_format F ok x fx = record { supported = ok; sign_lt = fx.sign_lt; unit_lt = omega (arith, fx.finite) }

columns_few : (F : Format) → Supported F → (D : Dropped) → ValidDropped D → (like : Bool) → most_digits (bits_below (guards_of D) like) F.f like < 64
columns_few F ok D valid true = omega (arith, significand_room F ok, guards_most D valid)
columns_few F ok D valid false = omega (arith, significand_room F ok, guards_most D valid)

formed : (F : Format) → Supported F → (D : Dropped) → ValidDropped D → (carries : Mask) → WellFormed (precision F) carries → (x y : Side) → FiniteSide F x → FiniteSide F y
    → Formed F.f (aligned_of F (guards_of D) carries x y)
formed F ok D valid carries fr x y fx fy = record {
  room = record { some = below_pos (guards_of D) (guards_pos D) (eqb x.sign y.sign); columns = columns_few F ok D valid (eqb x.sign y.sign) };
  head = bounded x fx 0;
  tail = bounded y fy (gap_of x y);
  carries = fr;
  one_unit = λ r.
      let parts = reversed_parts x y r in
      let none : 0 ≡ gap_of x y = omega (arith, parts.1) in
      record { unlike = parts.2; head = zeros_below x fx; tail = subst (λ (d : ℕ). ZerosBelow q (tail_mask q (precision F) (significands_of F y) d)) none (zeros_below y fy) };
}
  where
    q : ℕ
    q = bits_below (guards_of D) (eqb x.sign y.sign)

    room : Room (bits_below (guards_of D) (eqb x.sign y.sign)) (precision F)
    room = below_room F ok D valid (eqb x.sign y.sign)

    own : (z : Side) → FiniteSide F z → WellFormed (precision F) (significands_of F z)
    own z fz = significand_formed F.f z.fraction (omega (arith, significand_room F ok)) fz.formed z.exponent

    zeros_below : (z : Side) → FiniteSide F z → ZerosBelow (bits_below (guards_of D) (eqb x.sign y.sign)) (tail_mask (bits_below (guards_of D) (eqb x.sign y.sign)) (precision F) (significands_of F z) 0)
    zeros_below z fz = tail_below_zero (bits_below (guards_of D) (eqb x.sign y.sign)) (precision F) (significands_of F z) room (own z fz)

    bounded : (z : Side) → FiniteSide F z → (d : ℕ) → Bounded (bits_below (guards_of D) (eqb x.sign y.sign)) F.f (tail_mask (bits_below (guards_of D) (eqb x.sign y.sign)) (precision F) (significands_of F z) d)
    bounded z fz d = tail_most (bits_below (guards_of D) (eqb x.sign y.sign)) (precision F) (significands_of F z) d room (own z fz)

pub returns-then-x-y : goal.returns-then-x-y
returns-then-x-y c valid fx fy = (λ e. absurd (false≢true e), λ l. absurd (not-le_of_lt c.if-x-y.true l.0))

pub overflow_add-f : goal.overflow_add-f
overflow_add-f c = omega (arith, significand_room c.args.job.setting.format c.requires)

pub overflow_add-f-2 : goal.overflow_add-f-2
overflow_add-f-2 c = omega (arith, significand_room c.args.job.setting.format c.requires)

-- the exponent that a unit holds
at : exponent.Unit → ℕ
at u = u.0

pub overflow_sub-u : goal.overflow_sub-u
unfolding at
overflow_sub-u c = omega (arith, c.if-x-y.false, ap at c.unit_of-u.ensures, ap at c.unit_of-v.ensures)

pub returns : goal.returns
unfolding pair_of
returns c valid fx fy =
    let j = c.args.job in
    let F = j.setting.format in
    let D = j.dropped in
    let x = c.args.x in
    let y = c.args.y in
    let below = c.bits_below-below in
    let hm = c.significand_mask-l in
    let head = c.tail_mask-head in
    let tm = c.significand_mask-r in
    let tail = c.tail_mask-tail in
    let u = c.unit_of-u in
    let v = c.unit_of-v in
    let rev = c.reversed in
    let like = eqb x.sign y.sign in
    let eq = below.ensures valid.dropped in
    let eh = head.ensures ∙ ap₂ (λ (q : ℕ) (m : Mask). tail_mask q (precision F) m 0) eq hm.ensures in
    let et = tail.ensures ∙ ap₂ (λ (q : ℕ) (m : Mask). tail_mask q (precision F) m (u.result.0 - v.result.0)) eq tm.ensures
    ∙ ap₂ (λ (k n : exponent.Unit). tail_mask (bits_below (guards_of D) like) (precision F) (significands_of F y) (k.0 - n.0)) u.ensures v.ensures in
    let same : pair_of like rev.result below.result head.result tail.result j.carries ≡ aligned_of F (guards_of D) j.carries x y =
    ap₂ (λ (r : Bool) (q : ℕ). pair_of like r q head.result tail.result j.carries) rev.ensures eq
    ∙ ap₂ (λ (h t : Mask). pair_of like (reversed_of x y) (bits_below (guards_of D) like) h t j.carries) eh et in
    let d = decided F j.setting.mode x.sign (target_of j) c.admits.result u.ensures same c.admits.ensures.exact
    (in_format F c.requires x fx) (formed F c.requires D valid.dropped j.carries valid.carries x y fx fy) valid.dropped in
    (λ e. (c.if-x-y.false, d.0 e), λ l. d.1 l.1)
