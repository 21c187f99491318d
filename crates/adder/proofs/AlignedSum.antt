-- Two finite operands, the larger first, whose significands the code has aligned with q bits below the larger one's last: they hold the
-- exact sum and difference (rounding's proofs/Align), well enough to tell G bits apart below the last one that rounding keeps.
-- Assumes nothing.
use mathlib.Core.Path.{◌≡◌, ap, ◌∙◌}
use mathlib.Core.Logic.{◌↔◌}
use Prim.Native.Nat.{ℕ, ◌+◌, ◌-◌, ◌*◌, ◌^◌, ◌≤◌, ◌<◌}
use native.Mathlib.Nat.{lt_of_lt_of_le}
use native.Mathlib.Omega.{arith}
use lib.Pow.{pow_mono}
use Rattle.format.specs.declared.Format.{Format}
use Rattle.format.specs.Format.{Supported, precision}
use Rattle.word.specs.declared.Finite as record_of
use Rattle.word.specs.declared.Unit as exponent
use Rattle.word.specs.Word.{unit_of}
use Rattle.word.specs.Operand.{magnitude, Canonical}
use Rattle.rounding.specs.Sticky.{head_at, tail_at, Held}
use Rattle.rounding.specs.Width.{sum_bits, short_bits, Short}
use Rattle.format.proofs.Room.{significand_room}
use Rattle.word.proofs.Canonical.{gap_le}
use Rattle.rounding.proofs.Align as align

-- what is known of l's unit u and of the aligned significands h and t
pub record Aligned (F : Format) (q G : ℕ) (l r : record_of.Finite) (u : exponent.Unit) (h t : ℕ) : Type 0 where
  pub unit_lt : u.0 < 2 ^ F.w
  pub sum_lt : h + t < 2 ^ sum_bits q F.f
  pub sum_fits : h + t < 2 ^ 64
  pub sum_held : Held F q G (magnitude l + magnitude r) (h + t) u.0
  pub tail_le : t ≤ h
  pub difference_held : Held F q G (magnitude l - magnitude r) (h - t) u.0
  pub equal : magnitude l ≡ magnitude r ↔ (h ≡ t)

-- a difference asks for two bits more than G; 64 bits have room for ten below a significand
module _ (F : Format) (q G : ℕ) (more : G + 1 < q) (few : q ≤ 10) (l r : record_of.Finite) (ok : Supported F) (cl : Canonical F l) (cr : Canonical F r)
    (le : magnitude r ≤ magnitude l) (u v : exponent.Unit) (eu : u ≡ unit_of l.exponent) (ev : v ≡ unit_of r.exponent) (h t : ℕ)
    (eh : Short q l.significand → h ≡ tail_at q l.significand 0) (et : Short q r.significand → t ≡ tail_at q r.significand (u.0 - v.0)) where
  pos : 0 < q
  pos = omega arith

  some : G < q
  some = omega arith

  short : (x : record_of.Finite) → Canonical F x → Short q x.significand
  short x c =
      record {
        some = pos;
        few = omega arith;
        short = lt_of_lt_of_le c.significand_lt (pow_mono {i = precision F} {j = short_bits q} (omega (arith, significand_room F ok)));
      }

  up : u.0 ≡ l.exponent.0 - 1
  up = ap (λ (n : exponent.Unit). n.0) eu

  units : (u.0 - v.0) + v.0 ≡ u.0
  units = omega (arith, gap_le F l r cl cr le u v eu ev)

  normal : 0 < u.0 → 2 ^ F.f ≤ l.significand
  normal p = cl.normal (omega (arith, up))

  head : h ≡ head_at q l.significand
  head = eh (short l cl) ∙ align.tail_none q pos l.significand

  tail : t ≡ tail_at q r.significand (u.0 - v.0)
  tail = et (short r cr)

  exact_l : l.significand * 2 ^ u.0 ≡ magnitude l
  exact_l = ap (λ (n : exponent.Unit). l.significand * 2 ^ n.0) eu

  exact_r : r.significand * 2 ^ v.0 ≡ magnitude r
  exact_r = ap (λ (n : exponent.Unit). r.significand * 2 ^ n.0) ev

  not_above : r.significand * 2 ^ v.0 ≤ l.significand * 2 ^ u.0
  not_above = rw (exact_l, exact_r) le

  pub aligned_sum : Aligned F q G l r u h t
  aligned_sum =
      let L = l.significand in
      let R = r.significand in
      let below = rw (← head, ← tail) at (align.sum_lt F q G some L R u.0 v.0 (u.0 - v.0) units cl.significand_lt cr.significand_lt normal) in
      record {
        unit_lt = omega (arith, up, cl.exponent_lt);
        sum_lt = below;
        sum_fits = lt_of_lt_of_le below (pow_mono {i = sum_bits q F.f} {j = 64} (omega (arith, significand_room F ok)));
        sum_held = rw (head, tail, ← exact_l, ← exact_r)
            (align.sum_held F q G some L R u.0 v.0 (u.0 - v.0) units cl.significand_lt cr.significand_lt normal);
        tail_le = rw (head, tail) ((align.tail_ordered q pos L R u.0 v.0 (u.0 - v.0) units).1 not_above);
        difference_held = rw (head, tail, ← exact_l, ← exact_r)
            (align.difference_held F q G some L R u.0 v.0 (u.0 - v.0) units cl.significand_lt cr.significand_lt normal more not_above);
        equal = rw (head, tail, ← exact_l, ← exact_r) (align.equal_tail q pos L R u.0 v.0 (u.0 - v.0) units);
      }
