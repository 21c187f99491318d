-- The mask on the aligned forms of all the significands that meet a mask. An aligned form is a significand counted in a unit that is no
-- smaller than its own (document 01, "The carry row": "counted in L's unit"), with some bits more, the last of them the sticky bit. A bit
-- of the significand that rises from 0 to 1 makes no bit of the aligned form fall, not the sticky bit either; so what is fixed is what the
-- aligned forms of the least and of the greatest significand agree in. Assumes nothing.
use Rattle.std.specs.Prelude.{ℕ, ◌+◌, ◌-◌, ◌^◌, Bool, ◌&&◌, nat_le, nat_lt}
use Rattle.mask.specs.declared.Mask.{Mask}
use Rattle.mask.specs.Mask.{well_formed, pick_mask}
use Rattle.rounding.specs.Sticky.{tail_at}
use Rattle.rounding.specs.Width.{short_bits, mask_bits}

-- the k bits that x has not
abbrev pub complement : ℕ → ℕ → ℕ
complement k x = 2 ^ k - 1 - x

-- the least number that meets a mask, each free bit being 0
abbrev pub least : Mask → ℕ
least m = m.value

-- the greatest number of k bits that meets a mask, each free bit being 1
abbrev pub greatest : ℕ → Mask → ℕ
greatest k m = m.value + complement k m.care

-- the mask on k bits whose least number is l and whose greatest is g, where g has each bit of l: free is what g has more
abbrev pub spanned : ℕ → ℕ → ℕ → Mask
spanned k l g = record { care = complement k (g - l); value = l }

-- the mask on n bits of the aligned forms, for a gap of d places and with q bits below the larger operand's last one, of the significands of
-- p bits that meet m; a number of n bits that meets it has p + q at most
abbrev pub forms_mask : ℕ → ℕ → ℕ → Mask → ℕ → Mask
forms_mask n q p m d = spanned n (tail_at q (least m) d) (tail_at q (greatest p m) d)

-- the same for masks on aligned significands
abbrev pub aligned_mask : ℕ → ℕ → Mask → ℕ → Mask
aligned_mask q p m d = forms_mask mask_bits q p m d

-- numbers of p bits have room for q more
unfoldable pub roomy : ℕ → ℕ → Bool
roomy q p = nat_lt q mask_bits && (nat_lt 0 q && nat_le p (short_bits q))

-- that mask, and m as it is where a significand of p bits has no room for q more or m is not well formed for p bits
unfoldable pub tail_mask : ℕ → ℕ → Mask → ℕ → Mask
tail_mask q p m d = pick_mask (roomy q p && well_formed p m) (aligned_mask q p m d) m
