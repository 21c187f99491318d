-- What a bit walk goes through and where it ends, over any kind of case (document 01, "each bit .. follows the .. random word"; document 02,
-- W-204: "a state of one size, whatever the position, with the bits chosen so far but no list of the states before it"). Nothing here is
-- needed to read a choice. Assumes nothing.
use Rattle.std.specs.Prelude.{◌≡◌, ◌⊎◌, ◌↔◌, ℕ, suc, ◌-◌, ◌≤◌, ◌<◌}
use Rattle.bits.specs.Bit.{bit}
use Rattle.mask.specs.declared.Mask.{Mask}
use Rattle.mask.specs.Mask.{fix}
use Rattle.choice.specs.Choice.{Closest}

-- ---- what is walked over, and what is handed on

-- the cases, the number of a case that the walk fixes, the cases that fit with a mask of this number, the places where a search for one
-- can stand, and which of these a search with that mask finds
pub record BitWalk : Type 1 where
  pub Case : Type 0
  pub number : Case → ℕ
  pub Fits : Mask → Case → Type 0
  pub At : Type 0
  pub Found : Mask → At → Type 0

-- from one bit position to the next: the mask with the bits chosen so far, how many bits are open, and where the search stands
pub record WalkState (At : Type 0) : Type 0 where
  pub mask : Mask
  pub open_bits : ℕ
  pub at : At

-- the bits of a mask of n bits from position k on are fixed
abbrev pub FixedFrom : ℕ → Mask → ℕ → Type 0
FixedFrom n m k = (i : ℕ) → k ≤ i → i < n → bit m.care i ≡ 1

-- ---- one step

module _ (W : BitWalk) (word : ℕ) (s t : WalkState W.At) where
  -- the position of the bit, and the mask with this bit as v
  abbrev position : ℕ
  position = t.open_bits

  abbrev with_bit : ℕ → Mask
  with_bit v = fix s.mask position v

  -- the bit is fixed already
  pub record FixedBit : Type 0 where
    pub fixed : bit s.mask.care position ≡ 1
    pub mask : t.mask ≡ s.mask
    pub at : t.at ≡ s.at

  -- it is free and follows the word, with which a case is left, and the search stands where it found one
  pub record WordBit : Type 0 where
    pub free : bit s.mask.care position ≡ 0
    pub mask : t.mask ≡ with_bit (bit word position)
    pub case : W.Case
    pub fits : W.Fits t.mask case
    pub found : W.Found t.mask t.at

  -- it is free, and no case is left with that of the word: it is the other, and the search stands where it stood
  pub record OtherBit : Type 0 where
    pub free : bit s.mask.care position ≡ 0
    pub none : (c : W.Case) → W.Fits (with_bit (bit word position)) c → ⊥
    pub mask : t.mask ≡ with_bit (1 - bit word position)
    pub at : t.at ≡ s.at

  -- t is s with its highest open bit chosen
  pub record NextBit : Type 0 where
    pub one_less : s.open_bits ≡ suc t.open_bits
    pub chosen : FixedBit ⊎ WordBit ⊎ OtherBit

-- ---- the end

-- v is the number of a fitting case
pub record Has (C : Type 0) (number : C → ℕ) (P : C → Type 0) (v : ℕ) : Type 0 where
  pub case : C
  pub fits : P case
  pub is : number case ≡ v

-- the cases of T are those of P with the number fixed to its value v closest to the word
pub record EndOfWalk (C : Type 0) (number : C → ℕ) (P : C → Type 0) (word : ℕ) (T : C → Type 0) (v : ℕ) : Type 0 where
  pub closest : Closest (Has C number P) word v
  pub same : (c : C) → T c ↔ (P c × (number c ≡ v))
