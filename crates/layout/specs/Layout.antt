-- The numbers of a record by its map (document 01, "Job files"): "in bit order, only the fields whose bit stands". A field has one or more
-- numbers; a layout lists, number by number, the map bit of its field and its byte count. Where the bit does not stand the number has no
-- bytes, so it is 0; of a field that has a default that is what absence says. Assumes nothing.
use Rattle.std.specs.Prelude.{Bool, true, false, not, cond, ◌&&◌, ◌||◌, ℕ, zero, suc, ◌*◌, ◌^◌, List, [], ◌∷◌, eqb}
use Rattle.std.specs.Int.Bits.{bit_or}
use Rattle.bits.specs.Bit.{bit}
use Rattle.layout.specs.declared.Slot.{Slot}

-- the byte count of each number in a record with the map m
unfoldable pub sizes : List Slot → ℕ → List ℕ
sizes [] m = []
sizes (p ∷ ps) m = bit m p.bit * p.size ∷ sizes ps m

-- the map of numbers: each that is not 0 sets the bit of its field
unfoldable pub map_of : List Slot → List ℕ → ℕ
map_of [] ns = 0
map_of (p ∷ ps) [] = 0
map_of (p ∷ ps) (n ∷ ns) = cond (eqb n 0) (map_of ps ns) (bit_or (map_of ps ns) (2 ^ p.bit))

-- each number of field i is 0: of a field that has a default, it "says what its absence says"
unfoldable pub is_default : ℕ → List Slot → List ℕ → Bool
is_default i [] ns = true
is_default i (p ∷ ps) [] = true
is_default i (p ∷ ps) (n ∷ ns) = (not (eqb p.bit i) || eqb n 0) && is_default i ps ns

-- one of the first n fields says its default though its bit stands in the map m
unfoldable pub says_default : ℕ → ℕ → List Slot → List ℕ → Bool
says_default zero m ps ns = false
says_default (suc i) m ps ns = eqb (bit m i) 1 && is_default i ps ns || says_default i m ps ns
