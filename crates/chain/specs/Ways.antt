-- One adder's columns, as the contracts of src/ways.rt speak of them: a word has a bit for each column, and a bit of a wire is a Bool.
-- No definition of the promise cites this file. Assumes nothing.
use Rattle.std.specs.Prelude.{Bool, true, false, ◌&&◌, ◌||◌, cond, ℕ, ◌+◌, ◌*◌, eqb}
use Rattle.bits.specs.Bit.{bit}
use Rattle.columns.specs.Column.{allows}
use Rattle.mask.specs.declared.Mask.{Mask}
use Rattle.chain.specs.declared.ways.Places.{Places}
use Rattle.chain.specs.declared.ways.Ways.{Ways}

-- the word has bit i
abbrev pub mem : ℕ → ℕ → Bool
mem w i = eqb (bit w i) 1

-- a bit as a number
abbrev pub digit : Bool → ℕ
digit b = cond b 1 0

-- the mask lets bit i be b
abbrev pub lets : Mask → ℕ → Bool → Bool
lets m i b = allows m.care m.value i (digit b)

-- the columns where the wire may be b
abbrev pub side : Places → Bool → ℕ
side p b = cond b p.one p.zero

-- the wire may be b in column i
abbrev pub may : Places → ℕ → Bool → Bool
may p i b = mem (side p b) i

-- the two sides, exchanged where `turn`
abbrev pub turned_of : Bool → Places → Places
turned_of true p = record { zero = p.one; one = p.zero }
turned_of false p = p

-- the places at the carry `cin` into the column and the carry `cout` out of it
abbrev pub way : Ways → Bool → Bool → Places
way w false false = w.c00
way w false true = w.c01
way w true false = w.c10
way w true true = w.c11

-- a test passes at 0 or at 1
abbrev pub either : (Bool → Bool) → Bool
either f = f false || f true

-- a column adds up at the bits a of l, r of t and b of x: a + r + cin = b + 2 cout, and b + r + cin = a + 2 cout for x = l - t
abbrev pub balanced : Bool → Bool → Bool → Bool → Bool → Bool → Bool
balanced subtract cin cout b a r = eqb (digit (cond subtract b a) + digit r + digit cin) (digit (cond subtract a b) + 2 * digit cout)

-- x may be b in a column with these carries, where l, t, x and c tell what each wire may be
unfoldable pub way_of : Bool → (Bool → Bool) → (Bool → Bool) → (Bool → Bool) → (Bool → Bool) → Bool → Bool → Bool → Bool
way_of subtract l t x c cin cout b = either (λ a. either (λ r. balanced subtract cin cout b a r && (l a && t r))) && (x b && c cout)

-- x may be b in column i of x + constant = z with these carries
unfoldable pub second_of : Mask → ℕ → ℕ → Bool → Bool → Bool → Bool
second_of z constant i cin cout b = way_of true (lets z i) (λ r. eqb (digit r) (bit constant i)) (λ x. true) (λ c. true) cin cout b

-- two adders agree on the wire between them in column i
abbrev pub linked : Places → Places → ℕ → Bool
linked p q i = either (λ b. may p i b && may q i b)
