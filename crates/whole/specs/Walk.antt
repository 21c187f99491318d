-- What the bit walk asks, hands on and promises (document 01, "each bit .. follows the .. random word": recursion over the bits still
-- open; document 02, W-204). Nothing here is needed to read the reply. Assumes nothing.
use Rattle.std.specs.Prelude.{ℕ, ◌+◌, ◌%◌, ◌≤◌}
use Rattle.std.specs.Int.Bits.{bit_xor}
use Rattle.format.specs.Limits.{least_length, most_length}
use Rattle.choice.specs.Walk.{BitWalk, WalkState, FixedFrom, NextBit, EndOfWalk}
use Rattle.whole.specs.declared.Masks.{Masks}
use Rattle.whole.specs.declared.Case.{Case}
use Rattle.whole.specs.declared.Role.{Role}
use Rattle.whole.specs.declared.walk.State.{State}
use Rattle.whole.specs.Role.{number, mask_of, with_mask}
use Rattle.whole.specs.Job.{Formed}
use Rattle.whole.specs.Fits.{Fits, Left}

-- a case is left under masks that are well formed
pub record Ready (n : ℕ) (s : Masks) : Type 0 where
  pub least : least_length ≤ n
  pub most : n ≤ most_length
  pub formed : Formed n s
  pub left : Left n s

-- and the number's bits from position k on are fixed
pub record OpenBits (n : ℕ) (s : Masks) (role : Role) (k : ℕ) : Type 0 where
  pub ready : Ready n s
  pub most : k ≤ n
  pub fixed : FixedFrom n (mask_of role s) k

-- the walk over the bits of the number, for which one place is enough: each search begins at the lowest column
abbrev pub walk_of : ℕ → Masks → Role → BitWalk
walk_of n s role = record { Case = Case; number = number role; Fits = λ m. Fits n (with_mask role s m); At = Unit; Found = λ m p. Unit }

-- the state as the laws of a bit walk have it
abbrev pub walk_state : State → WalkState Unit
walk_state st = record { mask = st.mask; open_bits = st.open_bits; at = tt }

-- a walk can start at a state: with its mask a case is left, and the number's bits above its open ones are fixed
abbrev pub OpenState : ℕ → Masks → Role → State → Type 0
OpenState n s role st = OpenBits n (with_mask role s st.mask) role st.open_bits

-- the second state is the first with its highest open bit chosen
abbrev pub NextState : ℕ → Masks → Role → ℕ → State → State → Type 0
NextState n s role word st next = NextBit (walk_of n s role) word (walk_state st) (walk_state next)

-- t is s with the number fixed to its closest value
pub record WalkEnd (n : ℕ) (s : Masks) (role : Role) (word : ℕ) (t : Masks) : Type 0 where
  pub ready : Ready n t
  pub ends : EndOfWalk Case (number role) (Fits n s) word (Fits n t) (mask_of role t).value

-- the case of three numbers that make one: the carry in is what makes the lowest bits right, and the exclusive-or of the addends and the
-- sum has the carries as its bits
abbrev pub case_of : ℕ → ℕ → ℕ → Case
case_of x y z = record { x = x; y = y; z = z; carries = bit_xor (bit_xor x y) (x + y + (x + y + z) % 2) }
