-- Carries and borrows of a column (document 01, "Masks and choice", whole numbers; "The carry row" speaks of the same carries, counted one position higher).
-- Each is told from the low i bits alone, with no reference to the columns below. Assumes nothing.
use Rattle.std.specs.Prelude.{Bool, cond, ℕ, ◌+◌, ◌-◌, ◌/◌, ◌%◌, ◌^◌, ltb}

-- the carry into position i of x + y + c0
unfoldable pub carry : ℕ → ℕ → ℕ → ℕ → ℕ
carry x y c0 i = (x % 2 ^ i + y % 2 ^ i + c0) / 2 ^ i

-- the borrow at position i of x - y - b0: 1 where the low i bits of y, with b0, exceed those of x
unfoldable pub borrow : ℕ → ℕ → ℕ → ℕ → ℕ
borrow x y b0 i = cond (ltb (x % 2 ^ i) (y % 2 ^ i + b0)) 1 0

-- x - y where `subtract`, else x + y
abbrev pub combined : Bool → ℕ → ℕ → ℕ
combined subtract x y = cond subtract (x - y) (x + y)

-- its borrow into position i, or its carry
abbrev pub carry_of : Bool → ℕ → ℕ → ℕ → ℕ
carry_of subtract x y i = cond subtract (borrow x y 0 i) (carry x y 0 i)
