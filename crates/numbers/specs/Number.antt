-- Numbers as bytes, low byte first, and bytes put into a buffer (document 01, "Job files"). Assumes nothing.
use Rattle.std.specs.Prelude.{ℕ, zero, suc, ◌+◌, ◌*◌, ◌/◌, ◌%◌, ◌<◌, List, [], ◌∷◌, ◌++◌, length, get_or, take, drop, leb, cond, ◌&&◌, Result, Ok, Err}

-- every element is a byte
abbrev pub Bytes : List ℕ → Type 0
Bytes s = (i : ℕ) → get_or s i 0 < 256

-- k bytes of x, "low byte first"
unfoldable pub little_endian : ℕ → ℕ → List ℕ
little_endian zero x = []
little_endian (suc k) x = x % 256 ∷ little_endian k (x / 256)

-- the number that bytes stand for, the low one first
unfoldable pub number : List ℕ → ℕ
number [] = 0
number (b ∷ bs) = b + 256 * number bs

-- the number of the k bytes from position `at` on where these are bytes of s and no more than eight, else 0
unfoldable pub number_within : List ℕ → ℕ → ℕ → ℕ
number_within s at k = cond (leb k 8 && leb (at + k) (length s)) (number (take k (drop at s))) 0

-- the buffer with these bytes from position `at` on
abbrev pub put : List ℕ → ℕ → List ℕ → List ℕ
put s at bs = take at s ++ (bs ++ drop (at + length bs) s)

-- the same where the buffer has room for them, else the buffer as it was
unfoldable pub put_within : List ℕ → ℕ → List ℕ → List ℕ
put_within s at bs = cond (leb (at + length bs) (length s)) (put s at bs) s

-- the buffer with these bytes at its front and what stood after them, where that was taken; on a refusal as it was
abbrev pub buffer_after : {T E : Type 0} → Result T E → List ℕ → List ℕ → List ℕ
buffer_after (Ok x) bs s = bs ++ drop (length bs) s
buffer_after (Err e) bs s = s
