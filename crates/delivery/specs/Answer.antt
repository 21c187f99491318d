-- What an exported function does with its answer: it returns a number, 0 for none of document 01's refusals ("Causes and replies"), and
-- puts the answer's numbers into a lent buffer, each as eight bytes, low byte first. Too short a buffer is 11, which comes last, as in
-- writing a record. Assumes nothing.
use Rattle.std.specs.Prelude.{◌≡◌, ℕ, List, [], ◌∷◌, ◌++◌, length, leb, Result, Ok, Err}
use Rattle.format.specs.declared.cause.Cause.TheVariants as cause
use Rattle.format.specs.declared.cause.Cause.{Cause}
use Rattle.format.specs.Cause.{number, Check, unless}
use Rattle.numbers.specs.Number.{little_endian, buffer_after}

-- numbers one after the other, eight bytes each
unfoldable pub bytes_of : List ℕ → List ℕ
bytes_of [] = []
bytes_of (n ∷ ns) = little_endian 8 n ++ bytes_of ns

-- 11 where n bytes have no room for these bytes
abbrev pub room_cause : List ℕ → ℕ → Check
room_cause bs n = unless (leb (length bs) n) cause.Buffer

-- 0, or the number of the cause that a check finds
abbrev pub status_of : Check → ℕ
status_of (Ok u) = 0
status_of (Err k) = number k

-- the number that is returned for an answer, which is numbers or a refusal
abbrev pub status : Result (List ℕ) Cause → List ℕ → ℕ
status (Ok ns) s = status_of (room_cause (bytes_of ns) (length s))
status (Err k) s = number k

-- the buffer afterwards: the answer's bytes and then what stood there before; on a refusal as it was
abbrev pub left : Result (List ℕ) Cause → List ℕ → List ℕ
left (Ok ns) s = buffer_after (room_cause (bytes_of ns) (length s)) (bytes_of ns) s
left (Err k) s = s

-- the answer is delivered: n is returned, and the buffer is `after`
pub record Delivered (x : Result (List ℕ) Cause) (before after : List ℕ) (n : ℕ) : Type 0 where
  pub number : n ≡ status x before
  pub buffer : after ≡ left x before
