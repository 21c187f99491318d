-- The text of the listing's lines as bytes of ASCII (document 01, "Cases, in hexadecimal", from "The listing program" on). Assumes nothing.
use Rattle.format.specs.Cause.{number}
use Rattle.format.specs.declared.cause.Cause.{Cause}
use Rattle.std.specs.Prelude.{◌≡◌, cond, ℕ, zero, suc, ◌+◌, ◌*◌, ◌/◌, ◌%◌, ◌≤◌, List, [], ◌∷◌, ◌++◌, length, take, ltb, Option, Some, None, Result, Ok, Err}
use Rattle.format.specs.declared.cause.Cause.TheVariants as cause
use Rattle.format.specs.declared.Format.{Format}
use Rattle.layout.specs.Fields.{word_bytes}
use Rattle.generator.specs.declared.Case.{Case}
use Rattle.lines.specs.declared.text.Line.{Line}

-- ---- numbers

-- a digit below 16: `0` to `9`, then `a` to `f`
abbrev pub glyph : ℕ → ℕ
glyph d = cond (ltb d 10) (48 + d) (87 + d)

-- the last k digits of n in a base, the most significant first
unfoldable pub digits : ℕ → ℕ → ℕ → List ℕ
digits base zero n = []
digits base (suc k) n = digits base k (n / base) ++ (glyph (n % base) ∷ [])

-- how many decimal digits n has, counted in no more steps than the first number says; n steps are enough
unfoldable pub places : ℕ → ℕ → ℕ
places zero n = 1
places (suc k) n = cond (ltb n 10) 1 (places k (n / 10) + 1)

-- "decimal job number"; "its number in decimal"
unfoldable pub decimal : ℕ → List ℕ
decimal n = digits 10 (places n n) n

-- "eight hexadecimal digits", and where a word has 8 bytes "the listing prints 16 digits for such jobs" (document 02, W-202): two for each
-- byte, by the format and not by the value
unfoldable pub word_digits : Format → ℕ
word_digits F = 2 * word_bytes F

-- a space and k hexadecimal digits
unfoldable pub word : ℕ → ℕ → List ℕ
word k x = 32 ∷ digits 16 k x

-- ---- lines

-- the end of a line
abbrev pub feed : List ℕ
feed = 10 ∷ []

-- a space, and the row in k digits or "`-` where there is none"
unfoldable pub row_text : ℕ → Option ℕ → List ℕ
row_text k (Some x) = word k x
row_text k None = 32 ∷ 45 ∷ []

-- " found"
abbrev pub found_word : List ℕ
found_word = 32 ∷ 102 ∷ 111 ∷ 117 ∷ 110 ∷ 100 ∷ []

-- "`n found a b c row`", each in k digits
unfoldable pub found_line : ℕ → ℕ → Case → List ℕ
found_line k n x = decimal n ++ (found_word ++ (word k x.a ++ (word k x.b ++ (word k x.c ++ (row_text k x.row ++ feed)))))

-- " none" and the end of the line
abbrev pub none_word : List ℕ
none_word = 32 ∷ 110 ∷ 111 ∷ 110 ∷ 101 ∷ 10 ∷ []

-- "`n none`"
unfoldable pub none_line : ℕ → List ℕ
none_line n = decimal n ++ none_word

-- " refused "
abbrev pub refused_word : List ℕ
refused_word = 32 ∷ 114 ∷ 101 ∷ 102 ∷ 117 ∷ 115 ∷ 101 ∷ 100 ∷ 32 ∷ []

-- "Another refusal prints `n refused k`, k its number in decimal"
unfoldable pub refused_line : ℕ → ℕ → List ℕ
refused_line n k = decimal n ++ (refused_word ++ (decimal k ++ feed))

-- the line for the reply to job n, in the job's format: 7 is "`n none`"
unfoldable pub reply_line : Format → ℕ → Result Case Cause → List ℕ
reply_line F n (Ok x) = found_line (word_digits F) n x
reply_line F n (Err cause.NoCase) = none_line n
reply_line F n (Err k) = refused_line n (number k)

-- "end "
abbrev pub end_word : List ℕ
end_word = 101 ∷ 110 ∷ 100 ∷ 32 ∷ []

-- "`end` .. gives the count of the lines before it"
unfoldable pub end_line : ℕ → List ℕ
end_line n = end_word ++ (decimal n ++ feed)

-- "one over 65,536 bytes prints only `long`"
abbrev pub long_line : List ℕ
long_line = 108 ∷ 111 ∷ 110 ∷ 103 ∷ 10 ∷ []

-- ---- a line under construction

-- its text
abbrev pub text : Line → List ℕ
text l = take l.len l.bytes

-- it has none yet
pub record Empty (l : Line) : Type 0 where
  pub whole : length l.bytes ≡ 128
  pub len : l.len ≡ 0

-- there is room for n bytes more
pub record Room (l : Line) (n : ℕ) : Type 0 where
  pub whole : length l.bytes ≡ 128
  pub enough : l.len + n ≤ 128

-- r is l with the bytes bs after its own
pub record Grown (l r : Line) (bs : List ℕ) : Type 0 where
  pub whole : length r.bytes ≡ 128
  pub len : r.len ≡ l.len + length bs
  pub text : text r ≡ text l ++ bs

-- l is a line of these bytes
pub record Says (l : Line) (bs : List ℕ) : Type 0 where
  pub most : l.len ≤ length l.bytes
  pub text : text l ≡ bs
