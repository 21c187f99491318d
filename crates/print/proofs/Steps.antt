-- A listing line by line: the text that is left, and how much of it, by what comes after a line. Assumes nothing.
use Rattle.std.specs.Prelude.{Option, Some, None}
use Rattle.std.proofs.Common.{◌≡◌, ℕ, ◌+◌, ◌<◌, List, [], ◌++◌, subst, sym, arith}
use mathlib.Core.List.{append-nil}
use Rattle.lines.specs.Listing.{Lists, Listed, last, more}
use Rattle.lines.specs.declared.Place.{Place}
use Rattle.lines.proofs.Listings.{left, lists_less}

-- u is the text that is left
abbrev pub Left : List ℕ → Option Place → List ℕ → Type 0
Left s (Some p) u = Listed s p u
Left s None u = u ≡ []

-- a bound on the lines that are left
abbrev pub lines_left : List ℕ → Option Place → ℕ
lines_left s (Some p) = left s p + 1
lines_left s None = 0

-- a line and the text that is left after it
pub line_left : (s : List ℕ) (p : Place) (line : List ℕ) (then : Option Place) (u : List ℕ) → Lists s p line then → Left s then u → Listed s p (line ++ u)
line_left s p line (Some q) u l rest = more l rest
line_left s p line None u l e = subst (λ (v : List ℕ). Listed s p (line ++ v)) (sym e) (subst (Listed s p) (sym (append-nil line)) (last l))

-- a line brings the listing nearer to its end
pub line_less : (s : List ℕ) (p : Place) (line : List ℕ) (then : Option Place) → Lists s p line then → lines_left s then < lines_left s (Some p)
line_less s p line (Some q) l = omega (arith, lists_less l)
line_less s p line None l = omega arith
