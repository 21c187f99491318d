-- The listing of a file's first bytes is that of the file, where these are all of its bytes or too many for a listing already. Assumes nothing.
use Rattle.std.proofs.Common.{ℕ, ◌<◌, ◌≤◌, List, ◌++◌, length, length-append, Option, None, Some, IfSome, inl, inr, arith, subst, sym}
use Rattle.std.specs.Io.KnownBytes.{Consumes, IsAtEnd}
use Rattle.std.proofs.KnownBytes.{Consumes-whole}
use Rattle.std.proofs.lemmas.Bool.{cases_lt}
use Rattle.lines.specs.Listing.{longest, Listing, long, end, refused, answered, last, more}
use Rattle.print.specs.Printed.{Prints}

-- a file that is too long stays so with more bytes after it, and lists alike
long_alone : (s r : List ℕ) {t : List ℕ} → longest < length s → Listing s t → Listing (s ++ r) t
long_alone s r h (last (long q)) = last (long (omega (arith, h, length-append s r)))
long_alone s r h (last (end q e)) = absurd (omega (arith, h, q))
long_alone s r h (more (refused q o f) rest) = absurd (omega (arith, h, q))
long_alone s r h (more (answered x q o f p) rest) = absurd (omega (arith, h, q))

-- what is printed for the bytes that were read is printed for all bytes of the input
pub printed_whole : (a b : Option (List ℕ)) (s : List ℕ) (old new : Option (List ℕ)) → Consumes a b s → (length s ≤ longest → IsAtEnd b)
    → Prints s old new → IfSome a (λ all. Prints all old new)
printed_whole None b s old new read whole printed = tt
printed_whole (Some all) None s old new read whole printed = absurd read
printed_whole (Some all) (Some left) s old new read whole printed =
    elim (cases_lt longest (length s)) [
      | inl far ↦ (printed.0, subst (λ f. Listing f printed.0) (sym read) (long_alone s left far printed.1), printed.2)
      | inr near ↦ Consumes-whole (Some all) (Some left) s (λ f. Prints f old new) read (whole near) printed
    ]
