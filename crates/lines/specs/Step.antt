-- What a step of the listing replies: a line that can be printed, and what comes after it (`Listing`). Assumes nothing.
use Rattle.generator.specs.declared.Case.{Case}
use Rattle.format.specs.declared.cause.Cause.{Cause}
use Rattle.std.specs.Prelude.{◌≡◌, ℕ, ◌≤◌, List, length, Some, Result}
use Rattle.layout.specs.declared.Entry.{Entry}
use Rattle.generator.specs.Promise.{Replied}
use Rattle.lines.specs.Text.{text, Says, reply_line}
use Rattle.lines.specs.Listing.{Lists, stops}
use Rattle.lines.specs.declared.Place.{Place}
use Rattle.lines.specs.declared.Step.{Step}

-- the step's line and what comes after it are those of the listing
pub record Steps (s : List ℕ) (p : Place) (r : Step) : Type 0 where
  pub most : r.line.len ≤ length r.line.bytes
  pub lists : Lists s p (text r.line) r.then

-- the step says the generator's reply to the entry as line n and goes on at the offset `next`
pub record Answers (e : Entry) (n next : ℕ) (r : Step) : Type 0 where
  pub reply : Result Case Cause
  pub replied : Replied e.job e.r1 e.r2 reply
  pub says : Says r.line (reply_line e.job.setting.format n reply)
  pub then : r.then ≡ Some (record { at = next; lines = n; stopped = stops reply })
