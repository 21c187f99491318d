-- Every file has a listing: at each place some line comes next, and each line brings the end nearer. With `listed_unique`, it has exactly
-- one. Assumes nothing.
use Rattle.layout.specs.declared.Entry.{Entry}
use Rattle.std.specs.Prelude.{Option, Some, None, Result, Ok, Err}
use Rattle.format.specs.declared.cause.Cause.{Cause}
use mathlib.Core.Path.{◌≡◌, refl}
use mathlib.Core.Bool.{Bool, true, false}
use mathlib.Core.Logic.{inl, inr}
use mathlib.Core.List.{List, ◌++◌}
use Prim.Native.Nat.{ℕ, zero, suc, ◌<◌}
use native.Mathlib.Decide.{dec_lt}
use native.Mathlib.Omega.{arith}
use lib.ListN.{length, drop}
use Rattle.records.specs.Record.{first_in}
use Rattle.generator.proofs.Existence.{reply_exists}
use Rattle.lines.specs.Listing.{longest, Lists, long, end, refused, answered, Listed, last, more, start, Listing}
use Rattle.lines.specs.declared.Place.{Place}
use Rattle.lines.proofs.Listings.{left, lists_less, listed_unique}

module _ (s : List ℕ) where
  -- some line comes next
  line_exists : (p : Place) → (t : List ℕ) × (x : Option Place) × Lists s p t x
  line_exists p = go (dec_lt longest (length s))
    where
      read : length s < suc longest → p.stopped ≡ false → p.lines < suc longest → (f : Result (Option (Entry × ℕ)) Cause) → first_in (drop p.at s) ≡ f → (t : List ℕ) × (x : Option Place) × Lists s p t x
      read short on few (Ok None) e = (_, _, end (omega arith) (inr (inr e)))
      read short on few (Err k) e = (_, _, refused (omega arith) (record { reading = on; most = omega arith }) e)
      read short on few (Ok (Some (d, n))) e =
          let r = reply_exists d.job d.r1 d.r2 in
          (_, _, answered r.0 (omega arith) (record { reading = on; most = omega arith }) e r.1)

      goes : length s < suc longest → (b : Bool) → p.stopped ≡ b → Dec (longest < p.lines) → (t : List ℕ) × (x : Option Place) × Lists s p t x
      goes short true e d = (_, _, end (omega arith) (inl e))
      goes short false e (yes many) = (_, _, end (omega arith) (inr (inl many)))
      goes short false e (no few) = read short e (omega arith) (first_in (drop p.at s)) refl

      go : Dec (longest < length s) → (t : List ℕ) × (x : Option Place) × Lists s p t x
      go (yes h) = (_, _, long h)
      go (no h) = goes (omega arith) p.stopped refl (dec_lt longest p.lines)

  -- by induction on what is left at most
  listed_exists : (n : ℕ) (p : Place) → left s p < n → (t : List ℕ) × Listed s p t
  listed_exists zero p h = absurd (omega arith)
  listed_exists (suc n) p h =
      let w = line_exists p in
      go (listed_exists n) w.0 w.1 w.2
    where
      go : ((q : Place) → left s q < n → (u : List ℕ) × Listed s q u) → (t : List ℕ) (x : Option Place) → Lists s p t x → (u : List ℕ) × Listed s p u
      go on t None l = (t, last l)
      go on t (Some q) l =
          let rest = on q (omega (arith, lists_less l)) in
          (t ++ rest.0, more l rest.1)

  -- a file has a listing, and only one
  pub listing_exists : (t : List ℕ) × Listing s t × ((u : List ℕ) → Listing s u → u ≡ t)
  listing_exists =
      let w = listed_exists (suc (left s start)) start (omega arith) in
      (w.0, w.1, λ u l. listed_unique l w.1)
