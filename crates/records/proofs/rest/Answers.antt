-- `records::rest` meets its contract: a job's record lies in the slice, and at the end the slice is empty. Assumes nothing.
use Rattle.std.proofs.Common.{rules, ◌≡◌, sym, ap, ◌∙◌, ℕ, ◌-◌, ◌≤◌, List, length, drop}
use native.Mathlib.Nat.{le_of_eq}
use native.Mathlib.Omega.{arith}
use lib.ListN.{length-drop}
use lib.Seq.{take_all}
use Rattle.std.specs.Prelude.{Some, None, Ok, Err}
use Rattle.layout.specs.declared.Entry.{Entry}
use Rattle.records.specs.Record.{First, first_in, rest_after, rest}
use Rattle.records.proofs.Causes.{first_job, first_end}
use Rattle.records.proofs.rest.Goals as goal

-- what is read lies in the slice
within : (s : List ℕ) (e : Entry) (n : ℕ) → first_in s ≡ Ok (Some (e, n)) → n ≤ length s
within s e n reads = let taken = first_job s e n reads in omega (arith, taken.readable.whole, taken.count)

pub slice_bounds-result-count : goal.slice_bounds-result-count
slice_bounds-result-count c = within c.args.s.now c.in-Ok-Some.field-0-0-0 c.in-Ok-Some.n (search rules)

pub slice_bounds-result-start : goal.slice_bounds-result-start
slice_bounds-result-start c = within c.args.s.now c.in-Ok-Some.field-0-0-0 c.in-Ok-Some.n (search rules)

pub returns-in-Ok-Some : goal.returns-in-Ok-Some
unfolding rest
returns-in-Ok-Some c =
    let s : List ℕ = c.args.s.now in
    let n : ℕ = c.in-Ok-Some.n in
    take_all (length s - n) (drop n s) (le_of_eq (length-drop n s)) ∙ sym (ap (λ (r : First). rest_after r s) (let job : first_in s ≡ Ok (Some (c.in-Ok-Some.field-0-0-0, n)) = search rules in job))

pub returns-in-Ok-None : goal.returns-in-Ok-None
unfolding rest
returns-in-Ok-None c =
    let s : List ℕ = c.args.s.now in
    let end : first_in s ≡ Ok None = search rules in
    first_end s end ∙ sym (ap (λ (r : First). rest_after r s) end)

pub returns-in-Err : goal.returns-in-Err
unfolding rest
returns-in-Err c =
    let refused : first_in c.args.s.now ≡ Err c.in-Err.field-0 = search rules in
    sym (ap (λ (r : First). rest_after r c.args.s.now) refused)
