-- `records::fields::read_numbers` meets its contract. After i turns the first i numbers are in place, and the others are what the bytes from
-- `at` on stand for. Assumes nothing.
use Rattle.std.proofs.Common.{ℕ, ◌+◌, List, ◌++◌, get_or, take, drop, sym, ap, ◌∙◌, arith}
use lib.ListN.{set}
use Rattle.numbers.specs.Numbers.{numbers}
use Rattle.numbers.proofs.Numbers.{within_room}
use Rattle.numbers.proofs.BySizes.{drop_all, placed_all, total_turn, read_turn}
use Rattle.records.proofs.fields.read_numbers.Goals as goal

pub overflow_add-at : goal.overflow_add-at
overflow_add-at c =
    omega (arith, total_turn c.args.sizes.now c.loop-i.i (omega arith), c.loop-i.invariant.0, c.requires.0)

pub loop-i-preserved : goal.loop-i-preserved
loop-i-preserved c =
    let ks : List ℕ = c.args.sizes.now in
    let s : List ℕ = c.args.s.now in
    let i : ℕ = c.loop-i.i in
    let k : ℕ = get_or ks i 0 in
    let more = total_turn ks i (omega arith) in (
      omega (arith, more, c.loop-i.invariant.0),
      ap (λ (x : ℕ). take (i + 1) (set c.loop-i.into i x) ++ numbers (drop (i + 1) ks) (drop (c.loop-i.at + k) s)) (c.number_within.ensures ∙ within_room s c.loop-i.at k (c.requires.2 i) (omega (arith, more, c.loop-i.invariant.0, c.requires.0)))
          ∙ read_turn ks i (omega arith) s c.loop-i.into c.loop-i.at (omega arith) ∙ c.loop-i.invariant.1,
    )

pub returns : goal.returns
unfolding numbers
returns c =
    let l = c.loop-i in
    let ks : List ℕ = c.args.sizes.now in
    let s : List ℕ = c.args.s.now in
    sym (placed_all l.into (numbers (drop l.i ks) (drop l.at s)) l.i (omega arith)
    (ap (λ (js : List ℕ). numbers js (drop l.at s)) (drop_all ks l.i (omega arith)))) ∙ l.invariant.1
