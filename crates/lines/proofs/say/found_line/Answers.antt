-- `lines::say::found_line` meets its contract: each piece stands after the ones before it, and all have room. Assumes nothing.
use Prim.Native.Nat.{◌≤◌}
use native.Mathlib.Omega.{arith}
use Rattle.lines.specs.Text.{found_line}
use Rattle.lines.proofs.Texts.{length_word, row_most, grown_then, says_grown}
use Rattle.lines.proofs.say.found_line.Goals as goal

pub with_word-b-requires : goal.with_word-b-requires
with_word-b-requires c =
    let found-most : c.with_text-found.result.len ≤ 26 = omega (arith, c.with_text-found.ensures.len, c.with_decimal-number.ensures.1, c.empty.ensures.len) in
    let a-most : c.with_word-a.result.len ≤ 43 = omega (arith, c.with_word-a.ensures.len, length_word c.args.k c.args.x.a, c.requires, found-most) in
    (c.requires, record { whole = c.with_word-a.ensures.whole; enough = omega (arith, a-most) })

pub with_word-c-requires : goal.with_word-c-requires
with_word-c-requires c =
    let found-most : c.with_text-found.result.len ≤ 26 = omega (arith, c.with_text-found.ensures.len, c.with_decimal-number.ensures.1, c.empty.ensures.len) in
    let a-most : c.with_word-a.result.len ≤ 43 = omega (arith, c.with_word-a.ensures.len, length_word c.args.k c.args.x.a, c.requires, found-most) in
    let b-most : c.with_word-b.result.len ≤ 60 = omega (arith, c.with_word-b.ensures.len, length_word c.args.k c.args.x.b, c.requires, a-most) in
    (c.requires, record { whole = c.with_word-b.ensures.whole; enough = omega (arith, b-most) })

pub with_row-requires : goal.with_row-requires
with_row-requires c =
    let found-most : c.with_text-found.result.len ≤ 26 = omega (arith, c.with_text-found.ensures.len, c.with_decimal-number.ensures.1, c.empty.ensures.len) in
    let a-most : c.with_word-a.result.len ≤ 43 = omega (arith, c.with_word-a.ensures.len, length_word c.args.k c.args.x.a, c.requires, found-most) in
    let b-most : c.with_word-b.result.len ≤ 60 = omega (arith, c.with_word-b.ensures.len, length_word c.args.k c.args.x.b, c.requires, a-most) in
    let c-most : c.with_word-c.result.len ≤ 77 = omega (arith, c.with_word-c.ensures.len, length_word c.args.k c.args.x.c, c.requires, b-most) in
    (c.requires, record { whole = c.with_word-c.ensures.whole; enough = omega (arith, c-most) })

pub with_text-requires : goal.with_text-requires
with_text-requires c =
    let found-most : c.with_text-found.result.len ≤ 26 = omega (arith, c.with_text-found.ensures.len, c.with_decimal-number.ensures.1, c.empty.ensures.len) in
    let a-most : c.with_word-a.result.len ≤ 43 = omega (arith, c.with_word-a.ensures.len, length_word c.args.k c.args.x.a, c.requires, found-most) in
    let b-most : c.with_word-b.result.len ≤ 60 = omega (arith, c.with_word-b.ensures.len, length_word c.args.k c.args.x.b, c.requires, a-most) in
    let c-most : c.with_word-c.result.len ≤ 77 = omega (arith, c.with_word-c.ensures.len, length_word c.args.k c.args.x.c, c.requires, b-most) in
    let row-end : c.with_row.result.len ≤ 94 = omega (arith, c.with_row.ensures.len, row_most c.args.k c.args.x.row c.requires, c-most) in
    record { whole = c.with_row.ensures.whole; enough = omega (arith, row-end) }

pub returns : goal.returns
unfolding found_line
returns c =
    let found-most : c.with_text-found.result.len ≤ 26 = omega (arith, c.with_text-found.ensures.len, c.with_decimal-number.ensures.1, c.empty.ensures.len) in
    let a-most : c.with_word-a.result.len ≤ 43 = omega (arith, c.with_word-a.ensures.len, length_word c.args.k c.args.x.a, c.requires, found-most) in
    let b-most : c.with_word-b.result.len ≤ 60 = omega (arith, c.with_word-b.ensures.len, length_word c.args.k c.args.x.b, c.requires, a-most) in
    let c-most : c.with_word-c.result.len ≤ 77 = omega (arith, c.with_word-c.ensures.len, length_word c.args.k c.args.x.c, c.requires, b-most) in
    let row-end : c.with_row.result.len ≤ 94 = omega (arith, c.with_row.ensures.len, row_most c.args.k c.args.x.row c.requires, c-most) in
    let all =
    grown_then c.with_decimal-number.ensures.0
    (grown_then c.with_text-found.ensures
    (grown_then c.with_word-a.ensures (grown_then c.with_word-b.ensures (grown_then c.with_word-c.ensures (grown_then c.with_row.ensures c.with_text.ensures))))) in
    says_grown c.empty.ensures all (omega (arith, all.len, c.empty.ensures.len, c.with_text.ensures.len, row-end))
