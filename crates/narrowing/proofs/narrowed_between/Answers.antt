-- `narrowing::narrowed_between` meets its contract. Assumes nothing.
use mathlib.Core.Path.{sym, ap, ◌∙◌}
use Prim.Native.Nat.{◌+◌}
use native.Mathlib.Omega.{arith}
use borrow.Author.Tests.{eqb-false}
use Rattle.bits.specs.Bit.{bit}
use Rattle.mask.specs.Mask.{low}
use Rattle.mask.proofs.ByParts.{low_formed}
use Rattle.significand.proofs.Range.{greatest_lt}
use Rattle.word.proofs.Bounds.{place_bits}
use Rattle.narrowing.specs.declared.Extent.{Extent}
use Rattle.narrowing.proofs.Ranges.{meets_extent, meets_between}
use Rattle.narrowing.proofs.narrowed_between.Goals as goal

pub returns : goal.returns
returns c =
    let F = c.args.format in
    let place = F.w + F.f in
    let bits = place_bits F c.requires in
    λ w v.
    let e = c.extent_of-extent.ensures w in
    let least = ap (λ (n : Extent). n.least) e in
    let most = ap (λ (n : Extent). n.most) e in
    let from = ap (λ (n : Extent). n.within.low) e in
    let past = ap (λ (n : Extent). n.within.past) e in
    let small = greatest_lt place (low place c.args.mask) (low_formed place c.args.mask w.inside) in
    let shares = c.shared.ensures (omega (arith, bits)) c.if-h-l.false (omega (arith, c.min-h.ensures, most, small)) in
    let fixed = eqb-false (bit c.args.mask.care place) 0 (sym c.free.ensures ∙ c.if-free.false) in
    record {
      formed = shares.formed _ (omega arith) w;
      more = shares.more;
      less = shares.less;
      kept = λ n hn met within.
          let a = meets_extent F c.requires c.args.mask w n met in
          let r = (meets_between F c.requires c.args.mask w fixed c.args.ends v n met).0 within in
          shares.kept n met
          (omega (arith, c.max-l.ensures, least, from, a.0, r.0))
          (omega (arith, c.min-h.ensures, c.saturating_sub.ensures, most, past, a.1, r.1));
    }
