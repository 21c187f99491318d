-- `listing::list`: where the buffer is not full the input was read to its end, and else the file is too long. Assumes nothing.
use Rattle.std.proofs.Common.{take, length-take-le, arith}
use Rattle.std.proofs.lemmas.Result.{on_ok_weaker}
use Rattle.print.proofs.Whole.{printed_whole}
use Rattle.listing.proofs.list.Goals as goal

pub returns : goal.returns
returns g c =
    let said = c.in_ok-n.ensures in
    let n = c.in_ok-n.n in
    let file = c.read_full.new.buffer in
    let count = length-take-le n file said.bound in
    let R = g.R.Read in
    let W = g.W.Write in
    on_ok_weaker c.print_listing.result
    (printed_whole (R.remaining c.args.input.now) (R.remaining c.read_full.new.input) (take n file) (W.contents c.args.out.now) (W.contents c.print_listing.new.out)
    said.bytes (λ short. said.end (omega (arith, short, count, c.read_full.auto.buffer))))
    c.print_listing.ensures
