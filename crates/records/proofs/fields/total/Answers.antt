-- `records::fields::total` meets its contract: the total of the byte counts is std's sum. Assumes nothing.
use Rattle.std.proofs.Common.{rules, ◌≡◌, ◌<◌, ◌^◌, ◌∙◌, sum}
use Rattle.numbers.proofs.BySizes.{total_sum}
use Rattle.records.proofs.fields.total.Goals as goal

pub sum-requires-clause-fits : goal.sum-requires-clause-fits
sum-requires-clause-fits c =
    let fits : sum c.args.sizes.now < 2 ^ 64 = rw total_sum c.requires in
    search (rules, fits)

pub returns : goal.returns
returns c =
    let summed : c.sum.result ≡ sum c.args.sizes.now = search rules in
    summed ∙ total_sum c.args.sizes.now
