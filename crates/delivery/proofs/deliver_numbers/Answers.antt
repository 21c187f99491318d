-- `delivery::deliver_numbers` meets its contract: the test is whether the numbers' bytes find room. Assumes nothing.
use Rattle.std.proofs.Common.{◌∙◌, arith}
use Rattle.delivery.proofs.Bytes.{bytes_length, delivered_none, delivered_all}
use Rattle.delivery.proofs.deliver_numbers.Goals as goal

pub returns-then-out-given : goal.returns-then-out-given
returns-then-out-given c =
    let ns = c.args.given.now in
    rw c.number.ensures (delivered_none ns c.args.out.now (omega (arith, bytes_length ns)))

pub returns : goal.returns
returns c =
    let ns = c.args.given.now in
    let h = delivered_all ns c.args.out.now (omega (arith, bytes_length ns)) in
    record { number = h.number; buffer = c.put_numbers.ensures ∙ h.buffer }
