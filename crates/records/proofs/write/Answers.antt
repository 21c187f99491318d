-- `records::write` meets its contract: each return is one of the tests of `write_cause`, in its order. Assumes nothing.
use Rattle.std.proofs.Common.{rules, ◌≡◌, ◌∙◌, sym, ap, ℕ, List, length, leb-true}
use Rattle.std.specs.Prelude.{Ok, Err, leb}
use Rattle.format.specs.declared.cause.Cause.TheVariants as cause
use Rattle.format.specs.Cause.{clear, unless}
use Rattle.format.proofs.Laws.{unless_none}
use Rattle.layout.specs.Fields.{word_bytes, entry_word, entry_map}
use Rattle.layout.specs.declared.Entry.{Entry}
use Rattle.records.specs.Record.{record_cause, record_bytes, record_length}
use Rattle.records.proofs.Causes.{record_length_lem}
use Rattle.records.proofs.Replies.{write_refused, write_short, write_whole}
use Rattle.records.proofs.write.Goals as goal

pub returns-in_err-entry_cause-clause-value : goal.returns-in_err-entry_cause-clause-value
returns-in_err-entry_cause-clause-value c =
    let k = c.in_err-entry_cause.field-0.0 in
    let gives : c.from_residual.result ≡ Err k = search rules in
    gives ∙ (write_refused c.args.entry c.args.buffer.now k (sym c.entry_cause.ensures ∙ c.in_err-entry_cause.was)).0

pub returns-in_err-entry_cause-clause-buffer_after : goal.returns-in_err-entry_cause-clause-buffer_after
returns-in_err-entry_cause-clause-buffer_after c =
    (write_refused c.args.entry c.args.buffer.now c.in_err-entry_cause.field-0.0 (sym c.entry_cause.ensures ∙ c.in_err-entry_cause.was)).1

-- the count that is held against the buffer
counted : (e : Entry) (m n : ℕ) → record_cause e ≡ clear → m ≡ entry_map e → n ≡ record_length (word_bytes e.job.setting.format) m → n ≡ length (record_bytes e)
counted e m n ok map count = count ∙ ap (record_length (entry_word e)) map ∙ record_length_lem e ok

pub returns-in_err-unless-clause-value : goal.returns-in_err-unless-clause-value
returns-in_err-unless-clause-value c =
    let e = c.args.entry in
    let s : List ℕ = c.args.buffer.now in
    let ok : record_cause e ≡ clear = sym c.entry_cause.ensures ∙ c.in_ok-entry_cause.was in
    let n = counted e c.entry_map-map.result c.record_length-n.result ok c.entry_map-map.ensures c.record_length-n.ensures in
    let tests : unless (leb (length (record_bytes e)) (length s)) cause.Buffer ≡ Err c.in_err-unless.field-0.0 =
    ap (λ (k : ℕ). unless (leb k (length s)) cause.Buffer) (sym n) ∙ sym c.unless.ensures ∙ c.in_err-unless.was in
    let gives : c.from_residual-in_err-unless.result ≡ Err c.in_err-unless.field-0.0 = search rules in
    gives ∙ (write_short e s c.in_err-unless.field-0.0 ok tests).0

pub returns-in_err-unless-clause-buffer_after : goal.returns-in_err-unless-clause-buffer_after
returns-in_err-unless-clause-buffer_after c =
    let e = c.args.entry in
    let s : List ℕ = c.args.buffer.now in
    let ok : record_cause e ≡ clear = sym c.entry_cause.ensures ∙ c.in_ok-entry_cause.was in
    let n = counted e c.entry_map-map.result c.record_length-n.result ok c.entry_map-map.ensures c.record_length-n.ensures in
    let tests : unless (leb (length (record_bytes e)) (length s)) cause.Buffer ≡ Err c.in_err-unless.field-0.0 =
    ap (λ (k : ℕ). unless (leb k (length s)) cause.Buffer) (sym n) ∙ sym c.unless.ensures ∙ c.in_err-unless.was in
    (write_short e s c.in_err-unless.field-0.0 ok tests).1

pub put_record-requires : goal.put_record-requires
put_record-requires c =
    let e = c.args.entry in
    let s : List ℕ = c.args.buffer.now in
    let ok : record_cause e ≡ clear = sym c.entry_cause.ensures ∙ c.in_ok-entry_cause.was in
    let n = counted e c.entry_map-map.result c.record_length-n.result ok c.entry_map-map.ensures c.record_length-n.ensures in
    let tests : unless (leb (length (record_bytes e)) (length s)) cause.Buffer ≡ clear =
    ap (λ (k : ℕ). unless (leb k (length s)) cause.Buffer) (sym n) ∙ sym c.unless.ensures ∙ c.in_ok-unless.was in
    (ok, c.entry_map-map.ensures, leb-true _ _ ((unless_none _ cause.Buffer).0 tests))

pub returns-clause-value : goal.returns-clause-value
returns-clause-value c =
    let e = c.args.entry in
    let s : List ℕ = c.args.buffer.now in
    let ok : record_cause e ≡ clear = sym c.entry_cause.ensures ∙ c.in_ok-entry_cause.was in
    let n = counted e c.entry_map-map.result c.record_length-n.result ok c.entry_map-map.ensures c.record_length-n.ensures in
    let tests : unless (leb (length (record_bytes e)) (length s)) cause.Buffer ≡ clear =
    ap (λ (k : ℕ). unless (leb k (length s)) cause.Buffer) (sym n) ∙ sym c.unless.ensures ∙ c.in_ok-unless.was in
    ap Ok n ∙ (write_whole e s ok (leb-true _ _ ((unless_none _ cause.Buffer).0 tests))).0

pub returns-clause-buffer_after : goal.returns-clause-buffer_after
returns-clause-buffer_after c =
    let e = c.args.entry in
    let s : List ℕ = c.args.buffer.now in
    let ok : record_cause e ≡ clear = sym c.entry_cause.ensures ∙ c.in_ok-entry_cause.was in
    let n = counted e c.entry_map-map.result c.record_length-n.result ok c.entry_map-map.ensures c.record_length-n.ensures in
    let tests : unless (leb (length (record_bytes e)) (length s)) cause.Buffer ≡ clear =
    ap (λ (k : ℕ). unless (leb k (length s)) cause.Buffer) (sym n) ∙ sym c.unless.ensures ∙ c.in_ok-unless.was in
    c.put_record.ensures ∙ (write_whole e s ok (leb-true _ _ ((unless_none _ cause.Buffer).0 tests))).1
