-- `records::read` meets its contract: the tests stand in the order of `read_cause`, the first two before the fields are read. Assumes nothing.
use Rattle.std.proofs.Common.{rules, ◌≡◌, sym, ap, ap₂, ◌∙◌, ℕ, ◌^◌, ◌<◌, List, length, eqb-true, eq-eqb, Bool, false}
use mathlib.Core.Bool.{false≢true}
use mathlib.Core.Path.{subst}
use Rattle.std.specs.Prelude.{eqb, ltb, leb, Err}
use Rattle.format.specs.declared.Format.{Format}
use Rattle.format.specs.declared.cause.Cause.{Cause}
use Rattle.format.specs.declared.cause.Cause.TheVariants as cause
use Rattle.format.specs.Cause.{Check, clear, first, unless}
use Rattle.layout.specs.Fields.{word_bytes, map_width, entry_map}
use Rattle.records.specs.Record.{map_bytes, record_cause, map_in, record_length, entry_in, read_reply, first_in}
use Rattle.records.proofs.Causes.{word_in, first_none_left, early_refused, late_with, early_none}
use Rattle.records.proofs.RoundTrip.{entry_default}
use Rattle.records.proofs.read.Goals as goal

some_left : (s : List ℕ) {t : Bool} → t ≡ eqb (length s) 0 → t ≡ false → length s ≡ 0 → ⊥
some_left s test is e = false≢true (sym is ∙ test ∙ eq-eqb (length s) 0 e)

pub returns-then-is_empty : goal.returns-then-is_empty
returns-then-is_empty c = sym (first_none_left c.args.s.now (eqb-true (length c.args.s.now) 0 (sym c.is_empty.ensures ∙ c.if-is_empty.true)))

pub returns-in_err-unless : goal.returns-in_err-unless
unfolding first_in
returns-in_err-unless c =
    let s : List ℕ = c.args.s.now in
    let k : Cause = c.in_err-unless.field-0.0 in
    let gives : c.from_residual.result ≡ Err k = search rules in
    let tests : unless (ltb (map_in s) (2 ^ map_width)) cause.MapBits ≡ Err k = ap (λ (m : ℕ). unless (ltb m (2 ^ map_width)) cause.MapBits) (sym c.map_in-map.ensures.0) ∙ sym c.unless.ensures ∙ c.in_err-unless.was in
    gives ∙ sym (early_refused map_width (word_in s) s (some_left s c.is_empty.ensures c.if-is_empty.false) k
    (ap (λ (j : Check). first j (unless (leb (record_length (word_in s) (map_in s)) (length s)) cause.Cut)) tests))

pub returns-in_err-unless-2 : goal.returns-in_err-unless-2
unfolding first_in
returns-in_err-unless-2 c =
    let s : List ℕ = c.args.s.now in
    let k : Cause = c.in_err-unless-2.field-0.0 in
    let gives : c.from_residual-in_err-unless-2.result ≡ Err k = search rules in
    let clears : unless (ltb (map_in s) (2 ^ map_width)) cause.MapBits ≡ clear = ap (λ (m : ℕ). unless (ltb m (2 ^ map_width)) cause.MapBits) (sym c.map_in-map.ensures.0) ∙ sym c.unless.ensures ∙ c.in_ok-unless.was in
    let count : c.record_length-n.result ≡ record_length (word_in s) (map_in s) =
    c.record_length-n.ensures ∙ ap₂ (λ (F : Format) (m : ℕ). record_length (word_bytes F) m) c.format_in-format.ensures c.map_in-map.ensures.0 in
    let tests : unless (leb (record_length (word_in s) (map_in s)) (length s)) cause.Cut ≡ Err k = ap (λ (n : ℕ). unless (leb n (length s)) cause.Cut) (sym count) ∙ sym c.unless-2.ensures ∙ c.in_err-unless-2.was in
    gives ∙ sym (early_refused map_width (word_in s) s (some_left s c.is_empty.ensures c.if-is_empty.false) k (ap₂ first clears tests))

pub entry_in-requires : goal.entry_in-requires
entry_in-requires c =
    let s : List ℕ = c.args.s.now in
    let map = c.map_in-map.ensures.0 in
    let clears : unless (ltb (map_in s) (2 ^ map_width)) cause.MapBits ≡ clear = ap (λ (m : ℕ). unless (ltb m (2 ^ map_width)) cause.MapBits) (sym map) ∙ sym c.unless.ensures ∙ c.in_ok-unless.was in
    let count : c.record_length-n.result ≡ record_length (word_in s) (map_in s) =
    c.record_length-n.ensures ∙ ap₂ (λ (F : Format) (m : ℕ). record_length (word_bytes F) m) c.format_in-format.ensures map in
    let whole : unless (leb (record_length (word_in s) (map_in s)) (length s)) cause.Cut ≡ clear = ap (λ (n : ℕ). unless (leb n (length s)) cause.Cut) (sym count) ∙ sym c.unless-2.ensures ∙ c.in_ok-unless-2.was in
    (sym map, sym c.format_in-format.ensures, rw (c.format_in-format.ensures, map) (early_none map_width (word_in s) s (ap₂ first clears whole)).1)

pub returns : goal.returns
unfolding first_in
returns c =
    let s : List ℕ = c.args.s.now in
    let map = c.map_in-map.ensures in
    let clears : unless (ltb (map_in s) (2 ^ map_width)) cause.MapBits ≡ clear = ap (λ (m : ℕ). unless (ltb m (2 ^ map_width)) cause.MapBits) (sym map.0) ∙ sym c.unless.ensures ∙ c.in_ok-unless.was in
    let count : c.record_length-n.result ≡ record_length (word_in s) (map_in s) =
    c.record_length-n.ensures ∙ ap₂ (λ (F : Format) (m : ℕ). record_length (word_bytes F) m) c.format_in-format.ensures map.0 in
    let whole : unless (leb (record_length (word_in s) (map_in s)) (length s)) cause.Cut ≡ clear = ap (λ (n : ℕ). unless (leb n (length s)) cause.Cut) (sym count) ∙ sym c.unless-2.ensures ∙ c.in_ok-unless-2.was in
    let early = ap₂ first clears whole in
    let entry = c.entry_in.ensures ∙ ap (λ (F : Format). entry_in (word_bytes F) s) c.format_in-format.ensures in
    c.read_reply.ensures
    ∙ (λ i. let e = entry i in read_reply (first (record_cause e) (unless (eqb (entry_map e) (map.0 i)) cause.DefaultField)) e (count i))
    ∙ ap (λ (k : Check). read_reply k (entry_in (word_in s) s) (record_length (word_in s) (map_in s)))
    (entry_default s (early_none map_width (word_in s) s early).0 (subst (λ (m : ℕ). m < 256 ^ map_bytes m) map.0 map.1))
    ∙ sym (late_with map_width (word_in s) s (some_left s c.is_empty.ensures c.if-is_empty.false) early)
