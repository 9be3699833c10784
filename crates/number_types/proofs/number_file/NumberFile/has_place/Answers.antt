use Rattle.std.proofs.Common.{◌/◌, ◌%◌, ◌<◌, List, length, sym, ap, ◌∙◌, arith}
use Rattle.std.proofs.lemmas.Bool.{false≢true, eq-eqb, ltb-true, not-true, not_from_false, false_from_ne_true}
use Rattle.number_types.specs.declared.number_call.NumberCall.{NumberCall}
use Rattle.number_types.proofs.LinePlaces.{place_has, place_from}
use Rattle.number_types.proofs.number_file.NumberFile.has_place.Goals as goal

pub returns-then-place-eq0 : goal.returns-then-place-eq0
returns-then-place-eq0 c =
    let count = ap (λ (calls : List NumberCall). length calls) c.calls.ensures.exact in
    let below : c.args.place / 2 < length c.args.self.now.calls = omega (arith, count) in
    (λ _. place_has c.args.self.now c.args.place c.calls.ensures.number (omega arith) below (λ _. c.if-place-eq0.true), λ _. eq-eqb (c.args.place % 2) 0 c.if-place-eq0.true)

pub returns-else-place-eq0 : goal.returns-else-place-eq0
returns-else-place-eq0 c =
    let count = ap (λ (calls : List NumberCall). length calls) c.calls.ensures.exact in
    let below : c.args.place / 2 < length c.args.self.now.calls = omega (arith, count) in (
      λ plain. place_has c.args.self.now c.args.place c.calls.ensures.number (omega arith) below (λ value. absurd (false≢true (sym (not-true c.reads_value.result plain) ∙ c.reads_value.ensures.1 value))),
      λ has. not_from_false c.reads_value.result (false_from_ne_true c.reads_value.result (λ reads. c.if-place-eq0.false ((place_from c.args.self.now c.args.place c.calls.ensures.number has).1 (c.reads_value.ensures.0 reads)))),
    )

pub returns-else-from-calls : goal.returns-else-from-calls
returns-else-from-calls c =
    let count = ap (λ (calls : List NumberCall). length calls) c.calls.ensures.exact in (
      λ inside. let below = ltb-true c.from.result (length c.calls.result.now) inside in absurd (omega (arith, below)),
      λ has. let below = (place_from c.args.self.now c.args.place c.calls.ensures.number has).0 in absurd (omega (arith, below, count)),
    )
