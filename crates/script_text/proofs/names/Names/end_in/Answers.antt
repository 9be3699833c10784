use Rattle.std.proofs.Common.{◌≡◌, ◌+◌, ◌∷◌, ◌++◌, length, take, drop, ap, sym, ◌∙◌, Some}
use Rattle.std.proofs.lemmas.Bool.{ltb-true}
use Rattle.std.proofs.lemmas.Option.{slice_get-get_or}
use Rattle.std.proofs.lemmas.Slice.Eq.{bytes_eq-Decides}
use Rattle.line_text.proofs.PlainLines.{front_at}
use Rattle.script_text.proofs.names.Names.end_in.Goals as goal

pub returns-then-eq-clause-begins : goal.returns-then-eq-clause-begins
returns-then-eq-clause-begins c =
    let text = c.args.text.now in
    let name = c.as_bytes-name.result.now in
    let count = length name in
    let found = c.in_ok-get.ensures.lookup in
    let names = c.deref.result.now in
    let position = c.args.position in
    let same : take count text ≡ name = (bytes_eq-Decides (take count text) name).0 (sym c.eq.ensures ∙ c.if-eq.true) in
    record {
      word = name;
      there = rw (← c.self.view_is, ← c.deref.ensures.value) (slice_get-get_or names position c.in_ok-get.field-0.now (ltb-true position (length names) (sym found.0)) ∙ ap Some (sym found.1 ∙ sym c.as_bytes-name.ensures.exact));
      is_name = rw c.as_bytes-name.ensures.exact c.as_bytes-name.ensures.name;
      front = front_at text count 10 c.if-end-text.true c.if-text-end-eq10.true ∙ ap (λ word. word ++ 10 ∷ drop (count + 1) text) same;
    }
