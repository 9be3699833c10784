use Rattle.std.proofs.Common.{◌≡◌, ap, sym, ◌∙◌, Some, length}
use Rattle.std.specs.Prelude.{slice_index_or}
use Rattle.std.proofs.lemmas.Bool.{ltb-true}
use Rattle.std.proofs.lemmas.Option.{slice_get-get_or}
use Rattle.std.proofs.lemmas.Slice.Eq.{bytes_eq-Decides}
use Rattle.script_text.proofs.names.Names.place_of.Goals as goal

pub returns-then-eq-clause-there : goal.returns-then-eq-clause-there
returns-then-eq-clause-there c =
    let same : c.as_bytes-name.result.now ≡ c.args.bytes.now = (bytes_eq-Decides c.as_bytes-name.result.now c.args.bytes.now).0 (sym c.eq.ensures ∙ c.if-eq.true) in
    let found = c.in_ok-get.ensures.lookup in
    let names = c.deref.result.now in
    let position = slice_index_or c.self.inside.positions c.from.result 0 in
    rw (← c.self.view_is, ← c.deref.ensures.value) (slice_get-get_or names position c.in_ok-get.field-0.now (ltb-true position (length names) (sym found.0)) ∙ ap Some (sym found.1 ∙ sym c.as_bytes-name.ensures.exact ∙ same))
