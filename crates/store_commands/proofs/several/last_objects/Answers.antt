use Rattle.std.proofs.Common.{◌∙◌, ◌<◌, ◌-◌, Some, length, sym, ap, arith}
use Rattle.std.proofs.lemmas.Bool.{ltb-true}
use Rattle.std.proofs.lemmas.Option.{slice_get-get_or}
use Rattle.store_commands.proofs.Growing.{end_objects}
use Rattle.store_commands.proofs.several.last_objects.Goals as goal

pub returns-in-Some : goal.returns-in-Some
returns-in-Some c =
    let later = c.args.later.now in
    let last = c.in-Some.last.now in
    let item = c.in-Some.ensures.item in
    let some = ltb-true 0 (length later) (sym item.0) in
    let low : length later - 1 < length later = omega (arith, some) in
    c.deref.ensures.value ∙ end_objects c.args.first.now later last (slice_get-get_or later (length later - 1) last low ∙ ap Some (sym item.1))
