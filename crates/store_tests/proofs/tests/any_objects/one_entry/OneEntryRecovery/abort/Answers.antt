use Rattle.std.proofs.Common.{[], sym, ◌∙◌}
use Rattle.std.specs.Option.{option_to_list}
use Rattle.object_trait.specs.Examples.{of_one_entry}
use Rattle.store_tests.proofs.UpdateInPlace.{strike-unsettled, struck_one, kept_one}
use Rattle.store_tests.proofs.tests.any_objects.one_entry.OneEntryRecovery.abort.Goals as goal

pub returns-then-is_open_of : goal.returns-then-is_open_of
returns-then-is_open_of c =
    let object = c.args.self.now in
    rw (c.take_out.ensures.checked, c.take_out.ensures.empty)
    (strike-unsettled (of_one_entry object.checked.value object.entry) c.args.t 0 [] object.in_place (sym (struck_one c.args.t object.entry (sym c.is_open_of.ensures ∙ c.if-is_open_of.true))))

pub returns-else-is_open_of : goal.returns-else-is_open_of
returns-else-is_open_of c =
    let object = c.args.self.now in
    strike-unsettled (of_one_entry object.checked.value object.entry) c.args.t 0 (option_to_list object.entry) object.in_place
    (sym (kept_one c.args.t object.entry (sym c.is_open_of.ensures ∙ c.if-is_open_of.false)))
