use Rattle.std.proofs.Common.{[], ◌∷◌, refl, ap}
use Rattle.std.specs.Option.{option_to_list}
use Rattle.object_trait.specs.Examples.{of_one_entry}
use Rattle.store_tests.proofs.UpdateInPlace.{commit-unsettled}
use Rattle.store_tests.proofs.tests.any_objects.one_entry.OneEntryRecovery.commit.Goals as goal

pub returns-in-Some : goal.returns-in-Some
returns-in-Some c =
    let object = c.args.self.now in
    commit-unsettled (of_one_entry object.checked.value object.entry) c.args.t (c.marked.result ∷ []) object.in_place (rw c.in-Some.is (ap (λ e. e ∷ []) c.marked.ensures))

pub returns-in_default : goal.returns-in_default
returns-in_default c =
    let object = c.args.self.now in
    commit-unsettled (of_one_entry object.checked.value object.entry) c.args.t (option_to_list object.entry) object.in_place (rw c.in_default.is refl)
