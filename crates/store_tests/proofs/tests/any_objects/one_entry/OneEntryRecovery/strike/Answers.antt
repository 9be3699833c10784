use Rattle.std.proofs.Common.{◌≡◌, ◌-◌, length, sym, arith}
use Rattle.std.specs.Option.{option_to_list}
use Rattle.object_trait.specs.Meaning.{is_open_of, open_of}
use Rattle.object_trait.specs.Examples.{of_one_entry}
use Rattle.object_trait.proofs.Striking.{keep_first-all}
use Rattle.store_tests.proofs.UpdateInPlace.{strike-unsettled}
use Rattle.store_tests.proofs.tests.any_objects.one_entry.OneEntryRecovery.strike.Goals as goal

pub returns-else-m-gt0 : goal.returns-else-m-gt0
returns-else-m-gt0 c =
    let object = c.args.self.now in
    let log = option_to_list object.entry in
    let count = length (open_of c.args.t log) in
    let none : count - c.args.m ≡ count = omega arith in
    rw none (strike-unsettled (of_one_entry object.checked.value object.entry) c.args.t count log object.in_place (sym (keep_first-all (is_open_of c.args.t) log)))
