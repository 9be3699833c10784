use Rattle.std.proofs.Common.{◌∙◌, ◌<◌, length, Some, refl, sym, ap, arith}
use Rattle.std.proofs.lemmas.Bool.Decides.{nat_tests}
use Rattle.std.proofs.lemmas.List.{length-map}
use Rattle.object_trait.specs.Object.{object_of}
use Rattle.store_laws.specs.Stored.{objects}
use Rattle.library_calls.specs.Calls.{found, no_call}
use Rattle.library_calls.proofs.Numbered.{call_of_type}
use Rattle.library_calls.proofs.call_numbers.call_number.Goals as goal

pub returns-in-Some-first_op-clause-found : goal.returns-in-Some-first_op-clause-found
returns-in-Some-first_op-clause-found c =
    found refl
    (call_of_type c.args.store.now c.args.x c.args.name.now c.in-Some.checked.now c.in-Some.ensures.checked ∙ sym c.first_op.ensures.exact ∙ c.in-Some-first_op.is ∙ ap Some (sym c.number_of.ensures))

pub returns-in-None-clause-found : goal.returns-in-None-clause-found
returns-in-None-clause-found c =
    let s = c.args.store.now in
    let inside : c.args.x < length (objects s) = grind (arith, nat_tests, c.in-Some.ensures.there, length-map s.types object_of) in
    no_call refl inside (call_of_type s c.args.x c.args.name.now c.in-Some.checked.now c.in-Some.ensures.checked ∙ sym c.first_op.ensures.exact ∙ c.in-None.is)
