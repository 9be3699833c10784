use Rattle.std.proofs.Common.{◌≡◌, ◌∙◌, List, map, Some, sym, ap, subst}
use Rattle.std.proofs.lemmas.Option.{same_Some}
use Rattle.object_trait.specs.Meaning.{Meaning}
use Rattle.objects.specs.Object.{meaning_of}
use Rattle.objects.specs.declared.object.Object.{Object}
use Rattle.type_table.specs.Limits.{longest_history}
use Rattle.store.specs.Ends.{RefusesNew}
use Rattle.library_calls.specs.Codes.{number}
use Rattle.library_calls.specs.Holding.{objects_at}
use Rattle.library_calls.specs.Making.{not_made}
use Rattle.library_calls.specs.declared.held.Held.{Held}
use Rattle.library_calls.proofs.held.Held.made.Goals as goal

pub returns-in-Err-clause-makes : goal.returns-in-Err-clause-makes
returns-in-Err-clause-makes c = λ ms e.
    let is : map meaning_of c.in-OfObjects.objects.items ≡ ms =
    same_Some (map meaning_of c.in-OfObjects.objects.items) ms (sym (ap (λ (h : Held). objects_at (Some h)) c.in-OfObjects.is) ∙ e) in
    not_made c.in-Err.refusal (ap number c.new_code.ensures) (subst (λ (q : List Meaning). RefusesNew longest_history q c.args.limits c.in-Err.refusal) is c.in-Err.ensures.refused)
    (ap (λ (xs : List Object). Some (map meaning_of xs)) c.in-Err.ensures.back ∙ ap Some is)
