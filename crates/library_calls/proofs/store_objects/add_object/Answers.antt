use Rattle.std.proofs.Common.{◌≡◌, ◌∙◌, ◌++◌, ◌∷◌, [], List, map, Some, sym, ap, inl, inr}
use Rattle.std.proofs.lemmas.Option.{same_Some}
use Rattle.object_trait.specs.Meaning.{Meaning}
use Rattle.objects.specs.Object.{meaning_of}
use Rattle.objects.specs.declared.object.Object.{Object}
use Rattle.library_calls.specs.Codes.{number}
use Rattle.library_calls.specs.Holding.{objects_at, type_at}
use Rattle.library_calls.specs.Making.{added, memory_refused}
use Rattle.library_calls.specs.declared.held.Held.{Held}
use Rattle.library_calls.proofs.store_objects.add_object.Goals as goal

pub returns-in-OfType-of-clause-adds : goal.returns-in-OfType-of-clause-adds
returns-in-OfType-of-clause-adds c = λ ms c' e f.
    let is : map meaning_of c.in-OfObjects.objects.items ≡ ms =
    same_Some (map meaning_of c.in-OfObjects.objects.items) ms (sym (ap (λ (h : Held). objects_at (Some h)) c.in-OfObjects.is) ∙ e) in
    let its : c.in-OfType-of.checked.value ≡ c' = same_Some c.in-OfType-of.checked.value c' (sym (ap (λ (h : Held). type_at (Some h)) c.in-OfType-of.is) ∙ f) in
    elim c.push_object.ensures [
      | inl done ↦ added (done.1) (ap number done.0) (done.2) (done.3 ∙ its) (ap Some (done.4 ∙ ap (λ (q : List Meaning). q ++ (done.1) ∷ []) is))
      | inr none ↦ memory_refused (ap number none.0) (ap (λ (xs : List Object). Some (map meaning_of xs)) (none.1) ∙ ap Some is)
    ]
