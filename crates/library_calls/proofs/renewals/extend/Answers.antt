use Rattle.std.proofs.Common.{◌≡◌, ◌∙◌, List, map, Some, sym, ap, subst}
use Rattle.std.proofs.lemmas.Option.{same_Some}
use Rattle.object_trait.specs.Meaning.{Meaning}
use Rattle.objects.specs.Object.{meaning_of}
use Rattle.library_calls.specs.Codes.{number}
use Rattle.library_calls.specs.Epochs.{IsExtension}
use Rattle.library_calls.specs.Holding.{store_at}
use Rattle.library_calls.specs.declared.held.Held.{Held}
use Rattle.library_calls.proofs.renewals.extend.Goals as goal

pub returns-clause-extends : goal.returns-clause-extends
returns-clause-extends c = λ s ms is those.
    let same : map meaning_of c.in-Some.objects.items ≡ ms = same_Some (map meaning_of c.in-Some.objects.items) ms (sym c.in-Some.ensures.0 ∙ those) in (
      subst (λ (q : List Meaning). IsExtension s q (number c.extended-now.result.1) (Some c.extended-now.result.0)) same
          (c.extended-now.ensures.extends s (ap (λ (h : Held). store_at (Some h)) c.replace.ensures.value ∙ is)),
      c.in-Some.ensures.1,
    )
