use Rattle.std.proofs.Common.{◌∙◌, ◌∷◌, [], map, ap, inl, inr}
use Rattle.std.proofs.lemmas.List.{map-append}
use Rattle.objects.specs.Object.{meaning_of}
use Rattle.library_calls.proofs.store_objects.push_object.Goals.{in-Ok-push, in-Err}
use Rattle.library_calls.proofs.store_objects.push_object.Goals as goal

pub returns : goal.returns
returns c = elim c.match-push.branch [
  | in-Ok-push w ↦
      inl (
        w.result-is,
        meaning_of c.new.result,
        c.new.ensures.fresh,
        c.new.ensures.checked ∙ c.in-Ok.ensures.cases,
        ap (map meaning_of) w.in-Ok-push.ensures.items ∙ map-append meaning_of c.args.objects.now.items (c.new.result ∷ []),
      )
  | in-Err w ↦ inr (w.result-is, w.in-Err.ensures.items)
]
