use Rattle.std.proofs.Common.{◌∙◌, ap, map, subst, sym}
use Rattle.object_types.specs.Types.{value_of}
use Rattle.journal.specs.Said.{contents}
use Rattle.durable_store.specs.Types.{HasTypes}
use Rattle.durable_store.proofs.begun_types.objects_of.Goals as goal

pub returns-clause-types : goal.returns-clause-types
returns-clause-types c =
    subst (HasTypes (contents c.args.said.now)) (sym (c.in_ok-new_objects.ensures.types ∙ ap (map value_of) c.deref.ensures.value)) c.in_ok-begun.ensures.types
