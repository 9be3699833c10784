use Rattle.std.proofs.Common.{◌∙◌}
use Rattle.std.specs.List.{list_any}
use Rattle.std.specs.Str.{bytes_eq}
use Rattle.durable_store.proofs.NameSets.{put_among, put_nameless}
use Rattle.durable_store.proofs.taken_names.put_name.Goals as goal

pub returns-in_ok-insert : goal.returns-in_ok-insert
returns-in_ok-insert c = λ w. rw c.in-Some.is (c.in_ok-insert.ensures.updates.0 w ∙ put_among c.in-Some.name w (list_any (bytes_eq w) c.args.names.now.keys))

pub returns-in_default : goal.returns-in_default
returns-in_default c = λ w. put_nameless c.args.object.now.name w (list_any (bytes_eq w) c.args.names.now.keys) (λ v. c.in_default.not-Some v)
