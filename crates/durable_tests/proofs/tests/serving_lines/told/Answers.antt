use Rattle.std.proofs.Common.{sym, subst}
use Rattle.std.proofs.lemmas.Result.{on_ok_weaker}
use Rattle.durable_store.specs.declared.durable.Durable.{Durable}
use Rattle.durable_store.specs.Durable.{IsDurable}
use Rattle.durable_tests.proofs.tests.serving_lines.told.Goals as goal

pub returns : goal.returns
returns g c = on_ok_weaker c.run-server.result.1 (λ told. subst (λ (d : Durable g.row.S.Denot). IsDurable g.S.Store d) (sym c.into_parts-store.ensures.store) told.served.lasts.sound) c.run-server.ensures.told
