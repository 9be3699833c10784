-- What an audit keeps of the events so far, and when it agrees with them.
use Rattle.std.specs.Prelude.{List}
use Rattle.type_table.specs.Table.{Table}
use Rattle.object_trait.specs.declared.event.Event.{Event}
use Rattle.serial_order.specs.History.{commits}
use Rattle.history_judge.specs.Judged.{IsJudged}
use Rattle.history_judge.specs.SerialRun.{IsSerialRunOf}
use Rattle.history_audit.specs.declared.auditor.Auditor.{Auditor}

-- the events are a history, whose committed transactions were run in commit order
pub record IsAuditing (tables : List Table) (H : List Event) (a : Auditor) : Type 0 where
  pub judged : IsJudged tables H a.judge
  pub serial : IsSerialRunOf tables H (commits H) a.serial
