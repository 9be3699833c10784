use Rattle.std.proofs.Common.{◌≡◌, ◌∙◌, ap, map, subst, sym, List}
use Rattle.type_table.specs.Table.{Table}
use Rattle.table_checker.specs.Checked.{Checked}
use Rattle.object_trait.specs.declared.event.Event.{Event}
use Rattle.store_laws.specs.Stored.{objects}
use Rattle.history_judge.specs.Audit.{Audits}
use Rattle.store_commands.specs.StoreAudit.{table_of_checked, tables}
use Rattle.store_commands.proofs.Passed.{passed, tables_of_objects, tables_of_types}
use Rattle.store_commands.proofs.store_audit.audit_of.Goals as goal

pub returns : goal.returns
returns g c =
    let s = c.args.store.now in
    let outcome = c.audit_types.result in
    let types = c.args.types.now in
    let their : map table_of_checked types ≡ tables s = sym (tables_of_types types) ∙ ap (map (λ (t : Checked). t.file.table)) (sym c.requires.types) in
    let events = subst (λ (es : List Event). Audits (map table_of_checked types) es outcome) (c.history.ensures.whole c.requires.whole) c.audit_types.ensures in
    let audits = subst (λ (ts : List Table). Audits ts s.history outcome) their events in
    let of_objects = subst (λ (ts : List Table). Audits ts s.history outcome) (sym (tables_of_objects s.types)) audits in
    let history = c.run_is_history.ensures (objects s) s.history c.history.ensures.run in
    let passes = c.serial_histories_pass.ensures (objects s) s.history outcome history c.history.ensures.serial of_objects in
    passed s outcome audits passes (record { run = c.history.ensures.run; serial = c.history.ensures.serial; room = c.history.ensures.room })
