use Rattle.std.proofs.Common.{map, length, option_map, refl, sym, ap, ◌∙◌}
use Rattle.std.proofs.Math.Numerals.{add-one}
use Rattle.std.proofs.lemmas.Option.{slice_get_read, slice_get-map}
use Rattle.declared_types.specs.Declarations.{table_of}
use Rattle.history_audit.specs.Epochs.{tables_at, tables_after, told_epoch}
use Rattle.history_audit.proofs.EpochAudits.{audits-at, tables-more, faults-at}
use Rattle.history_audit.proofs.in_turn.audit_each.Goals as goal

pub returns-in_err-audit : goal.returns-in_err-audit
returns-in_err-audit c =
    let n = c.loop-epoch.epoch in
    faults-at (map table_of c.args.types.now.items) (map table_of c.loop-epoch.types.items) (map told_epoch c.args.histories.now) n c.loop-epoch.audits.items _ c.in_err-audit.field-0.0 c.from_residual.result
    c.from_residual.ensures.1 c.in_err-audit.ensures.0 c.loop-epoch.invariant.audits c.loop-epoch.invariant.tables c.in_err-audit.ensures.1
    (slice_get-map told_epoch c.args.histories.now n ∙ ap (option_map told_epoch) (slice_get_read c.args.histories.now (length c.args.histories.now) n c.index-histories-epoch.result refl c.loop-epoch-test.true c.index-histories-epoch.is))

pub loop-epoch-preserved : goal.loop-epoch-preserved
loop-epoch-preserved c =
    let n = c.loop-epoch.epoch in
    let tables = (map table_of c.args.types.now.items) in
    let audits = c.loop-epoch.audits.items in
    let audit = c.in_ok-audit.audit in
    let more = audits-at tables (map table_of c.loop-epoch.types.items) (map told_epoch c.args.histories.now) n audits _ audit c.loop-epoch.invariant.audits c.loop-epoch.invariant.tables c.in_ok-audit.ensures.0
    (slice_get-map told_epoch c.args.histories.now n ∙ ap (option_map told_epoch) (slice_get_read c.args.histories.now (length c.args.histories.now) n c.index-histories-epoch.result refl c.loop-epoch-test.true c.index-histories-epoch.is)) in
    record {
      audits = rw (add-one n, c.in_ok-push.ensures.items) more;
      tables = c.in_ok-audit.ensures.1 ∙ ap (λ them. tables_at them audit.finals.items) c.loop-epoch.invariant.tables ∙ sym (tables-more tables audits audit)
          ∙ ap (tables_after tables) (sym c.in_ok-push.ensures.items);
    }
