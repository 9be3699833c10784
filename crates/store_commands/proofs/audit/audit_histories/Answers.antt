use Rattle.std.proofs.Common.{◌∙◌, List, length, inl, inr, sym, ap, subst, arith}
use Rattle.std.proofs.lemmas.Bool.{eqb-true, eqb-false}
use Rattle.declared_types.specs.declared.declared_type.Declaration.{Declaration}
use Rattle.history_text.specs.declared.history_file.HistoryFile.{HistoryFile}
use Rattle.command_files.proofs.Comes.{comes}
use Rattle.object_types.specs.Types.{IsUnplaced}
use Rattle.store_commands.specs.Audited.{AuditsEach, AuditsRead, HaveObjects, all_objects}
use Rattle.store_commands.proofs.Exits.{exits_early}
use Rattle.store_commands.proofs.Kept.{faulty_kept}
use Rattle.store_commands.proofs.SeveralAudits.{all_read, alone_objects, one_alone, some_follow}
use Rattle.store_commands.proofs.audit.audit_histories.Goals as goal

pub returns-in_err-later : goal.returns-in_err-later
returns-in_err-later g c =
    let holds = g.S.Source.holds c.args.source.now in
    exits_early _ _ _ _ _ c.from_residual-in_err-later.result c.in_err-later.field-0.0 _ c.from_residual-in_err-later.ensures.1
    (λ faulty. inr (inl (faulty_kept holds _ c.in_ok-first.ensures.kept _ faulty))) c.in_err-later.ensures.refused

pub returns-in_err-declared : goal.returns-in_err-declared
returns-in_err-declared g c =
    let holds = g.S.Source.holds c.args.source.now in
    exits_early _ _ _ _ _ c.from_residual-in_err-declared.result c.in_err-declared.field-0.0 _ c.from_residual-in_err-declared.ensures.1
    (λ faulty. inr (inr (inl (faulty_kept holds _ (λ other. c.in_ok-later.ensures.kept other ∙ c.in_ok-first.ensures.kept other) _ faulty)))) c.in_err-declared.ensures.refused

pub returns-in_err-same_objects : goal.returns-in_err-same_objects
returns-in_err-same_objects g c =
    let holds = g.S.Source.holds c.args.source.now in
    let first = c.in_ok-first.first in
    let later = c.in_ok-later.later.items in
    let declared = c.in_ok-declared.declared.items in
    let read = all_read holds _ _ c.in_ok-first.ensures.kept c.in_ok-later.ensures.kept c.args.history.now _ _ first later declared c.in_ok-first.ensures.reads c.in_ok-later.ensures.read c.in_ok-declared.ensures.read in
    exits_early _ _ _ _ _ c.from_residual-in_err-same_objects.result c.in_err-same_objects.field-0.0 _ c.from_residual-in_err-same_objects.ensures.1
    (λ other. inr (inr (inr (first, later, declared, read, inl (λ same. other (subst (HaveObjects first) (sym c.deref.ensures.value) same)))))) c.in_err-same_objects.ensures.other

pub returns-then-is_empty : goal.returns-then-is_empty
returns-then-is_empty g c =
    let holds = g.S.Source.holds c.args.source.now in
    let first = c.in_ok-first.first in
    let later = c.in_ok-later.later.items in
    let declared = c.in_ok-declared.declared.items in
    let read = all_read holds _ _ c.in_ok-first.ensures.kept c.in_ok-later.ensures.kept c.args.history.now _ _ first later declared c.in_ok-first.ensures.reads c.in_ok-later.ensures.read c.in_ok-declared.ensures.read in
    let same = subst (HaveObjects first) c.deref.ensures.value c.in_ok-same_objects.ensures.same in
    comes _ _ _ _ c.audit_one.result _ _
    (λ v text says. (first, later, declared, read, same, one_alone first later declared v text (omega (arith, eqb-true _ _ (sym c.if-is_empty.ensures), c.deref.ensures.len, ap length c.deref.ensures.value)) (subst (λ (ds : List Declaration). AuditsRead first ds v text) c.deref-then-is_empty.ensures.value says)))
    (λ unplaced. inr (inr (inr (
      first,
      later,
      declared,
      read,
      inr (subst (IsUnplaced declared) (sym (alone_objects first later (omega (arith, eqb-true _ _ (sym c.if-is_empty.ensures), c.deref.ensures.len, ap length c.deref.ensures.value))))
          (subst (λ (ds : List Declaration). IsUnplaced ds first.objects.items) c.deref-then-is_empty.ensures.value unplaced)),
    )))) c.audit_one.ensures

pub returns : goal.returns
returns g c =
    let holds = g.S.Source.holds c.args.source.now in
    let first = c.in_ok-first.first in
    let later = c.in_ok-later.later.items in
    let declared = c.in_ok-declared.declared.items in
    let read = all_read holds _ _ c.in_ok-first.ensures.kept c.in_ok-later.ensures.kept c.args.history.now _ _ first later declared c.in_ok-first.ensures.reads c.in_ok-later.ensures.read c.in_ok-declared.ensures.read in
    let same = subst (HaveObjects first) c.deref.ensures.value c.in_ok-same_objects.ensures.same in
    comes _ _ _ _ c.audit_each.result _ _
    (λ v text says. (
      first,
      later,
      declared,
      read,
      same,
      some_follow first later declared v text (omega (arith, eqb-false _ _ (sym c.if-is_empty.ensures), c.deref.ensures.len, ap length c.deref.ensures.value))
          (subst (λ (ds : List Declaration). AuditsEach first later ds v text) c.deref-else-is_empty-2.ensures.value (subst (λ (hs : List HistoryFile). AuditsEach first hs c.deref-else-is_empty-2.result.now v text) c.deref-else-is_empty.ensures.value says)),
    ))
    (λ unplaced. inr (inr (inr (
      first,
      later,
      declared,
      read,
      inr (subst (λ (ds : List Declaration). IsUnplaced ds (all_objects first later)) c.deref-else-is_empty-2.ensures.value
          (subst (λ (hs : List HistoryFile). IsUnplaced c.deref-else-is_empty-2.result.now (all_objects first hs)) c.deref-else-is_empty.ensures.value unplaced)),
    )))) c.audit_each.ensures
