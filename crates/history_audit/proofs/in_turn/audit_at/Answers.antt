use Rattle.std.proofs.Common.{◌≡◌, ℕ, List, map, min, take, length, sym, ap, subst, ◌∙◌, IfOk}
use Rattle.std.proofs.lemmas.List.{take-map, take_min}
use Rattle.declared_types.specs.Declarations.{table_of}
use Rattle.declared_types.specs.declared.declared_type.Declaration.{Declaration}
use Rattle.history_judge.specs.Audit.{Audits}
use Rattle.history_judge.specs.Replay.{AreStates}
use Rattle.history_audit.proofs.EpochTables.{tables-shown}
use Rattle.history_audit.proofs.in_turn.audit_at.Goals as goal

-- no more of the types are there than all
first-of : (n m : ℕ) (types : List Declaration) → m ≡ min n (length types) → map table_of (take m types) ≡ take n (map table_of types)
first-of n m types is = rw is (ap (map table_of) (take_min n types) ∙ sym (take-map table_of n types))

pub returns-in-Ok : goal.returns-in-Ok
returns-in-Ok c =
    let shown = tables-shown table_of c.deref.result.now ∙ ap (map table_of) (ap (map (λ t. t.now)) c.deref.ensures.value ∙ c.in-Ok.ensures) in
    let same = shown ∙ first-of c.args.history.now.objects c.min.result c.args.types.now c.min.ensures in
    record {
      audits = subst (λ tables. Audits tables c.args.history.now.events.now c.audit.result) same c.audit.ensures.audits;
      states = subst (λ tables. IfOk c.audit.result (λ a. AreStates tables a.finals.items)) same c.audit.ensures.states;
    }
