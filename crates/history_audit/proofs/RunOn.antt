-- One more transaction behind others: its operations, replayed on the states to which these lead, give the states to which all lead or
-- the first operation that isn't legal.
use Rattle.std.proofs.Common.{◌≡◌, ℕ, suc, ◌<◌, false, List, [], ◌∷◌, ◌++◌, length, take, drop, Option, Some, None, slice_get, ◌⊎◌, refl, sym, ap, subst, ◌∙◌, inl, inr, append-nil, length-append, arith}
use Rattle.std.proofs.lemmas.Bool.{eq-eqb}
use Rattle.std.proofs.lemmas.Bool.Decides.{nat_tests}
use Rattle.std.proofs.lemmas.Grind.{flat_map-append}
use Rattle.std.proofs.lemmas.List.{map-append, take-map, take-append-drop, take-append-le, take_all, length-map}
use Rattle.std.proofs.lemmas.Option.{none-some, same_Some}
use Rattle.type_table.specs.Table.{Table}
use Rattle.type_table.specs.Run.{run, IsLegal}
use Rattle.type_table.specs.Laws.{RunsAlong}
use Rattle.type_table.proofs.Elements.{found-last}
use Rattle.object_trait.specs.declared.event.Event.{Event}
use Rattle.serial_order.specs.Operations.{ops, of, serial}
use Rattle.serial_order.specs.History.{summary, surviving}
use Rattle.serial_order.specs.Serial.{surviving_at}
use Rattle.serial_order.specs.declared.entry.Entry.{Entry}
use Rattle.history_judge.specs.Rows.{operations_of}
use Rattle.history_judge.specs.declared.executed.Executed.{Executed}
use Rattle.history_judge.specs.Audit.{LeadToStates, IsIllegalAt, IsFirstIllegal, serial_up_to}
use Rattle.history_judge.specs.Replay.{ops_at, AreStates, is_stopped_at, StopsReplayAt, AreReplayed}
use Rattle.history_judge.specs.SerialRun.{IsSerialRunOf, RunsTo, ReplaysFrom, illegal_at}
use Rattle.history_judge.specs.declared.serial_run.Illegal.{Illegal}
use Rattle.history_judge.specs.declared.serial_run.SerialRun.{SerialRun}
use Rattle.history_judge.specs.declared.replay.Stop.{Stop}
use Rattle.history_judge.proofs.Kept.{first-more, illegal-front}
use Rattle.history_judge.proofs.Lists.{found, take-and_next, own-ops, ops_at-split}
use Rattle.history_audit.proofs.Serials.{stuck-along, leads-legal, serial-each}

module _ (along : RunsAlong) (tables : List Table) (H : List Event) (ts : List ℕ) (t : ℕ) (its : List Executed) (are : its ≡ operations_of t (summary H))
    (old : List ℕ) (known : LeadToStates tables H ts old) where
  -- the transaction's operations at an object
  own : (x : ℕ) → ops (of t (surviving_at x H)) ≡ ops_at x its
  own x = own-ops x t (surviving H) ∙ ap (ops_at x) (sym are)

  -- the order goes on with them
  serial-ops : (x : ℕ) → ops (serial (ts ++ t ∷ []) (surviving_at x H)) ≡ ops (serial ts (surviving_at x H)) ++ ops_at x its
  serial-ops x =
      ap ops (flat_map-append (λ u. of u (surviving_at x H)) ts (t ∷ []))
      ∙ map-append (λ (e : Entry). e.op) (serial ts (surviving_at x H)) (of t (surviving_at x H) ++ [])
      ∙ ap (λ V. ops (serial ts (surviving_at x H)) ++ ops V) (append-nil (of t (surviving_at x H)))
      ∙ ap (λ w. ops (serial ts (surviving_at x H)) ++ w) (own x)

  -- and up to one of them with the first of them
  up_to-last : (x j : ℕ) → serial_up_to H (ts ++ t ∷ []) (length ts) t x j ≡ ops (serial ts (surviving_at x H)) ++ take (suc j) (ops_at x its)
  up_to-last x j =
      ap (λ C. ops (serial C (surviving_at x H) ++ take (suc j) (of t (surviving_at x H)))) (take-append-le (length ts) ts (t ∷ []) (omega arith) ∙ take_all (length ts) ts (omega arith))
      ∙ map-append (λ (e : Entry). e.op) (serial ts (surviving_at x H)) (take (suc j) (of t (surviving_at x H)))
      ∙ ap (λ w. ops (serial ts (surviving_at x H)) ++ w) (sym (take-map (λ (e : Entry). e.op) (suc j) (of t (surviving_at x H))) ∙ ap (take (suc j)) (own x))

  -- from the state to which those before it lead
  run-behind : (x : ℕ) (T : Table) (s : ℕ) (w : List ℕ) → slice_get tables x ≡ Some T → slice_get old x ≡ Some s
      → run T (Some T.initial) (ops (serial ts (surviving_at x H)) ++ w) ≡ run T (Some s) w
  run-behind x T s w table from = along T (Some T.initial) (ops (serial ts (surviving_at x H))) w ∙ ap (λ at. run T at w) (known.states x T s table from)

  -- ---- each operation is legal

  leads-on : (new : List ℕ) → AreStates tables new → AreReplayed tables old its (length its) new None → LeadToStates tables H (ts ++ t ∷ []) new
  leads-on new ready replayed = record {
    as_many = ready.as_many;
    states = λ x T s table now.
        let (before, from) = found tables old x T known.as_many table in
        ap (run T (Some T.initial)) (serial-ops x)
        ∙ run-behind x T before (ops_at x its) table from
        ∙ ap (λ l. run T (Some before) (ops_at x l)) (sym (take_all (length its) its (omega arith)))
        ∙ replayed.states_are x T before table from refl
        ∙ now;
  }

  -- ---- one isn't

  module _ (new : List ℕ) (ready : AreStates tables new) (q : Stop) (replayed : AreReplayed tables old its (length its) new (Some q)) (stopped : StopsReplayAt tables old its q) where
    -- those before it at its object, it, and those behind it
    parts : (rest : List ℕ) × (ops_at q.object its ≡ ops_at q.object (take q.place its) ++ stopped.operation.k ∷ rest)
    parts = ops_at-split q.object its q.place stopped.operation stopped.there (eq-eqb stopped.operation.x q.object stopped.at)

    -- its own place is below the number of the transaction's operations there
    inside : length (ops_at q.object (take q.place its)) < length (of t (surviving_at q.object H))
    inside =
        let front = ops_at q.object (take q.place its) in
        let all = ap length (parts.1) ∙ length-append front (stopped.operation.k ∷ parts.0) in
        let many = sym (length-map (of t (surviving_at q.object H)) (λ (e : Entry). e.op)) ∙ ap length (own q.object) in
        omega (arith, all, many)

    illegal : IsIllegalAt tables H (ts ++ t ∷ []) (length ts) q.object (length (ops_at q.object (take q.place its)))
    illegal =
        let front = ops_at q.object (take q.place its) in
        let first : take (suc (length front)) (ops_at q.object its) ≡ front ++ stopped.operation.k ∷ [] = ap (take (suc (length front))) (parts.1) ∙ take-and_next front stopped.operation.k (parts.0) in
        record {
          t = t;
          table = stopped.table;
          transaction = found-last ts t;
          object = stopped.object;
          there = inside;
          illegal =
              ap (run stopped.table (Some stopped.table.initial)) (up_to-last q.object (length front))
              ∙ run-behind q.object stopped.table stopped.from (take (suc (length front)) (ops_at q.object its)) stopped.object stopped.state
              ∙ ap (run stopped.table (Some stopped.from)) first
              ∙ stopped.illegal;
        }

    -- the first of a legal list are legal
    never : (T : Table) (s n : ℕ) (w : List ℕ) → IsLegal T (Some s) w → run T (Some s) (take n w) ≡ None → ⊥
    never T s n w legal stuck = stuck-along along T (Some s) (take n w) (drop n w) stuck (rw (take-append-drop n w) legal)

    -- at a lower object each is legal
    low : (y l : ℕ) (T : Table) (s : ℕ) → y < q.object → slice_get tables y ≡ Some T → slice_get old y ≡ Some s → run T (Some s) (take (suc l) (ops_at y its)) ≡ None → ⊥
    low y l T s less table from stuck =
        let (now, at) = found tables new y T ready.as_many table in
        let goes : is_stopped_at (Some q) y ≡ false = grind (arith, nat_tests, less) in
        let legal : run T (Some s) (ops_at y its) ≡ Some now =
        ap (λ i. run T (Some s) (ops_at y i)) (sym (take_all (length its) its (omega arith))) ∙ replayed.states_are y T s table from goes ∙ at in
        never T s (suc l) (ops_at y its) (rw legal refl) stuck

    -- at its object those before it are
    front : (y l : ℕ) (T : Table) (s : ℕ) → y ≡ q.object → l < length (ops_at q.object (take q.place its)) → slice_get tables y ≡ Some T → slice_get old y ≡ Some s
        → run T (Some s) (take (suc l) (ops_at y its)) ≡ None → ⊥
    front y l T s is less table from stuck =
        let same_table : stopped.table ≡ T = same_Some stopped.table T (sym stopped.object ∙ ap (slice_get tables) (sym is) ∙ table) in
        let same_state : stopped.from ≡ s = same_Some stopped.from s (sym stopped.state ∙ ap (slice_get old) (sym is) ∙ from) in
        let first : take (suc l) (ops_at y its) ≡ take (suc l) (ops_at q.object (take q.place its)) =
        ap (λ z. take (suc l) (ops_at z its)) is ∙ ap (take (suc l)) (parts.1) ∙ take-append-le (suc l) (ops_at q.object (take q.place its)) (stopped.operation.k ∷ parts.0) (omega (arith, less)) in
        never stopped.table stopped.from (suc l) (ops_at q.object (take q.place its)) stopped.legal
        (ap (λ T'. run T' (Some stopped.from) (take (suc l) (ops_at q.object (take q.place its)))) same_table
        ∙ ap (λ s'. run T (Some s') (take (suc l) (ops_at q.object (take q.place its)))) same_state
        ∙ ap (run T (Some s)) (sym first) ∙ stuck)

    -- an operation of this transaction that isn't legal isn't so behind the serial state
    stuck-at : (y l : ℕ) (wrong : IsIllegalAt tables H (ts ++ t ∷ []) (length ts) y l) (s : ℕ) → slice_get old y ≡ Some s → run wrong.table (Some s) (take (suc l) (ops_at y its)) ≡ None
    stuck-at y l wrong s from =
        let is : wrong.t ≡ t = same_Some wrong.t t (sym wrong.transaction ∙ found-last ts t) in
        sym (run-behind y wrong.table s (take (suc l) (ops_at y its)) wrong.object from)
        ∙ ap (run wrong.table (Some wrong.table.initial)) (sym (up_to-last y l))
        ∙ ap (λ u. run wrong.table (Some wrong.table.initial) (serial_up_to H (ts ++ t ∷ []) (length ts) u y l)) (sym is)
        ∙ wrong.illegal

    first-of : (y l : ℕ) → IsIllegalAt tables H (ts ++ t ∷ []) (length ts) y l → ((y < q.object) ⊎ ((y ≡ q.object) × (l < length (ops_at q.object (take q.place its))))) → ⊥
    first-of y l wrong lower =
        let (s, from) = found tables old y wrong.table known.as_many wrong.object in
        elim lower [
          | inl less ↦ low y l wrong.table s less wrong.object from (stuck-at y l wrong s from)
          | inr here ↦ front y l wrong.table s (here.0) (here.1) wrong.object from (stuck-at y l wrong s from)
        ]

    committed-illegal : IsFirstIllegal tables H (ts ++ t ∷ []) (length ts) q.object (length (ops_at q.object (take q.place its)))
    committed-illegal = record {
      illegal = illegal;
      first = λ k y l before wrong. elim before [
        | inl less ↦ serial-each along tables H ts k y l (leads-legal tables H ts old known) (illegal-front H ts (t ∷ []) tables k y l less wrong)
        | inr here ↦
            let P : ℕ → Type 0 = λ i. IsIllegalAt tables H (ts ++ t ∷ []) i y l in
            first-of y l (subst P (here.0) wrong) (here.1)
      ];
    }

  -- what is kept behind it
  runs-on : (new : List ℕ) (stop : Option Stop) → AreStates tables new → AreReplayed tables old its (length its) new stop
      → RunsTo tables H (ts ++ t ∷ []) new (illegal_at (length ts) its stop)
  runs-on new None ready replayed = leads-on new ready replayed
  runs-on new (Some q) ready replayed = committed-illegal new ready q replayed (replayed.stopped q refl)

module _ (along : RunsAlong) (tables : List Table) (H : List Event) (ts : List ℕ) (t : ℕ) (its : List Executed) (are : its ≡ operations_of t (summary H))
    (old new : SerialRun) (known : IsSerialRunOf tables H ts old) (ready : AreStates tables new.states.items) where
  taken-from : (illegal : Option Illegal) → old.illegal ≡ illegal → RunsTo tables H ts old.states.items illegal → ReplaysFrom illegal tables t its old new → IsSerialRunOf tables H (ts ++ t ∷ []) new
  taken-from None is leads replays =
      let order : old.order.items ≡ ts = known.order is in
      record {
        ready = ready;
        order = λ none. replays.order ∙ ap (λ o. o ++ t ∷ []) order;
        leads = rw (replays.illegal, order) (runs-on along tables H ts t its are old.states.items leads new.states.items replays.stop ready replays.replayed);
      }
  taken-from (Some p) is leads replays =
      let stopped : new.illegal ≡ Some p = ap (λ (r : SerialRun). r.illegal) replays ∙ is in
      record {
        ready = ready;
        order = λ none. absurd (none-some p (sym none ∙ stopped));
        leads = rw stopped (first-more H ts (t ∷ []) tables p.commit_index p.object p.op_index leads);
      }

  -- one more transaction, behind those before it
  pub run-taken : ReplaysFrom old.illegal tables t its old new → IsSerialRunOf tables H (ts ++ t ∷ []) new
  run-taken replays = taken-from old.illegal refl known.leads replays
