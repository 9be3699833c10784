-- What a history says doesn't depend on whose its events are.
use Rattle.std.proofs.Common.{◌≡◌, ◌∙◌, ℕ, suc, Bool, true, false, cond, List, [], ◌∷◌, ◌++◌, filter, length, refl, ap}
use Rattle.std.specs.List.{fold}
use Rattle.object_trait.specs.declared.event.Event.{Event}
use Rattle.serial_order.specs.History.{aborted_by, aborts, begins, committed_by, commits, is_begin, is_open, summary, survive_after}
use Rattle.serial_order.specs.Operations.{at_object, of, ops}
use Rattle.serial_order.specs.declared.entry.Entry.{Entry}
use Rattle.event_text.specs.EventText.{events_of_kinds}
use Rattle.durable_store.specs.Durable.{kinds}
use Rattle.held_votes.specs.VotesHeld.{operations_at}

-- a history as worker 0 would have made it
abbrev by_zero : List Event → List Event
by_zero H = events_of_kinds (kinds H)

begins-same : (H : List Event) → begins (by_zero H) ≡ begins H
begins-same [] = refl
begins-same (e ∷ H) = by (is_begin e.kind) (begins-same H)
  where
    first : Event
    first = record { worker = 0; kind = e.kind }

    rest : List Event → List Event
    rest G = filter (λ (f : Event). is_begin f.kind) G

    by : (b : Bool) → length (rest (by_zero H)) ≡ length (rest H) → length (cond b (first ∷ rest (by_zero H)) (rest (by_zero H))) ≡ length (cond b (e ∷ rest H) (rest H))
    by true same = ap suc same
    by false same = same

commits-same : (H : List Event) → commits (by_zero H) ≡ commits H
commits-same [] = refl
commits-same (e ∷ H) = ap (λ ts. committed_by e.kind ++ ts) (commits-same H)

aborts-same : (H : List Event) → aborts (by_zero H) ≡ aborts H
aborts-same [] = refl
aborts-same (e ∷ H) = ap (λ ts. aborted_by e.kind ++ ts) (aborts-same H)

survives-same : (V : List Entry) (H : List Event) → fold (λ W (e : Event). survive_after W e.kind) V (by_zero H) ≡ fold (λ W (e : Event). survive_after W e.kind) V H
survives-same V [] = refl
survives-same V (e ∷ H) = survives-same (survive_after V e.kind) H

-- the same transactions are open
pub open-same : (H : List Event) (t : ℕ) → is_open (summary (by_zero H)) t ≡ is_open (summary H) t
open-same H t =
    let says : ℕ → List ℕ → List ℕ → Bool = λ b c a. is_open (record { begun = b; committed = c; aborted = a; survives = [] }) t in
    ap (λ b. says b (commits (by_zero H)) (aborts (by_zero H))) (begins-same H) ∙ ap (λ c. says (begins H) c (aborts (by_zero H))) (commits-same H) ∙ ap (says (begins H) (commits H)) (aborts-same H)

-- with the same operations
pub works-same : (H : List Event) (n x : ℕ) → operations_at (by_zero H) n x ≡ operations_at H n x
works-same H n x = ap (λ V. ops (of n (at_object x V))) (survives-same [] H)
