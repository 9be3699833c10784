-- What one more event changes of what a history says.
use Rattle.std.proofs.Common.{◌≡◌, ℕ, suc, ◌+◌, Bool, true, false, cond, List, [], ◌∷◌, ◌++◌, filter, length, refl, ap, ◌∙◌, append-nil, length-append, arith}
use Rattle.std.proofs.lemmas.Grind.{flat_map-append}
use Rattle.std.proofs.lemmas.List.Elements.{filter-append}
use Rattle.std.proofs.lemmas.List.Sums.{fold-append}
use Rattle.object_trait.specs.declared.event.Event.{Event}
use Rattle.object_trait.specs.declared.event.EventKind.{EventKind}
use Rattle.serial_order.specs.History.{is_begin, committed_by, aborted_by, survive_after, begins, commits, aborts, surviving, Summary, summary}

-- how many transactions began after one more event
abbrev pub begun_after : ℕ → Bool → ℕ
begun_after n true = suc n
begun_after n false = n

-- what a history says after one more event
abbrev pub summary_after : Summary → EventKind → Summary
summary_after s happened = record {
  begun = begun_after s.begun (is_begin happened);
  committed = s.committed ++ committed_by happened;
  aborted = s.aborted ++ aborted_by happened;
  survives = survive_after s.survives happened;
}

-- a begin is one more begin
pub begins-snoc : (H : List Event) (e : Event) → begins (H ++ e ∷ []) ≡ begun_after (begins H) (is_begin e.kind)
begins-snoc H e =
    ap length (filter-append (λ (f : Event). is_begin f.kind) H (e ∷ []))
    ∙ length-append (filter (λ (f : Event). is_begin f.kind) H) (cond (is_begin e.kind) (e ∷ []) [])
    ∙ counted (is_begin e.kind) (begins H)
  where
    counted : (b : Bool) (n : ℕ) → n + length (cond b (e ∷ []) []) ≡ begun_after n b
    counted true n = omega arith
    counted false n = omega arith

-- a commit is the last in the commit order
pub commits-snoc : (H : List Event) (e : Event) → commits (H ++ e ∷ []) ≡ commits H ++ committed_by e.kind
commits-snoc H e = flat_map-append (λ (f : Event). committed_by f.kind) H (e ∷ []) ∙ ap (λ rest. commits H ++ rest) (append-nil (committed_by e.kind))

-- an abort adds its transaction to the aborted ones
pub aborts-snoc : (H : List Event) (e : Event) → aborts (H ++ e ∷ []) ≡ aborts H ++ aborted_by e.kind
aborts-snoc H e = flat_map-append (λ (f : Event). aborted_by f.kind) H (e ∷ []) ∙ ap (λ rest. aborts H ++ rest) (append-nil (aborted_by e.kind))

-- what survives is what survived, after the event
pub surviving-snoc : (H : List Event) (e : Event) → surviving (H ++ e ∷ []) ≡ survive_after (surviving H) e.kind
surviving-snoc H e = fold-append (λ V (f : Event). survive_after V f.kind) [] H (e ∷ [])

-- what a history says after one more event is what it said before, after the event
pub summary-snoc : (H : List Event) (e : Event) → summary (H ++ e ∷ []) ≡ summary_after (summary H) e.kind
summary-snoc H e = rw (begins-snoc H e, commits-snoc H e, aborts-snoc H e, surviving-snoc H e) refl
