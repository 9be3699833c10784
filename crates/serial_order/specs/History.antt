-- Histories: lists of events, oldest first, and what they say (Weihl 1988).
use Rattle.std.specs.Prelude.{◌≡◌, ℕ, ◌-◌, ◌<◌, ◌≤◌, List, [], ◌∷◌, ◌++◌, length, filter, fold, Bool, true, false, not, ◌&&◌, nat_lt, Option, Some, None, slice_get}
use Rattle.std.specs.List.{flat_map}
use Rattle.type_table.specs.Table.{Table, has_op, HasPlace}
use Rattle.object_trait.specs.Strike.{keep_first}
use Rattle.object_trait.specs.declared.event.Event.{Event}
use Rattle.object_trait.specs.declared.event.EventKind.{EventKind}
use Rattle.object_trait.specs.declared.event.EventKind.TheVariants as kind
use Rattle.object_trait.specs.declared.event.EventKind.TheVariants.{Begin, Op, Busy, Commit, Abort, Rollback}
use Rattle.serial_order.specs.Operations.{is_among, is_by, of}
use Rattle.serial_order.specs.declared.entry.Entry.{Entry}

-- ---- what a history says

abbrev pub is_begin : EventKind → Bool
is_begin (Begin t) = true
is_begin _ = false

abbrev pub committed_by : EventKind → List ℕ
committed_by (Commit t) = t ∷ []
committed_by _ = []

abbrev pub aborted_by : EventKind → List ℕ
aborted_by (Abort t) = t ∷ []
aborted_by _ = []

-- how many transactions began
abbrev pub begins : List Event → ℕ
begins H = length (filter (λ e. is_begin e.kind) H)

-- the commit order: the transactions that committed, in the order of their commits
abbrev pub commits : List Event → List ℕ
commits H = flat_map (λ e. committed_by e.kind) H

-- the transactions that aborted
abbrev pub aborts : List Event → List ℕ
aborts H = flat_map (λ e. aborted_by e.kind) H

-- the operations that survive after one more event: an abort strikes all of its transaction, a rollback the last n of its
-- transaction, over all objects together
abbrev pub survive_after : List Entry → EventKind → List Entry
survive_after V (Op k t x) = V ++ (record { by = t; at = x; op = k }) ∷ []
survive_after V (Abort t) = keep_first (is_by t) 0 V
survive_after V (Rollback t n) = keep_first (is_by t) (length (of t V) - n) V
survive_after V _ = V

-- the operations that aren't struck, in the order in which they were executed
abbrev pub surviving : List Event → List Entry
surviving H = fold (λ V e. survive_after V e.kind) [] H

-- all of it
pub record Summary : Type 0 where
  pub begun : ℕ
  pub committed : List ℕ
  pub aborted : List ℕ
  pub survives : List Entry

abbrev pub summary : List Event → Summary
summary H = record { begun = begins H; committed = commits H; aborted = aborts H; survives = surviving H }

-- the transaction began and didn't end
abbrev pub is_open : Summary → ℕ → Bool
is_open s t = nat_lt t s.begun && (not (is_among s.committed t) && not (is_among s.aborted t))

-- ---- which lists of events are histories

-- the object is there, and the operation is one of its table
abbrev pub IsOperation : Option Table → ℕ → Type 0
IsOperation None k = ⊥
IsOperation (Some T) k = has_op T k ≡ true

-- the object is there, and some operation of its table has this place
abbrev pub IsOperationPlace : Option Table → ℕ → Type 0
IsOperationPlace None place = ⊥
IsOperationPlace (Some T) place = HasPlace T place

-- the event names what is there: a new transaction by its number, else an open one, objects and operations of their tables, or places; and a
-- rollback strikes at least one operation and no more than its transaction has
abbrev pub ContinuesHistory : List Table → Summary → EventKind → Type 0
ContinuesHistory tables s (Begin t) = t ≡ s.begun
ContinuesHistory tables s (Op k t x) = (is_open s t ≡ true) × IsOperation (slice_get tables x) k
ContinuesHistory tables s (Busy c t x u) = (is_open s t ≡ true) × IsOperationPlace (slice_get tables x) c
ContinuesHistory tables s (kind.None t x c) = (is_open s t ≡ true) × IsOperationPlace (slice_get tables x) c
ContinuesHistory tables s (Commit t) = is_open s t ≡ true
ContinuesHistory tables s (Abort t) = is_open s t ≡ true
ContinuesHistory tables s (Rollback t n) = (is_open s t ≡ true) × (0 < n) × (n ≤ length (of t s.survives))

-- each event may come where it does, after those before it
abbrev pub AllContinue : List Table → List Event → List Event → Type 0
AllContinue tables before [] = Unit {0}
AllContinue tables before (e ∷ es) = ContinuesHistory tables (summary before) e.kind × AllContinue tables (before ++ e ∷ []) es

abbrev pub IsHistory : List Table → List Event → Type 0
IsHistory tables H = AllContinue tables [] H
