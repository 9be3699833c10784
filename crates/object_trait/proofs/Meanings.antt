-- Meanings stay sound by each call, whatever their kind of recovery.
use Rattle.std.proofs.Common.{◌≡◌, ℕ, false, eqb, List, [], ◌∷◌, ◌++◌, Some, refl, sym, subst}
use Rattle.std.specs.List.{AllByRecursion}
use Rattle.type_table.specs.Run.{IsLegal}
use Rattle.type_table.specs.Laws.{RunsAlong, EndsInside}
use Rattle.type_table.specs.declared.kind.Kind.{Kind}
use Rattle.type_table.specs.declared.kind.Kind.TheVariants.{Undo, Intentions, Escrow}
use Rattle.type_table.specs.Lists.{ListsForward}
use Rattle.type_table.proofs.Elements.{differ_turned}
use Rattle.table_checker.specs.Checked.{Checked}
use Rattle.object_trait.specs.Object.{Object, CoversBy, object_of}
use Rattle.object_trait.specs.Strike.{keep_first}
use Rattle.object_trait.specs.Meaning.{object, log_ops, is_open_of, open_of, view_by}
use Rattle.object_trait.specs.Sound.{IsSoundBy}
use Rattle.object_trait.specs.Steps.{IsOfAnotherOpen, stops_by, IsCommitBy, IsStrikeBy}
use Rattle.object_trait.specs.Laws.{PartsSort, KeepsFirst, StruckPart, SortsLook, StruckLogIsLegal, CommuteFrom, OpensCommute, FreshIsSound, SoundAfterApply, SoundAfterCommit, SoundAfterStrike}
use Rattle.object_trait.specs.declared.log_entry.LogEntry.{LogEntry}
use Rattle.escrow_laws.specs.Laws.{FreshIsFirm, FirmAfterApply, FirmAfterCommit, FirmAfterStrike, NothingKeeps}
use Rattle.object_trait.proofs.Escrow.{escrow-fresh, escrow-applied, escrow-committed, escrow-struck}
use Rattle.object_trait.proofs.Undo.{undo-applied, undo-committed, struck-legal, undo-struck}
use Rattle.object_trait.proofs.Intentions.{intentions-applied, opens-commute, intentions-committed, intentions-struck}

-- the struck log is legal: the kind is update in place
struck_by : PartsSort LogEntry → StruckPart LogEntry → SortsLook LogEntry → (kind : Kind) → kind ≡ Undo → (o : Object) → CoversBy kind o →
    (base : ℕ) (log : List LogEntry) (t n : ℕ) → IsSoundBy kind o base log → IsLegal o.table (Some base) (log_ops (keep_first (is_open_of t) n log))
struck_by parts strike sorts Undo e o covers base log t n sound = struck-legal parts strike sorts o covers base log t n sound
struck_by parts strike sorts Intentions e o covers base log t n sound = absurd (cc)
struck_by parts strike sorts Escrow e o covers base log t n sound = absurd (cc)

-- the law of struck logs
pub struck_log-legal : PartsSort LogEntry → StruckPart LogEntry → SortsLook LogEntry → StruckLogIsLegal
struck_log-legal parts strike sorts = λ m t n covers undo sound. struck_by parts strike sorts m.checked.kind undo (object m) covers m.base m.log t _ sound

-- two transactions' operations commute: the kind is deferred update
opens_by : ListsForward → (kind : Kind) → kind ≡ Intentions → (o : Object) → CoversBy kind o → (base : ℕ) (log : List LogEntry) (t u : ℕ) → eqb u t ≡ false →
    IsSoundBy kind o base log → CommuteFrom o.table base (log_ops (open_of t log)) (log_ops (open_of u log))
opens_by forward Undo e o covers base log t u differ sound = absurd (cc)
opens_by forward Escrow e o covers base log t u differ sound = absurd (cc)
opens_by forward Intentions e o covers base log t u differ sound = opens-commute forward o covers base log t u differ sound

-- the law of two transactions
pub opens-commuting : ListsForward → OpensCommute
opens-commuting forward = λ m t u covers deferred sound differ. opens_by forward m.checked.kind deferred (object m) covers m.base m.log t u (differ_turned u t differ) sound

-- a new object is sound
fresh_by : FreshIsFirm → (kind : Kind) (o : Object) (base : ℕ) (log : List LogEntry) → CoversBy kind o → base ≡ o.table.initial → log ≡ [] → IsSoundBy kind o base log
fresh_by firm Undo o base log covers initial empty = rw (initial, empty) (record { inside = covers.begins_inside; legal = refl; in_order = tt; locked = tt })
fresh_by firm Intentions o base log covers initial empty = rw (initial, empty) (record { inside = covers.begins_inside; all_open = tt; legal = λ u. refl; locked = tt })
fresh_by firm Escrow o base log covers initial empty = rw (initial, empty) (escrow-fresh firm o o.table.initial covers.begins_inside)

-- the law of new objects
pub fresh-sound : FreshIsFirm → FreshIsSound
fresh-sound firm = λ m covers fresh. fresh_by firm m.checked.kind (object m) m.base m.log covers fresh.base fresh.log

-- a sound log stays so by a further operation
applied_by : RunsAlong → FirmAfterApply → FirmAfterStrike → NothingKeeps → (kind : Kind) (o : Object) → CoversBy kind o → (base : ℕ) (log : List LogEntry) (t k : ℕ) → IsSoundBy kind o base log → IsLegal o.table (view_by kind o base log t) (k ∷ []) →
    AllByRecursion (λ e. IsOfAnotherOpen t e → stops_by kind o base log t k e ≡ false) log → IsSoundBy kind o base (log ++ (record { by = t; op = k; done = false }) ∷ [])
applied_by along apply strike nothing Undo o covers base log t k sound legal free = undo-applied along o base log t k sound legal free
applied_by along apply strike nothing Intentions o covers base log t k sound legal free = intentions-applied along o base log t k sound legal free
applied_by along apply strike nothing Escrow o covers base log t k sound legal free = escrow-applied along apply strike nothing o covers.numeric base log t k sound legal free

-- the law of further operations
pub applied-sound : RunsAlong → FirmAfterApply → FirmAfterStrike → NothingKeeps → SoundAfterApply
applied-sound along apply strike nothing = λ m t k covers sound may. applied_by along apply strike nothing m.checked.kind (object m) covers m.base m.log t k sound may.legal may.free

-- and by a commit
committed_by : RunsAlong → EndsInside → ListsForward → FirmAfterCommit → (kind : Kind) (o : Object) → CoversBy kind o → (base : ℕ) (log : List LogEntry) (t new_base : ℕ) (new_log : List LogEntry) →
    IsSoundBy kind o base log → IsCommitBy kind o base log t new_base new_log → IsSoundBy kind o new_base new_log
committed_by along ends forward firm Undo o covers base log t new_base new_log sound commit = undo-committed along ends o covers base log t new_base new_log sound commit
committed_by along ends forward firm Intentions o covers base log t new_base new_log sound commit = intentions-committed along forward o covers base log t new_base new_log sound commit
committed_by along ends forward firm Escrow o covers base log t new_base new_log sound commit = escrow-committed firm ends o covers.closed covers.numeric base log t new_base new_log sound commit

-- the law of commits
pub committed-sound : RunsAlong → EndsInside → ListsForward → FirmAfterCommit → SoundAfterCommit
committed-sound along ends forward firm = λ old new t covers sound h.
    subst (λ (c : Checked). IsSoundBy c.kind (object_of c) new.base new.log) (sym h.checked)
    (committed_by along ends forward firm old.checked.kind (object old) covers old.base old.log t new.base new.log sound h.commit)

-- and by a strike
struck_sound_by : RunsAlong → EndsInside → PartsSort LogEntry → StruckPart LogEntry → SortsLook LogEntry → KeepsFirst LogEntry → FirmAfterStrike → (kind : Kind) (o : Object) → CoversBy kind o →
    (base : ℕ) (log : List LogEntry) (t n new_base : ℕ) (new_log : List LogEntry) → IsSoundBy kind o base log → IsStrikeBy kind o base log t n new_base new_log → IsSoundBy kind o new_base new_log
struck_sound_by along ends parts strike sorts keeps firm Undo o covers base log t n new_base new_log sound h = undo-struck along ends parts strike sorts o covers base log t n new_base new_log sound h
struck_sound_by along ends parts strike sorts keeps firm Intentions o covers base log t n new_base new_log sound h = intentions-struck keeps o base log t n new_base new_log sound h
struck_sound_by along ends parts strike sorts keeps firm Escrow o covers base log t n new_base new_log sound h = escrow-struck firm keeps o base log t n new_base new_log sound h

-- the law of strikes and aborts
pub struck-sound : RunsAlong → EndsInside → PartsSort LogEntry → StruckPart LogEntry → SortsLook LogEntry → KeepsFirst LogEntry → FirmAfterStrike → SoundAfterStrike
struck-sound along ends parts strike sorts keeps firm = λ old new t n covers sound h.
    subst (λ (c : Checked). IsSoundBy c.kind (object_of c) new.base new.log) (sym h.checked)
    (struck_sound_by along ends parts strike sorts keeps firm old.checked.kind (object old) covers old.base old.log t n new.base new.log sound h.strike)
