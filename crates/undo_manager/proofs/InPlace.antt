-- What definitions by kinds are where the kind is update in place.
use Rattle.std.proofs.Common.{◌≡◌, ℕ, List, refl}
use Rattle.type_table.specs.declared.kind.Kind.{Kind}
use Rattle.type_table.specs.declared.kind.Kind.TheVariants.{Undo, Intentions, Escrow}
use Rattle.object_trait.specs.Object.{Object}
use Rattle.object_trait.specs.Meaning.{run_log, state_by, view_by}
use Rattle.object_trait.specs.Committed.{done_of, committed_state_by}
use Rattle.object_trait.specs.Sound.{IsSoundUndo, IsSoundBy}
use Rattle.object_trait.specs.Steps.{IsUndoCommit, IsCommitBy, IsUndoStrike, IsStrikeBy}
use Rattle.object_trait.specs.declared.log_entry.LogEntry.{LogEntry}

-- the state is that after the whole log
pub state_in : (kind : Kind) → kind ≡ Undo → (o : Object) (base : ℕ) (log : List LogEntry) → state_by kind o base log ≡ run_log o base log
state_in Undo e o base log = refl
state_in Intentions e o base log = absurd (cc)
state_in Escrow e o base log = absurd (cc)

-- the committed state is that after the done entries
pub committed_in : (kind : Kind) → kind ≡ Undo → (o : Object) (base : ℕ) (log : List LogEntry) → committed_state_by kind o base log ≡ run_log o base (done_of log)
committed_in Undo e o base log = refl
committed_in Intentions e o base log = absurd (cc)
committed_in Escrow e o base log = absurd (cc)

-- what each transaction sees is the state
pub view_in : (kind : Kind) → kind ≡ Undo → (o : Object) (base : ℕ) (log : List LogEntry) (t : ℕ) → view_by kind o base log t ≡ run_log o base log
view_in Undo e o base log t = refl
view_in Intentions e o base log t = absurd (cc)
view_in Escrow e o base log t = absurd (cc)

-- a sound log
pub sound_in : (kind : Kind) → kind ≡ Undo → (o : Object) (base : ℕ) (log : List LogEntry) → IsSoundUndo o base log → IsSoundBy kind o base log
sound_in Undo e o base log s = s
sound_in Intentions e o base log s = absurd (cc)
sound_in Escrow e o base log s = absurd (cc)

-- and back
pub sound_out : (kind : Kind) → kind ≡ Undo → (o : Object) (base : ℕ) (log : List LogEntry) → IsSoundBy kind o base log → IsSoundUndo o base log
sound_out Undo e o base log s = s
sound_out Intentions e o base log s = absurd (cc)
sound_out Escrow e o base log s = absurd (cc)

-- a commit
pub commit_in : (kind : Kind) → kind ≡ Undo → (o : Object) (base : ℕ) (log : List LogEntry) (t new_base : ℕ) (new_log : List LogEntry) → IsUndoCommit o base log t new_base new_log → IsCommitBy kind o base log t new_base new_log
commit_in Undo e o base log t new_base new_log h = h
commit_in Intentions e o base log t new_base new_log h = absurd (cc)
commit_in Escrow e o base log t new_base new_log h = absurd (cc)

-- a strike
pub strike_in : (kind : Kind) → kind ≡ Undo → (o : Object) (base : ℕ) (log : List LogEntry) (t n new_base : ℕ) (new_log : List LogEntry) → IsUndoStrike o base log t n new_base new_log → IsStrikeBy kind o base log t n new_base new_log
strike_in Undo e o base log t n new_base new_log h = h
strike_in Intentions e o base log t n new_base new_log h = absurd (cc)
strike_in Escrow e o base log t n new_base new_log h = absurd (cc)
