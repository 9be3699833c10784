-- Calls of a transaction without open entries: they may leave a meaning as it is, and show the same whatever they leave.
use Rattle.std.proofs.Common.{◌≡◌, ℕ, zero, Bool, true, false, not, eqb, ◌&&◌, List, [], ◌∷◌, ◌++◌, map, Some, refl, sym, ap, ◌∙◌}
use Rattle.std.specs.List.{AllByRecursion}
use Rattle.std.proofs.lemmas.Option.{same_Some}
use Rattle.type_table.specs.Run.{run}
use Rattle.type_table.specs.Laws.{RunsAlong}
use Rattle.type_table.specs.declared.kind.Kind.{Kind}
use Rattle.type_table.specs.declared.kind.Kind.TheVariants.{Undo, Intentions, Escrow}
use Rattle.table_checker.specs.Checked.{Checked}
use Rattle.object_trait.specs.Object.{Object, object_of}
use Rattle.object_trait.specs.Meaning.{Meaning, object, log_ops, is_open_of, open_of, run_log, state_by, view_by}
use Rattle.object_trait.specs.Sound.{IsSoundBy}
use Rattle.object_trait.specs.Steps.{IsSettled, marked, IsCommitBy, IsStrikeBy, ShowsTheSame}
use Rattle.object_trait.specs.Laws.{UntouchedStays, UntouchedShowsTheSame}
use Rattle.object_trait.specs.declared.log_entry.LogEntry.{LogEntry}
use Rattle.object_trait.proofs.Runs.{ops-append, same_mark}
use Rattle.object_trait.proofs.Kept.{none_of_mine, without_mine, keep_first-untouched}

-- ---- commit

-- where no entry of t is open, its marks change nothing
unmarked : (t : ℕ) (log : List LogEntry) → open_of t log ≡ [] → map (marked t) log ≡ log
unmarked t [] none = refl
unmarked t (e ∷ log) none =
    let parts = none_of_mine (is_open_of t) e log none in
    let same : marked t e ≡ e = ap (λ done. record e { done = done }) (same_mark e.done (eqb e.by t) parts.0) in
    ap (λ x. x ∷ map (marked t) log) same ∙ ap (λ rest. e ∷ rest) (unmarked t log parts.1)

-- a log without open entries of t, at the same base, is what a commit of t leaves
untouched_commit : (kind : Kind) (o : Object) (base : ℕ) (log : List LogEntry) (t : ℕ) → IsSoundBy kind o base log → open_of t log ≡ [] → IsCommitBy kind o base log t base log
untouched_commit Undo o base log t sound none = record { moved = []; front = unmarked t log none; done = tt; reached = refl }
untouched_commit Intentions o base log t sound none = record {
  rest = sym (keep_first-untouched (is_open_of t) zero log none) ∙ without_mine (is_open_of t) log;
  inside = sound.inside;
  reached = rw none (λ ks legal. legal, λ ks legal. legal);
  still = λ none. refl;
}
untouched_commit Escrow o base log t sound none = record { rest = sym (keep_first-untouched (is_open_of t) zero log none) ∙ without_mine (is_open_of t) log; reached = rw none refl }

-- ---- strike

-- and what a strike of it leaves
untouched_strike : (kind : Kind) (o : Object) (base : ℕ) (log : List LogEntry) (t n : ℕ) → open_of t log ≡ [] → IsStrikeBy kind o base log t n base log
untouched_strike Undo o base log t n none = record { moved = []; front = keep_first-untouched (is_open_of t) n log none; done = tt; reached = refl }
untouched_strike Intentions o base log t n none = record { same_base = refl; rest = sym (keep_first-untouched (is_open_of t) n log none) }
untouched_strike Escrow o base log t n none = record { same_base = refl; rest = sym (keep_first-untouched (is_open_of t) n log none) }

-- the law of transactions without open entries
pub untouched-stays : UntouchedStays
untouched-stays = λ m t sound none. (
  record { checked = refl; commit = untouched_commit m.checked.kind (object m) m.base m.log t sound none },
  λ n. record { checked = refl; strike = untouched_strike m.checked.kind (object m) m.base m.log t n none },
)

-- ---- what nobody notices

-- done entries are none of t's open ones
none_open : (t : ℕ) (moved log : List LogEntry) → AllByRecursion (λ (e : LogEntry). e.done ≡ true) moved → open_of t (moved ++ log) ≡ open_of t log
none_open t [] log done = refl
none_open t (e ∷ moved) log done =
    let isnt : is_open_of t e ≡ false = done_isnt_open (eqb e.by t) e.done done.0 in
    rw isnt (none_open t moved log done.1)
  where
    done_isnt_open : (mine done : Bool) → done ≡ true → (mine && not done) ≡ false
    done_isnt_open true done is = rw is refl
    done_isnt_open false done is = refl

-- a run over done entries that moved into base
settled-run : RunsAlong → (o : Object) (base : ℕ) (log : List LogEntry) (new_base : ℕ) (new_log : List LogEntry) → IsSettled o base log new_base new_log → run_log o new_base new_log ≡ run_log o base log
settled-run along o base log new_base new_log s =
    ap (λ from. run o.table from (log_ops new_log)) (sym s.reached) ∙ sym (along o.table (Some base) (log_ops s.moved) (log_ops new_log)) ∙ ap (run o.table (Some base)) (sym (ops-append s.moved new_log))
    ∙ ap (run_log o base) (sym s.front)

-- what is shown of a base and a log
record ShowsBy (kind : Kind) (o : Object) (base : ℕ) (log : List LogEntry) (new_base : ℕ) (new_log : List LogEntry) : Type 0 where
  state : state_by kind o new_base new_log ≡ state_by kind o base log
  views : (t : ℕ) → view_by kind o new_base new_log t ≡ view_by kind o base log t
  opens : (t : ℕ) → open_of t new_log ≡ open_of t log

-- update in place: done entries that moved into base change nothing of it
settled-shows : RunsAlong → (o : Object) (base : ℕ) (log : List LogEntry) (new_base : ℕ) (new_log : List LogEntry) → IsSettled o base log new_base new_log → ShowsBy Undo o base log new_base new_log
settled-shows along o base log new_base new_log s = record {
  state = settled-run along o base log new_base new_log s;
  views = λ t. settled-run along o base log new_base new_log s;
  opens = λ t. sym (none_open t s.moved new_log s.done) ∙ ap (open_of t) (sym s.front);
}

-- the same base and the same log
same-shows : (kind : Kind) (o : Object) (base : ℕ) (log : List LogEntry) (new_base : ℕ) (new_log : List LogEntry) → new_base ≡ base → new_log ≡ log → ShowsBy kind o base log new_base new_log
same-shows kind o base log new_base new_log same_base same_log = rw (same_base, same_log) (record { state = refl; views = λ t. refl; opens = λ t. refl })

-- a commit
commit-shows : RunsAlong → (kind : Kind) (o : Object) (base : ℕ) (log : List LogEntry) (t new_base : ℕ) (new_log : List LogEntry) → open_of t log ≡ [] → IsCommitBy kind o base log t new_base new_log →
    ShowsBy kind o base log new_base new_log
commit-shows along Undo o base log t new_base new_log none commit = settled-shows along o base log new_base new_log (rw (unmarked t log none) at commit)
commit-shows along Intentions o base log t new_base new_log none commit =
    same-shows Intentions o base log new_base new_log (commit.still none) (commit.rest ∙ sym (without_mine (is_open_of t) log) ∙ keep_first-untouched (is_open_of t) zero log none)
commit-shows along Escrow o base log t new_base new_log none commit =
    let same : Some base ≡ Some new_base = rw none at commit.reached in
    same-shows Escrow o base log new_base new_log (sym (same_Some base new_base same)) (commit.rest ∙ sym (without_mine (is_open_of t) log) ∙ keep_first-untouched (is_open_of t) zero log none)

-- a strike
strike-shows : RunsAlong → (kind : Kind) (o : Object) (base : ℕ) (log : List LogEntry) (t n new_base : ℕ) (new_log : List LogEntry) → open_of t log ≡ [] →
    IsStrikeBy kind o base log t n new_base new_log → ShowsBy kind o base log new_base new_log
strike-shows along Undo o base log t n new_base new_log none strike = settled-shows along o base log new_base new_log (rw (keep_first-untouched (is_open_of t) n log none) at strike)
strike-shows along Intentions o base log t n new_base new_log none strike =
    same-shows Intentions o base log new_base new_log strike.same_base (strike.rest ∙ keep_first-untouched (is_open_of t) n log none)
strike-shows along Escrow o base log t n new_base new_log none strike =
    same-shows Escrow o base log new_base new_log strike.same_base (strike.rest ∙ keep_first-untouched (is_open_of t) n log none)

-- what is shown of a meaning whose type is as it was
shown : (old new : Meaning) → new.checked ≡ old.checked → ShowsBy old.checked.kind (object old) old.base old.log new.base new.log → ShowsTheSame old new
shown old new same by = record {
  state = ap (λ (c : Checked). state_by c.kind (object_of c) new.base new.log) same ∙ by.state;
  views = λ t. ap (λ (c : Checked). view_by c.kind (object_of c) new.base new.log t) same ∙ by.views t;
  opens = by.opens;
}

-- the law of what they show
pub untouched-shows : RunsAlong → UntouchedShowsTheSame
untouched-shows along = λ old new t none. (
  λ commit. shown old new commit.checked (commit-shows along old.checked.kind (object old) old.base old.log t new.base new.log none commit.commit),
  λ n keeps. shown old new keeps.checked (strike-shows along old.checked.kind (object old) old.base old.log t n new.base new.log none keeps.strike),
)
