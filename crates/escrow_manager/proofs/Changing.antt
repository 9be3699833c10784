-- What a manager keeps by a further operation, a commit, an abort and a strike.
use Rattle.std.proofs.Common.{◌≡◌, ℕ, ◌<◌, ◌≤◌, true, false, not, eqb, List, [], ◌∷◌, ◌++◌, length, take, Some, refl, sym, ap, subst, ◌∙◌, arith}
use Rattle.std.specs.Prelude.{slice_get}
use Rattle.std.specs.List.{filter, list_any}
use Rattle.std.proofs.lemmas.List.{length_push, length-map}
use Rattle.std.proofs.lemmas.List.Elements.{All-push, All-filter}
use Rattle.std.proofs.lemmas.List.Filters.{length-filter_both}
use Rattle.std.proofs.lemmas.Option.{same_Some}
use Rattle.type_table.specs.Run.{IsLegal}
use Rattle.type_table.proofs.Elements.{differ_turned}
use Rattle.escrow_laws.specs.Bounds.{amounts_of}
use Rattle.escrow_laws.specs.Firm.{with_op}
use Rattle.escrow_laws.specs.Marks.{mark_of, unmarked}
use Rattle.escrow_laws.specs.Laws.{MarksAreExact, MarksFit, FirmIsLegal}
use Rattle.escrow_laws.specs.declared.bounded.Bounded.{Bounded}
use Rattle.escrow_laws.specs.declared.mark.Mark.{Mark}
use Rattle.escrow_laws.specs.declared.mark.OpenMark.{OpenMark}
use Rattle.object_trait.specs.Strike.{keep_first}
use Rattle.object_trait.specs.Meaning.{Meaning, object, log_ops, is_open_of, open_of, own_of, view_of}
use Rattle.object_trait.specs.Sound.{IsSound}
use Rattle.object_trait.specs.Steps.{MayApply, applied, IsCommitBy, IsCommit, IsStrikeBy, Keeps}
use Rattle.object_trait.specs.Laws.{KeepsFirst, KeepsOthers, SoundAfterApply, SoundAfterCommit, SoundAfterStrike}
use Rattle.object_trait.specs.declared.log_entry.LogEntry.{LogEntry}
use Rattle.object_trait.proofs.Leaving.{others-stay, own-left, own-count, each-left}
use Rattle.object_trait.proofs.Runs.{open-apart}
use Rattle.object_trait.proofs.Striking.{keep_first-length}
use Rattle.object_trait.proofs.Escrow.{own-more}
use Rattle.object_trait.proofs.Intentions.{filter-without, filter-itself}
use Rattle.escrow_manager.specs.Numeric.{bounds_in, greatest, IsInEscrow}
use Rattle.escrow_manager.specs.Marks.{mark_in, with_mark, without_mark}
use Rattle.escrow_manager.specs.Totals.{totals_of, totals_with, stand}
use Rattle.escrow_manager.specs.Kept.{AreMarksOf, IsKeptInEscrow}
use Rattle.escrow_manager.specs.declared.totals.Totals.{Totals}
use Rattle.escrow_manager.proofs.Marking.{marks-put, marks-dropped, marks-same}
use Rattle.escrow_manager.proofs.Keeping.{number_at, escrow-sound, escrow-view, fits-of, view-told}
use Rattle.escrow_manager.proofs.Blocking.{mark_with, listed-with}
use Rattle.escrow_manager.proofs.Summing.{totals-told, totals-left}

-- the totals of these marks of what was done at an object
abbrev pub totals_at : Meaning → List OpenMark → Totals
totals_at m marks = totals_of (greatest m.checked) marks

-- ---- a further operation

pub applied-kept : SoundAfterApply → {m : Meaning} {marks : List OpenMark} {totals : Totals} → IsKeptInEscrow m marks totals → (t k : ℕ) (b : Bounded) → slice_get (bounds_in m.checked) k ≡ Some b → MayApply m t k →
    IsKeptInEscrow (applied m t k) (with_mark (record { by = t; mark = mark_with m t b }) marks) (totals_at m (with_mark (record { by = t; mark = mark_with m t b }) marks))
applied-kept sound_after {m} {marks} {totals} h t k b found may =
    let entry : LogEntry = record { by = t; op = k; done = false } in
    let room = may.room in
    record {
      numeric = h.numeric;
      covered = h.covered;
      base_fits = h.base_fits;
      ops_fit = All-push (λ (e : LogEntry). e.op < length m.checked.file.table.ops) m.log entry h.ops_fit may.operation;
      room = omega (arith, length_push m.log entry, room);
      sound = sound_after m t k h.covered h.sound may;
      listed =
          marks-same (greatest m.checked) (bounds_in m.checked) (with_op (own_of m.log) t k) (own_of (m.log ++ entry ∷ [])) (with_mark (record { by = t; mark = mark_with m t b }) marks)
          (listed-with h t k b found) (λ u. sym (own-more t k m.log u));
      summed = refl;
    }

-- ---- a commit

-- with another base and log
abbrev pub committed : Meaning → ℕ → List LogEntry → Meaning
committed m s log = record m { base = s; log = log }

pub commits-told : (m : Meaning) → IsInEscrow m.checked → (t s : ℕ) (log : List LogEntry) → view_of m t ≡ Some s → log ≡ filter (λ e. not (is_open_of t e)) m.log → IsCommit m t (committed m s log)
commits-told m numeric t s log seen rest = record {
  checked = refl;
  commit = subst (λ way. IsCommitBy way (object m) m.base m.log t s log) (sym numeric.escrow) (record { rest = rest; reached = sym (escrow-view m numeric t) ∙ seen });
}

pub committed-kept : SoundAfterCommit → MarksAreExact → MarksFit → FirmIsLegal → {m : Meaning} {marks : List OpenMark} {totals : Totals} → IsKeptInEscrow m marks totals → (t s : ℕ) (log : List LogEntry) → view_of m t ≡ Some s →
    log ≡ filter (λ e. not (is_open_of t e)) m.log → IsKeptInEscrow (committed m s log) (without_mark t marks) (totals_at m (without_mark t marks))
committed-kept sound_after exact fit legal {m} {marks} {totals} h t s log seen rest =
    let rest_of : List LogEntry = filter (λ e. not (is_open_of t e)) m.log in
    let number : s ≡ number_at m t = same_Some s (number_at m t) (sym seen ∙ view-told h exact legal t) in
    let fits = fits-of h fit legal t in
    let down = fits.down in
    let up = fits.up in
    let end = fits.end in
    let states = h.numeric.numeric.initial_inside in
    let room = h.room in
    let long = length-filter_both (is_open_of t) (λ e. not (is_open_of t e)) (λ _. refl) m.log in
    subst (λ V. IsKeptInEscrow (committed m s V) (without_mark t marks) (totals_at m (without_mark t marks))) (sym rest)
    (record {
      numeric = h.numeric;
      covered = h.covered;
      base_fits = omega (arith, number, down, up, end, states);
      ops_fit = All-filter (λ e. not (is_open_of t e)) (λ (e : LogEntry). e.op < length m.checked.file.table.ops) m.log h.ops_fit;
      room = omega (arith, long, room);
      sound = sound_after m (committed m s rest_of) t h.covered h.sound (commits-told m h.numeric t s rest_of seen refl);
      listed =
          marks-dropped (greatest m.checked) (bounds_in m.checked) (own_of m.log) (own_of rest_of) marks t h.listed (ap log_ops (filter-itself (is_open_of t) m.log))
          (λ u other. ap log_ops (filter-without (is_open_of t) (is_open_of u) (open-apart t u (differ_turned u t other)) m.log));
      summed = refl;
    })

-- ---- a strike

-- with another log
abbrev pub with_log : Meaning → List LogEntry → Meaning
with_log m log = record m { log = log }

pub left-keeps : (m : Meaning) → IsInEscrow m.checked → (t n : ℕ) (log : List LogEntry) → log ≡ keep_first (is_open_of t) n m.log → Keeps m t n (with_log m log)
left-keeps m numeric t n log left = record {
  checked = refl;
  strike = subst (λ way. IsStrikeBy way (object m) m.base m.log t n m.base log) (sym numeric.escrow) (record { same_base = refl; rest = left });
}

pub struck-sound : SoundAfterStrike → {m : Meaning} {marks : List OpenMark} {totals : Totals} → IsKeptInEscrow m marks totals → (t n : ℕ) (log : List LogEntry) → log ≡ keep_first (is_open_of t) n m.log → IsSound (with_log m log)
struck-sound sound_after {m} {marks} {totals} h t n log left = sound_after m (with_log m log) t n h.covered h.sound (left-keeps m h.numeric t n log left)

-- what t did stays legal
pub struck-legal : SoundAfterStrike → FirmIsLegal → {m : Meaning} {marks : List OpenMark} {totals : Totals} → IsKeptInEscrow m marks totals → (t n : ℕ) (log : List LogEntry) → log ≡ keep_first (is_open_of t) n m.log →
    IsLegal m.checked.file.table (Some m.base) (own_of log t)
struck-legal sound_after legal {m} {marks} {totals} h t n log left =
    legal m.checked.file.table (amounts_of (bounds_in m.checked)) m.base (own_of log) t (escrow-sound (with_log m log) h.numeric (struck-sound sound_after h t n log left)).firm

struck-kept : SoundAfterStrike → {m : Meaning} {marks : List OpenMark} {totals : Totals} → IsKeptInEscrow m marks totals → (t n : ℕ) (log : List LogEntry) (new : List OpenMark) → log ≡ keep_first (is_open_of t) n m.log →
    AreMarksOf (greatest m.checked) (bounds_in m.checked) (own_of log) new → IsKeptInEscrow (with_log m log) new (totals_at m new)
struck-kept sound_after {m} {marks} {totals} h t n log new left listed =
    let room = h.room in
    let long : length log ≤ length m.log = subst (λ V. length V ≤ length m.log) (sym left) (keep_first-length (is_open_of t) n m.log) in
    record {
      numeric = h.numeric;
      covered = h.covered;
      base_fits = h.base_fits;
      ops_fit = each-left (λ (e : LogEntry). e.op < length m.checked.file.table.ops) t n m.log log left h.ops_fit;
      room = omega (arith, room, long);
      sound = struck-sound sound_after h t n log left;
      listed = listed;
      summed = refl;
    }

-- nothing of t is left
pub dropped-kept : SoundAfterStrike → KeepsFirst LogEntry → KeepsOthers LogEntry → {m : Meaning} {marks : List OpenMark} {totals : Totals} → IsKeptInEscrow m marks totals → (t n : ℕ) (log : List LogEntry) → n ≡ 0 →
    log ≡ keep_first (is_open_of t) n m.log → IsKeptInEscrow (with_log m log) (without_mark t marks) (totals_at m (without_mark t marks))
dropped-kept sound_after first others {m} {marks} {totals} h t n log nothing left =
    struck-kept sound_after h t n log (without_mark t marks) left
    (marks-dropped (greatest m.checked) (bounds_in m.checked) (own_of m.log) (own_of log) marks t h.listed
    (ap log_ops (own-left first t n m.log log left) ∙ ap (λ j. log_ops (take j (open_of t m.log))) nothing)
    (λ u other. ap log_ops (others-stay others t u n m.log log left other)))

-- some of t's entries are left, where at least one stays
some-left : KeepsFirst LogEntry → (t n : ℕ) (old new : List LogEntry) → n ≤ length (open_of t old) → 0 < n → new ≡ keep_first (is_open_of t) n old → own_of new t ≡ [] → ⊥
some-left first t n old new many some left none =
    let count : length (own_of new t) ≡ n = length-map (open_of t new) (λ (e : LogEntry). e.op) ∙ own-count first t n old new left many in
    let nothing = ap length none in
    omega (arith, count, nothing, some)

-- something is left
pub rewound-kept : SoundAfterStrike → KeepsFirst LogEntry → KeepsOthers LogEntry → {m : Meaning} {marks : List OpenMark} {totals : Totals} → IsKeptInEscrow m marks totals → (t n : ℕ) (log : List LogEntry) (mark : Mark) →
    n ≤ length (open_of t m.log) → 0 < n → log ≡ keep_first (is_open_of t) n m.log → mark ≡ mark_of (greatest m.checked) (bounds_in m.checked) (own_of log t) →
    IsKeptInEscrow (with_log m log) (with_mark (record { by = t; mark = mark }) marks) (totals_at m (with_mark (record { by = t; mark = mark }) marks))
rewound-kept sound_after first others {m} {marks} {totals} h t n log mark many some left made =
    struck-kept sound_after h t n log (with_mark (record { by = t; mark = mark }) marks) left
    (marks-put (greatest m.checked) (bounds_in m.checked) (own_of m.log) (own_of log) marks (record { by = t; mark = mark }) h.listed made
    (λ none. some-left first t n m.log log many some left none)
    (λ u other. ap log_ops (others-stay others t u n m.log log left other)))

-- t has a mark there
pub listed-some : {m : Meaning} {marks : List OpenMark} {totals : Totals} → IsKeptInEscrow m marks totals → (t : ℕ) → 0 < length (open_of t m.log) → list_any (λ (o : OpenMark). eqb o.by t) marks ≡ false → ⊥
listed-some {m} {marks} {totals} h t some none =
    let nothing = ap length (h.listed.all t none) in
    let long = length-map (open_of t m.log) (λ (e : LogEntry). e.op) in
    omega (arith, nothing, long, some)

-- ---- said otherwise

-- kept, with the marks and totals that were computed
pub kept-told : {m : Meaning} {marks : List OpenMark} {totals : Totals} (made : List OpenMark) → IsKeptInEscrow m made (totals_at m made) → marks ≡ made → totals ≡ totals_at m marks → IsKeptInEscrow m marks totals
kept-told {m} {marks} {totals} made h same told =
    subst (λ x. IsKeptInEscrow m marks x) (sym told) (subst (λ V. IsKeptInEscrow m V (totals_at m V)) (sym same) h)

-- where the old mark's extremes aren't the only ones, the totals with the new one are those of the marks with it
pub told-with : {m : Meaning} {marks : List OpenMark} {totals : Totals} → IsKeptInEscrow m marks totals → (t top : ℕ) (old new : Mark) (made : List OpenMark) → top ≡ greatest m.checked → old ≡ mark_in (greatest m.checked) t marks →
    made ≡ with_mark (record { by = t; mark = new }) marks → stand totals old new ≡ true → totals_with totals old new ≡ totals_of top made
told-with {m} {marks} {totals} h t top old new made is_top is_old is_made is =
    let g = greatest m.checked in
    ap (λ x. totals_with x old new) h.summed ∙ ap (λ (x : Mark). totals_with (totals_of g marks) x new) is_old
    ∙ totals-told g (record { by = t; mark = new }) marks h.listed.ordered (subst (λ (x : Mark). stand (totals_of g marks) x new ≡ true) is_old (subst (λ x. stand x old new ≡ true) h.summed is))
    ∙ ap (totals_of g) (sym is_made) ∙ ap (λ n. totals_of n made) (sym is_top)

-- and those without it are those of the marks without it
pub told-without : {m : Meaning} {marks : List OpenMark} {totals : Totals} → IsKeptInEscrow m marks totals → (t top : ℕ) (old : Mark) (made : List OpenMark) → top ≡ greatest m.checked → old ≡ mark_in top t marks →
    made ≡ without_mark t marks → stand totals old (unmarked top) ≡ true → totals_with totals old (unmarked top) ≡ totals_of top made
told-without {m} {marks} {totals} h t top old made is_top is_old is_made is =
    let summed : totals ≡ totals_of top marks = h.summed ∙ ap (λ n. totals_of n marks) (sym is_top) in
    let stands : stand (totals_of top marks) (mark_in top t marks) (unmarked top) ≡ true =
    subst (λ (x : Mark). stand (totals_of top marks) x (unmarked top) ≡ true) is_old (subst (λ x. stand x old (unmarked top) ≡ true) summed is) in
    ap (λ x. totals_with x old (unmarked top)) summed ∙ ap (λ (x : Mark). totals_with (totals_of top marks) x (unmarked top)) is_old
    ∙ totals-left top t marks h.listed.ordered stands ∙ ap (totals_of top) (sym is_made)
