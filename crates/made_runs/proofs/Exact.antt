-- The converse at a store: the runs that break are made by commands.
use Rattle.std.proofs.Common.{◌≡◌, ℕ, ◌+◌, false, List, [], ◌∷◌, ◌++◌, length, Some, slice_get, refl, sym, ◌∙◌, subst, arith}
use Rattle.std.specs.List.{AllByRecursion}
use Rattle.std.proofs.lemmas.Option.{same_Some}
use Rattle.type_table.proofs.Elements.{each-append, each-map}
use Rattle.object_trait.specs.Object.{Object}
use Rattle.object_trait.specs.declared.event.Event.{Event}
use Rattle.object_trait.specs.declared.event.EventKind.{EventKind}
use Rattle.object_trait.specs.declared.event.EventKind.TheVariants.{Begin, Op, Commit}
use Rattle.pair_needs.specs.Witnesses.{first_commit, second_commit, lead_of, tell_of}
use Rattle.serial_order.specs.Examples.{events}
use Rattle.serial_order.specs.History.{begins, commits}
use Rattle.serial_order.specs.Laws.{ReplayRuns}
use Rattle.serial_order.specs.Machine.{IsRun}
use Rattle.serial_order.proofs.Pairs.{each-all}
use Rattle.dynamic_atomicity.specs.Converse.{executed_by, breaking, BreaksAreEnough, UndoBreaksAreEnough}
use Rattle.dynamic_atomicity.specs.Dynamic.{CoveredIsAtomic, CommitOrderKeeps}
use Rattle.dynamic_atomicity.specs.Witnessed.{WitnessBreaks}
use Rattle.store_limits.specs.Standard.{standard_with}
use Rattle.store_limits.specs.declared.limits.Limits.{Limits}
use Rattle.made_runs.specs.Made.{IsMadeByCommands, HasOneReply, IsToldBy, HasRoomForRun}
use Rattle.made_runs.specs.Laws.{RunsAreMade, StoreCoverIsExact, StoreUndoIsExact, StoreMakesWitness}

-- what commands make is a run
pub made_is_run : ReplayRuns → (objects : List Object) (limits : Limits) (H : List Event) → IsMadeByCommands objects limits H → IsRun objects H
made_is_run replays objects limits H (commands, is) = subst (IsRun objects) is (replays objects limits (λ _. false) [] commands tt)

-- ---- the runs that break

-- operations begin nothing
begins-by : (x t : ℕ) (w : List ℕ) (rest : List EventKind) → begins (events (executed_by x t w ++ rest)) ≡ begins (events rest)
begins-by x t [] rest = refl
begins-by x t (k ∷ w) rest = begins-by x t w rest

-- four transactions begin
begins-breaking : (x first second : ℕ) (w : List ℕ) (p q : ℕ) (r : List ℕ) → begins (breaking x first second w p q r) ≡ 4
begins-breaking x first second w p q r =
    let end = begins-by x 3 r (Commit 3 ∷ []) in
    let start = begins-by x 0 w (Commit 0 ∷ Begin 1 ∷ Begin 2 ∷ Op q 1 x ∷ Op p 2 x ∷ Commit first ∷ Commit second ∷ Begin 3 ∷ (executed_by x 3 r ++ Commit 3 ∷ [])) in
    omega (arith, start, end)

-- limits with as many events as its commands need
abbrev room_of : (x first second : ℕ) (w : List ℕ) (p q : ℕ) (r : List ℕ) → Limits
room_of x first second w p q r = standard_with (length (breaking x first second w p q r) + length (breaking x first second w p q r) + 2)

-- so there is room
breaking-room : (x first second : ℕ) (w : List ℕ) (p q : ℕ) (r : List ℕ)
    → HasRoomForRun (room_of x first second w p q r) (breaking x first second w p q r)
breaking-room x first second w p q r = record { open_at_once = let few = begins-breaking x first second w p q r in omega (arith, few); events = omega arith }

module _ (objects : List Object) (x : ℕ) (o : Object) (there : slice_get objects x ≡ Some o) (once : HasOneReply o.table) where
  told : (k t : ℕ) → IsToldBy objects (Op k t x)
  told k t u at = subst (λ (found : Object). HasOneReply found.table) (same_Some o u (sym there ∙ at)) once

  told-by : (t : ℕ) (w : List ℕ) (rest : List EventKind) → AllByRecursion (IsToldBy objects) rest → AllByRecursion (IsToldBy objects) (executed_by x t w ++ rest)
  told-by t w rest after =
      each-append (IsToldBy objects) (executed_by x t w) rest (each-map (IsToldBy objects) (λ k. Op k t x) w (each-all (λ k. told k t) w)) after

  breaking-told : (first second : ℕ) (w : List ℕ) (p q : ℕ) (r : List ℕ) → AllByRecursion (λ e. IsToldBy objects e.kind) (breaking x first second w p q r)
  breaking-told first second w p q r =
      let rest : List EventKind = Commit 0 ∷ Begin 1 ∷ Begin 2 ∷ Op q 1 x ∷ Op p 2 x ∷ Commit first ∷ Commit second ∷ Begin 3 ∷ (executed_by x 3 r ++ Commit 3 ∷ []) in
      let end : AllByRecursion (IsToldBy objects) rest = (tt, (tt, (tt, (told q 1, (told p 2, (tt, (tt, (tt, told-by 3 r (Commit 3 ∷ []) (tt, tt))))))))) in
      each-map (λ (e : Event). IsToldBy objects e.kind) (λ happened. record { worker = 0; kind = happened }) (Begin 0 ∷ (executed_by x 0 w ++ rest)) (tt, told-by 0 w rest end)

  -- commands make it
  breaking-made : RunsAreMade → (first second : ℕ) (w : List ℕ) (p q : ℕ) (r : List ℕ) → IsRun objects (breaking x first second w p q r)
      → IsMadeByCommands objects (room_of x first second w p q r) (breaking x first second w p q r)
  breaking-made make first second w p q r runs = make objects _ (breaking x first second w p q r) runs (breaking-told first second w p q r) (breaking-room x first second w p q r)

-- ---- the laws

pub store_cover_is_exact : ReplayRuns → RunsAreMade → CoveredIsAtomic → BreaksAreEnough → StoreCoverIsExact
store_cover_is_exact replays make atomic breaks objects x o way there named once is reached = (
  (λ covered limits H made ts order keeps. (atomic objects H x o (made_is_run replays objects limits H made) there covered ts order keeps).legal),
  (λ admits. breaks objects x o way there named is reached (λ first second w p q r runs.
      admits (room_of x first second w p q r) (breaking x first second w p q r) (breaking-made objects x o there once make first second w p q r runs))),
)

pub store_undo_is_exact : ReplayRuns → RunsAreMade → CoveredIsAtomic → CommitOrderKeeps → UndoBreaksAreEnough → StoreUndoIsExact
store_undo_is_exact replays make atomic keeps breaks objects x o there named once undo reached = (
  (λ covered limits H made.
      let runs = made_is_run replays objects limits H made in
      let order = keeps objects H runs in
      (atomic objects H x o runs there covered (commits H) order.0 (order.1 x)).legal),
  (λ legal. breaks objects x o there named undo reached (λ w p q r runs. legal (room_of x 2 1 w p q r) (breaking x 2 1 w p q r) (breaking-made objects x o there once make 2 1 w p q r runs))),
)

pub store_makes_witness : RunsAreMade → WitnessBreaks → StoreMakesWitness
store_makes_witness make breaks = λ objects x o kind p q limits w there named once is free witness room.
    let broken = breaks objects x o kind p q w there named is free witness in
    make objects limits (breaking x (first_commit kind w.held_first) (second_commit kind w.held_first) (lead_of w) p q (tell_of w)) broken.is_run
    (breaking-told objects x o there once (first_commit kind w.held_first) (second_commit kind w.held_first) (lead_of w) p q (tell_of w)) room
