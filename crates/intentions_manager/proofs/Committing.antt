-- A commit keeps what a manager keeps: each other view is carried on by the operations that were committed.
use Rattle.std.proofs.Common.{◌≡◌, ℕ, ◌<◌, ◌≤◌, false, not, eqb, ◌⊎◌, List, [], ◌∷◌, ◌++◌, map, length, All, Option, Some, IsSome, refl, sym, ap, subst, ◌∙◌, inl, inr, arith}
use Rattle.std.specs.List.{AllByRecursion}
use Rattle.std.proofs.lemmas.Bool.{cases_Bool, eqb-true}
use Rattle.std.proofs.lemmas.List.{nil_from_length}
use Rattle.type_table.specs.Table.{Table}
use Rattle.type_table.specs.Run.{run, IsLegal, AreEqui}
use Rattle.type_table.specs.Laws.{RunsAlong, EquiExtends, EndsInside, EndsWithin}
use Rattle.type_table.proofs.Elements.{each-filter, each-map}
use Rattle.type_table.proofs.Legal.{equi-turned}
use Rattle.object_trait.specs.Orders.{Pairs}
use Rattle.object_trait.specs.Strike.{keep_first}
use Rattle.object_trait.specs.Meaning.{Meaning, object, log_ops, is_open_of, open_of, run_log}
use Rattle.object_trait.specs.Steps.{IsCommitBy, IsCommit}
use Rattle.object_trait.specs.Laws.{KeepsFirst, KeepsNone, KeepsOthers, OpensCommute, SoundAfterCommit}
use Rattle.object_trait.specs.declared.log_entry.LogEntry.{LogEntry}
use Rattle.object_trait.proofs.Leaving.{others-stay, own-left, each-left}
use Rattle.object_trait.proofs.Rows.{ordered-dropped}
use Rattle.object_trait.proofs.Striking.{keep_first-length}
use Rattle.intentions_manager.specs.Views.{view_owner, view_owners, bare, seen_by, without_view}
use Rattle.intentions_manager.specs.Walk.{walked, carried, FitsTable}
use Rattle.intentions_manager.specs.Kept.{IsView, IsKeptDeferred}
use Rattle.intentions_manager.specs.declared.views.View.{View}
use Rattle.intentions_manager.proofs.Seeing.{seen-dropped_other}
use Rattle.intentions_manager.proofs.Walking.{walk_view, walk-run, carried-map}
use Rattle.intentions_manager.proofs.Keeping.{deferred-covered, equi-same, view-bare, seen-count}

-- the laws that a commit uses
pub record CommitLaws : Type 0 where
  pub along : RunsAlong
  pub extends : EquiExtends
  pub inside : EndsInside
  pub within : EndsWithin
  pub opens : OpensCommute
  pub none : KeepsNone LogEntry
  pub first : KeepsFirst LogEntry
  pub others : KeepsOthers LogEntry
  pub sound_after : SoundAfterCommit

-- ---- another's view

-- carried on by t's operations, it is equieffective to the run of its own from t's view
equi-carried : CommitLaws → {m : Meaning} {views : List View} (t u : ℕ) → IsKeptDeferred m views → eqb t u ≡ false →
    let T = m.checked.file.table in let mine = log_ops (open_of t m.log) in let theirs = log_ops (open_of u m.log) in
    IsLegal T (Some (seen_by u m.base views).state) mine
    × AreEqui T (run T (Some (seen_by u m.base views).state) mine) (run T (Some (seen_by t m.base views).state) theirs)
equi-carried laws {m} {views} t u h differ =
    let T = m.checked.file.table in
    let base : Option ℕ = Some m.base in
    let mine = log_ops (open_of t m.log) in
    let theirs = log_ops (open_of u m.log) in
    let v : Option ℕ = Some (seen_by u m.base views).state in
    let w : Option ℕ = Some (seen_by t m.base views).state in
    let extended = laws.extends T in
    let both = laws.opens m t u h.covered h.deferred h.sound differ in
    let their_first : run T base (theirs ++ mine) ≡ run T (run T base theirs) mine = laws.along T base theirs mine in
    let mine_first : run T base (mine ++ theirs) ≡ run T (run T base mine) theirs = laws.along T base mine theirs in
    let legal_mine : IsLegal T (run T base theirs) mine = subst (λ x. IsSome x) their_first both.1 in
    let legal_theirs : IsLegal T (run T base mine) theirs = subst (λ x. IsSome x) mine_first both.0 in
    let by_mine = extended.after (run T base theirs) v mine (equi-turned T v (run T base theirs) (h.seen u).equi) legal_mine in
    let by_theirs = extended.after (run T base mine) w theirs (equi-turned T w (run T base mine) (h.seen t).equi) legal_theirs in
    let exchanged : AreEqui T (run T (run T base theirs) mine) (run T (run T base mine) theirs) =
    equi-same T (run T base (theirs ++ mine)) (run T base (mine ++ theirs)) (run T (run T base theirs) mine) (run T (run T base mine) theirs) their_first mine_first
    (equi-turned T (run T base (mine ++ theirs)) (run T base (theirs ++ mine)) both.2) in (
      by_mine.0,
      extended.through (run T v mine) (run T (run T base theirs) mine) (run T w theirs) (equi-turned T (run T (run T base theirs) mine) (run T v mine) by_mine.1)
          (extended.through (run T (run T base theirs) mine) (run T (run T base mine) theirs) (run T w theirs) exchanged by_theirs.1),
    )

-- so it is what may be shown, from t's view as base
view-carried : CommitLaws → {m : Meaning} {views : List View} (t u : ℕ) (log : List LogEntry) → IsKeptDeferred m views → eqb t u ≡ false → open_of u log ≡ open_of u m.log →
    IsView (object m) (seen_by t m.base views).state log u (walk_view m.checked.file.table t m.log (seen_by u m.base views))
view-carried laws {m} {views} t u log h differ same =
    let T = m.checked.file.table in
    let o = object m in
    let mine = log_ops (open_of t m.log) in
    let shown = h.seen u in
    let s = (seen_by u m.base views).state in
    let base = (seen_by t m.base views).state in
    let end = walked T t s m.log in
    let both = equi-carried laws t u h differ in
    let walk : run T (Some s) mine ≡ Some end = walk-run T t s m.log both.0 in
    record {
      fits = laws.within T s end mine h.table shown.fits walk;
      inside = laws.inside T o.set s end mine (deferred-covered m h.deferred h.covered).closed shown.inside walk;
      equi = equi-same T (run T (Some s) mine) (run_log o base (open_of u m.log)) (Some end) (run_log o base (open_of u log)) walk (ap (run_log o base) (sym same)) both.1;
      counted = shown.counted ∙ ap length (sym same);
    }

-- ---- what each sees

-- a view is carried on, and who has none sees the new base
seen-carried : (T : Table) (t : ℕ) (part : List LogEntry) (u base new : ℕ) (views : List View) →
    (seen_by u new (map (walk_view T t part) views) ≡ walk_view T t part (seen_by u base views))
    ⊎ ((seen_by u base views ≡ bare u base) × (seen_by u new (map (walk_view T t part) views) ≡ bare u new))
seen-carried T t part u base new [] = inr (refl, refl)
seen-carried T t part u base new (v ∷ views) =
    elim (cases_Bool (eqb v.by u)) [
      | inl is ↦ rw is (inl refl)
      | inr isnt ↦ rw isnt (seen-carried T t part u base new views)
    ]

-- t sees it too
seen-committed : (T : Table) (t : ℕ) (part : List LogEntry) (new : ℕ) (views : List View) → seen_by t new (map (walk_view T t part) (without_view t views)) ≡ bare t new
seen-committed T t part new [] = refl
seen-committed T t part new (v ∷ views) =
    elim (cases_Bool (eqb v.by t)) [
      | inl is ↦ rw is (seen-committed T t part new views)
      | inr isnt ↦ simp isnt (seen-committed T t part new views)
    ]

view-committed : CommitLaws → {m : Meaning} {views : List View} (t : ℕ) (log : List LogEntry) → IsKeptDeferred m views → ((u : ℕ) → eqb t u ≡ false → open_of u log ≡ open_of u m.log) → open_of t log ≡ [] → (u : ℕ) →
    IsView (object m) (seen_by t m.base views).state log u (seen_by u (seen_by t m.base views).state (map (walk_view m.checked.file.table t m.log) (without_view t views)))
view-committed laws {m} {views} t log h same none u =
    let T = m.checked.file.table in
    let o = object m in
    let base = (seen_by t m.base views).state in
    let committed = h.seen t in
    let new = map (walk_view T t m.log) (without_view t views) in
    elim (cases_Bool (eqb t u)) [
      | inl is ↦
          subst (λ z. IsView o base log z (seen_by z base new)) (eqb-true t u is)
          (subst (λ v. IsView o base log t v) (sym (seen-committed T t m.log base views)) (view-bare o base log t none committed.fits committed.inside))
      | inr isnt ↦
          let before = seen-dropped_other t u m.base views isnt in
          elim (seen-carried T t m.log u m.base base (without_view t views)) [
            | inl on ↦ subst (λ v. IsView o base log u v) (sym (on ∙ ap (walk_view T t m.log) before)) (view-carried laws t u log h isnt (same u isnt))
            | inr nowhere ↦
                let counted : length (open_of u m.log) ≡ 0 = sym (seen-count u (bare u m.base) h (sym nowhere.0 ∙ before)) in
                subst (λ v. IsView o base log u v) (sym nowhere.1)
                (view-bare o base log u (same u isnt ∙ nil_from_length (open_of u m.log) counted) committed.fits committed.inside)
          ]
    ]

-- ---- the commit

-- what the code did: w is t's view, and t's entries were taken out after the other views walked along them
pub record IsCommitted (m : Meaning) (views : List View) (t : ℕ) (w : View) (log : List LogEntry) (new : List View) : Type 0 where
  pub seen : w ≡ seen_by t m.base views
  pub cut : log ≡ keep_first (is_open_of t) 0 m.log
  pub on : new ≡ carried m.checked.file.table t m.log (without_view t views)
  pub fit : All (FitsTable m.checked.file.table) new

-- who has no entry sees base
seen-base : (t base : ℕ) (views : List View) → AllByRecursion (λ (v : View). 0 < v.count) views → (seen_by t base views).count ≡ 0 → (seen_by t base views).state ≡ base
seen-base t base [] some none = refl
seen-base t base (v ∷ views) some none =
    elim (cases_Bool (eqb v.by t)) [
      | inl is ↦ absurd (let nothing : v.count ≡ 0 = rw is at none in omega (arith, some.0, nothing))
      | inr isnt ↦ rw isnt (seen-base t base views some.1 (rw isnt at none))
    ]

-- where t has none, its view is base
base-still : {m : Meaning} {views : List View} {t : ℕ} {w : View} {log : List LogEntry} {new : List View} → IsKeptDeferred m views → IsCommitted m views t w log new → open_of t m.log ≡ [] → w.state ≡ m.base
base-still {m} {views} {t} {w} {log} {new} h done none =
    let count : w.count ≡ 0 = seen-count t w h done.seen ∙ ap length none in
    ap (λ (v : View). v.state) done.seen ∙ seen-base t m.base views h.some (ap (λ (v : View). v.count) (sym done.seen) ∙ count)

-- the meaning after it
abbrev pub committed : Meaning → View → List LogEntry → Meaning
committed m w log = record m { base = w.state; log = log }

pub committed-commits : CommitLaws → {m : Meaning} {views : List View} {t : ℕ} {w : View} {log : List LogEntry} {new : List View} → IsKeptDeferred m views → IsCommitted m views t w log new → IsCommit m t (committed m w log)
committed-commits laws {m} {views} {t} {w} {log} {new} h done =
    let o = object m in
    let shown = subst (λ v. IsView o m.base m.log t v) (sym done.seen) (h.seen t) in
    record {
      checked = refl;
      commit =
          subst (λ kind. IsCommitBy kind o m.base m.log t w.state log) (sym h.deferred)
          (record { rest = done.cut ∙ laws.none (is_open_of t) m.log; inside = shown.inside; reached = shown.equi; still = base-still h done });
    }

-- views that are carried on have their owners
owners-carried : (T : Table) (t : ℕ) (part : List LogEntry) (views : List View) → view_owners (map (walk_view T t part) views) ≡ view_owners views
owners-carried T t part [] = refl
owners-carried T t part (v ∷ views) = ap (λ rest. v.by ∷ rest) (owners-carried T t part views)

pub committed-kept : CommitLaws → {m : Meaning} {views : List View} {t : ℕ} {w : View} {log : List LogEntry} {new : List View} → IsKeptDeferred m views → IsCommitted m views t w log new → IsKeptDeferred (committed m w log) new
committed-kept laws {m} {views} {t} {w} {log} {new} h done =
    let T = m.checked.file.table in
    let o = object m in
    let left = done.cut in
    let base : (seen_by t m.base views).state ≡ w.state = ap (λ (v : View). v.state) (sym done.seen) in
    let on : new ≡ map (walk_view T t m.log) (without_view t views) = done.on ∙ carried-map T t m.log (without_view t views) in
    let seen = view-committed laws t log h (λ u differ. others-stay laws.others t u 0 m.log log left differ) (own-left laws.first t 0 m.log log left) in
    let shown = h.seen t in
    let room = h.room in
    let long : length log ≤ length m.log = subst (λ V. length V ≤ length m.log) (sym left) (keep_first-length (is_open_of t) 0 m.log) in
    record {
      deferred = h.deferred;
      table = h.table;
      covered = h.covered;
      base_fits = subst (λ s. s < T.states) base shown.fits;
      ops_fit = each-left (λ (e : LogEntry). e.op < length T.ops) t 0 m.log log left h.ops_fit;
      room = omega arith;
      sound = laws.sound_after m (committed m w log) t h.covered h.sound (committed-commits laws h done);
      seen = λ u. subst (λ V. IsView o w.state log u (seen_by u w.state V)) (sym on) (subst (λ s. IsView o s log u (seen_by u s (map (walk_view T t m.log) (without_view t views)))) base (seen u));
      fit = done.fit;
      some =
          subst (λ V. AllByRecursion (λ (v : View). 0 < v.count) V) (sym on)
          (each-map (λ (v : View). 0 < v.count) (walk_view T t m.log) (without_view t views) (each-filter (λ (v : View). 0 < v.count) (λ v. not (eqb v.by t)) views h.some));
      ordered =
          subst (λ V. Pairs (λ a b. a < b) V) (sym (ap view_owners on ∙ owners-carried T t m.log (without_view t views))) (ordered-dropped view_owner (λ (v : View). not (eqb v.by t)) views h.ordered);
    }
