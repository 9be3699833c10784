-- An operation and its commit at once, where no transaction is open: base is the state after it.
use Rattle.std.proofs.Common.{◌≡◌, ℕ, ◌<◌, true, List, [], ◌∷◌, ◌++◌, length, Some, refl, sym, ap, subst, ◌∙◌, arith}
use Rattle.std.proofs.lemmas.Bool.{eq-eqb}
use Rattle.type_table.specs.Table.{next}
use Rattle.type_table.specs.Run.{IsLegal}
use Rattle.object_trait.specs.Meaning.{Meaning, object, log_ops, open_of, run_log}
use Rattle.object_trait.specs.Sound.{IsSoundBy}
use Rattle.object_trait.specs.Steps.{MayApply, applied, IsCommitBy, IsCommit}
use Rattle.object_trait.proofs.Runs.{open-push}
use Rattle.intentions_manager.specs.Views.{seen_by}
use Rattle.intentions_manager.specs.Walk.{stepped}
use Rattle.intentions_manager.specs.Kept.{IsView, IsKeptDeferred}
use Rattle.intentions_manager.specs.declared.views.View.{View}
use Rattle.intentions_manager.proofs.Walking.{some_state}
use Rattle.intentions_manager.proofs.Keeping.{deferred-sound, deferred-covered, deferred-view, equi-same, seen-count, view-bare, entry}

-- nobody has a view
no-views : (m : Meaning) (views : List View) → IsKeptDeferred m views → m.log ≡ [] → views ≡ []
no-views m [] h idle = refl
no-views m (v ∷ views) h idle =
    let own : v ≡ seen_by v.by m.base (v ∷ views) = rw (eq-eqb v.by v.by refl) refl in
    let none : v.count ≡ 0 = seen-count v.by v h own ∙ ap (λ log. length (open_of v.by log)) idle in
    let some = h.some.0 in
    absurd (omega (arith, none, some))

-- with another base
abbrev pub with_base : Meaning → ℕ → Meaning
with_base m s = record m { base = s }

module _ {m : Meaning} {views : List View} (h : IsKeptDeferred m views) (idle : m.log ≡ []) (t k s : ℕ) (may : MayApply m t k) (made : s ≡ stepped m.checked.file.table m.base k) where
  -- what is legal for t is legal in base
  alone-steps : next m.checked.file.table m.base k ≡ Some s
  alone-steps =
      let T = m.checked.file.table in
      let view = deferred-view m t h.deferred ∙ ap (λ log. run_log (object m) m.base (open_of t log)) idle in
      some_state T (next T m.base k) [] m.base (subst (λ x. IsLegal T x (k ∷ [])) view may.legal) ∙ ap Some (sym made)

  -- and leads to a state of the type's set
  alone-inside : (object m).set s ≡ true
  alone-inside = (deferred-covered m h.deferred h.covered).closed m.base k s (deferred-sound m h.deferred h.sound).inside alone-steps

  pub alone-commits : IsCommit (applied m t k) t (with_base m s)
  alone-commits =
      let o = object m in
      let log = m.log ++ entry t k ∷ [] in
      let own : open_of t log ≡ entry t k ∷ [] = rw idle (open-push [] (entry t k) refl) in
      let end : Some s ≡ run_log o m.base (open_of t log) = sym (ap (run_log o m.base) own ∙ alone-steps) in
      record {
        checked = refl;
        commit =
            subst (λ kind. IsCommitBy kind o m.base log t s m.log) (sym h.deferred)
            (record {
              rest = rw (idle, eq-eqb t t refl) refl;
              inside = alone-inside;
              reached = equi-same o.table (Some s) (Some s) (Some s) (run_log o m.base (open_of t log)) refl end (λ ks legal. legal, λ ks legal. legal);
              still = λ none. (let some = ap length (sym own ∙ none) in absurd (omega (arith, some)));
            });
      }

  pub alone-kept : s < m.checked.file.table.states → IsKeptDeferred (with_base m s) views
  alone-kept fits =
      let o = object m in
      let old = deferred-sound m h.deferred h.sound in
      record {
        deferred = h.deferred;
        table = h.table;
        covered = h.covered;
        base_fits = fits;
        ops_fit = h.ops_fit;
        room = h.room;
        sound =
            subst (λ kind. IsSoundBy kind o s m.log) (sym h.deferred)
            (record { inside = alone-inside; all_open = old.all_open; legal = λ u. subst (λ log. IsLegal o.table (Some s) (log_ops (open_of u log))) (sym idle) refl; locked = old.locked });
        seen = λ u. subst (λ V. IsView o s m.log u (seen_by u s V)) (sym (no-views m views h idle)) (view-bare o s m.log u (ap (open_of u) idle) fits alone-inside);
        fit = h.fit;
        some = h.some;
        ordered = h.ordered;
      }
