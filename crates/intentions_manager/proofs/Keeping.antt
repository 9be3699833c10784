-- What a manager keeps, and that a further operation keeps it.
use Rattle.std.proofs.Common.{◌≡◌, ◌↔◌, ℕ, ◌+◌, ◌<◌, true, false, eqb, List, [], ◌∷◌, ◌++◌, length, All, Option, Some, refl, sym, ap, subst, ◌∙◌, inl, inr, arith}
use Rattle.std.specs.Option.{is_some}
use Rattle.std.proofs.lemmas.Bool.{cases_Bool, eqb-true}
use Rattle.std.proofs.lemmas.List.{map-append, length_push}
use Rattle.std.proofs.lemmas.List.Elements.{All-push, All-weaker, All-from_recursion, recursion_from_All}
use Rattle.type_table.specs.Table.{Table, next}
use Rattle.type_table.specs.Run.{run, IsLegal, AreEqui}
use Rattle.type_table.specs.Laws.{RunsAlong, EquiExtends, StepsWithin}
use Rattle.type_table.specs.declared.kind.Kind.TheVariants.{Intentions}
use Rattle.type_table.specs.Commute.{Covers}
use Rattle.type_table.proofs.Elements.{differ_turned}
use Rattle.type_table.specs.declared.table_kind.TableKind.TheVariants as kind
use Rattle.object_trait.specs.Object.{Object, IsCovered, CoversBy}
use Rattle.object_trait.specs.Meaning.{Meaning, object, log_ops, open_of, AreOpen, run_log, view_by, view_of}
use Rattle.object_trait.specs.Sound.{IsSound, IsSoundBy, IsSoundIntentions}
use Rattle.object_trait.specs.Steps.{IsLegalFor, MayApply, applied}
use Rattle.object_trait.specs.Laws.{SoundAfterApply}
use Rattle.object_trait.specs.declared.log_entry.LogEntry.{LogEntry}
use Rattle.object_trait.proofs.Rows.{each-put, ordered-put}
use Rattle.object_trait.proofs.Runs.{open-push, open-push_other}
use Rattle.intentions_manager.specs.Views.{view_owner, bare, seen_by, with_view}
use Rattle.intentions_manager.specs.Walk.{stepped, walked, FitsTable}
use Rattle.intentions_manager.specs.Kept.{IsView, IsKeptDeferred}
use Rattle.intentions_manager.specs.declared.views.View.{View}
use Rattle.intentions_manager.specs.declared.manager.IntentionsManager.TheInside.{Inside}
use Rattle.intentions_manager.proofs.Seeing.{seen-put, seen-put_other}
use Rattle.intentions_manager.proofs.Walking.{some_state, walk-run}

-- ---- deferred update

-- what a manager of these fields means
abbrev pub meant : Inside → Meaning
meant a = record { checked = a.checked.value; base = a.base; log = a.log.items }

pub deferred-sound : (m : Meaning) → m.checked.kind ≡ Intentions → IsSound m → IsSoundIntentions (object m) m.base m.log
deferred-sound m deferred sound = subst (λ way. IsSoundBy way (object m) m.base m.log) deferred sound

pub deferred-covered : (m : Meaning) → m.checked.kind ≡ Intentions → IsCovered (object m) → Covers kind.Intentions (object m).table (object m).set (object m).conflicts
deferred-covered m deferred covered = subst (λ way. CoversBy way (object m)) deferred covered

pub deferred-view : (m : Meaning) (t : ℕ) → m.checked.kind ≡ Intentions → view_of m t ≡ run_log (object m) m.base (open_of t m.log)
deferred-view m t deferred = ap (λ way. view_by way (object m) m.base m.log t) deferred

-- all entries are open
pub all-open : {m : Meaning} {views : List View} → IsKeptDeferred m views → AreOpen m.log
all-open {m} {views} h = All-from_recursion (λ (e : LogEntry). e.done ≡ false) m.log (deferred-sound m h.deferred h.sound).all_open

-- each operation has a bit of a word
pub low-ops : {m : Meaning} {views : List View} → IsKeptDeferred m views → All (λ (e : LogEntry). e.op < 64) m.log
low-ops {m} {views} h =
    let few = h.table.ops_fit in
    All-weaker (λ (e : LogEntry). e.op < length m.checked.file.table.ops) (λ (e : LogEntry). e.op < 64) (λ e inside. omega (arith, few, inside)) m.log h.ops_fit

-- equieffective states, under other names
pub equi-same : (T : Table) (a b c d : Option ℕ) → a ≡ c → b ≡ d → AreEqui T a b → AreEqui T c d
equi-same T a b c d p q h = subst (λ x. AreEqui T x d) p (subst (λ y. AreEqui T a y) q h)

-- ---- what one sees

-- it depends on one's own entries alone
pub view-same : (o : Object) (base : ℕ) (old new : List LogEntry) (u : ℕ) (v : View) → open_of u new ≡ open_of u old → IsView o base old u v → IsView o base new u v
view-same o base old new u v same h = record {
  fits = h.fits;
  inside = h.inside;
  equi = subst (λ V. AreEqui o.table (Some v.state) (run_log o base V)) (sym same) h.equi;
  counted = h.counted ∙ ap length (sym same);
}

-- its count is that of one's entries
pub seen-count : {m : Meaning} {views : List View} (t : ℕ) (v : View) → IsKeptDeferred m views → v ≡ seen_by t m.base views → v.count ≡ length (open_of t m.log)
seen-count {m} {views} t v h seen = ap (λ (x : View). x.count) seen ∙ (h.seen t).counted

-- without entries one sees base
pub view-bare : (o : Object) (base : ℕ) (log : List LogEntry) (u : ℕ) → open_of u log ≡ [] → base < o.table.states → o.set base ≡ true → IsView o base log u (bare u base)
view-bare o base log u none fits inside = record {
  fits = fits;
  inside = inside;
  equi = subst (λ V. AreEqui o.table (Some base) (run_log o base V)) (sym none) (λ ks legal. legal, λ ks legal. legal);
  counted = ap length (sym none);
}

-- the view is the state after one's own entries
pub view-told : {m : Meaning} {views : List View} (t : ℕ) → IsKeptDeferred m views → view_of m t ≡ Some (walked m.checked.file.table t m.base m.log)
view-told {m} {views} t h = deferred-view m t h.deferred ∙ walk-run m.checked.file.table t m.base m.log ((deferred-sound m h.deferred h.sound).legal t)

-- what is legal in the state that one is shown is legal in the view, and no more
pub legal-told : {m : Meaning} {views : List View} (t k : ℕ) → IsKeptDeferred m views → (is_some (next m.checked.file.table (seen_by t m.base views).state k) ≡ true) ↔ IsLegalFor m t k
legal-told {m} {views} t k h =
    let equi = (h.seen t).equi in
    let same = deferred-view m t h.deferred in
    let T = m.checked.file.table in
    (λ legal. subst (λ x. IsLegal T x (k ∷ [])) (sym same) (equi.0 (k ∷ []) legal), λ legal. equi.1 (k ∷ []) (subst (λ x. IsLegal T x (k ∷ [])) same legal))

-- ---- a further operation

-- the entry of t that is put after a log
abbrev pub entry : ℕ → ℕ → LogEntry
entry t k = record { by = t; op = k; done = false }

-- what t sees after operation k
abbrev pub next_view : Meaning → List View → ℕ → ℕ → View
next_view m views t k =
    let v = seen_by t m.base views in
    record { by = t; state = stepped m.checked.file.table v.state k; count = v.count + 1 }

view-applied : RunsAlong → EquiExtends → StepsWithin → {m : Meaning} {views : List View} (t k : ℕ) → IsKeptDeferred m views → MayApply m t k →
    IsView (object m) m.base (m.log ++ entry t k ∷ []) t (next_view m views t k)
view-applied along extends within {m} {views} t k h may =
    let T = m.checked.file.table in
    let o = object m in
    let v = seen_by t m.base views in
    let shown = h.seen t in
    let before = run_log o m.base (open_of t m.log) in
    let legal : IsLegal T before (k ∷ []) = subst (λ x. IsLegal T x (k ∷ [])) (deferred-view m t h.deferred) may.legal in
    let here : IsLegal T (Some v.state) (k ∷ []) = shown.equi.1 (k ∷ []) legal in
    let there : next T v.state k ≡ Some (stepped T v.state k) = some_state T (next T v.state k) [] v.state here in
    let both = (extends T).after (Some v.state) before (k ∷ []) shown.equi here in
    let opens = open-push m.log (entry t k) refl in
    let behind : run T before (k ∷ []) ≡ run_log o m.base (open_of t (m.log ++ entry t k ∷ [])) =
    sym (ap (run_log o m.base) opens ∙ ap (run T (Some m.base)) (map-append (λ (e : LogEntry). e.op) (open_of t m.log) (entry t k ∷ [])) ∙ along T (Some m.base) (log_ops (open_of t m.log)) (k ∷ [])) in
    record {
      fits = (within T v.state k (stepped T v.state k) h.table there).2;
      inside = (deferred-covered m h.deferred h.covered).closed v.state k (stepped T v.state k) shown.inside there;
      equi = equi-same T (next T v.state k) (run T before (k ∷ [])) (Some (stepped T v.state k)) (run_log o m.base (open_of t (m.log ++ entry t k ∷ []))) there behind both.1;
      counted = ap (λ n. n + 1) shown.counted ∙ sym (ap length opens ∙ length_push (open_of t m.log) (entry t k));
    }

pub applied-kept : RunsAlong → EquiExtends → StepsWithin → SoundAfterApply → {m : Meaning} {views : List View} (new : List View) (t k : ℕ) → IsKeptDeferred m views → MayApply m t k →
    new ≡ with_view (next_view m views t k) views → IsKeptDeferred (applied m t k) new
applied-kept along extends within sound_after {m} {views} new t k h may made =
    let T = m.checked.file.table in
    let o = object m in
    let w = next_view m views t k in
    let log = m.log ++ entry t k ∷ [] in
    let shown = view-applied along extends within t k h may in
    let room = may.room in
    subst (λ V. IsKeptDeferred (applied m t k) V) (sym made)
    (record {
      deferred = h.deferred;
      table = h.table;
      covered = h.covered;
      base_fits = h.base_fits;
      ops_fit = All-push (λ (e : LogEntry). e.op < length T.ops) m.log (entry t k) h.ops_fit may.operation;
      room = omega (arith, length_push m.log (entry t k));
      sound = sound_after m t k h.covered h.sound may;
      seen =
          λ u. elim (cases_Bool (eqb t u)) [
            | inl is ↦
                let number : t ≡ u = eqb-true t u is in
                subst (λ z. IsView o m.base log z (seen_by z m.base (with_view w views))) number (subst (λ v. IsView o m.base log t v) (sym (seen-put w m.base views)) shown)
            | inr isnt ↦
                subst (λ v. IsView o m.base log u v) (sym (seen-put_other w u m.base views isnt)) (view-same o m.base m.log log u (seen_by u m.base views) (open-push_other u m.log (entry t k) (differ_turned u t isnt)) (h.seen u))
          ];
      fit = All-from_recursion (FitsTable T) (with_view w views) (each-put view_owner (FitsTable T) w views shown.fits (recursion_from_All (FitsTable T) views h.fit));
      some = each-put view_owner (λ (v : View). 0 < v.count) w views (omega arith) h.some;
      ordered = ordered-put view_owner w views h.ordered;
    })
