-- A strike and an abort keep what a manager keeps.
use Rattle.std.proofs.Common.{◌≡◌, ℕ, ◌<◌, ◌≤◌, false, not, eqb, List, [], length, take, All, Some, refl, sym, ap, subst, ◌∙◌, inl, inr, arith}
use Rattle.std.specs.List.{AllByRecursion}
use Rattle.std.proofs.lemmas.Bool.{cases_Bool, eqb-true}
use Rattle.std.proofs.lemmas.List.Elements.{All-filter, All-from_recursion, recursion_from_All}
use Rattle.type_table.specs.Run.{run, AreEqui}
use Rattle.type_table.specs.Laws.{EndsInside, EndsWithin}
use Rattle.type_table.proofs.Elements.{each-filter}
use Rattle.object_trait.specs.Strike.{keep_first}
use Rattle.object_trait.specs.Meaning.{Meaning, object, log_ops, is_open_of, open_of}
use Rattle.object_trait.specs.Steps.{IsStrikeBy, Keeps}
use Rattle.object_trait.specs.Laws.{KeepsFirst, KeepsOthers, SoundAfterStrike}
use Rattle.object_trait.specs.declared.log_entry.LogEntry.{LogEntry}
use Rattle.object_trait.proofs.Leaving.{others-stay, own-left, own-count, each-left}
use Rattle.object_trait.proofs.Rows.{each-put, ordered-put, ordered-dropped}
use Rattle.object_trait.proofs.Striking.{keep_first-length}
use Rattle.intentions_manager.specs.Views.{view_owner, ViewsAscend, seen_by, with_view, without_view}
use Rattle.intentions_manager.specs.Walk.{walked, FitsTable}
use Rattle.intentions_manager.specs.Kept.{IsView, IsKeptDeferred}
use Rattle.intentions_manager.specs.declared.views.View.{View}
use Rattle.intentions_manager.proofs.Seeing.{seen-put, seen-put_other, seen-dropped, seen-dropped_other}
use Rattle.intentions_manager.proofs.Walking.{walk-run}
use Rattle.intentions_manager.proofs.Keeping.{deferred-covered, deferred-sound, view-same, view-bare}

-- the laws that a strike uses
pub record StrikeLaws : Type 0 where
  pub first : KeepsFirst LogEntry
  pub others : KeepsOthers LogEntry
  pub sound_after : SoundAfterStrike

-- with another log
abbrev pub with_log : Meaning → List LogEntry → Meaning
with_log m log = record m { log = log }

-- what is left is what a strike leaves
pub struck-keeps : {m : Meaning} {views : List View} (t n : ℕ) (log : List LogEntry) → IsKeptDeferred m views → log ≡ keep_first (is_open_of t) n m.log → Keeps m t n (with_log m log)
struck-keeps {m} {views} t n log h left = record {
  checked = refl;
  strike = subst (λ kind. IsStrikeBy kind (object m) m.base m.log t n m.base log) (sym h.deferred) (record { same_base = refl; rest = left });
}

-- where t sees what it may be shown, and all others see what they saw
struck-kept : StrikeLaws → {m : Meaning} {views : List View} (new : List View) (t n : ℕ) (log : List LogEntry) → IsKeptDeferred m views → log ≡ keep_first (is_open_of t) n m.log →
    ((u : ℕ) → eqb t u ≡ false → seen_by u m.base new ≡ seen_by u m.base views) → IsView (object m) m.base log t (seen_by t m.base new) →
    All (FitsTable m.checked.file.table) new → AllByRecursion (λ (v : View). 0 < v.count) new → ViewsAscend new → IsKeptDeferred (with_log m log) new
struck-kept laws {m} {views} new t n log h left same own fit some ordered =
    let o = object m in
    let room = h.room in
    let long : length log ≤ length m.log = subst (λ V. length V ≤ length m.log) (sym left) (keep_first-length (is_open_of t) n m.log) in
    record {
      deferred = h.deferred;
      table = h.table;
      covered = h.covered;
      base_fits = h.base_fits;
      ops_fit = each-left (λ (e : LogEntry). e.op < length m.checked.file.table.ops) t n m.log log left h.ops_fit;
      room = omega arith;
      sound = laws.sound_after m (with_log m log) t n h.covered h.sound (struck-keeps t n log h left);
      seen =
          λ u. elim (cases_Bool (eqb t u)) [
            | inl is ↦ subst (λ z. IsView o m.base log z (seen_by z m.base new)) (eqb-true t u is) own
            | inr isnt ↦ subst (λ v. IsView o m.base log u v) (sym (same u isnt)) (view-same o m.base m.log log u (seen_by u m.base views) (others-stay laws.others t u n m.log log left isnt) (h.seen u))
          ];
      fit = fit;
      some = some;
      ordered = ordered;
    }

-- ---- nothing of t is left

pub dropped-kept : StrikeLaws → {m : Meaning} {views : List View} (new : List View) (t n : ℕ) (log : List LogEntry) → IsKeptDeferred m views → log ≡ keep_first (is_open_of t) n m.log → n ≡ 0 → new ≡ without_view t views → IsKeptDeferred (with_log m log) new
dropped-kept laws {m} {views} new t n log h left nothing dropped =
    let o = object m in
    let sound = deferred-sound m h.deferred h.sound in
    let none : open_of t log ≡ [] = own-left laws.first t n m.log log left ∙ ap (λ k. take k (open_of t m.log)) nothing in
    let own : IsView o m.base log t (seen_by t m.base (without_view t views)) =
    subst (λ v. IsView o m.base log t v) (sym (seen-dropped t m.base views)) (view-bare o m.base log t none h.base_fits sound.inside) in
    subst (λ V. IsKeptDeferred (with_log m log) V) (sym dropped)
    (struck-kept laws (without_view t views) t n log h left (λ u differ. seen-dropped_other t u m.base views differ) own
    (All-filter (λ (v : View). not (eqb v.by t)) (FitsTable m.checked.file.table) views h.fit) (each-filter (λ (v : View). 0 < v.count) (λ v. not (eqb v.by t)) views h.some)
    (ordered-dropped view_owner (λ (v : View). not (eqb v.by t)) views h.ordered))

-- ---- something is left

-- the laws of what is run again
pub record RewindLaws : Type 0 where
  pub inside : EndsInside
  pub within : EndsWithin
  pub strike : StrikeLaws

-- where its entries end that are left
view-rewound : RewindLaws → {m : Meaning} {views : List View} (t n : ℕ) (log : List LogEntry) → IsKeptDeferred m views → log ≡ keep_first (is_open_of t) n m.log → n ≤ length (open_of t m.log) →
    IsView (object m) m.base log t (record { by = t; state = walked m.checked.file.table t m.base log; count = n })
view-rewound laws {m} {views} t n log h left many =
    let T = m.checked.file.table in
    let o = object m in
    let opens = log_ops (open_of t log) in
    let end = walked T t m.base log in
    let old_sound = deferred-sound m h.deferred h.sound in
    let sound = deferred-sound (with_log m log) h.deferred (laws.strike.sound_after m (with_log m log) t n h.covered h.sound (struck-keeps t n log h left)) in
    let walk : run T (Some m.base) opens ≡ Some end = walk-run T t m.base log (sound.legal t) in
    record {
      fits = laws.within T m.base end opens h.table h.base_fits walk;
      inside = laws.inside T o.set m.base end opens (deferred-covered m h.deferred h.covered).closed old_sound.inside walk;
      equi = subst (λ x. AreEqui T x (run T (Some m.base) opens)) walk (λ ks l. l, λ ks l. l);
      counted = sym (own-count laws.strike.first t n m.log log left many);
    }

pub rewound-kept : RewindLaws → {m : Meaning} {views : List View} (new : List View) (t n state : ℕ) (log : List LogEntry) → IsKeptDeferred m views → log ≡ keep_first (is_open_of t) n m.log → n ≤ length (open_of t m.log) → 0 < n →
    state ≡ walked m.checked.file.table t m.base log → new ≡ with_view (record { by = t; state = state; count = n }) views → IsKeptDeferred (with_log m log) new
rewound-kept laws {m} {views} new t n state log h left many some ended put =
    let T = m.checked.file.table in
    let o = object m in
    let w : View = record { by = t; state = state; count = n } in
    let shown : IsView o m.base log t w = subst (λ s. IsView o m.base log t (record { by = t; state = s; count = n })) (sym ended) (view-rewound laws t n log h left many) in
    let own : IsView o m.base log t (seen_by t m.base (with_view w views)) = subst (λ v. IsView o m.base log t v) (sym (seen-put w m.base views)) shown in
    subst (λ V. IsKeptDeferred (with_log m log) V) (sym put)
    (struck-kept laws.strike (with_view w views) t n log h left (λ u differ. seen-put_other w u m.base views differ) own
    (All-from_recursion (FitsTable T) (with_view w views) (each-put view_owner (FitsTable T) w views shown.fits (recursion_from_All (FitsTable T) views h.fit)))
    (each-put view_owner (λ (v : View). 0 < v.count) w views some h.some) (ordered-put view_owner w views h.ordered))
