-- A worker's own transaction, and what it executed, after one more event.
use Rattle.std.proofs.Common.{◌≡◌, ℕ, ◌<◌, ◌≤◌, ◌==◌, true, false, cond, List, [], ◌∷◌, ◌++◌, length, Option, Some, slice_get, refl, sym, ap, ◌∙◌, subst, append-nil, arith}
use Rattle.std.specs.List.{AllByRecursion}
use Rattle.std.proofs.lemmas.Bool.{eq-eqb, ne_eqb}
use Rattle.std.proofs.lemmas.Option.{none-some, same_Some}
use Rattle.type_table.proofs.Elements.{found-front, found-last}
use Rattle.object_trait.specs.declared.event.Event.{Event}
use Rattle.object_trait.specs.declared.event.EventKind.{EventKind}
use Rattle.object_trait.specs.declared.event.EventKind.TheVariants as kind
use Rattle.object_trait.specs.declared.event.EventKind.TheVariants.{Begin, Op, Busy, Commit, Abort, Rollback}
use Rattle.serial_order.specs.Operations.{of}
use Rattle.serial_order.specs.History.{summary, begins, surviving, is_open}
use Rattle.serial_order.specs.After.{beginners}
use Rattle.serial_order.specs.declared.entry.Entry.{Entry}
use Rattle.workers.specs.Events.{done_for, done_by, IsReplayed}
use Rattle.workers.specs.SharedState.{Start, past, IsOwn}
use Rattle.workers.proofs.Events.{commits-more, commits-last, begins-more, begins-since, done_by-more}
use Rattle.workers.proofs.Follows.{Follows, IsApart, done_for-apart, committed-apart, ahead-apart, own-stays}
use Rattle.workers.proofs.Turned.{Leads}

-- the worker's event
abbrev pub event : ℕ → EventKind → Event
event w happened = record { worker = w; kind = happened }

-- ---- who began it

-- what a worker began it began, where it is open still
pub stays-own : (o : Start) (H : List Event) (e : Event) → Follows H e → (v t : ℕ) → IsOwn o H v t → is_open (summary (H ++ e ∷ [])) t ≡ true → IsOwn o (H ++ e ∷ []) v t
stays-own o H e last v t own open_now = record {
  still_open = open_now;
  beginner = ap (λ l. slice_get l t) last.began_by ∙ found-front (beginners H) _ t v own.beginner;
  new = own.new;
}

-- what it begins is its own
begins-own : (o : Start) (H : List Event) (w u : ℕ) → Follows H (event w (Begin u)) → o.store.history ++ past o H ≡ H → IsOwn o (H ++ event w (Begin u) ∷ []) w u
begins-own o H w u last goes_on =
    let is_next : u ≡ begins H = last.may in
    record {
      still_open = last.opened u ∙ rw (eq-eqb u u refl) refl;
      beginner =
          ap (slice_get (beginners (H ++ event w (Begin u) ∷ []))) (is_next ∙ sym last.as_many) ∙ ap (λ l. slice_get l (length (beginners H))) last.began_by
          ∙ found-last (beginners H) w;
      new = let since = begins-since o H goes_on in omega (arith, is_next, since);
    }

-- the transaction that a worker has open after its event is its own
pub leads-own : (o : Start) (H : List Event) (w : ℕ) (happened : EventKind) → Follows H (event w happened) → o.store.history ++ past o H ≡ H
    → (before now : Option ℕ) → Leads happened before now → ((t : ℕ) → before ≡ Some t → IsOwn o H w t) → (t : ℕ) → now ≡ Some t → IsOwn o (H ++ event w happened ∷ []) w t
leads-own o H w (Begin u) last goes_on before now (was, is) own t given =
    subst (IsOwn o (H ++ event w (Begin u) ∷ []) w) (same_Some u t (sym is ∙ given)) (begins-own o H w u last goes_on)
leads-own o H w (Op k u x) last goes_on before now (was, is) own t given =
    let its = own t (was ∙ sym is ∙ given) in
    stays-own o H _ last w t its (last.opened t ∙ its.still_open)
leads-own o H w (Busy c u x v) last goes_on before now (was, is) own t given =
    let its = own t (was ∙ sym is ∙ given) in
    stays-own o H _ last w t its (last.opened t ∙ its.still_open)
leads-own o H w (kind.None u x c) last goes_on before now (was, is) own t given =
    let its = own t (was ∙ sym is ∙ given) in
    stays-own o H _ last w t its (last.opened t ∙ its.still_open)
leads-own o H w (Commit u) last goes_on before now (was, is) own t given = absurd (none-some t (sym is ∙ given))
leads-own o H w (Abort u) last goes_on before now (was, is) own t given = absurd (none-some t (sym is ∙ given))
leads-own o H w (Rollback u n) last goes_on before now leads own t given = absurd leads

-- an event of a worker isn't of a transaction that the worker hasn't open
pub leads-apart : (happened : EventKind) (before now : Option ℕ) → Leads happened before now → (t : ℕ) → (before ≡ Some t → ⊥) → IsApart t happened
leads-apart (Begin u) before now leads t other = tt
leads-apart (Op k u x) before now (was, is) t other = ne_eqb u t (λ same. other (was ∙ ap Some same))
leads-apart (Busy c u x v) before now leads t other = tt
leads-apart (kind.None u x c) before now leads t other = tt
leads-apart (Commit u) before now (was, is) t other = ne_eqb u t (λ same. other (was ∙ ap Some same))
leads-apart (Abort u) before now (was, is) t other = ne_eqb u t (λ same. other (was ∙ ap Some same))
leads-apart (Rollback u n) before now leads t other = absurd leads

-- two workers have no transaction in common
pub own-apart : (o : Start) (H : List Event) (w v t : ℕ) → IsOwn o H w t → IsOwn o H v t → w ≡ v
own-apart o H w v t first second = same_Some w v (sym first.beginner ∙ second.beginner)

-- ---- what it executed

-- no operation that survives is of a transaction that hasn't begun
none-of : (begun : ℕ) (t : ℕ) (V : List Entry) (Rest : Entry → Type 0) → begun ≤ t → AllByRecursion (λ (e : Entry). (e.by < begun) × Rest e) V → of t V ≡ []
none-of begun t [] Rest ahead each = refl
none-of begun t (e ∷ V) Rest ahead each =
    let below = each.0.0 in
    let other : (e.by == t) ≡ false = ne_eqb e.by t (λ same. omega (arith, same, below, ahead)) in
    rw other (none-of begun t V Rest ahead each.1)

-- by events that execute nothing of t nothing more was executed
done_by-none : (t : ℕ) (es : List EventKind) (happened : EventKind) → done_for t happened ≡ [] → done_by t (es ++ happened ∷ []) ≡ done_by t es
done_by-none t es happened none = done_by-more t es happened ∙ ap (λ l. done_by t es ++ l) none ∙ append-nil (done_by t es)

-- what survives of the transaction that a worker has open after its event is what it executed
pub leads-operations : (H : List Event) (w : ℕ) (happened : EventKind) → Follows H (event w happened) → (es : List EventKind) (before now : Option ℕ) → Leads happened before now
    → ((t : ℕ) → before ≡ Some t → of t (surviving H) ≡ done_by t es) → ((t : ℕ) → begins H ≤ t → done_by t es ≡ []) → (t : ℕ) → now ≡ Some t
    → of t (surviving (H ++ event w happened ∷ [])) ≡ done_by t (es ++ happened ∷ [])
leads-operations H w (Begin u) last es before now (was, is) own ahead t given =
    let is_next : t ≡ begins H = sym (same_Some u t (sym is ∙ given)) ∙ last.may in
    let behind : begins H ≤ t = omega (arith, is_next) in
    last.own t ∙ none-of (begins H) t (surviving H) _ behind last.in_run.survive ∙ sym (done_by-none t es (Begin u) refl ∙ ahead t behind)
leads-operations H w (Op k u x) last es before now (was, is) own ahead t given =
    let mine : (u == t) ≡ true = eq-eqb u t (same_Some u t (sym is ∙ given)) in
    let entry : List Entry = (record { by = u; at = x; op = k }) ∷ [] in
    last.own t ∙ ap (λ b. cond b (of t (surviving H) ++ entry) (of t (surviving H))) mine ∙ ap (λ l. l ++ entry) (own t (was ∙ sym is ∙ given))
    ∙ ap (λ b. done_by t es ++ cond b entry []) (sym mine) ∙ sym (done_by-more t es (Op k u x))
leads-operations H w (Busy c u x v) last es before now (was, is) own ahead t given =
    last.own t ∙ own t (was ∙ sym is ∙ given) ∙ sym (done_by-none t es (Busy c u x v) refl)
leads-operations H w (kind.None u x c) last es before now (was, is) own ahead t given =
    last.own t ∙ own t (was ∙ sym is ∙ given) ∙ sym (done_by-none t es (kind.None u x c) refl)
leads-operations H w (Commit u) last es before now (was, is) own ahead t given = absurd (none-some t (sym is ∙ given))
leads-operations H w (Abort u) last es before now (was, is) own ahead t given = absurd (none-some t (sym is ∙ given))
leads-operations H w (Rollback u n) last es before now leads own ahead t given = absurd leads

-- ---- transactions that committed

module _ (H : List Event) (e : Event) (last : Follows H e) where
  -- what is replayed of one goes on being so
  pub replayed-stays : (t : ℕ) (es : List EventKind) → IsReplayed H t es → IsReplayed (H ++ e ∷ []) t es
  replayed-stays t es old = record {
    committed = commits-more H (e ∷ []) t old.committed;
    operations = own-stays H e last t (committed-apart H e last t old.committed) ∙ old.operations;
  }

  -- also with the event
  pub replayed-more : (t : ℕ) (es : List EventKind) → IsReplayed H t es → IsReplayed (H ++ e ∷ []) t (es ++ e.kind ∷ [])
  replayed-more t es old =
      let now = replayed-stays t es old in
      record {
        committed = now.committed;
        operations = now.operations ∙ sym (done_by-none t es e.kind (done_for-apart t e.kind (committed-apart H e last t old.committed)));
      }

  -- the event executes nothing of one that hasn't begun
  pub ahead-more : (es : List EventKind) → ((t : ℕ) → begins H ≤ t → done_by t es ≡ []) → (t : ℕ) → begins (H ++ e ∷ []) ≤ t → done_by t (es ++ e.kind ∷ []) ≡ []
  ahead-more es ahead t behind =
      let more = begins-more H (e ∷ []) in
      let old : begins H ≤ t = omega (arith, more, behind) in
      done_by-none t es e.kind (done_for-apart t e.kind (ahead-apart H e last t old)) ∙ ahead t old

-- what a worker commits is replayed as it was executed
pub committed-now : (H : List Event) (w t : ℕ) → Follows H (event w (Commit t)) → (es : List EventKind) → of t (surviving H) ≡ done_by t es
    → IsReplayed (H ++ event w (Commit t) ∷ []) t (es ++ Commit t ∷ [])
committed-now H w t last es own = record {
  committed = commits-last H w t;
  operations = last.own t ∙ own ∙ sym (done_by-none t es (Commit t) refl);
}
