-- Escrow: what its calls keep.
use Rattle.std.proofs.Common.{◌≡◌, ℕ, ◌<◌, ◌≤◌, true, false, not, eqb, List, [], ◌∷◌, ◌++◌, take, drop, ◌⊎◌, Some, refl, sym, ◌∙◌, inl, inr, arith}
use Rattle.std.specs.List.{filter, AllByRecursion}
use Rattle.std.proofs.lemmas.Bool.{cases_Bool, eqb-true, eq-eqb, ne_eqb}
use Rattle.std.proofs.lemmas.List.{append-nil, take-append-drop}
use Rattle.std.proofs.lemmas.List.Elements.{filter-append}
use Rattle.type_table.specs.Run.{IsLegal}
use Rattle.type_table.specs.Laws.{RunsAlong, EndsInside}
use Rattle.type_table.specs.StateSet.{IsClosed}
use Rattle.type_table.proofs.Elements.{each-push, each-filter, differ_turned}
use Rattle.escrow_laws.specs.Amounts.{IsNumeric}
use Rattle.escrow_laws.specs.Firm.{with_op, keeps}
use Rattle.escrow_laws.specs.Laws.{FreshIsFirm, FirmAfterApply, FirmAfterCommit, FirmAfterStrike, NothingKeeps}
use Rattle.type_table.specs.declared.kind.Kind.TheVariants.{Escrow}
use Rattle.object_trait.specs.Object.{Object}
use Rattle.object_trait.specs.Strike.{keep_first}
use Rattle.object_trait.specs.Meaning.{log_ops, is_open_of, open_of, own_of, run_log}
use Rattle.object_trait.specs.Sound.{IsSoundEscrow}
use Rattle.object_trait.specs.Steps.{IsOfAnotherOpen, above, stops_by, IsEscrowCommit, IsIntentionsStrike}
use Rattle.object_trait.specs.Laws.{KeepsFirst}
use Rattle.object_trait.specs.declared.log_entry.LogEntry.{LogEntry}
use Rattle.object_trait.proofs.Runs.{ops-append, push-legal, open-apart}
use Rattle.object_trait.proofs.Striking.{filter-keep_first, each-keep_first}
use Rattle.object_trait.proofs.Intentions.{filter-without, filter-itself}

-- ---- a new object

pub escrow-fresh : FreshIsFirm → (o : Object) (base : ℕ) → o.set base ≡ true → IsSoundEscrow o base []
escrow-fresh fresh o base inside = record { inside = inside; all_open = tt; firm = fresh o.table o.amounts base (own_of []) (λ u. refl) }

-- ---- a further operation

-- what each did, with one more entry of t
pub own-more : (t k : ℕ) (log : List LogEntry) (u : ℕ) → with_op (own_of log) t k u ≡ own_of (log ++ (record { by = t; op = k; done = false }) ∷ []) u
own-more t k log u =
    let entry : LogEntry = record { by = t; op = k; done = false } in
    elim (cases_Bool (eqb u t)) [
      | inl same ↦
          let is : eqb t u ≡ true = eq-eqb t u (sym (eqb-true u t same)) in
          rw (filter-append (is_open_of u) log (entry ∷ []), same, is, ops-append (open_of u log) (entry ∷ [])) refl
      | inr other ↦
          let isnt : eqb t u ≡ false = differ_turned t u other in
          rw (filter-append (is_open_of u) log (entry ∷ []), other, isnt, append-nil (open_of u log)) refl
    ]

-- a number that is above each transaction is above t
pub above-t : (t : ℕ) (log : List LogEntry) → t < above t log
above-t t [] = omega arith
above-t t (e ∷ log) = let rest = above-t t log in omega (arith, rest)

-- and whoever it is above did nothing
pub above-none : (t u : ℕ) (log : List LogEntry) → above t log ≤ u → open_of u log ≡ []
above-none t u [] far = refl
above-none t u (e ∷ log) far =
    elim (cases_Bool (eqb e.by u)) [
      | inl is ↦ let same = eqb-true e.by u is in absurd (omega (arith, same, far))
      | inr isnt ↦ rw isnt (above-none t u log (omega (arith, far)))
    ]

-- another transaction did nothing, or what holds of each entry of another holds of it
each-other : (P : ℕ → Type 0) (t u : ℕ) (log : List LogEntry) → eqb u t ≡ false → AllByRecursion (λ e. e.done ≡ false) log → AllByRecursion (λ e. IsOfAnotherOpen t e → P e.by) log
    → (open_of u log ≡ []) ⊎ P u
each-other P t u [] other all_open each = inl refl
each-other P t u (e ∷ log) other all_open each =
    elim (cases_Bool (eqb e.by u)) [
      | inl is ↦
          let same : e.by ≡ u = eqb-true e.by u is in
          inr (rw same at (each.0 (all_open.0, rw same other)))
      | inr isnt ↦ rw isnt (each-other P t u log other all_open.1 each.1)
    ]

-- nobody keeps t from what it did last
nobody-keeps : NothingKeeps → (o : Object) (base : ℕ) (log : List LogEntry) (t k : ℕ) → AllByRecursion (λ e. e.done ≡ false) log →
    AllByRecursion (λ e. IsOfAnotherOpen t e → stops_by Escrow o base log t k e ≡ false) log →
    (u : ℕ) → eqb u t ≡ false → keeps o.table o.amounts base (with_op (own_of log) t k) (above t log) t u ≡ false
nobody-keeps nothing o base log t k all_open free u other =
    let P : ℕ → Type 0 = λ v. keeps o.table o.amounts base (with_op (own_of log) t k) (above t log) t v ≡ false in
    elim (each-other P t u log other all_open free) [
      | inl none ↦ nothing o.table o.amounts base (above t log) (with_op (own_of log) t k) t u (rw (other, none) refl)
      | inr held ↦ held
    ]

pub escrow-applied : RunsAlong → FirmAfterApply → FirmAfterStrike → NothingKeeps → (o : Object) → IsNumeric o.table o.amounts → (base : ℕ) (log : List LogEntry) (t k : ℕ) → IsSoundEscrow o base log →
    IsLegal o.table (run_log o base (open_of t log)) (k ∷ []) → AllByRecursion (λ e. IsOfAnotherOpen t e → stops_by Escrow o base log t k e ≡ false) log →
    IsSoundEscrow o base (log ++ (record { by = t; op = k; done = false }) ∷ [])
escrow-applied along apply strike nothing o numeric base log t k sound legal free =
    let entry : LogEntry = record { by = t; op = k; done = false } in
    let own : ℕ → List ℕ = with_op (own_of log) t k in
    let outside : (u : ℕ) → above t log ≤ u → own u ≡ [] = λ u far.
    (let more = above-t t log in let other : eqb u t ≡ false = ne_eqb u t (λ same. omega (arith, far, more, same)) in rw (other, above-none t u log far) refl) in
    let here : IsLegal o.table (Some base) (own t) = rw (eq-eqb t t refl) (push-legal along o.table (Some base) (own_of log t) (k ∷ []) legal) in
    let firm = apply o.table o.amounts base (above t log) own t numeric outside here (nobody-keeps nothing o base log t k sound.all_open free) in
    record {
      inside = sound.inside;
      all_open = each-push (λ e. e.done ≡ false) log entry sound.all_open refl;
      firm = strike o.table o.amounts base own (own_of (log ++ entry ∷ [])) firm (λ u. ([], own-more t k log u ∙ sym (append-nil (own_of (log ++ entry ∷ []) u))));
    }

-- ---- a commit

pub escrow-committed : FirmAfterCommit → EndsInside → (o : Object) → IsClosed o.table o.set → IsNumeric o.table o.amounts → (base : ℕ) (log : List LogEntry) (t new_base : ℕ) (new_log : List LogEntry) →
    IsSoundEscrow o base log → IsEscrowCommit o base log t new_base new_log → IsSoundEscrow o new_base new_log
escrow-committed commits ends o closed numeric base log t new_base new_log sound commit =
    rw commit.rest
    (record {
      inside = ends o.table o.set base new_base (own_of log t) closed sound.inside commit.reached;
      all_open = each-filter (λ e. e.done ≡ false) (λ e. not (is_open_of t e)) log sound.all_open;
      firm = commits o.table o.amounts base new_base (own_of log) (own_of (filter (λ e. not (is_open_of t e)) log)) t numeric sound.firm commit.reached
          (rw (filter-itself (is_open_of t) log) refl)
          (λ u other. rw (filter-without (is_open_of t) (is_open_of u) (open-apart t u other) log) refl);
    })

-- ---- a strike

pub escrow-struck : FirmAfterStrike → KeepsFirst LogEntry → (o : Object) (base : ℕ) (log : List LogEntry) (t n new_base : ℕ) (new_log : List LogEntry) → IsSoundEscrow o base log →
    IsIntentionsStrike o base log t n new_base new_log → IsSoundEscrow o new_base new_log
escrow-struck strikes keeps_first o base log t n new_base new_log sound strike =
    rw (strike.same_base, strike.rest)
    (record {
      inside = sound.inside;
      all_open = each-keep_first (λ e. e.done ≡ false) (is_open_of t) n log sound.all_open;
      firm = strikes o.table o.amounts base (own_of log) (own_of (keep_first (is_open_of t) n log)) sound.firm
          (λ u. elim (cases_Bool (eqb u t)) [
            | inl same ↦ (
              log_ops (drop n (open_of t log)),
              rw (eqb-true u t same, (keeps_first (is_open_of t) n log).0, ← ops-append (take n (open_of t log)) (drop n (open_of t log)), take-append-drop n (open_of t log)) refl,
            )
            | inr other ↦ ([], rw (filter-keep_first (is_open_of t) (is_open_of u) (open-apart t u other) n log, append-nil (own_of log u)) refl)
          ]);
    })
