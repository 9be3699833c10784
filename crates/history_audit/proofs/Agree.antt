-- Two audits of the same events say the same.
use Rattle.std.proofs.Common.{◌≡◌, ℕ, zero, suc, ◌<◌, List, [], ◌∷◌, ◌++◌, length, take, Some, slice_get, Ok, Err, inl, inr, refl, sym, ap, subst, ◌∙◌, arith}
use Rattle.std.proofs.lemmas.Option.{same_Some}
use Rattle.type_table.specs.Table.{Table}
use Rattle.type_table.specs.Laws.{RunsAlong}
use Rattle.object_trait.specs.declared.event.Event.{Event}
use Rattle.serial_order.specs.History.{commits, summary, ContinuesHistory, AllContinue}
use Rattle.history_judge.specs.Audit.{LeadToStates, IsFirstBad, ComesBefore, IsFirstIllegal}
use Rattle.history_audit.specs.Laws.{AuditsAgree, AlikeIsWritten}
use Rattle.history_audit.specs.Text.{audit_text}
use Rattle.history_judge.specs.declared.outcome.AuditFault.{AuditFault}
use Rattle.history_judge.specs.declared.outcome.AuditFault.TheVariants.{BadEvent, IllegalOp, NoMemory}
use Rattle.history_audit.proofs.Serials.{leads-legal, serial-each, never-bad, continues-at}

-- ---- lists

-- lists that are as long as a third, and have the same wherever that has something
same-list : {A B : Type 0} (ts : List A) (xs ys : List B) → length xs ≡ length ts → length ys ≡ length ts
    → ((n : ℕ) (t : A) (x y : B) → slice_get ts n ≡ Some t → slice_get xs n ≡ Some x → slice_get ys n ≡ Some y → x ≡ y) → xs ≡ ys
same-list [] [] [] first second same = refl
same-list [] (x ∷ xs) ys first second same = absurd (omega (arith, first))
same-list [] [] (y ∷ ys) first second same = absurd (omega (arith, second))
same-list (t ∷ ts) [] ys first second same = absurd (omega (arith, first))
same-list (t ∷ ts) (x ∷ xs) [] first second same = absurd (omega (arith, second))
same-list (t ∷ ts) (x ∷ xs) (y ∷ ys) first second same =
    let front : x ≡ y = same zero t x y refl refl refl in
    let rest : xs ≡ ys = same-list ts xs ys (omega (arith, first)) (omega (arith, second)) (λ n u a b at here there. same (suc n) u a b at here there) in
    ap (λ z. z ∷ xs) front ∙ ap (λ zs. y ∷ zs) rest

-- ---- a yes

finals-agree : (tables : List Table) (H : List Event) (ts finals other : List ℕ) → LeadToStates tables H ts finals → LeadToStates tables H ts other → finals ≡ other
finals-agree tables H ts finals other one two =
    same-list tables finals other one.as_many two.as_many (λ x T s u at here there. same_Some s u (sym (one.states x T s at here) ∙ two.states x T u at there))

-- ---- the first bad event

-- of events that go on up to a place, each before it may come where it does
may-before : (tables : List Table) (before H : List Event) (n at : ℕ) (e : Event) → AllContinue tables before (take n H) → at < n → slice_get H at ≡ Some e
    → (take at (take n H) ≡ take at H) × (slice_get (take n H) at ≡ Some e)
may-before tables before H zero at e goes low there = absurd (omega (arith, low))
may-before tables before [] (suc n) zero e goes low there = (refl, there)
may-before tables before [] (suc n) (suc at) e goes low there = (refl, there)
may-before tables before (f ∷ H) (suc n) zero e goes low there = (refl, there)
may-before tables before (f ∷ H) (suc n) (suc at) e goes low there =
    let rest = may-before tables (before ++ f ∷ []) H n at e goes.1 (omega (arith, low)) there in
    (ap (λ K. f ∷ K) rest.0, rest.1)

-- so none is bad before the first
none-before : (tables : List Table) (H : List Event) (n at : ℕ) → IsFirstBad tables H n → IsFirstBad tables H at → at < n → ⊥
none-before tables H n at first other low =
    let same = may-before tables [] H n at other.event first.history low other.there in
    let may = continues-at tables [] (take n H) at other.event first.history same.1 in
    other.bad (subst (λ K. ContinuesHistory tables (summary K) other.event.kind) same.0 may)

-- two numbers of which neither is below the other
same-number : (a b : ℕ) → (a < b → ⊥) → (b < a → ⊥) → a ≡ b
same-number zero zero low high = refl
same-number zero (suc b) low high = absurd (low (omega arith))
same-number (suc a) zero low high = absurd (high (omega arith))
same-number (suc a) (suc b) low high = ap suc (same-number a b (λ h. low (omega (arith, h))) (λ h. high (omega (arith, h))))

-- ---- the first operation that isn't legal

record AreSame (i x j k y l : ℕ) : Type 0 where
  pub commits : i ≡ k
  pub objects : x ≡ y
  pub places : j ≡ l

same-places : (i x j k y l : ℕ) → (ComesBefore i x j k y l → ⊥) → (ComesBefore k y l i x j → ⊥) → AreSame i x j k y l
same-places i x j k y l low high =
    let commit : i ≡ k = same-number i k (λ h. low (inl h)) (λ h. high (inl h)) in
    let object : x ≡ y = same-number x y (λ h. low (inr (commit, inl h))) (λ h. high (inr (sym commit, inl h))) in
    record {
      commits = commit;
      objects = object;
      places = same-number j l (λ h. low (inr (commit, inr (object, h)))) (λ h. high (inr (sym commit, inr (sym object, h))));
    }

illegal-agree : (tables : List Table) (H : List Event) (ts : List ℕ) (i x j k y l : ℕ) → IsFirstIllegal tables H ts i x j → IsFirstIllegal tables H ts k y l → AreSame i x j k y l
illegal-agree tables H ts i x j k y l one two =
    same-places i x j k y l (λ h. two.first i x j h one.illegal) (λ h. one.first k y l h two.illegal)

-- ---- all outcomes

pub audits_agree : RunsAlong → AuditsAgree
audits_agree along tables H (Err NoMemory) other one two memory more = absurd (memory refl)
audits_agree along tables H outcome (Err NoMemory) one two memory more = absurd (more refl)
audits_agree along tables H (Ok a) (Ok b) one two memory more =
    (one.1.order_is ∙ sym two.1.order_is, finals-agree tables H (commits H) a.finals.items b.finals.items one.1.leads two.1.leads)
audits_agree along tables H (Ok a) (Err (BadEvent at)) one two memory more = absurd (never-bad tables H at one.0 two)
audits_agree along tables H (Ok a) (Err (IllegalOp i x j)) one two memory more =
    absurd (serial-each along tables H (commits H) i x j (leads-legal tables H (commits H) a.finals.items one.1.leads) two.1.illegal)
audits_agree along tables H (Err (BadEvent at)) (Ok b) one two memory more = absurd (never-bad tables H at two.0 one)
audits_agree along tables H (Err (BadEvent at)) (Err (BadEvent n)) one two memory more =
    ap (λ p. BadEvent p) (same-number at n (λ h. none-before tables H n at two one h) (λ h. none-before tables H at n one two h))
audits_agree along tables H (Err (BadEvent at)) (Err (IllegalOp i x j)) one two memory more = absurd (never-bad tables H at two.0 one)
audits_agree along tables H (Err (IllegalOp i x j)) (Ok b) one two memory more =
    absurd (serial-each along tables H (commits H) i x j (leads-legal tables H (commits H) b.finals.items two.1.leads) one.1.illegal)
audits_agree along tables H (Err (IllegalOp i x j)) (Err (BadEvent at)) one two memory more = absurd (never-bad tables H at one.0 two)
audits_agree along tables H (Err (IllegalOp i x j)) (Err (IllegalOp k y l)) one two memory more =
    let same = illegal-agree tables H (commits H) i x j k y l one.1 two.1 in
    rw (same.commits, same.objects, same.places) refl

-- outcomes that say the same have the same lines
pub alike_written : AlikeIsWritten
alike_written (Ok a) (Ok b) alike = rw (alike.0, alike.1) refl
alike_written (Ok a) (Err f) alike = absurd alike
alike_written (Err f) (Ok b) alike = absurd alike
alike_written (Err f) (Err g) alike = ap (λ (h : AuditFault). audit_text (Err h)) alike
