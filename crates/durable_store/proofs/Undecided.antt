-- Who is prepared stays so while events come that don't end it.
use Rattle.std.proofs.Common.{◌≡◌, ◌≢◌, None, ◌∙◌, ℕ, ◌<◌, suc, Bool, true, false, cond, not, ◌&&◌, List, [], ◌∷◌, ◌++◌, filter, refl, sym, ap, ap₂, subst, append_assoc, append-nil, arith}
use Rattle.std.specs.Prelude.{◌==◌, ◌||◌, nat_lt}
use Rattle.std.specs.List.{AllByRecursion}
use Rattle.std.proofs.lemmas.Bool.{or_parts, lt-ltb}
use Rattle.std.proofs.lemmas.Bool.Decides.{nat_tests}
use Rattle.type_table.proofs.Elements.{each-filter, each-weaker, filter-all, eqb-sym}
use Rattle.object_trait.proofs.Lists.{pairs-filter}
use Rattle.object_trait.specs.declared.event.Event.{Event}
use Rattle.object_trait.specs.declared.event.EventKind.{EventKind}
use Rattle.object_trait.specs.declared.event.EventKind.TheVariants as kind
use Rattle.transaction_key.specs.TransactionKey.{key_place}
use Rattle.serial_order.specs.History.{Summary, begins, is_begin, is_open, summary}
use Rattle.serial_order.specs.Operations.{is_among}
use Rattle.serial_order.proofs.Events.{begins-snoc, begun_after, summary-snoc, summary_after}
use Rattle.serial_order.proofs.Lists.{both_filters, is_among-snoc}
use Rattle.journal.specs.declared.prepared_row.Prepared.{Prepared}
use Rattle.journal.specs.Contents.{Contents}
use Rattle.durable_store.specs.Held.{ArePrepared, prepared_numbers, undecided}

-- the event ends transaction t
abbrev pub is_end : EventKind → ℕ → Bool
is_end (kind.Commit u) t = t == u
is_end (kind.Abort u) t = t == u
is_end other t = false

-- those of these that an event doesn't end
abbrev pub left_by : EventKind → List Prepared → List Prepared
left_by happened ps = filter (λ (p : Prepared). not (is_end happened p.number)) ps

-- ---- one event

-- an end strikes its transaction alone
committed-now : (began done gone it : Bool) → (began && (not (done || it) && not gone)) ≡ ((began && (not done && not gone)) && not it)
committed-now false done gone it = refl
committed-now true true gone it = refl
committed-now true false true true = refl
committed-now true false true false = refl
committed-now true false false true = refl
committed-now true false false false = refl

aborted-now : (began done gone it : Bool) → (began && (not done && not (gone || it))) ≡ ((began && (not done && not gone)) && not it)
aborted-now false done gone it = refl
aborted-now true true gone it = refl
aborted-now true false true it = refl
aborted-now true false false it = refl

same-and : (b : Bool) → b ≡ (b && not false)
same-and true = refl
same-and false = refl

-- who began is open after an event where it was open and isn't ended
open-next : (s : Summary) (happened : EventKind) (t : ℕ) → t < s.begun → is_open (summary_after s happened) t ≡ (is_open s t && not (is_end happened t))
open-next s (kind.Begin u) t low =
    rw (append-nil s.committed, append-nil s.aborted, lt-ltb t s.begun low, lt-ltb t (suc s.begun) (omega (arith, low))) (same-and (not (is_among s.committed t) && not (is_among s.aborted t)))
open-next s (kind.Op k u x) t low = rw (append-nil s.committed, append-nil s.aborted) (same-and (is_open s t))
open-next s (kind.Busy k u x v) t low = rw (append-nil s.committed, append-nil s.aborted) (same-and (is_open s t))
open-next s (kind.None u x k) t low = rw (append-nil s.committed, append-nil s.aborted) (same-and (is_open s t))
open-next s (kind.Commit u) t low =
    rw (append-nil s.aborted, is_among-snoc s.committed u t, eqb-sym u t) (committed-now (nat_lt t s.begun) (is_among s.committed t) (is_among s.aborted t) (t == u))
open-next s (kind.Abort u) t low =
    rw (append-nil s.committed, is_among-snoc s.aborted u t, eqb-sym u t) (aborted-now (nat_lt t s.begun) (is_among s.committed t) (is_among s.aborted t) (t == u))
open-next s (kind.Rollback u n) t low = rw (append-nil s.committed, append-nil s.aborted) (same-and (is_open s t))

pub open-snoc : (H : List Event) (e : Event) (t : ℕ) → t < begins H → is_open (summary (H ++ e ∷ [])) t ≡ (is_open (summary H) t && not (is_end e.kind t))
open-snoc H e t low = ap (λ s. is_open s t) (summary-snoc H e) ∙ open-next (summary H) e.kind t low

-- no transaction is taken back that began
begun-next : (H : List Event) (e : Event) (t : ℕ) → t < begins H → t < begins (H ++ e ∷ [])
begun-next H e t low = subst (λ n. t < n) (sym (begins-snoc H e)) (at-least (begins H) (is_begin e.kind) low)
  where
    at-least : (n : ℕ) (b : Bool) → t < n → t < begun_after n b
    at-least n true low = omega (arith, low)
    at-least n false low = low

-- what agrees at each element keeps the same
filter-alike : (p q : Prepared → Bool) (xs : List Prepared) → AllByRecursion (λ x. p x ≡ q x) xs → filter p xs ≡ filter q xs
filter-alike p q [] alike = refl
filter-alike p q (x ∷ xs) alike = ap₂ (λ b more. cond b (x ∷ more) more) alike.0 (filter-alike p q xs alike.1)

-- after an event those are left that it doesn't end
pub undecided-snoc : (H : List Event) (e : Event) (rows : List Prepared) → AllByRecursion (λ (p : Prepared). p.number < begins H) rows → undecided (H ++ e ∷ []) rows ≡ left_by e.kind (undecided H rows)
undecided-snoc H e rows began =
    filter-alike (λ (p : Prepared). is_open (summary (H ++ e ∷ [])) p.number) (λ (p : Prepared). is_open (summary H) p.number && not (is_end e.kind p.number)) rows
    (each-weaker {P = λ (p : Prepared). p.number < begins H} {Q = λ (p : Prepared). is_open (summary (H ++ e ∷ [])) p.number ≡ (is_open (summary H) p.number && not (is_end e.kind p.number))}
    (λ p low. open-snoc H e p.number low) rows began)
    ∙ both_filters (λ (p : Prepared). is_open (summary H) p.number) (λ (p : Prepared). not (is_end e.kind p.number)) rows

pub prepared-snoc : (H : List Event) (e : Event) (c : Contents) (ps : List Prepared) → ArePrepared H c ps → ArePrepared (H ++ e ∷ []) c (left_by e.kind ps)
prepared-snoc H e c ps are = record {
  begun = each-weaker {P = λ (p : Prepared). p.number < begins H} {Q = λ (p : Prepared). p.number < begins (H ++ e ∷ [])} (λ p low. begun-next H e p.number low) c.prepared are.begun;
  are = ap (left_by e.kind) are.are ∙ sym (undecided-snoc H e c.prepared are.begun);
  apart = pairs-filter (λ (p q : Prepared). key_place p.key ≢ key_place q.key) (λ (p : Prepared). not (is_end e.kind p.number)) ps are.apart;
  free = each-filter (λ (p : Prepared). c.outcomes.at (key_place p.key) ≡ None) (λ (p : Prepared). not (is_end e.kind p.number)) ps are.free;
}

-- ---- events that end none of them

-- what happened ends none of these
abbrev pub Spares : List Prepared → EventKind → Type 0
Spares ps happened = AllByRecursion (λ (p : Prepared). not (is_end happened p.number) ≡ true) ps

pub prepared-next : (H : List Event) (e : Event) (c : Contents) (ps : List Prepared) → Spares ps e.kind → ArePrepared H c ps → ArePrepared (H ++ e ∷ []) c ps
prepared-next H e c ps spares are = subst (ArePrepared (H ++ e ∷ []) c) (filter-all (λ (p : Prepared). not (is_end e.kind p.number)) ps spares) (prepared-snoc H e c ps are)

pub prepared-append : (H es : List Event) (c : Contents) (ps : List Prepared) → AllByRecursion (λ (e : Event). Spares ps e.kind) es → ArePrepared H c ps → ArePrepared (H ++ es) c ps
prepared-append H [] c ps spare are = subst (λ K. ArePrepared K c ps) (sym (append-nil H)) are
prepared-append H (e ∷ es) c ps spare are =
    subst (λ K. ArePrepared K c ps) (append_assoc H (e ∷ []) es) (prepared-append (H ++ e ∷ []) es c ps spare.1 (prepared-next H e c ps spare.0 are))

-- ---- who began, and who is prepared

-- each of those that are prepared began
pub began-each : (H : List Event) (c : Contents) (ps : List Prepared) → ArePrepared H c ps → AllByRecursion (λ (p : Prepared). p.number < begins H) ps
began-each H c ps are =
    subst (AllByRecursion (λ (p : Prepared). p.number < begins H)) (sym are.are)
    (each-filter (λ (p : Prepared). p.number < begins H) (λ (p : Prepared). is_open (summary H) p.number) c.prepared are.begun)

-- who isn't one of these is none of them
pub none-has : (ps : List Prepared) (t : ℕ) → is_among (prepared_numbers ps) t ≡ false → AllByRecursion (λ (p : Prepared). not (p.number == t) ≡ true) ps
none-has [] t other = tt
none-has (p ∷ ps) t other =
    let parts = or_parts (p.number == t) (is_among (prepared_numbers ps) t) other in
    (ap not parts.0, none-has ps t parts.1)

-- nor is one that is yet to begin
pub none-later : (n : ℕ) (ps : List Prepared) → AllByRecursion (λ (p : Prepared). p.number < n) ps → AllByRecursion (λ (p : Prepared). not (p.number == n) ≡ true) ps
none-later n ps began = each-weaker {P = λ (p : Prepared). p.number < n} {Q = λ (p : Prepared). not (p.number == n) ≡ true} (λ p low. grind (arith, nat_tests)) ps began
