-- What is prepared goes over into the next epoch: all of it is open there.
use Rattle.std.proofs.Common.{◌≡◌, ◌≢◌, ◌∙◌, ℕ, suc, ◌+◌, ◌<◌, Bool, true, not, ◌&&◌, nat_lt, None, List, [], ◌∷◌, ◌++◌, map, length, refl, sym, ap, subst, lt-ltb, arith}
use Rattle.std.specs.List.{AllByRecursion}
use Rattle.type_table.proofs.Elements.{each-map, each-weaker, filter-all}
use Rattle.transaction_key.specs.TransactionKey.{key_place}
use Rattle.object_trait.specs.declared.event.Event.{Event}
use Rattle.object_trait.proofs.Lists.{pairs-map}
use Rattle.serial_order.specs.History.{aborts, begins, commits, is_open, summary}
use Rattle.serial_order.specs.Operations.{is_among}
use Rattle.serial_order.specs.declared.entry.Entry.{Entry}
use Rattle.carried_runs.specs.Carried.{begins_from, carried_by, done_again, number_in}
use Rattle.carried_runs.proofs.Renumbering.{number-below}
use Rattle.journal.specs.declared.prepared_row.Prepared.{Prepared}
use Rattle.journal.specs.Contents.{Contents}
use Rattle.durable_store.specs.Held.{ArePrepared, moved_among, undecided}

-- ---- what the first events say

-- they begin, and nobody ends
begun-say : (worker : ℕ → ℕ) (n : ℕ) (P : List ℕ) (more : List Event) → (begins (begins_from worker n P ++ more) ≡ length P + begins more) × (commits (begins_from worker n P ++ more) ≡ commits more)
    × (aborts (begins_from worker n P ++ more) ≡ aborts more)
begun-say worker n [] more = (omega arith, refl, refl)
begun-say worker n (t ∷ P) more =
    let rest = begun-say worker (suc n) P more in
    (omega (arith, rest.0), rest.1, rest.2)

-- nobody begins by what is done again, and nobody ends
again-say : (worker : ℕ → ℕ) (P : List ℕ) (U : List Entry) → (begins (map (done_again worker P) U) ≡ 0) × (commits (map (done_again worker P) U) ≡ []) × (aborts (map (done_again worker P) U) ≡ [])
again-say worker P [] = (refl, refl, refl)
again-say worker P (e ∷ U) = again-say worker P U

carried-say : (worker : ℕ → ℕ) (P : List ℕ) (U : List Entry) → (begins (carried_by worker P U) ≡ length P) × (commits (carried_by worker P U) ≡ []) × (aborts (carried_by worker P U) ≡ [])
carried-say worker P U =
    let first = begun-say worker 0 P (map (done_again worker P) U) in
    let rest = again-say worker P U in
    (omega (arith, first.0, rest.0), first.1 ∙ rest.1, first.2 ∙ rest.2)

-- so each of them is open
carried-open : (worker : ℕ → ℕ) (P : List ℕ) (U : List Entry) (i : ℕ) → i < length P → is_open (summary (carried_by worker P U)) i ≡ true
carried-open worker P U i low =
    let says = carried-say worker P U in
    let open_by : ℕ → List ℕ → List ℕ → Bool = λ b c a. nat_lt i b && (not (is_among c i) && not (is_among a i)) in
    ap (λ b. open_by b (commits (carried_by worker P U)) (aborts (carried_by worker P U))) says.0
    ∙ ap (λ c. open_by (length P) c (aborts (carried_by worker P U))) says.1
    ∙ ap (λ a. open_by (length P) [] a) says.2
    ∙ rw (lt-ltb i (length P) low) refl

-- ---- what is prepared

-- it depends on nothing else that a file says, and where nothing is kept at a place nothing has to be later
pub prepared-alike : (H : List Event) (c d : Contents) (ps : List Prepared) → c.prepared ≡ d.prepared → ((n : ℕ) → c.outcomes.at n ≡ None → d.outcomes.at n ≡ None) → ArePrepared H c ps → ArePrepared H d ps
prepared-alike H c d ps rows free are = record {
  begun = subst (λ rs. AllByRecursion (λ (p : Prepared). p.number < begins H) rs) rows are.begun;
  are = are.are ∙ ap (undecided H) rows;
  apart = are.apart;
  free = each-weaker {P = λ (p : Prepared). c.outcomes.at (key_place p.key) ≡ None} {Q = λ (p : Prepared). d.outcomes.at (key_place p.key) ≡ None} (λ p empty. free (key_place p.key) empty) ps are.free;
}

-- it is prepared there too, with the numbers that it has there
pub gone-over : (worker : ℕ → ℕ) (those : List ℕ) (order : List Entry) (H : List Event) (c : Contents) (ps : List Prepared) → ArePrepared H c ps → AllByRecursion (λ (p : Prepared). is_among those p.number ≡ true) ps
    → ArePrepared (carried_by worker those order) (record c { prepared = map (moved_among those) ps }) (map (moved_among those) ps)
gone-over worker those order H c ps are mine =
    let K = carried_by worker those order in
    let low : (p : Prepared) → is_among those p.number ≡ true → number_in those p.number < length those = λ p inside. number-below those p.number inside in
    record {
      begun =
          each-map (λ (p : Prepared). p.number < begins K) (moved_among those) ps
          (each-weaker (λ (p : Prepared) inside. subst (λ n. number_in those p.number < n) (sym (carried-say worker those order).0) (low p inside)) ps mine);
      are =
          sym (filter-all (λ (p : Prepared). is_open (summary K) p.number) (map (moved_among those) ps)
          (each-map (λ (p : Prepared). is_open (summary K) p.number ≡ true) (moved_among those) ps
          (each-weaker (λ (p : Prepared) inside. carried-open worker those order (number_in those p.number) (low p inside)) ps mine)));
      apart = pairs-map (λ (p q : Prepared). key_place p.key ≢ key_place q.key) (moved_among those) (λ (p q : Prepared) differ. differ) ps are.apart;
      free = each-map (λ (p : Prepared). c.outcomes.at (key_place p.key) ≡ None) (moved_among those) ps are.free;
    }
