-- Each transaction has one name, epoch after epoch.
use Rattle.std.proofs.Common.{◌≡◌, ◌≢◌, ◌∙◌, inl, inr, ℕ, suc, true, false, ◌==◌, ◌<◌, ◌≤◌, Bool, List, [], ◌∷◌, Option, Some, None, option_map, refl, sym, ap, subst, arith}
use Rattle.std.specs.List.{AllByRecursion, find, list_any}
use Rattle.std.proofs.lemmas.Bool.{and_parts, cases_Bool, eq-eqb, eqb-true, false≢true, or_right}
use Rattle.std.proofs.lemmas.Bool.Decides.{nat_tests}
use Rattle.std.proofs.lemmas.Option.{none-some, same_Some}
use Rattle.type_table.proofs.Elements.{each-map, each-weaker}
use Rattle.object_trait.specs.Orders.{Pairs}
use Rattle.object_trait.proofs.Lists.{pairs-map, pairs-weaker}
use Rattle.object_trait.specs.declared.event.Event.{Event}
use Rattle.serial_order.specs.Operations.{is_among}
use Rattle.serial_order.proofs.Pairs.{each-all}
use Rattle.carried_runs.specs.Carried.{number_in}
use Rattle.store.proofs.Ascending.{ascend-all}
use Rattle.store.proofs.CarriedAll.{open-ascend}
use Rattle.store_laws.specs.Stored.{Stored}
use Rattle.journal.specs.Contents.{Contents}
use Rattle.journal.specs.declared.prepared_row.Prepared.{Prepared}
use Rattle.durable_store.specs.NextStore.{GoOver}
use Rattle.request_text.specs.declared.request.Asked.{Asked}
use Rattle.request_text.specs.declared.request.TransactionName.{TransactionName}
use Rattle.serving.specs.declared.answer_line.Answered.{Answered}
use Rattle.serving.specs.declared.extension.Extension.{Extension}
use Rattle.serving.specs.declared.names.Carried.{Carried}
use Rattle.serving.specs.Names.{AreNamedApart, KnownNames, carried_as, carried_over, is_named, is_numbered, known_by, known_name, named, number_named}
use Rattle.serving.specs.Served.{Serves}

-- ---- what is found

-- it passes
found-passes : {E : Type 0} (test : E → Bool) (cs : List E) (c : E) → find test cs ≡ Some c → test c ≡ true
found-passes test [] c found = absurd (none-some c found)
found-passes test (d ∷ cs) c found =
    elim (cases_Bool (test d)) [
      | inl passes ↦ subst (λ x. test x ≡ true) (same_Some d c (rw passes at found)) passes
      | inr fails ↦ found-passes test cs c (rw fails at found)
    ]

-- what holds of each holds of it
found-each : {E : Type 0} (P : E → Type 0) (test : E → Bool) (cs : List E) (c : E) → AllByRecursion P cs → find test cs ≡ Some c → P c
found-each P test [] c all found = absurd (none-some c found)
found-each P test (d ∷ cs) c all found =
    elim (cases_Bool (test d)) [
      | inl passes ↦ subst P (same_Some d c (rw passes at found)) all.0
      | inr fails ↦ found-each P test cs c all.1 (rw fails at found)
    ]

-- none is there where none is found
found-none : {E : Type 0} (test : E → Bool) (cs : List E) → find test cs ≡ None → list_any test cs ≡ false
found-none test [] none = refl
found-none test (d ∷ cs) none =
    elim (cases_Bool (test d)) [
      | inl passes ↦ absurd (none-some d (sym (rw passes at none)))
      | inr fails ↦ rw fails (found-none test cs (rw fails at none))
    ]

-- and none is found where none is there
none-found : {E : Type 0} (test : E → Bool) (cs : List E) → list_any test cs ≡ false → find test cs ≡ None
none-found test [] none = refl
none-found test (d ∷ cs) none =
    elim (cases_Bool (test d)) [
      | inl passes ↦ absurd (false≢true (sym (rw passes at none)))
      | inr fails ↦ rw fails (none-found test cs (rw fails at none))
    ]

-- another test finds it too, where it alone passes that
found-by : {E : Type 0} (test other : E → Bool) (cs : List E) (c : E) → Pairs (λ d e. other e ≡ true → other d ≡ false) cs → find test cs ≡ Some c → other c ≡ true → find other cs ≡ Some c
found-by test other [] c alone found passes = absurd (none-some c found)
found-by test other (d ∷ cs) c alone found passes =
    elim (cases_Bool (test d)) [
      | inl here ↦
          let is : d ≡ c = same_Some d c (rw here at found) in
          rw (subst (λ x. other x ≡ true) (sym is) passes) (ap Some is)
      | inr fails ↦
          let later = rw fails at found in
          rw (found-each (λ e. other e ≡ true → other d ≡ false) test cs c alone.0 later passes) (found-by test other cs c alone.1 later passes)
    ]

-- ---- names and numbers of who was carried

name-same : (t : TransactionName) (c : Carried) → is_named t c ≡ true → c.name ≡ t
name-same t c is =
    let parts = and_parts (c.name.life == t.life) (c.name.number == t.number) is in
    ap (λ (life : ℕ). named life c.name.number) (eqb-true c.name.life t.life parts.0) ∙ ap (named t.life) (eqb-true c.name.number t.number parts.1)

name-itself : (c : Carried) → is_named c.name c ≡ true
name-itself c = rw (eq-eqb c.name.life c.name.life refl, eq-eqb c.name.number c.name.number refl) refl

-- by the name of one that was carried it is found
by-name : (names : KnownNames) (n : ℕ) (c : Carried) → AreNamedApart names → find (is_numbered n) names.carried ≡ Some c → find (is_named c.name) names.carried ≡ Some c
by-name names n c apart found =
    let alone = pairs-weaker {P = λ (d e : Carried). d.name ≢ e.name} {Q = λ (d e : Carried). is_named c.name e ≡ true → is_named c.name d ≡ false} (λ d e other its. elim (cases_Bool (is_named c.name d)) [
      | inl mine ↦ absurd (other (name-same c.name d mine ∙ sym (name-same c.name e its)))
      | inr fails ↦ fails
    ]) names.carried apart.named in
    found-by (is_numbered n) (is_named c.name) names.carried c alone found (name-itself c)

-- and by its number
by-number : (names : KnownNames) (t : TransactionName) (c : Carried) → AreNamedApart names → find (is_named t) names.carried ≡ Some c → find (is_numbered c.number) names.carried ≡ Some c
by-number names t c apart found =
    let alone = pairs-weaker {P = λ (d e : Carried). d.number ≢ e.number} {Q = λ (d e : Carried). is_numbered c.number e ≡ true → is_numbered c.number d ≡ false} (λ d e other its. elim (cases_Bool (is_numbered c.number d)) [
      | inl mine ↦ absurd (other (eqb-true d.number c.number mine ∙ sym (eqb-true e.number c.number its)))
      | inr fails ↦ fails
    ]) names.carried apart.numbered in
    found-by (is_named t) (is_numbered c.number) names.carried c alone found (eq-eqb c.number c.number refl)

-- ---- of all

-- each number is found by its name
pub found-by-name : (names : KnownNames) (n : ℕ) → AreNamedApart names → number_named names (known_name names n) ≡ Some n
found-by-name names n apart = go (find (is_numbered n) names.carried) refl
  where
    go : (o : Option Carried) → find (is_numbered n) names.carried ≡ o → number_named names (known_by names.life n o) ≡ Some n
    go None none = rw (eq-eqb names.life names.life refl, found-none (is_numbered n) names.carried none) refl
    go (Some c) found =
        let earlier = found-each (λ (d : Carried). d.name.life < names.life) (is_numbered n) names.carried c apart.earlier found in
        let other : (c.name.life == names.life) ≡ false = grind (arith, nat_tests, earlier) in
        rw (other, by-name names n c apart found) (ap Some (eqb-true c.number n (found-passes (is_numbered n) names.carried c found)))

-- and by that alone
pub by-name-alone : (names : KnownNames) (t : TransactionName) (n : ℕ) → AreNamedApart names → number_named names t ≡ Some n → t ≡ known_name names n
by-name-alone names t n apart found =
    elim (cases_Bool (t.life == names.life)) [
      | inl ours ↦ elim (cases_Bool (list_any (is_numbered t.number) names.carried)) [
        | inl taken ↦ absurd (none-some n (rw (ours, taken) at found))
        | inr free ↦
            let same : t.number ≡ n = same_Some t.number n (rw (ours, free) at found) in
            let none = none-found (is_numbered t.number) names.carried free in
            ap (λ (life : ℕ). named life t.number) (eqb-true t.life names.life ours) ∙ ap (known_by names.life t.number) (sym none) ∙ ap (known_name names) same
      ]
      | inr other ↦ go (find (is_named t) names.carried) refl (rw other at found)
    ]
  where
    go : (o : Option Carried) → find (is_named t) names.carried ≡ o → option_map (λ (c : Carried). c.number) o ≡ Some n → t ≡ known_name names n
    go None none is = absurd (none-some n is)
    go (Some c) there is =
        let its : known_name names c.number ≡ c.name = ap (known_by names.life c.number) (by-number names t c apart there) in
        sym (name-same t c (found-passes (is_named t) names.carried c there)) ∙ sym its ∙ ap (known_name names) (same_Some c.number n is)

-- ---- epoch after epoch

-- two that have one number there are one
pub number-one : (P : List ℕ) (t u : ℕ) → is_among P t ≡ true → number_in P u ≡ number_in P t → u ≡ t
number-one [] t u inside same = absurd (false≢true inside)
number-one (v ∷ P) t u inside same =
    elim (cases_Bool (v == t)) [
      | inl mine ↦ elim (cases_Bool (v == u)) [
        | inl its ↦ sym (eqb-true v u its) ∙ eqb-true v t mine
        | inr other ↦ absurd (let it : suc (number_in P u) ≡ 0 = rw (mine, other) at same in omega (arith, it))
      ]
      | inr apart ↦ elim (cases_Bool (v == u)) [
        | inl its ↦ absurd (let it : 0 ≡ suc (number_in P t) = rw (apart, its) at same in omega (arith, it))
        | inr other ↦
            let it : suc (number_in P u) ≡ suc (number_in P t) = rw (apart, other) at same in
            let next : number_in P u ≡ number_in P t = omega (arith, it) in
            number-one P t u (rw apart at inside) next
      ]
    ]

-- each is among them
all-among : (P : List ℕ) → AllByRecursion (λ t. is_among P t ≡ true) P
all-among [] = tt
all-among (u ∷ P) = (rw (eq-eqb u u refl) refl, each-weaker {P = λ t. is_among P t ≡ true} {Q = λ t. is_among (u ∷ P) t ≡ true} (λ t inside. or_right (u == t) (is_among P t) inside) P (all-among P))

-- a fact of each, and one of each and each later one
pairs-each : {E : Type 0} (P : E → Type 0) (R : E → E → Type 0) (V : List E) → AllByRecursion P V → Pairs R V → Pairs (λ a b. P a × R a b) V
pairs-each P R [] all pairs = tt
pairs-each P R (x ∷ V) all pairs = (each-weaker (λ y later. (all.0, later)) V pairs.0, pairs-each P R V all.1 pairs.1)

-- no name is of a later life
known-life : (names : KnownNames) (n : ℕ) → AreNamedApart names → (known_name names n).life ≤ names.life
known-life names n apart = go (find (is_numbered n) names.carried) refl
  where
    go : (o : Option Carried) → find (is_numbered n) names.carried ≡ o → (known_by names.life n o).life ≤ names.life
    go None none = omega arith
    go (Some c) found = let earlier = found-each (λ (d : Carried). d.name.life < names.life) (is_numbered n) names.carried c apart.earlier found in omega (arith, earlier)

-- of two transactions the names are two
known-apart : (names : KnownNames) (m n : ℕ) → AreNamedApart names → m < n → known_name names m ≢ known_name names n
known-apart names m n apart less same =
    let one = same_Some m n (sym (found-by-name names m apart) ∙ ap (number_named names) same ∙ found-by-name names n apart) in
    omega (arith, one, less)

-- so who goes over is named apart there
over-apart : (names next : KnownNames) (those : List ℕ) → AreNamedApart names → Pairs (λ a b. a < b) those → next.carried ≡ carried_over names those → names.life < next.life → AreNamedApart next
over-apart names next those apart ascend are later =
    let each = pairs-each (λ t. is_among those t ≡ true) (λ a b. a < b) those (all-among those) ascend in
    record {
      earlier = subst (AllByRecursion (λ (c : Carried). c.name.life < next.life)) (sym are)
          (each-map (λ (c : Carried). c.name.life < next.life) (carried_as names those) those (each-all (λ n. let low = known-life names n apart in omega (arith, low, later)) those));
      numbered = subst (Pairs (λ (c d : Carried). c.number ≢ d.number)) (sym are)
          (pairs-map (λ (c d : Carried). c.number ≢ d.number) (carried_as names those) (λ a b both same. let one = number-one those a b both.0 (sym same) in let less = both.1 in omega (arith, one, less)) those each);
      named = subst (Pairs (λ (c d : Carried). c.name ≢ d.name)) (sym are)
          (pairs-map (λ (c d : Carried). c.name ≢ d.name) (carried_as names those) (λ a b less. known-apart names a b apart less) those ascend);
    }

over-ascend : (goes : Bool) (H : List Event) (ps : List Prepared) (those : List ℕ) → GoOver goes H ps those → Pairs (λ a b. a < b) those
over-ascend true H ps those in_order = subst (Pairs (λ a b. a < b)) (sym in_order) (open-ascend H)
over-ascend false H ps those in_order = ascend-all those in_order.ascend

pub serves-apart : {most : ℕ} {c : Contents} {first : KnownNames} {lines : List (List ℕ)} {old : Stored} {answers : List Answered} {names : KnownNames} {said : Contents} {new : Stored} {ended : Option Asked} {waits : Option Extension}
    → AreNamedApart first → Serves (Unit {0}) most c first lines old answers names said new ended waits → AreNamedApart names
serves-apart apart (Serves.none s) = apart
serves-apart apart (Serves.line lines asked old mid new answers a names said waits goes before other may strong answered) = serves-apart apart before
serves-apart apart (Serves.more lines asked old new answers a names said waits before may more) = serves-apart apart before
serves-apart apart (Serves.end lines asked old new answers names said waits before ends) = serves-apart apart before
serves-apart apart (Serves.forget lines old mid answers names n said ended waits before) = serves-apart apart before
serves-apart apart (Serves.epoch lines old mid new answers names next said now waits goes ps new_ps before full strong renews over counted are follows says) =
    let later = follows tt in
    over-apart names next over.those (serves-apart apart before) (over-ascend goes mid.history ps over.those over.in_order) over.are (omega (arith, later))
