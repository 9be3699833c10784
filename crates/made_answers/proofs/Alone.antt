-- Where no state looks like another, a yes for update in place is strong; and what tells a family's states apart.
use Rattle.std.proofs.Common.{◌≡◌, ℕ, ◌<◌, Bool, true, false, length, [], ◌∷◌, Some, refl, sym, ap, subst, ◌∙◌, arith}
use Rattle.type_table.specs.Commute.{CommutesBackward, CommutesBackwardBothWays}
use Rattle.type_table.specs.Laws.{StepsWithin}
use Rattle.type_table.specs.Run.{Looks, run}
use Rattle.type_table.specs.StateSet.{has}
use Rattle.type_table.specs.Table.{Table, IsTable, next}
use Rattle.type_table.specs.declared.table_kind.TableKind.TheVariants as tabled
use Rattle.type_table.proofs.Legal.{from_state, some_state}
use Rattle.exact_tables.proofs.Looks.{looks-step}
use Rattle.table_maker.specs.Made.{Family, IsTableOfFamily, where_legal}
use Rattle.made_answers.specs.Laws.{AloneIsStrong, ExactAnswers, ExactStrength, FamiliesAreAccepted, FamiliesHaveClosedSets, LoneStatesAreStrong, LooksAlone, MadeIsExact, MadeIsStrong}

-- ---- a yes is strong

-- the end of two operations is a state of the table
end_inside : StepsWithin → (T : Table) (s p q e : ℕ) → IsTable T → run T (Some s) (p ∷ q ∷ []) ≡ Some e → e < T.states
end_inside within T s p q e table ends =
    let middle = from_state T (next T s p) (q ∷ []) (rw ends refl) in
    (within T middle.0 q e table (rw middle.1 at ends)).2

-- what commutes backward does so both ways, since the two ends are one
both_ways : StepsWithin → (T : Table) → IsTable T → LooksAlone T → (set : ℕ → Bool) (p q : ℕ) → CommutesBackward T set p q → CommutesBackwardBothWays T set p q
both_ways within T table alone set p q commutes = λ s member legal.
    let ends = commutes s member legal in
    let first = some_state (run T (Some s) (q ∷ p ∷ [])) legal in
    let second = some_state (run T (Some s) (p ∷ q ∷ [])) ends.0 in
    let looks : Looks T (Some first.0) (Some second.0) = rw (first.1, second.1) at ends.1 in
    let one : first.0 ≡ second.0 =
    alone first.0 second.0 (end_inside within T s q p first.0 table first.1) (end_inside within T s p q second.0 table second.1) looks in
    let same : run T (Some s) (p ∷ q ∷ []) ≡ run T (Some s) (q ∷ p ∷ []) = second.1 ∙ sym (ap Some one) ∙ sym first.1 in
    (ends.0, (ends.1, subst (λ o. Looks T (run T (Some s) (p ∷ q ∷ [])) o) same (λ w h. h)))

pub alone_is_strong : StepsWithin → ExactAnswers → ExactStrength → AloneIsStrong
alone_is_strong within answers strength = λ file exact alone yes.
    let covered = (answers tabled.Undo file exact).0 yes in
    record {
      yes = yes;
      strong = (strength tabled.Undo file exact).1 (record {
        begins_inside = covered.begins_inside;
        closed = covered.closed;
        commute = λ p q free. both_ways within file.table exact.table alone (has file.reach) p q (covered.commute p q free);
      });
    }

-- so are those to the files of such a family
pub lone_states_are_strong : AloneIsStrong → MadeIsExact → MadeIsStrong → FamiliesHaveClosedSets → FamiliesAreAccepted → LoneStatesAreStrong
lone_states_are_strong strong exact deferred sets families f alone tabled.Undo file is =
    strong file (exact file is.made (sets f file is)) (alone file is) (families f tabled.Undo file is)
lone_states_are_strong strong exact deferred sets families f alone tabled.Intentions file is = deferred file is.made (sets f file is)

-- ---- what tells states apart

-- a table of a family, of which state s looks like t
pub record IsLike (f : Family) (T : Table) (s t : ℕ) : Type 0 where
  pub table : IsTable T
  pub of_family : IsTableOfFamily f T
  pub first : s < f.states
  pub second : t < f.states
  pub looks : Looks T (Some s) (Some t)

-- by a step from s there is one from t, and it is so after them
pub like_after : StepsWithin → (f : Family) (T : Table) (s t k s2 : ℕ) → IsLike f T s t → k < length f.ops → f.step s k ≡ Some s2 → (t2 : ℕ) × (f.step t k ≡ Some t2) × IsLike f T s2 t2
like_after within f T s t k s2 like k_in step =
    let here : next T s k ≡ Some s2 = like.of_family.steps s k like.first k_in ∙ step in
    let after = looks-step T s t k s2 like.looks here in (
      after.0,
      sym (like.of_family.steps t k like.second k_in) ∙ after.1,
      record {
        table = like.table;
        of_family = like.of_family;
        first = omega (arith, (within T s k s2 like.table here).2, like.of_family.states);
        second = omega (arith, (within T t k after.0 like.table after.1).2, like.of_family.states);
        looks = after.2;
      },
    )

-- where a step is legal by a test, it is legal at what passes
legal_passes : (b : Bool) (u t : ℕ) → where_legal b u ≡ Some t → b ≡ true
legal_passes true u t is = refl
legal_passes false u t is = cc

-- so what passes at s passes at t
pub passes_there : StepsWithin → (f : Family) (T : Table) (s t k : ℕ) (test : ℕ → Bool) (end : ℕ → ℕ) → IsLike f T s t → k < length f.ops
    → ((u : ℕ) → f.step u k ≡ where_legal (test u) (end u)) → test s ≡ true → test t ≡ true
passes_there within f T s t k test end like k_in steps passes =
    let after = like_after within f T s t k (end s) like k_in (steps s ∙ ap (λ b. where_legal b (end s)) passes) in
    legal_passes (test t) (end t) after.0 (sym (steps t) ∙ after.1)
