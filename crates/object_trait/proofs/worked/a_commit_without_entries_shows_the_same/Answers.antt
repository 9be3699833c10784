use Rattle.std.proofs.Common.{◌≡◌, ℕ, zero, suc, false, [], ◌∷◌, Some, None, refl, arith}
use Rattle.std.proofs.lemmas.Bool.Decides.{nat_tests}
use Rattle.std.specs.Prelude.{nat_lt}
use Rattle.type_table.specs.Table.{next}
use Rattle.type_table.specs.Run.{Looks}
use Rattle.object_trait.specs.Examples.{held, done_entry, counter_at, two_alike}
use Rattle.type_table.specs.declared.kind.Kind.TheVariants.{Undo}
use Rattle.object_trait.proofs.worked.a_commit_without_entries_shows_the_same.Goals as goal

-- the commit of a transaction without entries, by which the first entry moves into base
pub returns-clause-in_place : goal.returns-clause-in_place
unfolding next
returns-clause-in_place c = record { checked = refl; commit = record { moved = done_entry 1 0 ∷ []; front = refl; done = (refl, tt); reached = refl } }

pub returns-clause-the_same : goal.returns-clause-the_same
returns-clause-the_same c =
    (c.untouched_shows_the_same.ensures (counter_at Undo 0 (done_entry 1 0 ∷ held 2 0 ∷ [])) (counter_at Undo 1 (held 2 0 ∷ [])) 3 refl).0 (returns-clause-in_place c)

-- no operation but the first is legal
no_second : (s k : ℕ) → next two_alike.table s (suc k) ≡ None
unfolding next
no_second s k =
    let beyond : nat_lt (suc k) 1 ≡ false = grind (arith, nat_tests) in
    rw beyond refl

-- from two states in which it idles the same lists are legal
looks : (s t : ℕ) → next two_alike.table s 0 ≡ Some s → next two_alike.table t 0 ≡ Some t → Looks two_alike.table (Some s) (Some t)
looks s t from to [] h = refl
looks s t from to (zero ∷ ks) h = rw to (looks s t from to ks (rw from at h))
looks s t from to (suc k ∷ ks) h = rw (no_second t k) (rw (no_second s k) at h)

pub returns-clause-alike : goal.returns-clause-alike
unfolding next
returns-clause-alike c = (looks 0 1 refl refl, looks 1 0 refl refl)

pub returns-clause-moves : goal.returns-clause-moves
returns-clause-moves c = λ h. absurd (let same : 1 ≡ 0 = h.still refl in cc)
