-- How a pair fails that some run shows: a list that leads to a state, and one that tells the two orders of the pair apart there.
use Rattle.std.specs.Prelude.{◌≡◌, ◌⊎◌, ℕ, ◌+◌, ◌≤◌, Bool, true, false, List, [], ◌∷◌, length, Option, None, Some, IsSome}
use Rattle.type_table.specs.Table.{Table, next}
use Rattle.type_table.specs.Run.{run, IsLegal}
use Rattle.type_table.specs.declared.table_kind.TableKind.{TableKind}
use Rattle.type_table.specs.declared.table_kind.TableKind.TheVariants.{Undo, Intentions}
use Rattle.exact_tables.specs.Tell.{comes_before}
use Rattle.pair_needs.specs.Leads.{Leads}
use Rattle.pair_needs.specs.Needs.{FailsInRun}
use Rattle.pair_needs.specs.declared.witness.Witness.{Witness}

-- a transaction that runs r may come after the operations that end in x, or it runs nothing; after those that end in y it mayn't
pub record Parts (T : Table) (x y : Option ℕ) (r : List ℕ) : Type 0 where
  pub goes_on : (r ≡ []) ⊎ IsLegal T x r
  pub breaks : IsLegal T y r → ⊥

-- something is asked of the pair of p, requested, and q, held, at s: in place where q and then p is legal, with deferred update where each is
abbrev pub IsAsked : TableKind → Table → ℕ → ℕ → ℕ → Type 0
IsAsked Undo T p q s = IsLegal T (Some s) (q ∷ p ∷ [])
IsAsked Intentions T p q s = IsSome (next T s p) × IsSome (next T s q)

-- the list r parts two ends: that of q and then p, and that of p and then q. In place the first was executed, and the second has to be
-- legal; with deferred update each order has to be, and true says that it is the first that is
abbrev pub PartsBy : TableKind → Table → Bool → Option ℕ → Option ℕ → List ℕ → Type 0
PartsBy kind T true x y r = Parts T x y r
PartsBy Undo T false x y r = ⊥
PartsBy Intentions T false x y r = Parts T y x r

-- the list r shows that the pair fails at s
pub record Shows (kind : TableKind) (T : Table) (p q s : ℕ) (held_first : Bool) (r : List ℕ) : Type 0 where
  pub asked : IsAsked kind T p q s
  pub parts : PartsBy kind T held_first (run T (Some s) (q ∷ p ∷ [])) (run T (Some s) (p ∷ q ∷ [])) r

abbrev pub lead_of : Witness → List ℕ
lead_of b = b.lead.items

abbrev pub tell_of : Witness → List ℕ
tell_of b = b.tell.items

-- the first list leads to the state, and the second shows that the pair fails there
pub record IsWitness (kind : TableKind) (T : Table) (p q : ℕ) (b : Witness) : Type 0 where
  pub leads : Leads T b.state (lead_of b)
  pub shows : Shows kind T p q b.state b.held_first (tell_of b)

-- the run that breaks has four transactions: 0 leads to the state, 1 holds q, 2 does p while 1 is open, and 3 tells the ends apart

-- which of 1, who holds q, and 2, who does p, commits first. In place it is 2, as the ends of what is executed show; with deferred update
-- the order that is legal
abbrev pub first_commit : TableKind → Bool → ℕ
first_commit Undo held_first = 2
first_commit Intentions true = 1
first_commit Intentions false = 2

abbrev pub second_commit : TableKind → Bool → ℕ
second_commit Undo held_first = 1
second_commit Intentions true = 2
second_commit Intentions false = 1

-- the order of the commits that is illegal: p and then q where q and then p is the legal one, and the other way round
abbrev pub failing_order : Bool → List ℕ
failing_order true = 0 ∷ 2 ∷ 1 ∷ 3 ∷ []
failing_order false = 0 ∷ 1 ∷ 2 ∷ 3 ∷ []

-- the length of both lists together
abbrev pub size : Witness → ℕ
size b = length (lead_of b) + length (tell_of b)

-- the least: by the length of both lists together, then by the state, then by the lists in ascending order. Where q and then p serves as
-- well as the other order, it is that one
pub record IsLeastWitness (kind : TableKind) (T : Table) (p q : ℕ) (b : Witness) : Type 0 where
  pub is_witness : IsWitness kind T p q b
  pub shortest : (c : Witness) → IsWitness kind T p q c → size b ≤ size c
  pub least_state : (c : Witness) → IsWitness kind T p q c → size c ≡ size b → b.state ≤ c.state
  pub first_lead : (c : Witness) → IsWitness kind T p q c → size c ≡ size b → c.state ≡ b.state → comes_before (lead_of c) (lead_of b) ≡ false
  pub first_tell :
      (c : Witness) → IsWitness kind T p q c → size c ≡ size b → c.state ≡ b.state → lead_of c ≡ lead_of b
      → comes_before (tell_of c) (tell_of b) ≡ false
  pub prefers : Shows kind T p q b.state true (tell_of b) → b.held_first ≡ true

-- there is one exactly where the pair fails in a run
abbrev pub IsLeastWitnessOf : TableKind → Table → ℕ → ℕ → Option Witness → Type 0
IsLeastWitnessOf kind T p q None = FailsInRun kind T p q → ⊥
IsLeastWitnessOf kind T p q (Some b) = IsLeastWitness kind T p q b
