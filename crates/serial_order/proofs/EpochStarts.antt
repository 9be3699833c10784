-- What a list of operations does is the same wherever a type begins.
use Rattle.std.proofs.Common.{ℕ, List, Option}
use Rattle.type_table.specs.Table.{Table, table_at}
use Rattle.type_table.specs.Run.{IsLegal, Looks, AreEqui}
use Rattle.type_table.specs.Laws.{RunsAlike}

module _ (alike : RunsAlike) where
  -- what is legal at one is legal at the other
  pub legal-from : (T : Table) (i : ℕ) (from : Option ℕ) (ks : List ℕ) → IsLegal (table_at T i) from ks → IsLegal T from ks
  legal-from T i from ks legal = rw (alike T i from ks) at legal

  pub legal-to : (T : Table) (i : ℕ) (from : Option ℕ) (ks : List ℕ) → IsLegal T from ks → IsLegal (table_at T i) from ks
  legal-to T i from ks legal = rw (alike T i from ks) legal

  pub looks-from : (T : Table) (i : ℕ) (a b : Option ℕ) → Looks (table_at T i) a b → Looks T a b
  looks-from T i a b looks = λ ks legal. legal-from T i b ks (looks ks (legal-to T i a ks legal))

  pub looks-to : (T : Table) (i : ℕ) (a b : Option ℕ) → Looks T a b → Looks (table_at T i) a b
  looks-to T i a b looks = λ ks legal. legal-to T i b ks (looks ks (legal-from T i a ks legal))

  pub equi-from : (T : Table) (i : ℕ) (a b : Option ℕ) → AreEqui (table_at T i) a b → AreEqui T a b
  equi-from T i a b equi = (looks-from T i a b equi.0, looks-from T i b a equi.1)

  pub equi-to : (T : Table) (i : ℕ) (a b : Option ℕ) → AreEqui T a b → AreEqui (table_at T i) a b
  equi-to T i a b equi = (looks-to T i a b equi.0, looks-to T i b a equi.1)
