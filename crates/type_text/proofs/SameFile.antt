-- Two files that the same lines describe have the same parts.
use Rattle.std.proofs.Common.{◌≡◌, ◌↔◌, ℕ, ◌+◌, ◌*◌, ◌/◌, ◌%◌, ◌<◌, Bool, true, false, List, length, get_or, Option, Some, None, Ok, Contains, refl, sym, ap, subst, ◌∙◌, arith}
use Rattle.std.proofs.lemmas.List.{ext_get_or}
use Rattle.std.proofs.Math.Nat.{div-add-mod, mod-lt}
use Rattle.type_table.specs.Table.{Table, IsTable, next}
use Rattle.type_table.specs.StateSet.{has}
use Rattle.type_table.specs.ConflictTable.{conflicts, IsSquare}
use Rattle.type_table.proofs.Legal.{next-entry}
use Rattle.equi_cert.specs.Relation.{relates}
use Rattle.equi_cert.specs.Laws.{SamePairs}
use Rattle.declared_types.specs.declared.type_file.TypeFile.{TypeFile}
use Rattle.type_text.specs.declared.type_line.TypeLine.{TypeLine}
use Rattle.type_text.specs.declared.type_line.TypeLine.TheVariants.{TypeName, States, Initial, Step}
use Rattle.type_text.specs.TypeFile.{IsTableOf, IsReached, IsFileOf}
use Rattle.type_text.specs.Canonical.{IsTypeFile, canonical_lines, CanonicalIsRead, LinesTellTheFile, WrittenIsRead}

-- ---- tests and values that one statement decides

-- two tests that say the same
same_test : {P : Type 0} (a b : Bool) → ((a ≡ true) ↔ P) → ((b ≡ true) ↔ P) → a ≡ b
same_test true b h k = sym (k.1 (h.0 refl))
same_test false true h k = h.1 (k.0 refl)
same_test false false h k = refl

-- two values that may be there, and are the same wherever one is
same_option : (P : ℕ → Type 0) (a b : Option ℕ) → ((t : ℕ) → (a ≡ Some t) ↔ P t) → ((t : ℕ) → (b ≡ Some t) ↔ P t) → a ≡ b
same_option P (Some t) b h k = sym ((k t).1 ((h t).0 refl))
same_option P None (Some t) h k = (h t).1 ((k t).0 refl)
same_option P None None h k = refl

-- ---- the table

-- tables that the same lines describe have the same number of states
same_states : (lines : List TypeLine) (a b : Table) → IsTableOf lines a → IsTableOf lines b → a.states ≡ b.states
same_states lines a b h k = let both : Some (States a.states) ≡ Some (States b.states) = sym h.states ∙ k.states in cc

-- and the same operations
same_ops : (lines : List TypeLine) (a b : Table) → IsTableOf lines a → IsTableOf lines b → a.ops ≡ b.ops
same_ops lines a b h k = h.ops ∙ sym k.ops

-- and the same steps
same_next : (lines : List TypeLine) (a b : Table) → IsTableOf lines a → IsTableOf lines b → (s k : ℕ) → next a s k ≡ next b s k
same_next lines a b h k s op = same_option (λ t. Contains lines (Step s op t)) (next a s op) (next b s op) (h.steps s op) (k.steps s op)

-- as lists too, since there is an entry for each state and operation
same_steps : (lines : List TypeLine) (a b : Table) → IsTable a → IsTable b → IsTableOf lines a → IsTableOf lines b → a.steps ≡ b.steps
same_steps lines a b is_a is_b h k =
    ext_get_or None a.steps b.steps (is_a.whole ∙ ap (λ n. n * length a.ops) (same_states lines a b h k) ∙ ap (λ n. b.states * n) (ap length (same_ops lines a b h k)) ∙ sym is_b.whole) same_entry
  where
    same_entry : (i : ℕ) → i < length a.steps → get_or a.steps i None ≡ get_or b.steps i None
    same_entry i below =
        let count : length a.ops ≡ length b.ops = ap length (same_ops lines a b h k) in
        let first = i / length a.ops in
        let second = i % length a.ops in
        let place : first * length a.ops + second ≡ i = omega (arith, div-add-mod i (length a.ops)) in
        let other : first * length b.ops + second ≡ i = ap (λ n. first * n + second) (sym count) ∙ place in
        let within : second < length a.ops = mod-lt i is_a.some_ops in
        let in_a : next a first second ≡ get_or a.steps (first * length a.ops + second) None = next-entry a first second within in
        let in_b : next b first second ≡ get_or b.steps (first * length b.ops + second) None = next-entry b first second (omega (arith, within, count)) in
        sym (in_a ∙ ap (λ n. get_or a.steps n None) place) ∙ same_next lines a b h k first second ∙ in_b ∙ ap (λ n. get_or b.steps n None) other

-- so they are one table
same_table : (lines : List TypeLine) (a b : Table) → IsTable a → IsTable b → IsTableOf lines a → IsTableOf lines b → a ≡ b
same_table lines a b is_a is_b h k =
    let names : Some (TypeName a.name) ≡ Some (TypeName b.name) = sym h.name ∙ k.name in
    let initials : Some (Initial a.initial) ≡ Some (Initial b.initial) = sym h.initial ∙ k.initial in
    let name : a.name ≡ b.name = cc in
    let initial : a.initial ≡ b.initial = cc in
    let states : a.states ≡ b.states = same_states lines a b h k in
    let ops : a.ops ≡ b.ops = same_ops lines a b h k in
    let steps : a.steps ≡ b.steps = same_steps lines a b is_a is_b h k in
    λ i. record { name = name i; states = states i; initial = initial i; ops = ops i; steps = steps i }

-- ---- the set, the relation and the conflict tables

-- the sets are equal, as lists of as many states
same_reach : (lines : List TypeLine) (a b : TypeFile) → a.table ≡ b.table → IsFileOf lines a → IsFileOf lines b → a.reach ≡ b.reach
same_reach lines a b table h k =
    let states : a.table.states ≡ b.table.states = ap (λ (T : Table). T.states) table in
    ext_get_or false a.reach b.reach (omega (arith, a.reach_fits, b.reach_fits, states))
    (λ s below. same_test (has a.reach s) (has b.reach s) (h.reach s) (subst (λ n. (has b.reach s ≡ true) ↔ IsReached lines n s) (sym states) (k.reach s)))

module _ (same : SamePairs) where
  -- the relations are equal, as they have the same states and pairs
  same_relation : (lines : List TypeLine) (a b : TypeFile) → a.table ≡ b.table → IsTypeFile a → IsTypeFile b → IsFileOf lines a → IsFileOf lines b → a.relation ≡ b.relation
  same_relation lines a b table is_a is_b h k =
      let states : a.table.states ≡ b.table.states = ap (λ (T : Table). T.states) table in
      let in_a : IsSquare a.table.states a.relation = subst (λ n. IsSquare n a.relation) a.relation_fits is_a.relation.square in
      let in_b : IsSquare a.table.states b.relation = subst (λ n. IsSquare n b.relation) (b.relation_fits ∙ sym states) is_b.relation.square in
      same a.table.states a.relation b.relation in_a in_b
      (λ s t s_in t_in. same_test (relates a.relation s t) (relates b.relation s t) (h.relation s t s_in t_in) (k.relation s t (omega (arith, s_in, states)) (omega (arith, t_in, states))))

  -- conflict tables of as many operations with the same pairs
  same_conflicts : (P : ℕ → ℕ → Type 0) (ops other : ℕ) (a b : List (List Bool)) → other ≡ ops → IsSquare ops a → IsSquare other b
      → ((p q : ℕ) → (conflicts a p q ≡ true) ↔ P p q) → ((p q : ℕ) → (conflicts b p q ≡ true) ↔ P p q) → a ≡ b
  same_conflicts P ops other a b e in_a in_b h k =
      same ops a b in_a (subst (λ n. IsSquare n b) e in_b) (λ p q p_in q_in. same_test (conflicts a p q) (conflicts b p q) (h p q) (k p q))

  -- so all parts are equal
  pub lines_tell : LinesTellTheFile
  lines_tell lines a b is_a is_b h k =
      let table : a.table ≡ b.table = same_table lines a.table b.table is_a.table is_b.table h.table k.table in
      let count : length b.table.ops ≡ length a.table.ops = ap (λ (T : Table). length T.ops) (sym table) in
      record {
        table = table;
        reach = same_reach lines a b table h k;
        relation = same_relation lines a b table is_a is_b h k;
        undo = same_conflicts _ (length a.table.ops) (length b.table.ops) a.undo b.undo count is_a.undo is_b.undo h.undo k.undo;
        intentions = same_conflicts _ (length a.table.ops) (length b.table.ops) a.intentions b.intentions count is_a.intentions is_b.intentions h.intentions k.intentions;
      }

-- what is read from the canonical text of a file is that file
pub written-read : CanonicalIsRead → LinesTellTheFile → WrittenIsRead
written-read canonical tell file back is_file names is_back reads =
    let canon = canonical file is_file names in
    let outcome : Ok reads.0 ≡ Ok (canonical_lines file) = sym reads.1 ∙ canon.read in
    let same : reads.0 ≡ canonical_lines file = cc in
    tell (canonical_lines file) file back is_file is_back canon.described (subst (λ lines. IsFileOf lines back) same reads.2)
