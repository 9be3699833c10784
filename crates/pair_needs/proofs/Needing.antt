-- Why a pair has to be in a conflict table: from what is found of the file's set, and of the states to which lists lead.
use Rattle.std.proofs.Common.{◌≡◌, ℕ, ◌+◌, ◌<◌, ◌≤◌, true, false, is_some, List, length, Option, Some, None, MatchOption, sym, ◌∙◌, subst, inl, inr, arith}
use Rattle.std.specs.List.{slice_get}
use Rattle.std.proofs.lemmas.Bool.{true≢false, false≢true, cases_lt}
use Rattle.std.proofs.lemmas.Option.{same_Some, slice_get_within}
use Rattle.type_table.specs.Table.{Table}
use Rattle.type_table.specs.declared.table_kind.TableKind.{TableKind}
use Rattle.declared_types.specs.declared.type_file.TypeFile.{TypeFile}
use Rattle.table_checker.specs.Checked.{condition_of}
use Rattle.table_checker.specs.Scan.{PairPasses, IsFirstState}
use Rattle.pair_needs.specs.Leads.{AreLeads}
use Rattle.pair_needs.specs.Needs.{FailsInFile, FailsStronglyAt, FailsStronglyInRun}
use Rattle.pair_needs.specs.declared.leads.Lead.{Lead}

-- ---- by the file's set and relation

module _ (kind : TableKind) (file : TypeFile) (p q : ℕ) where
  -- what is answered of the first state of the set at which the pair fails
  abbrev IsScanned : Option ℕ → Type 0
  IsScanned found = MatchOption found (PairPasses (condition_of kind) file p q) (IsFirstState (condition_of kind) file p q)

  pub found-fails : (found : Option ℕ) → IsScanned found → is_some found ≡ true → FailsInFile kind file p q
  found-fails None passes some = absurd (false≢true some)
  found-fails (Some s) is some = (s, is.state, is.fails)

  pub none-fails_in_file : (found : Option ℕ) → IsScanned found → is_some found ≡ false → FailsInFile kind file p q → ⊥
  none-fails_in_file None passes none fails = false≢true (sym (passes fails.0 fails.1) ∙ fails.2)
  none-fails_in_file (Some s) is none fails = true≢false none

-- ---- in the stronger form

module _ (kind : TableKind) (T : Table) (p q : ℕ) (leads : List Lead) where
  -- the pair fails it at none of the first n
  abbrev NoneStrongly : ℕ → Type 0
  NoneStrongly n = (i : ℕ) (m : Lead) → i < n → slice_get leads i ≡ Some m → FailsStronglyAt kind T p q m.state → ⊥

  pub strongly-none : NoneStrongly 0
  strongly-none i m low there fails = omega (arith, low)

  pub strongly-more : (n : ℕ) (l : Lead) → NoneStrongly n → slice_get leads n ≡ Some l → (FailsStronglyAt kind T p q l.state → ⊥) → NoneStrongly (n + 1)
  strongly-more n l none at here i m low there fails = elim (cases_lt i n) [
    | inl below ↦ none i m below there fails
    | inr past ↦
        let at_n : i ≡ n = omega (arith, past, low) in
        let same : m ≡ l = same_Some m l (sym there ∙ subst (λ j. slice_get leads j ≡ Some l) (sym at_n) at) in
        here (subst (λ (x : Lead). FailsStronglyAt kind T p q x.state) same fails)
  ]

  pub strongly-there : AreLeads T leads → (i : ℕ) (l : Lead) → slice_get leads i ≡ Some l → FailsStronglyAt kind T p q l.state → FailsStronglyInRun kind T p q
  strongly-there h i l there fails = (l.state, (l.list.items, (h.each i l there).leads), fails)

  pub strongly-nowhere : AreLeads T leads → (n : ℕ) → length leads ≤ n → NoneStrongly n → FailsStronglyInRun kind T p q → ⊥
  strongly-nowhere h n all none fails =
      let known = h.all fails.0 fails.1 in
      let within = slice_get_within leads known.0 known.1 known.2 in
      none known.0 known.1 (omega (arith, within, all)) known.2 (subst (λ s. FailsStronglyAt kind T p q s) (sym known.3) fails.2)
