-- Values are written behind those that a table has.
use Rattle.std.proofs.Common.{◌≡◌, refl, sym, ap, subst, ℕ, ◌+◌, ◌<◌, ◌≤◌, List, [], ◌∷◌, ◌++◌, length, take, append-nil, append_assoc, length-append, Some, slice_get, ◌∙◌, arith}
use Rattle.std.proofs.lemmas.Bool.{eq-eqb, ne_eqb}
use Rattle.std.proofs.lemmas.List.{length-take-le, take_all}
use Rattle.type_table.proofs.Elements.{take-found}
use Rattle.sqlite_value.specs.Order.{Row}
use Rattle.sqlite_value.specs.declared.value.Value.TheVariants.{Int}
use Rattle.std.specs.Prelude.{pos}
use Rattle.sqlite_trees.specs.Tree.{put_row, rowid}
use Rattle.sqlite_trees.specs.View.{View, SetsTree}
use Rattle.journal.specs.Rows.{value_rows}
use Rattle.journal.specs.Tables.{AreBehind}
use Rattle.journal.proofs.RowLemmas.{put-more}

module _ {E : Type 0} (row_at : ℕ → E → Row) (keyed : (n : ℕ) (e : E) → (rest : Row) × (row_at n e ≡ Int (pos n) ∷ rest)) where
  key : (n : ℕ) (e : E) → rowid (row_at n e) ≡ Int (pos n)
  key n e = rw ((keyed n e).1) refl

  -- none yet
  pub none-behind : (v : View) (table many : ℕ) → AreBehind row_at v v table many []
  none-behind v table many = λ was is long. record {
    rows_are = is ∙ ap (value_rows row_at 0) (sym (append-nil was));
    others = λ t differs. refl;
    shape = refl;
    committed = refl;
    is_open = refl;
    is_broken = refl;
    numbered = refl;
  }

  -- one more behind the first of them
  rows-behind : (was entries : List E) (many x : ℕ) (e : E) → length was ≡ many → slice_get entries x ≡ Some e → x < length entries
      → put_row (row_at (many + x) e) (value_rows row_at 0 (was ++ take x entries)) ≡ value_rows row_at 0 (was ++ take (x + 1) entries)
  rows-behind was entries many x e long there low =
      put-more row_at key 0 (many + x) (was ++ take x entries) e (omega (arith, length-append was (take x entries), length-take-le x entries (omega (arith, low)), long))
      ∙ ap (value_rows row_at 0) (append_assoc was (take x entries) (e ∷ []) ∙ ap (λ more. was ++ more) (sym (take-found entries x e there)))

  pub one-behind : (old now more : View) (table many x : ℕ) (entries : List E) (e : E) → AreBehind row_at old now table many (take x entries) → slice_get entries x ≡ Some e
      → x < length entries → SetsTree now more table (put_row (row_at (many + x) e)) → AreBehind row_at old more table many (take (x + 1) entries)
  one-behind old now more table many x entries e before there low sets = λ was is long.
      let its = before was is long in
      record {
        rows_are = ap (λ (v : View). v.trees table) sets.is ∙ rw (eq-eqb table table refl) (ap (put_row (row_at (many + x) e)) its.rows_are ∙ rows-behind was entries many x e long there low);
        others = λ t differs. ap (λ (v : View). v.trees t) sets.is ∙ rw (ne_eqb t table differs) (its.others t differs);
        shape = ap (λ (v : View). v.shape) sets.is ∙ its.shape;
        committed = ap (λ (v : View). v.committed) sets.is ∙ its.committed;
        is_open = ap (λ (v : View). v.is_open) sets.is ∙ its.is_open;
        is_broken = ap (λ (v : View). v.is_broken) sets.is ∙ its.is_broken;
        numbered = ap (λ (v : View). v.is_numbered) sets.is ∙ its.numbered;
      }

  -- all of them
  pub all-behind : (old now : View) (table many x : ℕ) (entries : List E) → AreBehind row_at old now table many (take x entries) → length entries ≤ x → AreBehind row_at old now table many entries
  all-behind old now table many x entries these past = subst (AreBehind row_at old now table many) (take_all x entries past) these
