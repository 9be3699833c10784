-- What is firm is what is legal whatever happens before.
use Rattle.std.proofs.Common.{◌≡◌, ℕ, zero, suc, ◌+◌, ◌<◌, false, ◌==◌, cond, List, [], ◌∷◌, ◌++◌, take, drop, Some, refl, sym, ◌∙◌, inl, inr, arith, append_assoc, append-nil}
use Rattle.std.specs.List.{AllByRecursion}
use Rattle.std.proofs.lemmas.Bool.{cases_Bool, eq-eqb, ne_eqb, false≢true}
use Rattle.std.proofs.lemmas.List.{take-append-drop}
use Rattle.type_table.specs.Table.{Table}
use Rattle.type_table.specs.Run.{run, IsLegal}
use Rattle.type_table.specs.Laws.{RunsAlong}
use Rattle.type_table.proofs.Legal.{some_state, is_there, legal-front, legal-behind, legal-after}
use Rattle.escrow_laws.specs.Amounts.{Amounts, IsNumeric, fall, rise}
use Rattle.escrow_laws.specs.Firm.{sum_below, except, IsFirm}
use Rattle.escrow_laws.specs.Safe.{Part, done_in_parts, AreOthers}
use Rattle.escrow_laws.specs.Laws.{FirmIsSafe, SafeIsFirm}
use Rattle.escrow_laws.proofs.Runs.{legal-between}
use Rattle.escrow_laws.proofs.Lowest.{falls-somewhere, rises-somewhere}
use Rattle.escrow_laws.proofs.Staying.{firm_legal, firm_struck, firm_committed}

-- ---- what is firm is safe

-- what is done by others than a transaction doesn't depend on it
same-done : (own rest : ℕ → List ℕ) (t : ℕ) (ps : List Part) → ((u : ℕ) → (u == t) ≡ false → rest u ≡ own u) → AllByRecursion (λ q. (q.by == t) ≡ false) ps → done_in_parts rest ps ≡ done_in_parts own ps
same-done own rest t [] same apart = refl
same-done own rest t (p ∷ ps) same apart = rw (same p.by apart.0, same-done own rest t ps same apart.1) refl

safe-by : RunsAlong → (T : Table) (a : Amounts) → IsNumeric T a → (t : ℕ) (ps : List Part) (base : ℕ) (own : ℕ → List ℕ) → IsFirm T a base own → AreOthers t ps →
    IsLegal T (Some base) (done_in_parts own ps ++ own t)
safe-by along T a numeric t [] base own firm others = firm_legal T a base own t firm
safe-by along T a numeric t (p ∷ ps) base own firm others =
    let cut : ℕ → List ℕ = λ v. cond (v == p.by) (take p.count (own v)) (own v) in
    let rest : ℕ → List ℕ = λ v. cond (v == p.by) [] (own v) in
    let fronts : (u : ℕ) → (struck : List ℕ) × (own u ≡ cut u ++ struck) = λ u. elim (cases_Bool (u == p.by)) [
      | inl is ↦ (drop p.count (own u), rw (is, take-append-drop p.count (own u)) refl)
      | inr other ↦ ([], rw (other, append-nil (own u)) refl)
    ] in
    let firm_cut = firm_struck T a base own cut firm fronts in
    let mine : cut p.by ≡ take p.count (own p.by) = rw (eq-eqb p.by p.by refl) refl in
    let first : IsLegal T (Some base) (take p.count (own p.by)) = rw mine at (firm_legal T a base cut p.by firm_cut) in
    let reached = some_state (run T (Some base) (take p.count (own p.by))) first in
    let firm_rest = firm_committed T a base reached.0 cut rest p.by numeric firm_cut (rw mine reached.1) (rw (eq-eqb p.by p.by refl) refl) (λ u other. rw other refl) in
    let after = safe-by along T a numeric t ps reached.0 rest firm_rest others.2 in
    let apart : (t == p.by) ≡ false = ne_eqb t p.by (λ same. false≢true (sym others.0 ∙ eq-eqb p.by t (sym same))) in
    let same : rest t ≡ own t = rw apart refl in
    let dones : done_in_parts rest ps ≡ done_in_parts own ps = same-done own rest p.by ps (λ u other. rw other refl) others.1 in
    rw (append_assoc (take p.count (own p.by)) (done_in_parts own ps) (own t))
    (legal-after along T (Some base) (take p.count (own p.by)) (done_in_parts own ps ++ own t) reached.0 reached.1 (rw (dones, same) at after))

pub firm_safe : RunsAlong → FirmIsSafe
firm_safe along = λ T a base own numeric firm t ps others. safe-by along T a numeric t ps base own firm others

-- ---- what is safe is firm

-- others below m that take the number down as far as they may
record Lowest (T : Table) (a : Amounts) (own : ℕ → List ℕ) (t m : ℕ) : Type 0 where
  parts : List Part
  others : AreOthers t parts
  inside : AllByRecursion (λ p. p.by < m) parts
  ends : (s e : ℕ) → run T (Some s) (done_in_parts own parts) ≡ Some e → s ≡ e + sum_below m (except t (λ u. fall a (own u)))

record Highest (T : Table) (a : Amounts) (own : ℕ → List ℕ) (t m : ℕ) : Type 0 where
  parts : List Part
  others : AreOthers t parts
  inside : AllByRecursion (λ p. p.by < m) parts
  ends : (s e : ℕ) → run T (Some s) (done_in_parts own parts) ≡ Some e → e ≡ s + sum_below m (except t (λ u. rise a (own u)))

-- what is below m is below m + 1, and isn't m
more-inside : (m : ℕ) (ps : List Part) → AllByRecursion (λ p. p.by < m) ps → AllByRecursion (λ p. p.by < suc m) ps
more-inside m [] inside = tt
more-inside m (p ∷ ps) inside = let here = inside.0 in (omega (arith, here), more-inside m ps inside.1)

none-last : (m : ℕ) (ps : List Part) → AllByRecursion (λ p. p.by < m) ps → AllByRecursion (λ p. (p.by == m) ≡ false) ps
none-last m [] inside = tt
none-last m (p ∷ ps) inside = let here = inside.0 in (ne_eqb p.by m (λ same. omega (arith, here, same)), none-last m ps inside.1)

lowest-parts : RunsAlong → (T : Table) (a : Amounts) → IsNumeric T a → (own : ℕ → List ℕ) (t m : ℕ) → Lowest T a own t m
lowest-parts along T a numeric own t zero = record { parts = []; others = tt; inside = tt; ends = λ s e is. (let same : s ≡ e = cc in omega (arith, same)) }
lowest-parts along T a numeric own t (suc m) =
    let rest = lowest-parts along T a numeric own t m in
    elim (cases_Bool (m == t)) [
      | inl is ↦ record {
        parts = rest.parts;
        others = rest.others;
        inside = more-inside m rest.parts rest.inside;
        ends = λ s e run_is. rw is (let ends = rest.ends s e run_is in omega (arith, ends));
      }
      | inr other ↦
          let down = falls-somewhere T a numeric (own m) in
          record {
            parts = (record { by = m; count = down.count }) ∷ rest.parts;
            others = (other, none-last m rest.parts rest.inside, rest.others);
            inside = (omega arith, more-inside m rest.parts rest.inside);
            ends = λ s e run_is. rw other
                (let v : List ℕ = take down.count (own m) in
                let w : List ℕ = done_in_parts own rest.parts in
                let middle = some_state (run T (Some s) v) (legal-front T (Some s) v w (is_there (run T (Some s) (v ++ w)) e run_is)) in
                let first = down.ends s middle.0 middle.1 in
                let second = rest.ends middle.0 e (rw (along T (Some s) v w, middle.1) at run_is) in
                omega (arith, first, second));
          }
    ]

highest-parts : RunsAlong → (T : Table) (a : Amounts) → IsNumeric T a → (own : ℕ → List ℕ) (t m : ℕ) → Highest T a own t m
highest-parts along T a numeric own t zero = record { parts = []; others = tt; inside = tt; ends = λ s e is. (let same : s ≡ e = cc in omega (arith, same)) }
highest-parts along T a numeric own t (suc m) =
    let rest = highest-parts along T a numeric own t m in
    elim (cases_Bool (m == t)) [
      | inl is ↦ record {
        parts = rest.parts;
        others = rest.others;
        inside = more-inside m rest.parts rest.inside;
        ends = λ s e run_is. rw is (let ends = rest.ends s e run_is in omega (arith, ends));
      }
      | inr other ↦
          let up = rises-somewhere T a numeric (own m) in
          record {
            parts = (record { by = m; count = up.count }) ∷ rest.parts;
            others = (other, none-last m rest.parts rest.inside, rest.others);
            inside = (omega arith, more-inside m rest.parts rest.inside);
            ends = λ s e run_is. rw other
                (let v : List ℕ = take up.count (own m) in
                let w : List ℕ = done_in_parts own rest.parts in
                let middle = some_state (run T (Some s) v) (legal-front T (Some s) v w (is_there (run T (Some s) (v ++ w)) e run_is)) in
                let first = up.ends s middle.0 middle.1 in
                let second = rest.ends middle.0 e (rw (along T (Some s) v w, middle.1) at run_is) in
                omega (arith, first, second));
          }
    ]

pub safe_firm : RunsAlong → SafeIsFirm
safe_firm along = λ T a base own numeric safe t m s low high.
    let down = lowest-parts along T a numeric own t m in
    let up = highest-parts along T a numeric own t m in
    let v : List ℕ = done_in_parts own down.parts in
    let w : List ℕ = done_in_parts own up.parts in
    let lower = safe t down.parts down.others in
    let upper = safe t up.parts up.others in
    let bottom = some_state (run T (Some base) v) (legal-front T (Some base) v (own t) lower) in
    let top = some_state (run T (Some base) w) (legal-front T (Some base) w (own t) upper) in
    let far_down = down.ends base bottom.0 bottom.1 in
    let far_up = up.ends base top.0 top.1 in
    legal-between T a numeric bottom.0 s top.0 (own t) (omega (arith, low, far_down)) (omega (arith, high, far_up))
    (legal-behind along T (Some base) v (own t) bottom.0 bottom.1 lower) (legal-behind along T (Some base) w (own t) top.0 top.1 upper)
