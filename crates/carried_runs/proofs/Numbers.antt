-- Escrow: what is safe stays so where transactions have other numbers.
use Rattle.std.proofs.Common.{◌≡◌, ℕ, false, ◌==◌, List, [], ◌∷◌, ◌++◌, map, take, refl, sym, ap, ◌∙◌, inl, inr}
use Rattle.std.proofs.lemmas.Bool.{cases_Bool, eqb-true, eq-eqb, false≢true}
use Rattle.type_table.specs.Table.{Table}
use Rattle.type_table.proofs.Elements.{each-map, each-weaker}
use Rattle.escrow_laws.specs.Safe.{Part, done_in_parts, AreOthers, IsSafe}

-- the parts, of the transactions whose numbers these are
abbrev pub named : (ℕ → ℕ) → Part → Part
named g p = record { by = g p.by; count = p.count }

-- they do the same
named-done : (g : ℕ → ℕ) (own now : ℕ → List ℕ) → ((j : ℕ) → now j ≡ own (g j)) → (ps : List Part) → done_in_parts now ps ≡ done_in_parts own (map (named g) ps)
named-done g own now same [] = refl
named-done g own now same (p ∷ ps) = rw (same p.by) (ap (λ rest. take p.count (own (g p.by)) ++ rest) (named-done g own now same ps))

-- two that differ have names that differ
named-apart : (g : ℕ → ℕ) → ((i j : ℕ) → g i ≡ g j → i ≡ j) → (i j : ℕ) → (i == j) ≡ false → (g i == g j) ≡ false
named-apart g one i j differ =
    elim (cases_Bool (g i == g j)) [
      | inl is ↦ absurd (false≢true (sym differ ∙ eq-eqb i j (one i j (eqb-true (g i) (g j) is))))
      | inr other ↦ other
    ]

-- and are others
named-others : (g : ℕ → ℕ) → ((i j : ℕ) → g i ≡ g j → i ≡ j) → (t : ℕ) (ps : List Part) → AreOthers t ps → AreOthers (g t) (map (named g) ps)
named-others g one t [] others = tt
named-others g one t (p ∷ ps) others = (
  named-apart g one p.by t others.0,
  each-map (λ (q : Part). (q.by == g p.by) ≡ false) (named g) ps (each-weaker (λ (q : Part) differ. named-apart g one q.by p.by differ) ps others.1),
  named-others g one t ps others.2,
)

-- so it is safe
pub safe-named : (T : Table) (base : ℕ) (g : ℕ → ℕ) (own now : ℕ → List ℕ) → ((i j : ℕ) → g i ≡ g j → i ≡ j) → ((j : ℕ) → now j ≡ own (g j)) → IsSafe T base own → IsSafe T base now
safe-named T base g own now one same safe = λ t ps others.
    rw (same t, named-done g own now same ps) (safe (g t) (map (named g) ps) (named-others g one t ps others))
