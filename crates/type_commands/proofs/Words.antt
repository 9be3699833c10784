-- Words that name an operation: its call, a slash, its reply.
use Rattle.std.proofs.Common.{◌≡◌, ◌≢◌, ℕ, Bool, false, List, [], ◌∷◌, ◌++◌, ◌∙◌, refl, sym, ap, inl, inr}
use Rattle.std.specs.Str.{bytes_eq}
use Rattle.std.proofs.lemmas.Bool.{cases_Bool, eq-eqb}
use Rattle.std.proofs.lemmas.Slice.Eq.{bytes_eq-Decides}

-- other bytes
pub not_same : (xs ys : List ℕ) → xs ≢ ys → bytes_eq xs ys ≡ false
not_same xs ys other = elim (cases_Bool (bytes_eq xs ys)) [ inl same ↦ absurd (other ((bytes_eq-Decides xs ys).0 same)) | inr fails ↦ fails ]

-- the same bytes at the front of both don't matter
pub same_front : (front xs ys : List ℕ) → bytes_eq (front ++ xs) (front ++ ys) ≡ bytes_eq xs ys
same_front [] xs ys = refl
same_front (b ∷ front) xs ys = rw (eq-eqb b b refl) (same_front front xs ys)

module _ (front back word prefix : List ℕ) (is : prefix ≡ front) where
  -- a word that begins otherwise
  pub other_front : ((rest : List ℕ) → word ≢ prefix ++ rest) → false ≡ bytes_eq (front ++ back) word
  other_front other = sym (not_same (front ++ back) word (λ same. other back (sym same ∙ ap (λ l. l ++ back) (sym is))))

  -- and one that begins so
  pub with_front : (rest : List ℕ) → word ≡ prefix ++ rest → (b : Bool) → b ≡ bytes_eq back rest → b ≡ bytes_eq (front ++ back) word
  with_front rest joined b says = says ∙ sym (rw (joined, is) (same_front front back rest))
