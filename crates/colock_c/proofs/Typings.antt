-- Types that are made: of a file that is such, or why there is none.
use Rattle.std.proofs.Common.{◌≡◌, ℕ, ◌⊎◌, Option, Some, None, Result, Ok, Err, refl, sym, ap, subst, ◌∙◌, inl, inr}
use Rattle.std.specs.Prelude.{IfErr, IfOk, MatchResult}
use Rattle.std.proofs.lemmas.Option.{same_Some}
use Rattle.type_table.specs.declared.kind.Kind.{Kind}
use Rattle.type_table.specs.declared.kind.Kind.TheVariants.{Escrow}
use Rattle.declared_types.specs.declared.type_file.TypeFile.{TypeFile}
use Rattle.number_types.specs.Number.{Number}
use Rattle.declared_types.specs.Declarations.{number_file}
use Rattle.declared_types.specs.declared.declared_type.Declaration.TheVariants.{Table, Number as Numbers}
use Rattle.library_calls.specs.Codes.{number}
use Rattle.library_calls.specs.declared.code.Code.{Code}
use Rattle.library_calls.specs.declared.code.Code.TheVariants.{NoMemory}
use Rattle.library_calls.specs.declared.held.Held.{Held}
use Rattle.library_calls.specs.declared.words.ColockFault.{ColockFault}
use Rattle.colock_c.specs.Types.{IsFileFor, MakesType, IsNotFor, accepted, not_accepted, no_file, memory_refused}

-- ---- files

-- what is made of such a file is made of another such file, where each that is the one is the other, and so what is amiss
pub of_such : (IsSuch IsOther : TypeFile → Type 0) (IsAmiss IsWrong : ℕ → ColockFault → Type 0) (kind : Kind) (was before : ColockFault) (n : ℕ) (words : ColockFault) (new : Option Held)
    → ((file : TypeFile) → IsSuch file → IsOther file) → ((m : ℕ) (w : ColockFault) → IsAmiss m w → IsWrong m w) → before ≡ was
    → MakesType IsSuch IsAmiss kind before n words new → MakesType IsOther IsWrong kind was n words new
of_such IsSuch IsOther IsAmiss IsWrong kind was before n words new files amisses same (accepted f c such type done stays at) = accepted f c (files f such) type done (stays ∙ same) at
of_such IsSuch IsOther IsAmiss IsWrong kind was before n words new files amisses same (not_accepted f such why at) = not_accepted f (files f such) why at
of_such IsSuch IsOther IsAmiss IsWrong kind was before n words new files amisses same (no_file amiss at) = no_file (amisses n words amiss) at
of_such IsSuch IsOther IsAmiss IsWrong kind was before n words new files amisses same (memory_refused is stays at) = memory_refused is (stays ∙ same) at

-- of a file that is such, what is made of this file
pub of_file : (IsSuch : TypeFile → Type 0) (IsAmiss : ℕ → ColockFault → Type 0) (file : TypeFile) (kind : Kind) (was before : ColockFault) (n : ℕ) (words : ColockFault) (new : Option Held)
    → IsSuch file → before ≡ was → MakesType (λ f. f ≡ file) (λ m w. ⊥) kind before n words new → MakesType IsSuch IsAmiss kind was n words new
of_file IsSuch IsAmiss file kind was before n words new such same made =
    of_such (λ f. f ≡ file) IsSuch (λ m w. ⊥) IsAmiss kind was before n words new (λ f is. subst IsSuch (sym is) such) (λ m w amiss. absurd amiss) same made

-- what is declared by a table is declared for each kind
pub of_table : (file : TypeFile) (kind : Kind) (was : ColockFault) (n : ℕ) (words : ColockFault) (new : Option Held)
    → MakesType (λ f. f ≡ file) (λ m w. ⊥) kind was n words new → MakesType (IsFileFor kind (Table file)) (IsNotFor kind (Table file) was) kind was n words new
of_table file kind was n words new made =
    of_file (IsFileFor kind (Table file)) (IsNotFor kind (Table file) was) file kind was was n words new (record { for_kind = tt; is = refl }) refl made

-- and a number for escrow
pub of_number : (v : Number) (kind : Kind) (was : ColockFault) (n : ℕ) (new : Option Held)
    → kind ≡ Escrow → MakesType (λ f. f ≡ number_file v) (λ m w. ⊥) Escrow was n was new → MakesType (IsFileFor kind (Numbers v)) (IsNotFor kind (Numbers v) was) kind was n was new
of_number v kind was n new is made =
    subst (λ (k : Kind). MakesType (IsFileFor k (Numbers v)) (IsNotFor k (Numbers v) was) k was n was new) (sym is)
    (of_file (IsFileFor Escrow (Numbers v)) (IsNotFor Escrow (Numbers v) was) (number_file v) Escrow was was n was new (record { for_kind = refl; is = refl }) refl made)

-- or none is
pub of_none : (IsSuch : TypeFile → Type 0) (IsAmiss : ℕ → ColockFault → Type 0) (kind : Kind) (was : ColockFault) (code : Code) (words : ColockFault) (new : Option Held)
    → ((code ≡ NoMemory) × (words ≡ was)) ⊎ IsAmiss (number code) words → new ≡ None → MakesType IsSuch IsAmiss kind was (number code) words new
of_none IsSuch IsAmiss kind was code words new why at =
    elim why [
      | inl memory ↦ memory_refused (ap number memory.0) memory.1 at
      | inr amiss ↦ no_file amiss at
    ]

-- of a family, what is made of the file that it has, or why it has none. The fault's words stay where it has none
pub of_family : (IsSuch : TypeFile → Type 0) (IsNone : ℕ → Type 0) (made : Result TypeFile Code) (kind : Kind) (was : ColockFault) (n : ℕ) (words : ColockFault) (new : Option Held)
    → IfOk made IsSuch → IfErr made (λ code. (code ≡ NoMemory) ⊎ IsNone (number code))
    → MatchResult made (λ file. MakesType (λ f. f ≡ file) (λ m w. ⊥) kind was n words new) (λ code. (n ≡ number code) × (words ≡ was) × (new ≡ None))
    → MakesType IsSuch (λ m w. IsNone m × (w ≡ was)) kind was n words new
of_family IsSuch IsNone (Ok file) kind was n words new such none held = of_file IsSuch (λ m w. IsNone m × (w ≡ was)) file kind was was n words new such refl held
of_family IsSuch IsNone (Err code) kind was n words new such none held =
    elim none [
      | inl memory ↦ memory_refused (held.0 ∙ ap number memory) (held.1) (held.2)
      | inr why ↦ no_file (subst IsNone (sym held.0) why, held.1) (held.2)
    ]

-- what holds of the kind that was found holds of the one that there is
pub for_kind : (P : Kind → ℕ → Type 0) (found : Option Kind) (j k : Kind) (n m : ℕ) → Some j ≡ found → found ≡ Some k → m ≡ n → P j n → P k m
for_kind P found j k n m is there same p = subst (λ (i : Kind). P i m) (same_Some j k (is ∙ there)) (subst (P j) (sym same) p)

-- of a file that was made, what is held for the kind that was found
pub of_made : (made : Result TypeFile Code) (file : TypeFile) (found : Option Kind) (j k : Kind) (was : ColockFault) (n m : ℕ) (words : ColockFault) (new : Option Held)
    → made ≡ Ok file → Some j ≡ found → found ≡ Some k → m ≡ n → MakesType (λ f. f ≡ file) (λ i w. ⊥) j was n words new
    → MatchResult made (λ x. MakesType (λ f. f ≡ x) (λ i w. ⊥) k was m words new) (λ code. (m ≡ number code) × (words ≡ was) × (new ≡ None))
of_made made file found j k was n m words new ok is there same held =
    subst (λ (r : Result TypeFile Code). MatchResult r (λ x. MakesType (λ f. f ≡ x) (λ i w. ⊥) k was m words new) (λ code. (m ≡ number code) × (words ≡ was) × (new ≡ None))) (sym ok)
    (for_kind (λ (i : Kind) (a : ℕ). MakesType (λ f. f ≡ file) (λ i w. ⊥) i was a words new) found j k n m is there same held)
