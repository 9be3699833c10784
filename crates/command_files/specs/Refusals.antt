-- The line of a type file that isn't accepted.
use Rattle.std.specs.Prelude.{ℕ, List, [], ◌∷◌, ◌++◌, codes}
use Rattle.std.specs.Fmt.{decimal}
use Rattle.table_checker.specs.declared.refusal.CheckRefusal.{CheckRefusal}
use Rattle.table_checker.specs.declared.refusal.CheckRefusal.TheVariants.{InitialOutside, NotClosed, NotSimulation, NotCommuting, NotNumeric}

-- a number after a space, and what follows
abbrev pub spaced_number : ℕ → List ℕ → List ℕ
spaced_number n rest = codes " " ++ (decimal n ++ rest)

-- the line of a no
abbrev pub no_line : CheckRefusal → List ℕ
no_line InitialOutside = codes "no InitialOutside" ++ 10 ∷ []
no_line (NotClosed s k) = codes "no NotClosed" ++ spaced_number s (spaced_number k (10 ∷ []))
no_line (NotSimulation s t k) = codes "no NotSimulation" ++ spaced_number s (spaced_number t (spaced_number k (10 ∷ [])))
no_line (NotCommuting p q s) = codes "no NotCommuting" ++ spaced_number p (spaced_number q (spaced_number s (10 ∷ [])))
no_line (NotNumeric k s) = codes "no NotNumeric" ++ spaced_number k (spaced_number s (10 ∷ []))
