-- What was written of a text.
use Rattle.std.proofs.Common.{◌≡◌, ℕ, ◌+◌, List, ◌++◌, length, take, sym, Option, None, Result, Ok, Err, arith, subst}
use Rattle.std.proofs.Math.Seq.{take-append-add, take-length}
use Rattle.std.proofs.lemmas.List.{append-nil, length-append}
use Rattle.std.proofs.lemmas.Grind.{flat_map-append}
use Rattle.std.specs.Prelude.{MatchResult}
use Rattle.std.proofs.KnownBytes.{Appends-kept, Appends-trans}
use Rattle.std.specs.Io.KnownBytes.{Appends, Keeps}
use Rattle.serving.specs.declared.answer_line.Answered.{Answered}
use Rattle.serving.specs.EpochEnd.{last_answers}
use Rattle.serving.specs.NextEpoch.{answers_in}
use Rattle.serving.specs.Told.{AppendsPart, answers_text}

-- all of it
pub part-of-whole : (a b c : Option (List ℕ)) (text : List ℕ) → Appends a b text → Keeps b c → AppendsPart a c text
part-of-whole a b c text all keeps = (length text, omega arith, subst (Appends a c) (sym (take-length text)) (Appends-kept a b c text all keeps))

pub match-ok : {T E : Type 0} (P Q : Type 0) (r : Result T E) (x : T) → r ≡ Ok x → MatchResult r (λ y. P) (λ e. Q) → P
match-ok P Q (Ok y) x is p = p
match-ok P Q (Err e) x is p = absurd cc

pub match-err : {T E : Type 0} (P Q : Type 0) (r : Result T E) (e : E) → r ≡ Err e → MatchResult r (λ y. P) (λ x. Q) → Q
match-err P Q (Ok x) e is p = absurd cc
match-err P Q (Err x) e is p = p

-- ---- answers

pub told-more : (told more : List Answered) → answers_text (told ++ more) ≡ answers_text told ++ answers_text more
told-more told more = flat_map-append _ told more

-- a text, and then the beginning of another
pub part-then : (a b c : Option (List ℕ)) (x y : List ℕ) → Appends a b x → AppendsPart b c y → AppendsPart a c (x ++ y)
part-then a b c x y first (n, within, second) =
    (length x + n, omega (arith, length-append x y), subst (Appends a c) (sym (take-append-add x y n)) (Appends-trans a b c x (take n y) first second))

-- what is answered where an epoch ends and the end wasn't asked for
pub late-alone : (late : Option Answered) → last_answers late None ≡ answers_in late
late-alone late = append-nil (answers_in late)
