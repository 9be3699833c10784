-- The canonical text of a number is read as that number.
use Rattle.std.proofs.Common.{◌≡◌, ℕ, ◌≤◌, true, List, [], ◌∷◌, map, Ok, refl, sym, ◌∙◌, arith}
use Rattle.std.specs.List.{AllByRecursion, list_all}
use Rattle.std.proofs.lemmas.Bool.{and_parts}
use Rattle.std.proofs.lemmas.List.Elements.{filter_map-append}
use Rattle.std.proofs.lemmas.List.{append-nil}
use Rattle.std.proofs.lemmas.Option.{same_Some}
use Rattle.type_table.specs.Name.{is_name}
use Rattle.type_table.proofs.Elements.{each-append}
use Rattle.line_text.specs.Rules.{Rules}
use Rattle.line_text.specs.Outcome.{outcome_of}
use Rattle.line_text.specs.Spelling.{Spells, IsReadAgain, NameIsWord}
use Rattle.number_types.specs.declared.number_call.NumberCall.{NumberCall}
use Rattle.number_text.specs.declared.number_line.NumberLine.{NumberLine}
use Rattle.number_text.specs.declared.number_line.NumberLine.TheVariants.{Called, Max, Initial, Call, End}
use Rattle.number_text.specs.NumberLines.{call_in, calls_of, number_rules}
use Rattle.number_types.specs.Calls.{is_within}
use Rattle.number_text.specs.NumberFile.{IsNumberOf}
use Rattle.number_types.specs.Number.{Number, IsNumber}
use Rattle.number_text.specs.Canonical.{words_of, canonical_lines, canonical_text, CanonicalIsRead, WrittenIsRead}
use Rattle.number_text.proofs.CanonicalAccepted.{calls_back, canonical_accepted}
use Rattle.number_text.proofs.Spelled.{name_spells, max_spells, initial_spells, end_spells, call_spells}

-- a line is said by its words
abbrev IsSpelled : NumberLine → Type 0
IsSpelled x = Spells number_rules x (words_of x)

-- those of the calls are
calls_spelled : (max : ℕ) → max ≤ 4294967295 → (cs : List NumberCall) → list_all (is_within max) cs ≡ true → AllByRecursion IsSpelled (map Call cs)
calls_spelled max fits [] h = tt
calls_spelled max fits (c ∷ cs) h =
    let both = and_parts (is_within max c) (list_all (is_within max) cs) h in
    (call_spells max fits c both.0, calls_spelled max fits cs both.1)

-- all lines are
lines_spelled : ((w : List ℕ) → NameIsWord w) → (v : Number) → IsNumber v → is_name v.name ≡ true → AllByRecursion IsSpelled (canonical_lines v)
lines_spelled names v known named = (
  name_spells names v.name named,
  (
    max_spells v.max known.max_fits,
    (
      initial_spells v.initial (omega (arith, known.initial_inside, known.max_fits)),
      each-append IsSpelled (map Call v.calls) (End ∷ []) (calls_spelled v.max known.max_fits v.calls known.amounts) (end_spells, tt),
    ),
  ),
)

-- the calls of the lines are those of the number
calls_again : (v : Number) → calls_of (canonical_lines v) ≡ v.calls
calls_again v = filter_map-append call_in (map Call v.calls) (End ∷ []) ∙ append-nil (calls_of (map Call v.calls)) ∙ calls_back v.calls

pub canonical_read : ((g : Rules NumberLine) (words : NumberLine → List (List ℕ)) (items : List NumberLine) → IsReadAgain g words items) → ((w : List ℕ) → NameIsWord w) → CanonicalIsRead
canonical_read again names v known named = record {
  read = again number_rules words_of (canonical_lines v) (lines_spelled names v known named) (canonical_accepted v known);
  described = record { name = refl; max = refl; initial = refl; calls = sym (calls_again v) };
}

-- lines say their number
same_number : (lines : List NumberLine) (a b : Number) → IsNumberOf lines a → IsNumberOf lines b → b ≡ a
same_number lines a b of_a of_b =
    let name : b.name ≡ a.name = called (same_Some (Called b.name) (Called a.name) (sym of_b.name ∙ of_a.name)) in
    let max : b.max ≡ a.max = most (same_Some (Max b.max) (Max a.max) (sym of_b.max ∙ of_a.max)) in
    let initial : b.initial ≡ a.initial = first (same_Some (Initial b.initial) (Initial a.initial) (sym of_b.initial ∙ of_a.initial)) in
    let calls : b.calls ≡ a.calls = of_b.calls ∙ sym of_a.calls in
    λ i. record { name = name i; max = max i; initial = initial i; calls = calls i }
  where
    called : {x y : List ℕ} → Called x ≡ Called y → x ≡ y
    called e = cc

    most : {x y : ℕ} → Max x ≡ Max y → x ≡ y
    most e = cc

    first : {x y : ℕ} → Initial x ≡ Initial y → x ≡ y
    first e = cc

-- one text has one outcome
same_lines : (text : List ℕ) (a b : List NumberLine) → outcome_of number_rules text ≡ Ok a → outcome_of number_rules text ≡ Ok b → b ≡ a
same_lines text a b of_a of_b = let both : Ok b ≡ Ok a = sym of_b ∙ of_a in cc

pub written_read : CanonicalIsRead → WrittenIsRead
written_read again v back known named reads =
    let own = again v known named in
    let lines : reads.0 ≡ canonical_lines v = same_lines (canonical_text v) (canonical_lines v) reads.0 own.read reads.1 in
    same_number (canonical_lines v) v back own.described (rw lines at reads.2)
