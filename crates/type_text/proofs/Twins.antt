-- Operations that occur twice.
use Rattle.std.proofs.Common.{◌≡◌, ℕ, ◌+◌, ◌<◌, false, List, [], ◌∷◌, ◌++◌, length, take, get_or, Some, refl, sym, ap, ◌∙◌}
use Rattle.std.specs.List.{list_any, slice_get}
use Rattle.std.proofs.lemmas.List.{append-nil}
use Rattle.std.proofs.lemmas.List.Elements.{filter_map-append}
use Rattle.std.proofs.lemmas.Option.{slice_get_read}
use Rattle.std.proofs.lemmas.List.Folds.{list_any-append}
use Rattle.std.proofs.lemmas.Bool.{or_parts, or_from}
use Rattle.type_table.specs.Op.{is_same_op, has_twin}
use Rattle.type_table.specs.declared.op.Op.{Op}
use Rattle.type_text.specs.TypeLines.{is_twin, op_in, ops_of}
use Rattle.type_text.proofs.Members.{take-more}
use Rattle.type_text.specs.declared.type_line.TypeLine.{TypeLine}
use Rattle.type_text.specs.declared.type_line.TypeLine.TheVariants.{TypeName, States, Initial, Operation, Step, Reach, Equi, Conflict, End}

never : (xs : List TypeLine) → false ≡ list_any (λ (y : TypeLine). false) xs
never [] = refl
never (x ∷ xs) = never xs

-- a line of another section has no twin
pub never_twin : (x : TypeLine) (xs : List TypeLine) → ((op : Op) → x ≡ Operation op → ⊥) → false ≡ list_any (is_twin x) xs
never_twin (TypeName name) xs h = never xs
never_twin (States states) xs h = never xs
never_twin (Initial s) xs h = never xs
never_twin (Operation op) xs h = absurd (h op refl)
never_twin (Step s k t) xs h = never xs
never_twin (Reach s) xs h = never xs
never_twin (Equi s t) xs h = never xs
never_twin (Conflict kind p q) xs h = never xs
never_twin End xs h = never xs

-- an operation after others that differ from it
pub has_twin_push : (ops : List Op) (op : Op) → has_twin ops ≡ false → list_any (is_same_op op) ops ≡ false → has_twin (ops ++ op ∷ []) ≡ false
has_twin_push [] op h k = refl
has_twin_push (o ∷ ops) op h k =
    let parts = or_parts _ _ h in
    let rest = or_parts _ _ k in
    let front : list_any (λ other. is_same_op other o) (ops ++ op ∷ []) ≡ false = list_any-append (λ other. is_same_op other o) ops (op ∷ []) ∙ or_from _ _ parts.0 (or_from _ _ rest.0 refl) in
    or_from _ _ front (has_twin_push ops op parts.1 rest.1)

-- one more line, whatever it says
pub ops_more : (lines : List TypeLine) (i : ℕ) (line : TypeLine) (old new : List Op) → i < length lines → line ≡ get_or lines i line →
    ((op : Op) → slice_get lines i ≡ Some (Operation op) → list_any (is_same_op op) (ops_of (take i lines)) ≡ false) →
    new ≡ old ++ ops_of (line ∷ []) → old ≡ ops_of (take i lines) → has_twin old ≡ false → (new ≡ ops_of (take (i + 1) lines)) × (has_twin new ≡ false)
ops_more lines i line old new below e differ step so_far apart = (
  step ∙ ap (λ ops. ops ++ ops_of (line ∷ [])) so_far ∙ sym (ap ops_of (take-more lines i line below e) ∙ filter_map-append op_in (take i lines) (line ∷ [])),
  rw step (by_line line (λ op is. rw so_far (differ op (slice_get_read lines (length lines) i (Operation op) refl below (rw is at e))))),
)
  where
    by_line : (x : TypeLine) → ((op : Op) → x ≡ Operation op → list_any (is_same_op op) old ≡ false) → has_twin (old ++ ops_of (x ∷ [])) ≡ false
    by_line (TypeName name) h = rw append-nil apart
    by_line (States states) h = rw append-nil apart
    by_line (Initial s) h = rw append-nil apart
    by_line (Operation op) h = has_twin_push old op apart (h op refl)
    by_line (Step s k t) h = rw append-nil apart
    by_line (Reach s) h = rw append-nil apart
    by_line (Equi s t) h = rw append-nil apart
    by_line (Conflict kind p q) h = rw append-nil apart
    by_line End h = rw append-nil apart
