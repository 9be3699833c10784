-- Types at their own initial states.
use Rattle.std.proofs.Common.{◌≡◌, ◌∙◌, ℕ, List, Some, refl, sym, ap, subst, true, lt-ltb}
use Rattle.std.specs.Prelude.{slice_get}
use Rattle.std.specs.Option.{option_map}
use Rattle.std.proofs.lemmas.Option.{same_Some, slice_get-map}
use Rattle.type_table.specs.declared.kind.Kind.{Kind}
use Rattle.type_table.specs.declared.kind.Kind.TheVariants.{Undo, Intentions, Escrow}
use Rattle.table_checker.specs.At.{IsInside}
use Rattle.table_checker.specs.Checked.{Checked, IsChecked, IsCheckedBy, set_by}
use Rattle.declared_types.specs.declared.type_file.TypeFile.{TypeFile}
use Rattle.journal.specs.declared.state_row.FirstState.{FirstState}
use Rattle.durable_store.specs.Begun.{BeginAt, BeginsAt}
use Rattle.durable_store.specs.Epochs.{firsts}

abbrev pub first-of : Checked → FirstState
first-of c = record { state = c.file.table.initial }

-- a checked type may begin where it begins
begins-inside : (kind : Kind) (file : TypeFile) → IsCheckedBy kind file → set_by kind file file.table.initial ≡ true
begins-inside Undo file is = is.certified.begins_inside
begins-inside Intentions file is = is.certified.begins_inside
begins-inside Escrow file is = lt-ltb file.table.initial file.table.states is.initial_inside

-- each is at the state at which it begins
pub at-own : (types : List Checked) → ((x : ℕ) (c : Checked) → slice_get types x ≡ Some c → IsChecked c) → BeginAt types (firsts types) types
at-own types checked x at there c first there-too state =
    let same : c ≡ at = same_Some c at (sym there-too ∙ there) in
    let its : first-of c ≡ first = same_Some (first-of c) first (sym (slice_get-map first-of types x ∙ ap (option_map first-of) there-too) ∙ state) in
    let inside : IsInside c c.file.table.initial = begins-inside c.kind c.file (checked x c there-too) in
    subst (λ a. BeginsAt c first a) same (subst (λ f. BeginsAt c f c) its (inside, refl))
