-- Types of a file at the states that were kept.
use Rattle.std.proofs.Common.{◌≡◌, ◌∙◌, ℕ, ◌<◌, zero, suc, List, [], ◌∷◌, length, get_or, Some, refl, sym, ap, subst, arith}
use Rattle.std.specs.Prelude.{slice_get}
use Rattle.std.proofs.lemmas.List.{length-map}
use Rattle.std.proofs.lemmas.Option.{same_Some, slice_get-get_or, slice_get_within}
use Rattle.type_table.specs.declared.kind.Kind.{Kind}
use Rattle.type_table.specs.declared.kind.Kind.TheVariants.{Undo, Intentions, Escrow}
use Rattle.declared_types.specs.TypeFile.{file_at}
use Rattle.declared_types.specs.declared.type_file.TypeFile.{TypeFile}
use Rattle.table_checker.specs.At.{checked_at, IsInside}
use Rattle.table_checker.specs.Checked.{Checked, set_by}
use Rattle.declared_types.specs.Declarations.{file_of}
use Rattle.serial_order.specs.Epochs.{types_at}
use Rattle.serial_order.proofs.EpochTypes.{is-at, length-types_at}
use Rattle.store_text.specs.declared.line.ObjectLine.{ObjectLine}
use Rattle.journal.specs.declared.state_row.FirstState.{FirstState}
use Rattle.journal.specs.Contents.{Contents, from_states}
use Rattle.durable_store.specs.Types.{HasTypes, IsTypeAt}
use Rattle.durable_store.specs.Epochs.{firsts}

-- where it begins makes no difference to where it may begin
same-inside : (kind : Kind) (file : TypeFile) (i s : ℕ) → set_by kind (file_at file i) s ≡ set_by kind file s
same-inside Undo file i s = refl
same-inside Intentions file i s = refl
same-inside Escrow file i s = refl

-- a type of a file at another state at which it may begin
begun-anew : (texts : List (List ℕ)) (o : ObjectLine) (was first : FirstState) (c now : Checked) (s : ℕ) → IsTypeAt texts o was c → IsInside c s → now ≡ checked_at c s → first.state ≡ s
    → IsTypeAt texts o first now
begun-anew texts o was first c now s of inside is state =
    let file = file_of of.declaration in
    let base : Checked = record { kind = o.kind; file = file } in
    record {
      text = of.text;
      there = of.there;
      declaration = of.declaration;
      declares = of.declares;
      kinds = of.kinds;
      checked = of.checked;
      inside = subst (λ n. IsInside base n) (sym state) (sym (same-inside o.kind file was.state s) ∙ subst (λ (c : Checked). IsInside c s) of.is inside);
      is = is ∙ ap (λ (c : Checked). checked_at c s) of.is ∙ ap (checked_at base) (sym state);
    }

-- the state that is given for a type is that at which it begins
first-of : (types : List Checked) (x : ℕ) (c : Checked) (first : FirstState) → slice_get types x ≡ Some c → slice_get (firsts types) x ≡ Some first → first.state ≡ c.file.table.initial
first-of [] x c first there state = absurd cc
first-of (d ∷ types) zero c first there state =
    ap (λ (f : FirstState). f.state) (sym (same_Some (let it : FirstState = record { state = d.file.table.initial } in it) first state))
    ∙ ap (λ (c : Checked). c.file.table.initial) (same_Some d c there)
first-of (d ∷ types) (suc x) c first there state = first-of types x c first there state

-- the types of a file at states at which they may begin
pub has-renewed : (f : Contents) (types : List Checked) (kept : List ℕ) → HasTypes f types → length kept ≡ length types
    → ((x : ℕ) (c : Checked) (s : ℕ) → slice_get types x ≡ Some c → slice_get kept x ≡ Some s → IsInside c s)
    → HasTypes (from_states f (firsts (types_at types kept))) (types_at types kept)
has-renewed f types kept its long inside =
    let now = types_at types kept in
    let many : length now ≡ length f.objects = length-types_at types kept long ∙ its.as_many in
    record {
      as_many = many;
      as_many_states = length-map now (λ (c : Checked). let it : FirstState = record { state = c.file.table.initial } in it) ∙ many;
      each = λ x o first type line state there.
          let found = is-at types kept x type there in
          let is : type ≡ checked_at found.c found.s = sym found.is in
          let was = get_or f.states x first in
          let low : x < length f.states = omega (arith, slice_get_within f.objects x o line, its.as_many_states) in
          let of : IsTypeAt f.types o was found.c = its.each x o was found.c line (slice_get-get_or f.states x first low) found.type in
          begun-anew f.types o was first found.c type found.s of (inside x found.c found.s found.type found.state) is
          (first-of now x type first there state ∙ ap (λ (c : Checked). c.file.table.initial) is);
    }
