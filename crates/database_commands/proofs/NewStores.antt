-- What comes of the objects of a new store and of what declares their types.
use Rattle.std.proofs.Common.{◌≡◌, ◌≢◌, ℕ, List, [], map, Option, Some, None, IfSome, OnOk, OnErr, Result, Ok, Err, inl, inr, refl, subst, ◌∙◌}
use Rattle.declared_types.specs.declared.declared_type.Declaration.{Declaration}
use Rattle.table_checker.specs.Checked.{Checked}
use Rattle.table_checker.specs.declared.refusal.CheckRefusal.{CheckRefusal}
use Rattle.store_text.specs.declared.line.ObjectLine.{ObjectLine}
use Rattle.history_text.specs.declared.history_file.HistoryFile.{HistoryFile}
use Rattle.sqlite_trees.specs.Tree.{Trees}
use Rattle.declared_text.specs.Canonical.{canonical_text}
use Rattle.journal.specs.Contents.{contents_of}
use Rattle.durable_store.specs.Created.{IsNewFile}
use Rattle.object_types.specs.Types.{AreTypesOf, HasAcceptedType, IsFirstWith}
use Rattle.object_types.specs.declared.object_fault.ObjectFault.TheVariants.{Refused as RefusedType}
use Rattle.command_files.specs.Answers.{IsThis}
use Rattle.command_files.specs.declared.status.Verdict.{Verdict}
use Rattle.command_files.specs.declared.status.Verdict.TheVariants.{Yes, No}
use Rattle.store_files.specs.Histories.{DescribesHistory, IsFaultyHistory}
use Rattle.store_files.specs.ObjectTypes.{in_type, no_escrow, no_type}
use Rattle.store_files.specs.Lines.{refused_object_line}
use Rattle.store_files.specs.Types.{AreDeclaredAt, Held, IsFirstFaultyDeclaration}
use Rattle.store_commands.proofs.Kept.{faulty_kept, files_kept}
use Rattle.database_commands.specs.Created.{AreFaultyObjects, CreatesStore, DescribesObjects, HasCreateFault, HasUntyped, IsCreated, LeavesWhole, CreatesDatabase}
use Rattle.database_commands.proofs.Told.{of_held}

-- ---- the objects

-- what is weaker holds too of what is held
pub if_held : (held : Option (List ℕ)) (P Q : List ℕ → Type 0) → ((text : List ℕ) → P text → Q text) → IfSome held P → IfSome held Q
if_held None P Q more is = tt
if_held (Some text) P Q more is = more text is

-- a history without events
pub describes : (held : Option (List ℕ)) (history : HistoryFile) → history.events.items ≡ [] → IfSome held (λ text. DescribesHistory text history)
    → IfSome held (λ text. DescribesObjects text history.objects.items)
describes held history none is = if_held held _ _ (λ text described. (history, described, none, refl)) is

-- and one with events
pub has_events : (held : Option (List ℕ)) (history : HistoryFile) → history.events.items ≢ [] → IfSome held (λ text. DescribesHistory text history) → IfSome held AreFaultyObjects
has_events held history some is = if_held held _ _ (λ text described. inr (history, described, some)) is

-- a history with a fault
pub is_faulty : (held : Option (List ℕ)) → IfSome held IsFaultyHistory → IfSome held AreFaultyObjects
is_faulty held is = if_held held _ _ (λ text faulty. inl faulty) is

-- ---- their types

module _ (holds later : Held) (kept : (other : List ℕ) → later other ≡ holds other) (path : List ℕ) (words : List (List ℕ)) (objects : List ObjectLine)
    (held : IfSome (holds path) (λ text. DescribesObjects text objects)) where
  -- the text of a type has a fault
  pub type_fault : IsFirstFaultyDeclaration later words → HasCreateFault holds path words
  type_fault first = inr (objects, held, in_type (faulty_kept holds later kept words first))

  module _ (declared : List Declaration) (read : AreDeclaredAt later words declared) where
    declared-held : AreDeclaredAt holds words declared
    declared-held = files_kept holds later kept words declared read

    -- an object names no type, or a number without escrow
    pub untyped : HasUntyped declared objects → HasCreateFault holds path words
    untyped (inl (x, place, first)) = inr (objects, held, no_type (record { declared = declared; held = declared-held; x = x; place = place; first = first }))
    untyped (inr (x, first)) = inr (objects, held, no_escrow (record { declared = declared; held = declared-held; x = x; first = first }))

    -- the type of an object isn't accepted
    pub refused : (clean : Type 0) (made : Option Trees) (x : ℕ) (refusal : CheckRefusal) (line : List ℕ) → IsFirstWith HasAcceptedType declared objects (RefusedType x refusal)
        → line ≡ refused_object_line x refusal → (v : Verdict) (text : List ℕ) → IsThis No line v text → CreatesStore clean made holds path words v text
    refused clean made x refusal line first is Yes text this = absurd (let clash = this.0 in cc)
    refused clean made x refusal line first is No text this =
        (objects, held, (x, refusal, record { declared = declared; held = declared-held; first = first }, this.1 ∙ is))

    -- the file is made
    pub created : (clean : Type 0) (made : Option Trees) (types : List Checked) → AreTypesOf declared objects types → (v : Verdict) (text : List ℕ) → CreatesDatabase clean made declared objects v text
        → CreatesStore clean made holds path words v text
    created clean made types are Yes text makes =
        (objects, declared, record { objects_held = held; types_held = declared-held; types = types; are = are }, makes.0, makes.1)
    created clean made types are No text makes = absurd makes

-- ---- the file

-- what was made in trees that are published is made at the path
pub made : {T E : Type 0} (r : Result T E) (clean back : Type 0) (held : Option Trees) (trees : Trees) (declared : List Declaration) (objects : List ObjectLine) (id : List ℕ) (texts : List (List ℕ))
    → texts ≡ map canonical_text declared → OnOk r (clean → back) → OnOk r (back → IfSome held (λ db. trees ≡ db)) → (back → IsNewFile id texts objects (contents_of trees))
    → OnOk r (clean → IfSome held (IsCreated declared objects))
made (Ok x) clean back held trees declared objects id texts same lets_go holds says = λ is.
    let b = lets_go is in
    of_held held trees (IsCreated declared objects) (holds b) (id, subst (λ (ts : List (List ℕ)). IsNewFile id ts objects (contents_of trees)) same (says b))
made (Err e) clean back held trees declared objects id texts same lets_go holds says = tt

-- where it isn't, the path has what it had
pub kept : {T E : Type 0} (r : Result T E) (before between after : Option Trees) → OnErr r (after ≡ between) → between ≡ before → OnErr r (after ≡ before)
kept (Ok x) before between after same earlier = tt
kept (Err e) before between after same earlier = same ∙ earlier

-- a file that is made is whole
pub is_whole : (clean : Type 0) (before after : Option Trees) (declared : List Declaration) (objects : List ObjectLine) → (clean → IfSome after (IsCreated declared objects)) → LeavesWhole clean before after
is_whole clean before None declared objects made = inr (λ is. tt)
is_whole clean before (Some db) declared objects made = inr (λ is. (declared, objects, made is))
