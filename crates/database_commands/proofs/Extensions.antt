-- What comes of objects that are added to the store in a file.
use Rattle.std.proofs.Common.{◌≡◌, ℕ, List, map, Option, IfSome, Result, Ok, Err, OnOk, subst}
use Rattle.sqlite_trees.specs.declared.store.Store.{Ghosts}
use Rattle.sqlite_trees.specs.Tree.{Trees}
use Rattle.declared_types.specs.declared.declared_type.Declaration.{Declaration}
use Rattle.declared_text.specs.Canonical.{canonical_text}
use Rattle.object_types.specs.Types.{value_of}
use Rattle.store_laws.specs.Stored.{Stored}
use Rattle.store_text.specs.declared.line.ObjectLine.{ObjectLine}
use Rattle.journal.specs.Contents.{Contents}
use Rattle.journal.specs.Journal.{Clean, written}
use Rattle.durable_store.specs.declared.durable.Durable.{Durable}
use Rattle.durable_store.specs.Growth.{Grows}
use Rattle.durable_store.specs.Durable as durable
use Rattle.journal.specs.declared.prepared_row.Prepared.{Prepared}
use Rattle.durable_store.specs.Recovered.{IsRecovered}
use Rattle.command_files.specs.declared.status.Verdict.{Verdict}
use Rattle.command_files.specs.declared.status.Verdict.TheVariants.{Yes, No}
use Rattle.store_files.specs.Types.{AreDeclaredAt, Held}
use Rattle.store_files.specs.declared.found_types.ObjectTypes.{ObjectTypes}
use Rattle.store_files.specs.declared.found_types.ObjectTypes.TheVariants.{Accepted, Refused}
use Rattle.store_commands.proofs.Kept.{files_kept}
use Rattle.database_commands.specs.Created.{DescribesObjects, FindsAmong}
use Rattle.database_commands.specs.Extended.{AnswersFound, ExtendsStore, HasGrown}

-- a store that was opened has grown, and so has the file that it was opened of
pub has-grown : {S : Type 0} (g : Ghosts S) (c : Contents) (d : Durable S) (texts : List (List ℕ)) (objects : List ObjectLine) (s : Stored) (ps : List Prepared) (now : Contents) → IsRecovered g c d
    → Grows texts objects d.store d.prepared.items s ps (written g d.journal) now → HasGrown texts objects c now
has-grown g c d texts objects s ps now found grows = record {
  old = d.store;
  opened = record { types = found.types; history = found.history };
  new = s;
  prepared = ps;
  grows = subst (λ w. Grows texts objects d.store (durable.prepared_in c) s ps w now) found.written (subst (λ hs. Grows texts objects d.store hs s ps (written g d.journal) now) found.prepared grows);
}

pub grown-in : {S T E : Type 0} (g : Ghosts S) (c : Contents) (d : Durable S) (texts : List (List ℕ)) (objects : List ObjectLine) (r : Result T E) (clean : Type 0) (now : Contents) → (Clean g d.journal → IsRecovered g c d)
    → OnOk r (clean → Clean g d.journal) → OnOk r (clean → (s : Stored) × (ps : List Prepared) × Grows texts objects d.store d.prepared.items s ps (written g d.journal) now) → OnOk r (clean → HasGrown texts objects c now)
grown-in g c d texts objects (Ok x) clean now found sure grows = λ is. let it = grows is in has-grown g c d texts objects it.0 it.1 now (found (sure is)) it.2
grown-in g c d texts objects (Err e) clean now found sure grows = tt

-- what is answered of the types that were found is answered of the files
pub extends : (holds later : Held) (kept : (other : List ℕ) → later other ≡ holds other) (path : List ℕ) (words : List (List ℕ)) (objects : List ObjectLine)
    (described : IfSome (holds path) (λ text. DescribesObjects text objects)) (declared : List Declaration) (read : AreDeclaredAt later words declared) (clean : Type 0) (held left : Option Trees)
    (found : ObjectTypes) → FindsAmong declared objects (Ok found) → (v : Verdict) (text : List ℕ) → AnswersFound clean held left (map canonical_text declared) objects found v text
    → ExtendsStore clean held left holds path words v text
extends holds later kept path words objects described declared read clean held left (Accepted types) are Yes text answer = (
  objects,
  declared,
  record { objects_held = described; types_held = files_kept holds later kept words declared read; types = map value_of types.items; are = are },
  answer.0,
  answer.1,
)
extends holds later kept path words objects described declared read clean held left (Accepted types) are No text answer = absurd answer
extends holds later kept path words objects described declared read clean held left (Refused x refusal) first Yes text answer = absurd answer
extends holds later kept path words objects described declared read clean held left (Refused x refusal) first No text answer = (
  objects,
  described,
  (answer.0, (x, refusal, record { declared = declared; held = files_kept holds later kept words declared read; first = first }, answer.1), answer.2),
)
