use Rattle.std.proofs.Common.{◌≡◌, ℕ, false, List, Option, refl, sym, ◌∙◌}
use Rattle.std.specs.List.{list_any}
use Rattle.type_table.proofs.Elements.{none_any}
use Rattle.type_table.specs.declared.kind.Kind.{Kind}
use Rattle.store_text.specs.Body.{is_twin}
use Rattle.store_text.specs.Kept.{kept_store_lines}
use Rattle.store_text.specs.declared.line.Line.{Line}
use Rattle.store_text.specs.declared.line.Line.TheVariants.{Objects, Max, Object, Entry, End}
use Rattle.store_text.proofs.Names.{twins_are}
use Rattle.store_text.proofs.grammar.StoreGrammarGrammar.has_twin.Goals as goal

-- a line that is no object's has no twin
no_twin : {A : Type 0} (x : Line A) (before : List (Line A)) → ((kind : Kind) (file : ℕ) (name : Option (List ℕ)) → x ≡ Object kind file name → ⊥) → false ≡ list_any (is_twin x) before
no_twin (Objects n) before other = sym (none_any before)
no_twin (Max most) before other = sym (none_any before)
no_twin (Object kind file name) before other = absurd (other kind file name refl)
no_twin (Entry y) before other = sym (none_any before)
no_twin End before other = sym (none_any before)

pub returns-in-Object : goal.returns-in-Object
returns-in-Object g c =
    let k = c.args.before.now in
    let are = twins_are c.in-Object.kind c.in-Object.file c.in-Object.name k.size k.max k.objects.lines.items (g.E.Entries.said k.entries) k.has_ended in
    rw c.in-Object.is (c.have_name.ensures ∙ sym are)

pub returns-in_default : goal.returns-in_default
returns-in_default g c = no_twin c.args.item (kept_store_lines g.E.Entries.said c.args.before.now) (λ kind file name. c.in_default.not-Object kind file name)
