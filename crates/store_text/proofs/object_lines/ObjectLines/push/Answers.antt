use Rattle.std.proofs.Common.{◌≡◌, ℕ, false, List, [], ◌∷◌, length, Option, Some, None, sym, ap, ◌∙◌, ◌++◌, arith}
use Rattle.std.proofs.lemmas.List.{length-append}
use Rattle.std.specs.Prelude.{IfSome}
use Rattle.std.specs.List.{list_any}
use Rattle.std.specs.Option.{option_to_list}
use Rattle.std.specs.Str.{bytes_eq}
use Rattle.store_text.specs.Named.{names_of}
use Rattle.store_text.specs.declared.line.ObjectLine.{ObjectLine}
use Rattle.store_text.proofs.Names.{among_names, names_more, have_name}
use Rattle.store_text.proofs.object_lines.ObjectLines.push.Goals as goal

other : (name : Option (List ℕ)) (names : List (List ℕ)) (objects : List ObjectLine) → names ≡ names_of objects → have_name name objects ≡ false → IfSome name (λ w. list_any (bytes_eq w) names ≡ false)
other None names objects is none = tt
other (Some w) names objects is none = ap (list_any (bytes_eq w)) is ∙ among_names w objects ∙ none

pub put_name-requires-clause-other : goal.put_name-requires-clause-other
put_name-requires-clause-other c = other c.args.object.name c.args.self.now.names.keys c.args.self.now.lines.items c.args.self.now.indexed c.requires.other_name

pub invariant_of-self-2 : goal.invariant_of-self-2
invariant_of-self-2 c =
    let before = c.args.self.now.lines.items in
    let items : c.put_line.new.lines.items ≡ before ++ c.args.object ∷ [] = c.put_line.ensures ∙ ap (λ (xs : List ObjectLine). xs ++ c.args.object ∷ []) c.reserve.ensures.items in
    let names : c.put_name.new.names.keys ≡ names_of before ++ option_to_list c.args.object.name = c.in_ok-put_name.ensures.put ∙ ap (λ (ws : List (List ℕ)). ws ++ option_to_list c.args.object.name) c.args.self.now.indexed in
    record {
      few = omega (arith, c.requires.few, ap length items, length-append before (c.args.object ∷ []));
      indexed = names ∙ sym (names_more before c.args.object) ∙ sym (ap names_of items);
      are_names = c.put_name.ensures.are_names;
    }
