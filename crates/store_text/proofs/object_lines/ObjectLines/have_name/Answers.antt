use Rattle.std.proofs.Common.{ap, sym, ◌∙◌}
use Rattle.std.specs.List.{list_any}
use Rattle.std.specs.Str.{bytes_eq}
use Rattle.type_table.proofs.Elements.{none_any}
use Rattle.store_text.proofs.Names.{among_names}
use Rattle.store_text.proofs.object_lines.ObjectLines.have_name.Goals as goal

pub returns-in-Some : goal.returns-in-Some
returns-in-Some c = rw c.in-Some.is (c.contains.ensures ∙ ap (list_any (bytes_eq c.in-Some.name)) c.args.self.now.indexed ∙ among_names c.in-Some.name c.args.self.now.lines.items)

pub returns-in-None : goal.returns-in-None
returns-in-None c = rw c.in-None.is (sym (none_any c.args.self.now.lines.items))
