use Rattle.std.proofs.Common.{ap, sym, ◌∙◌}
use Rattle.declared_types.specs.TypeFile.{file_at}
use Rattle.declared_types.specs.Declarations.{file_of, number_file}
use Rattle.declared_types.specs.declared.declared_type.Declaration.{Declaration}
use Rattle.declared_types.proofs.declared_type.DeclaredType.is_at.Goals as goal

pub returns-in-Number-Number : goal.returns-in-Number-Number
returns-in-Number-Number c = λ same.
    ap file_of (sym c.self.view_is ∙ c.in-Number-Number.is-0) ∙ ap number_file (c.is_at.ensures same)
    ∙ sym (ap (λ (d : Declaration). file_at (file_of d) c.args.state) (sym c.other.view_is ∙ c.in-Number-Number.is-1))
