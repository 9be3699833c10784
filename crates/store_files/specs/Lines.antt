-- The line of an object whose type isn't accepted.
use Rattle.std.specs.Prelude.{ℕ, List, ◌++◌, codes}
use Rattle.std.specs.Fmt.{decimal}
use Rattle.table_checker.specs.declared.refusal.CheckRefusal.{CheckRefusal}
use Rattle.command_files.specs.Refusals.{no_line}

-- `# object X no ..`
abbrev pub refused_object_line : ℕ → CheckRefusal → List ℕ
refused_object_line x refusal = codes "# object " ++ (decimal x ++ (codes " " ++ no_line refusal))
