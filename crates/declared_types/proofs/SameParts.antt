-- Two files with the same parts are one.
use Rattle.std.proofs.Common.{◌≡◌, Bool, true, List, length, sym, subst}
use Rattle.std.specs.Coded.{Coded-set, coded_ℕ, coded_bool}
use Rattle.std.specs.List.{list_any}
use Rattle.type_table.specs.Table.{Table}
use Rattle.declared_types.specs.declared.type_file.TypeFile.{TypeFile}
use Rattle.declared_types.specs.TypeFile.{IsSameFile, PartsTellTheFile}

-- the parts of a file, and what is known of them
record Parts : Type 0 where
  table : Table
  reach : List Bool
  relation : List (List Bool)
  undo : List (List Bool)
  intentions : List (List Bool)

abbrev parts : TypeFile → Parts
parts a = record { table = a.table; reach = a.reach; relation = a.relation; undo = a.undo; intentions = a.intentions }

record Fit (p : Parts) : Type 0 where
  reach_fits : length p.reach ≡ p.table.states
  some_reach : list_any (λ member. member) p.reach ≡ true
  relation_fits : length p.relation ≡ p.table.states
  undo_fits : length p.undo ≡ length p.table.ops
  intentions_fits : length p.intentions ≡ length p.table.ops

abbrev file : (p : Parts) → Fit p → TypeFile
file p fit =
    record {
      table = p.table;
      reach = p.reach;
      relation = p.relation;
      undo = p.undo;
      intentions = p.intentions;
      reach_fits = fit.reach_fits;
      some_reach = fit.some_reach;
      relation_fits = fit.relation_fits;
      undo_fits = fit.undo_fits;
      intentions_fits = fit.intentions_fits;
    }

-- what is known of them has one proof
one-proof : (b : TypeFile) (fit : Fit (parts b)) → file (parts b) fit ≡ b
one-proof b fit = λ i.
    file (parts b)
    (record {
      reach_fits = Coded-set coded_ℕ (length b.reach) b.table.states fit.reach_fits b.reach_fits i;
      some_reach = Coded-set coded_bool (list_any (λ member. member) b.reach) true fit.some_reach b.some_reach i;
      relation_fits = Coded-set coded_ℕ (length b.relation) b.table.states fit.relation_fits b.relation_fits i;
      undo_fits = Coded-set coded_ℕ (length b.undo) (length b.table.ops) fit.undo_fits b.undo_fits i;
      intentions_fits = Coded-set coded_ℕ (length b.intentions) (length b.table.ops) fit.intentions_fits b.intentions_fits i;
    })

same-parts : (a b : TypeFile) → IsSameFile a b → parts a ≡ parts b
same-parts a b same = λ i. record { table = same.table i; reach = same.reach i; relation = same.relation i; undo = same.undo i; intentions = same.intentions i }

pub parts_tell : PartsTellTheFile
parts_tell a b same =
    subst (λ (p : Parts). (fit : Fit p) → file p fit ≡ b) (sym (same-parts a b same)) (one-proof b)
    (record { reach_fits = a.reach_fits; some_reach = a.some_reach; relation_fits = a.relation_fits; undo_fits = a.undo_fits; intentions_fits = a.intentions_fits })
