-- Files of the types worked by hand, and conflict tables of two and of three operations.
use Rattle.std.specs.Prelude.{Bool, true, false, List, [], ◌∷◌, refl}
use Rattle.equi_cert.specs.Relation.{rows_by}
use Rattle.equi_cert.specs.Examples.{is_pair_among}
use Rattle.type_table.specs.Examples.{counter_table, forward_pairs, backward_pairs, idle, one_way}
use Rattle.declared_types.specs.declared.type_file.TypeFile.{TypeFile}

-- no pair of the counter's operations
abbrev pub no_pairs : List (List Bool)
no_pairs = (false ∷ false ∷ []) ∷ (false ∷ false ∷ []) ∷ []

-- two ups conflict, and two downs don't
abbrev pub ups_alone : List (List Bool)
ups_alone = (true ∷ false ∷ []) ∷ (false ∷ false ∷ []) ∷ []

-- no pair of three operations
abbrev pub no_pairs_of_three : List (List Bool)
no_pairs_of_three = (false ∷ false ∷ false ∷ []) ∷ (false ∷ false ∷ false ∷ []) ∷ (false ∷ false ∷ false ∷ []) ∷ []

-- q, requested, conflicts with p, held, and r with q
abbrev pub one_way_pairs : List (List Bool)
one_way_pairs = (false ∷ false ∷ false ∷ []) ∷ (true ∷ false ∷ false ∷ []) ∷ (false ∷ true ∷ false ∷ []) ∷ []

-- the counter, at each of its states, each of which looks like itself alone
abbrev pub counter_file : TypeFile
counter_file = record {
  table = counter_table;
  reach = true ∷ true ∷ true ∷ [];
  relation = rows_by 3 (is_pair_among []);
  undo = backward_pairs;
  intentions = forward_pairs;
  reach_fits = refl;
  some_reach = refl;
  relation_fits = refl;
  undo_fits = refl;
  intentions_fits = refl;
}

-- the one-way type, in which state 3 looks like state 4
abbrev pub one_way_file : TypeFile
one_way_file = record {
  table = one_way;
  reach = true ∷ true ∷ true ∷ true ∷ true ∷ [];
  relation = rows_by 5 (is_pair_among ((3, 4) ∷ []));
  undo = one_way_pairs;
  intentions = no_pairs_of_three;
  reach_fits = refl;
  some_reach = refl;
  relation_fits = refl;
  undo_fits = refl;
  intentions_fits = refl;
}

-- the idle type, at its initial state alone
abbrev pub idle_file : TypeFile
idle_file = record {
  table = idle;
  reach = true ∷ false ∷ false ∷ [];
  relation = rows_by 3 (is_pair_among []);
  undo = no_pairs;
  intentions = no_pairs;
  reach_fits = refl;
  some_reach = refl;
  relation_fits = refl;
  undo_fits = refl;
  intentions_fits = refl;
}
