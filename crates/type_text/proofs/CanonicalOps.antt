-- The first three lines and the `op` lines of a canonical text follow one another, and `end` follows the others.
use Rattle.std.proofs.Common.{◌≡◌, ℕ, ◌<◌, ◌≤◌, true, false, not, ◌&&◌, eqb, ltb, leb, List, [], ◌∷◌, ◌++◌, length, map, Option, Some, None, refl, sym, ap, ◌∙◌, arith, append_assoc}
use Rattle.std.specs.List.{list_any}
use Rattle.std.proofs.lemmas.Bool.{le-ltb, lt-ltb, le-leb, lt-leb, ne_eqb, and_from, and_left, or_from, or_parts, or_right}
use Rattle.std.proofs.lemmas.List.{length-append, map-append}
use Rattle.line_text.specs.Rules.{was_read, last_item}
use Rattle.line_text.specs.LineTests.{is_late, ascends, keys_ascend}
use Rattle.line_text.specs.Accepted.{HasPassed}
use Rattle.type_table.specs.Op.{is_same_op, has_twin}
use Rattle.type_table.specs.declared.op.Op.{Op}
use Rattle.declared_types.specs.declared.type_file.TypeFile.{TypeFile}
use Rattle.type_text.specs.declared.type_line.TypeLine.{TypeLine}
use Rattle.type_text.specs.declared.type_line.TypeLine.TheVariants.{TypeName, States, Initial, Operation, End}
use Rattle.type_text.specs.TypeLines.{rank_of, key_of, ops_of, op_count, is_twin, type_rules}
use Rattle.type_text.specs.Canonical.{IsTypeFile}
use Rattle.type_text.proofs.Twins.{never_twin}
use Rattle.type_text.proofs.CanonicalFollows.{Follow}
use Rattle.type_text.proofs.CanonicalFront.{front, op_count-length, front_read, first_read, second_read, third_read, last_push}
use Rattle.type_text.proofs.CanonicalGrid.{IsUpTo, not_late}

-- the operations of `op` lines
ops_of_ops : (ops : List Op) → ops_of (map Operation ops) ≡ ops
ops_of_ops [] = refl
ops_of_ops (op ∷ ops) = ap (λ rest. op ∷ rest) (ops_of_ops ops)

-- a line without a key ascends
no_key : (key : Option (ℕ × ℕ)) → keys_ascend key None ≡ true
no_key None = refl
no_key (Some key) = refl

-- an operation isn't one of those before it
no_twin_line : (done : List Op) (op : Op) (rest : List Op) → has_twin (done ++ op ∷ rest) ≡ false → list_any (is_twin (Operation op)) (map Operation done) ≡ false
no_twin_line [] op rest h = refl
no_twin_line (other ∷ done) op rest h =
    let parts = or_parts (list_any (λ o. is_same_op o other) (done ++ op ∷ rest)) (has_twin (done ++ op ∷ rest)) h in
    or_from (is_same_op op other) (list_any (is_twin (Operation op)) (map Operation done)) (differs done parts.0) (no_twin_line done op rest parts.1)
  where
    differs : (ops : List Op) → list_any (λ o. is_same_op o other) (ops ++ op ∷ rest) ≡ false → is_same_op op other ≡ false
    differs [] e = (or_parts (is_same_op op other) (list_any (λ o. is_same_op o other) rest) e).0
    differs (o ∷ ops) e = differs ops ((or_parts (is_same_op o other) (list_any (λ o. is_same_op o other) (ops ++ op ∷ rest)) e).1)

module _ (file : TypeFile) (known : IsTypeFile file) where
  -- an `op` line passes after those before it
  op_passes : (done : List Op) (op : Op) (rest : List Op) (last : TypeLine) → file.table.ops ≡ done ++ op ∷ rest
      → last_item (front file (map Operation done)) ≡ Some last → rank_of last ≤ 3 → HasPassed type_rules (front file (map Operation done)) (Operation op)
  op_passes done op rest last e last_is low =
      let before = front file (map Operation done) in
      let many : op_count before ≡ length done = op_count-length before ∙ ap length (ops_of_ops done) in
      let room : op_count before < 64 = omega (arith, many, ap length e, length-append done (op ∷ rest), known.table.ops_fit) in
      record {
        in_order = ap (λ o. is_late type_rules o (Operation op)) last_is ∙ not_late 3 (rank_of last) false low refl;
        lacks_none = rw (first_read file (map Operation done), second_read file (map Operation done), third_read file (map Operation done)) refl;
        misses_none = refl;
        in_range = refl;
        has_room = lt-leb 64 (op_count before) room;
        ascending = ap (λ o. ascends type_rules o (Operation op)) last_is ∙ or_right (not (eqb 3 (rank_of last))) (keys_ascend (key_of last) None) (no_key (key_of last));
        no_twin = no_twin_line done op rest (sym (ap has_twin e) ∙ known.table.no_twin);
      }

  -- the `op` lines follow one another
  ops_follow : (done rest : List Op) (last : TypeLine) → file.table.ops ≡ done ++ rest → last_item (front file (map Operation done)) ≡ Some last → rank_of last ≤ 3
      → Follow (front file (map Operation done)) (map Operation rest)
  ops_follow done [] last e last_is low = tt
  ops_follow done (op ∷ rest) last e last_is low =
      let one : map Operation (done ++ op ∷ []) ≡ map Operation done ++ Operation op ∷ [] = map-append Operation done (op ∷ []) in
      let next_is : last_item (front file (map Operation (done ++ op ∷ []))) ≡ Some (Operation op) = ap (λ more. last_item (front file more)) one ∙ last_push (front file (map Operation done)) (Operation op) in
      let more = ops_follow (done ++ op ∷ []) rest (Operation op) (e ∙ sym (append_assoc done (op ∷ []) rest)) next_is (omega arith) in
      (op_passes done op rest last e last_is low, rw one at more)

  -- the first three lines follow one another
  pub front_follows : Follow [] (front file [])
  front_follows =
      let some : leb 1 file.table.states ≡ true = le-leb 1 file.table.states (omega (arith, known.table.some_states)) in
      let fit : leb file.table.states 1024 ≡ true = le-leb file.table.states 1024 known.table.states_fit in
      let inside : ltb file.table.initial file.table.states ≡ true = lt-ltb file.table.initial file.table.states known.table.initial_inside in
      let name : HasPassed type_rules [] (TypeName file.table.name) = record { in_order = refl; lacks_none = refl; misses_none = refl; in_range = refl; has_room = refl; ascending = refl; no_twin = refl } in
      let states : HasPassed type_rules (TypeName file.table.name ∷ []) (States file.table.states) = record { in_order = refl; lacks_none = refl; misses_none = refl; in_range = and_from _ _ some fit; has_room = refl; ascending = refl; no_twin = refl } in
      let initial : HasPassed type_rules (TypeName file.table.name ∷ States file.table.states ∷ []) (Initial file.table.initial) = record { in_order = refl; lacks_none = refl; misses_none = refl; in_range = inside; has_room = refl; ascending = refl; no_twin = refl } in
      (name, (states, (initial, tt)))

  -- all `op` lines follow the first three
  pub all_ops_follow : Follow (front file []) (map Operation file.table.ops)
  all_ops_follow = ops_follow [] file.table.ops (Initial file.table.initial) refl refl (omega arith)

  -- `end` passes after lines of the ranks below
  pub end_passes : (before : List TypeLine) → IsUpTo file 8 before → HasPassed type_rules before End
  end_passes before h =
      let is_read : (k : ℕ) → k < 4 → was_read type_rules before k ≡ true = rw h.front_is (front_read file h.more h.ops known.table.some_ops) in
      let last = rank_of h.last in
      record {
        in_order = ap (λ o. is_late type_rules o End) h.last_is ∙ or_from (ltb 9 last) (eqb 9 last && true) (le-ltb 9 last (omega (arith, h.low))) (and_left (eqb 9 last) true (ne_eqb 9 last (λ e. omega (arith, e, h.low))));
        lacks_none = rw (is_read 0 (omega arith), is_read 1 (omega arith), is_read 2 (omega arith), is_read 3 (omega arith)) refl;
        misses_none = refl;
        in_range = refl;
        has_room = refl;
        ascending = ap (λ o. ascends type_rules o End) h.last_is ∙ or_right (not (eqb 9 last)) (keys_ascend (key_of h.last) None) (no_key (key_of h.last));
        no_twin = sym (never_twin End before (λ op e. absurd cc));
      }

-- the last of the `op` lines, of which there is one at least
last_op : (file : TypeFile) (ops : List Op) → 0 < length ops → (last : TypeLine) × (last_item (front file (map Operation ops)) ≡ Some last) × (rank_of last ≤ 3)
last_op file [] some = absurd (omega arith)
last_op file (op ∷ ops) some = go [] op ops
  where
    go : (done : List Op) (op : Op) (rest : List Op) → (last : TypeLine) × (last_item (front file (map Operation (done ++ op ∷ rest))) ≡ Some last) × (rank_of last ≤ 3)
    go done op [] = (Operation op, ap (λ more. last_item (front file more)) (map-append Operation done (op ∷ [])) ∙ last_push (front file (map Operation done)) (Operation op), omega arith)
    go done op (next ∷ rest) = rw append_assoc at (go (done ++ op ∷ []) next rest)

-- the lines up to the last operation
pub ops_up_to : (file : TypeFile) → IsTypeFile file → IsUpTo file 3 (front file (map Operation file.table.ops))
ops_up_to file known =
    let found = last_op file file.table.ops known.table.some_ops in
    record { more = map Operation file.table.ops; front_is = refl; ops = ops_of_ops file.table.ops; last = found.0; last_is = found.1; low = found.2 }
