-- The lines that say why pairs of operations have to be in a conflict table. An operation is written CALL/REPLY.
use Rattle.std.specs.Prelude.{ℕ, Bool, true, false, ◌==◌, List, [], ◌∷◌, ◌++◌, Option, Some, None, slice_get, codes, if◌then◌else◌}
use Rattle.std.specs.List.{flat_map, range_with_len}
use Rattle.outputs.specs.Numbers.{numbers_line}
use Rattle.type_table.specs.Kind.{table_kind_word}
use Rattle.type_table.specs.Table.{Table}
use Rattle.type_table.specs.declared.op.Op.{Op}
use Rattle.type_table.specs.declared.table_kind.TableKind.{TableKind}
use Rattle.type_table.specs.declared.table_kind.TableKind.TheVariants.{Undo, Intentions}
use Rattle.declared_types.specs.declared.type_file.TypeFile.{TypeFile}
use Rattle.pair_needs.specs.Mends.{is_missing, is_dropped}
use Rattle.pair_needs.specs.Witnesses.{lead_of, tell_of, first_commit, second_commit, failing_order}
use Rattle.pair_needs.specs.declared.need.Need.{Need}
use Rattle.pair_needs.specs.declared.need.Need.TheVariants.{Run, File, Strong, Nothing}
use Rattle.pair_needs.specs.declared.witness.Witness.{Witness}
use Rattle.pair_needs.specs.declared.explained.Explained.{Explained}
use Rattle.pair_needs.specs.declared.explained.Row.{Row}

-- ---- words

-- an operation: its call, a slash, its reply
abbrev pub word_of : Op → List ℕ
word_of op = op.call ++ 47 ∷ op.reply

abbrev pub word_if : Option Op → List ℕ
word_if None = []
word_if (Some op) = word_of op

-- the operation of a number, of these
abbrev pub op_word : List Op → ℕ → List ℕ
op_word ops k = word_if (slice_get ops k)

-- each after a space
abbrev pub listed_words : List Op → List ℕ → List ℕ
listed_words ops ks = flat_map (λ k. 32 ∷ op_word ops k) ks

-- those of a table
abbrev pub op_words : Table → List ℕ → List ℕ
op_words T ks = listed_words T.ops ks

-- a line of a keyword and operations
abbrev pub ops_line : List ℕ → Table → List ℕ → List ℕ
ops_line keyword T ks = keyword ++ (op_words T ks ++ 10 ∷ [])

-- the letter of a pair, a large one where it is in the table; a point where it is neither there nor needed
abbrev pub letter : Bool → Need → ℕ
letter true Run = 78
letter true File = 70
letter true Strong = 83
letter true Nothing = 85
letter false Run = 110
letter false File = 102
letter false Strong = 115
letter false Nothing = 46

abbrev pub letter_of : Explained → ℕ
letter_of e = letter e.listed e.need

-- ---- `row OP C..`

abbrev pub letter_text : Explained → List ℕ
letter_text e = 32 ∷ letter_of e ∷ []

abbrev pub letters : List Explained → List ℕ
letters pairs = flat_map letter_text pairs

abbrev pub row_line : Table → Row → List ℕ
row_line T row = codes "row" ++ (op_words T (row.requested ∷ []) ++ (letters row.pairs.items ++ 10 ∷ []))

-- ---- the history that breaks, as the lines of its text, indented by two

abbrev pub begin_line : ℕ → List ℕ
begin_line t = numbers_line (codes "  begin") (0 ∷ t ∷ [])

abbrev pub op_line : ℕ → ℕ → List ℕ
op_line t k = numbers_line (codes "  op") (0 ∷ t ∷ 0 ∷ k ∷ [])

abbrev pub commit_line : ℕ → List ℕ
commit_line t = numbers_line (codes "  commit") (0 ∷ t ∷ [])

abbrev pub operation_lines : ℕ → List ℕ → List ℕ
operation_lines t ks = flat_map (op_line t) ks

-- 0 leads to the state and commits
abbrev pub leading_text : List ℕ → List ℕ
leading_text lead = begin_line 0 ++ (operation_lines 0 lead ++ commit_line 0)

-- 1 does q, and 2, while 1 is open, p
abbrev pub both_text : ℕ → ℕ → List ℕ
both_text p q = begin_line 1 ++ (begin_line 2 ++ (op_line 1 q ++ op_line 2 p))

-- 3 tells the ends apart
abbrev pub telling_text : List ℕ → List ℕ
telling_text tell = begin_line 3 ++ (operation_lines 3 tell ++ (commit_line 3 ++ (codes "  end" ++ 10 ∷ [])))

abbrev pub object_text : TableKind → List ℕ
object_text kind = codes "  object " ++ (table_kind_word kind ++ (codes " 0" ++ 10 ∷ []))

abbrev pub history_text : TableKind → Bool → List ℕ → ℕ → ℕ → List ℕ → List ℕ
history_text kind held_first lead p q tell =
    object_text kind
    ++ (leading_text lead ++ (both_text p q
    ++ (commit_line (first_commit kind held_first) ++ (commit_line (second_commit kind held_first) ++ telling_text tell))))

-- ---- a pair

abbrev pub state_line : ℕ → List ℕ
state_line s = numbers_line (codes "state") (s ∷ [])

abbrev pub fails_line : Bool → List ℕ
fails_line held_first = numbers_line (codes "fails") (failing_order held_first)

-- a list that tells ends apart, where there is one to be told
abbrev pub tell_line : Table → List ℕ → List ℕ
tell_line T [] = []
tell_line T (k ∷ ks) = ops_line (codes "tell") T (k ∷ ks)

abbrev pub witness_lines : TableKind → Table → ℕ → ℕ → Witness → List ℕ
witness_lines kind T p q w =
    state_line w.state
    ++ (ops_line (codes "lead") T (lead_of w)
    ++ (tell_line T (tell_of w)
    ++ (history_text kind w.held_first (lead_of w) p q (tell_of w)
    ++ fails_line w.held_first)))

abbrev pub witness_text : TableKind → Table → ℕ → ℕ → Option Witness → List ℕ
witness_text kind T p q None = []
witness_text kind T p q (Some w) = witness_lines kind T p q w

-- a pair that is to be added to the conflict table
abbrev pub conflict_line : TableKind → ℕ → ℕ → List ℕ
conflict_line Undo p q = numbers_line (codes "mend conflict undo") (p ∷ q ∷ [])
conflict_line Intentions p q = numbers_line (codes "mend conflict intentions") (p ∷ q ∷ [])

-- a set of states that is to be that of those to which some list leads
abbrev pub missing_line : TypeFile → List Bool → ℕ → List ℕ
missing_line file led s = if is_missing file led s then numbers_line (codes "mend reach") (s ∷ []) else []

abbrev pub dropped_line : TypeFile → List Bool → ℕ → List ℕ
dropped_line file led s = if is_dropped file led s then numbers_line (codes "mend drop reach") (s ∷ []) else []

abbrev pub set_text : TypeFile → List Bool → List ℕ
set_text file led =
    flat_map (missing_line file led) (range_with_len 0 file.table.states) ++ flat_map (dropped_line file led) (range_with_len 0 file.table.states)

-- pairs that are to be added to the relation
abbrev pub equi_line : ℕ × ℕ → List ℕ
equi_line x = numbers_line (codes "mend equi") (x.0 ∷ x.1 ∷ [])

abbrev pub relation_text : List (ℕ × ℕ) → List ℕ
relation_text pairs = flat_map equi_line pairs

-- outside the table: the pair, where a run shows that it fails
abbrev pub missing_text : TableKind → Bool → Need → ℕ → ℕ → List ℕ
missing_text kind false Run p q = conflict_line kind p q
missing_text kind listed need p q = []

abbrev pub mend_text : TableKind → TypeFile → List Bool → Explained → List ℕ
mend_text kind file led e =
    missing_text kind e.listed e.need e.requested e.held
    ++ ((if e.too_large then set_text file led else []) ++ relation_text e.lacking.items)

abbrev pub pair_line : Table → Explained → List ℕ
pair_line T e = codes "pair" ++ (op_words T (e.requested ∷ e.held ∷ []) ++ (letter_text e ++ 10 ∷ []))

abbrev pub pair_text : TableKind → TypeFile → List Bool → Explained → List ℕ
pair_text kind file led e =
    pair_line file.table e
    ++ (witness_text kind file.table e.requested e.held e.witness ++ mend_text kind file led e)

-- ---- all pairs

-- neither in the table nor needed
abbrev pub is_plain : Explained → Bool
is_plain e = letter_of e == 46

-- all but these, in ascending order
abbrev pub row_text : TableKind → TypeFile → List Bool → Row → List ℕ
row_text kind file led row = flat_map (λ e. if is_plain e then [] else pair_text kind file led e) row.pairs.items

abbrev pub explanation_text : TableKind → TypeFile → List Bool → List Row → List ℕ
explanation_text kind file led rows = flat_map (row_line file.table) rows ++ flat_map (row_text kind file led) rows
