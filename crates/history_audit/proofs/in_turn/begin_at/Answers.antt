use Rattle.std.proofs.Common.{◌≡◌, ◌<◌, ℕ, List, length, map, take, set, get_or, slice_get, Some, refl, sym, ap, ◌∙◌, arith}
use Rattle.std.specs.Option.{option_map}
use Rattle.std.proofs.Math.Numerals.{add-one}
use Rattle.std.proofs.lemmas.List.{length-map, map-set}
use Rattle.std.proofs.lemmas.Option.{slice_get-get_or, slice_get-map}
use Rattle.type_table.specs.Table.{Table as TableValue, table_at}
use Rattle.declared_types.specs.Declarations.{declared_at, table_of}
use Rattle.declared_types.specs.declared.declared_type.Declaration.{Declaration}
use Rattle.declared_types.specs.declared.declared_type.Declaration.TheVariants.{Table, Number as Numbers}
use Rattle.history_audit.specs.Epochs.{tables_at}
use Rattle.history_audit.proofs.EpochTables.{none-begun, begun-as_many, not_yet-begun, one-begun}
use Rattle.history_audit.proofs.FirstTables.{first-there, first-within}
use Rattle.history_audit.proofs.in_turn.begin_at.Goals as goal

pub loop-x-init : goal.loop-x-init
loop-x-init c = sym (none-begun (map table_of c.args.types.now.items))

-- the table of the type at a place at which none began anew yet
there : (types now : List Declaration) (states : List ℕ) (x : ℕ) (one : Declaration) → map table_of now ≡ tables_at (map table_of types) (take x states) → slice_get now x ≡ Some one
    → slice_get (map table_of types) x ≡ Some (table_of one)
there types now states x one kept at =
    sym (not_yet-begun (map table_of types) states x) ∙ ap (λ them. slice_get them x) (sym kept) ∙ slice_get-map table_of now x ∙ ap (option_map table_of) at

-- each state has a type
below : (types now : List Declaration) (states : List ℕ) (x : ℕ) → map table_of now ≡ tables_at (map table_of types) (take x states) → length states ≡ length (take (length states) (map table_of types)) → x < length states
    → x < length now
below types now states x kept many low =
    let as_many = ap length kept ∙ begun-as_many (map table_of types) (take x states) in
    omega (arith, as_many, length-map now table_of, many, first-within (length states) (map table_of types), low)

pub index_mut-requires : goal.index_mut-requires
index_mut-requires c =
    let low = below c.args.types.now.items c.loop-x.types.items c.args.states.now c.loop-x.x c.loop-x.invariant c.requires.as_many c.loop-x-test.true in
    omega (arith, low)

-- the table of a type that begins at another state
table-begun : (one : Declaration) (s : ℕ) → table_of (declared_at one s) ≡ table_at (table_of one) s
table-begun (Table file) s = refl
table-begun (Numbers number) s = refl

pub begin_at-requires : goal.begin_at-requires
begin_at-requires c =
    let x = c.loop-x.x in
    let types = c.args.types.now.items in
    let now = c.loop-x.types.items in
    let states = c.args.states.now in
    let one = c.index_mut.result.now in
    let low = below types now states x c.loop-x.invariant c.requires.as_many c.loop-x-test.true in
    c.requires.inside x (table_of one) (get_or states x 0)
    (first-there (length states) (map table_of types) x c.loop-x-test.true ∙ there types now states x one c.loop-x.invariant (slice_get-get_or now x one low ∙ ap Some (sym c.index_mut.ensures.value)))
    (slice_get-get_or states x 0 c.loop-x-test.true)

pub loop-x-preserved : goal.loop-x-preserved
loop-x-preserved c =
    let x = c.loop-x.x in
    let types = c.args.types.now.items in
    let now = c.loop-x.types.items in
    let states = c.args.states.now in
    let one = c.index_mut.result.now in
    let s = get_or states x 0 in
    let low = below types now states x c.loop-x.invariant c.requires.as_many c.loop-x-test.true in
    map-set table_of now x c.begin_at.new.self
    ∙ ap (λ (T : TableValue). set (map table_of now) x T) (ap table_of c.begin_at.ensures ∙ table-begun one s)
    ∙ ap (λ Ts. set Ts x (table_at (table_of one) s)) c.loop-x.invariant
    ∙ one-begun (map table_of types) states x (table_of one) s (there types now states x one c.loop-x.invariant (slice_get-get_or now x one low ∙ ap Some (sym c.index_mut.ensures.value)))
    (slice_get-get_or states x 0 c.loop-x-test.true)
    ∙ ap (λ n. tables_at (map table_of types) (take n states)) (sym (add-one x))
