-- The subcommands: where the walk is after their operands, and which operands they take.
use Rattle.std.proofs.Common.{◌≡◌, ◌∙◌, ◌++◌, ◌||◌, ap, arith, refl, subst, sym, true, false, zero, suc, Bool, List, [], ◌∷◌, Bor}
use Rattle.std.specs.Prelude.{All, codes, None, Some, fold, length, ◌<◌, if◌then◌else◌}
use Rattle.std.specs.List.{list_any}
use Rattle.std.specs.Str.{bytes_eq}
use Rattle.std.specs.Cmp.Lexicographic.{same_text}
use Rattle.clap.specs.Walk.{Held, Row, Walk, arg_by_index, finished, idle, positional, settled, texts, to_positional, with_default}
use Rattle.clap.specs.Kinds.{Kinds, or_else, value_kinds}
use Rattle.clap.specs.Faults.{check_fault, defaults_fault}
use Rattle.clap.specs.Simple.{Shape}
use Rattle.clap.specs.declared.builder.value_parser.ValueParser.TheVariants as parser
use Rattle.clap.specs.declared.error.kind.ErrorKind.TheVariants.{InvalidValue, MissingRequiredArgument, UnknownArgument}
use Rattle.clap.proofs.OnLiterals.{clap_on_literals}
use Rattle.clap.proofs.WalkLemmas.{list_any-map}
use Rattle.type_table.specs.Kind.{kind_word}
use Rattle.type_table.specs.declared.kind.Kind.{Kind}
use Rattle.type_table.specs.declared.kind.Kind.TheVariants.{Undo, Intentions, Escrow}
use Rattle.command_words.specs.Program.{check_app, subcommand_of, item_rows, kind_words, make_app, argument_row, store_rows}
use Rattle.command_words.specs.Lines.{IsPlain}
use Rattle.command_words.specs.Words.{Order, IsPlainOrder, HasPlainWords, HasOperands, Text, without_dashes, order_words, pair_words}
use Rattle.command_words.specs.Words as asked
use Rattle.command_words.proofs.Leaves.{last_added, last_joined, last_of, leaf_of, waits}
use Rattle.command_words.proofs.OptionLemmas.{by_test, holding, never, or_else_none, refuses}
use Rattle.command_words.proofs.LeafLemmas.{IsBetween, Passes, Place, Takes, at, both_none, end_of, ends, faults, held_at, operand_fault, operands_taken, plain_taken, start}
use Rattle.command_words.proofs.FileLemmas.{AreFileWords, FileTook, file_answers, file_leaf, file_passes, file_place, file_takes}
use Rattle.command_words.proofs.KeyLemmas.{AreKeyWords, KeyTook, key_answers, key_leaf, key_passes, key_place, key_rows, key_takes}
use Rattle.command_words.proofs.DatabaseLemmas.{AreDatabaseWords, DatabaseTook, database_answers, database_leaf, database_passes, database_place, database_rows, database_takes}
use Rattle.command_words.proofs.ExplainLemmas.{AreExplainWords, ExplainTook, all, explain_answers, explain_leaf, explain_passes, explain_place, explain_rows, explain_takes, pair, pair_passes}
use Rattle.command_words.proofs.StoreLemmas.{AreStoreWords, StoreTook, store_answers, store_leaf, store_passes, store_place, store_takes}

-- ---- `check KIND FILE`

-- `check` as it is built
abbrev pub check_leaf : Bor (List (Bor Text)) → Shape
check_leaf listed = leaf_of (parser.Names listed) (check_app (parser.Names listed))

-- where its walk is after these operands
abbrev pub check_place : List Text → Place
check_place [] = start
check_place (kind ∷ []) = record { rows = []; pending = waits (codes "kind") kind; position = 2; waiting = idle }
check_place (kind ∷ path ∷ rest) =
    record { rows = argument_row (codes "kind") kind ∷ []; pending = waits (codes "path") path; position = 3; waiting = idle }

-- at most two operands, of which the first is a kind once the second was taken
abbrev pub CheckTook : Bor (List (Bor Text)) → List Text → Type 0
CheckTook listed [] = Unit {0}
CheckTook listed (kind ∷ []) = Unit {0}
CheckTook listed (kind ∷ path ∷ []) = value_kinds false (parser.Names listed) kind ≡ []
CheckTook listed (kind ∷ path ∷ more ∷ rest) = ⊥

-- between two operands nothing waits for a value
check_between : (listed : Bor (List (Bor Text))) (operands : List Text) → IsBetween (check_leaf listed) (check_place operands)
check_between listed [] = record { free = λ _ _. refl; nameless = λ _. refl }
check_between listed (kind ∷ []) = record { free = λ _ _. refl; nameless = λ _. refl }
check_between listed (kind ∷ path ∷ rest) = record { free = λ _ _. refl; nameless = λ _. refl }

-- an operand that comes to no fault is taken
check_next : (listed : Bor (List (Bor Text))) (operands : List Text) (word : Text) → CheckTook listed operands
    → operand_fault (check_leaf listed) (check_place operands) ≡ [] → CheckTook listed (operands ++ word ∷ [])
check_next listed [] word took none = tt
check_next listed (kind ∷ []) word took none = (or_else_none (value_kinds false (parser.Names listed) kind) [] none).0
check_next listed (kind ∷ path ∷ []) word took none = never UnknownArgument [] none
check_next listed (kind ∷ path ∷ more ∷ rest) word took none = took

-- and moves the walk to the place after it
check_moves : (listed : Bor (List (Bor Text))) (operands : List Text) (word : Text) (t : Bool) → CheckTook listed operands
    → operand_fault (check_leaf listed) (check_place operands) ≡ []
    → to_positional (check_leaf listed).rules (arg_by_index (check_leaf listed).rules (check_place operands).position) word (at t (check_place operands)) (held_at (check_place operands))
    ≡ at t (check_place (operands ++ word ∷ []))
check_moves listed [] word true took none = refl
check_moves listed [] word false took none = refl
check_moves listed (kind ∷ []) word true took none = refl
check_moves listed (kind ∷ []) word false took none = refl
check_moves listed (kind ∷ path ∷ []) word t took none = absurd (never UnknownArgument [] none)
check_moves listed (kind ∷ path ∷ more ∷ rest) word t took none = absurd took

-- `check` by its operands
check_takes : (listed : Bor (List (Bor Text))) → Takes (check_leaf listed) check_place (CheckTook listed)
check_takes listed = record {
  refuses = refuses _ _ (record { long = λ _. refl; short = λ _. refl });
  between = check_between listed;
  first = tt;
  next = check_next listed;
  moves = check_moves listed;
}

-- ---- `make FAMILY SIZE ITEM...`

-- `make` as it is built
abbrev pub make_leaf : Bor (List (Bor Text)) → Shape
make_leaf listed = leaf_of (parser.Names listed) make_app

-- the rows of FAMILY, SIZE and items that were settled
abbrev make_rows : Text → Text → List Text → List Row
make_rows family size items = argument_row (codes "family") family ∷ argument_row (codes "size") size ∷ item_rows items

-- the last item waits to be settled
abbrev item_place : Text → Text → List Text × Text → Place
item_place family size p =
    record { rows = make_rows family size p.0; pending = waits (codes "items") p.1; position = 3; waiting = positional }

-- where its walk is after these operands
abbrev pub make_place : List Text → Place
make_place [] = start
make_place (family ∷ []) = record { rows = []; pending = waits (codes "family") family; position = 2; waiting = idle }
make_place (family ∷ size ∷ []) =
    record { rows = argument_row (codes "family") family ∷ []; pending = waits (codes "size") size; position = 3; waiting = idle }
make_place (family ∷ size ∷ item ∷ items) = item_place family size (last_of item items)

-- any operands are taken
abbrev pub MakeTook : List Text → Type 0
MakeTook operands = Unit {0}

-- between two operands nothing waits for a value
make_between : (listed : Bor (List (Bor Text))) (operands : List Text) → IsBetween (make_leaf listed) (make_place operands)
make_between listed [] = record { free = λ _ _. refl; nameless = λ _. refl }
make_between listed (family ∷ []) = record { free = λ _ _. refl; nameless = λ _. refl }
make_between listed (family ∷ size ∷ []) = record { free = λ _ _. refl; nameless = λ _. refl }
make_between listed (family ∷ size ∷ item ∷ items) = record { free = λ _ _. refl; nameless = λ _. refl }

-- an item that waited joins those before it
item_settled : (listed : Bor (List (Bor Text))) (family size : Text) (before : List Text) (word : Text)
    → (settled (make_leaf listed).rules (holding (make_rows family size before) (waits (codes "items") word))).rows ≡ make_rows family size (before ++ word ∷ [])
item_settled listed family size [] word = refl
item_settled listed family size (item ∷ before) word = refl

-- so the rows are those of all items
items_settled : (listed : Bor (List (Bor Text))) (family size item : Text) (items : List Text)
    → (settled (make_leaf listed).rules (held_at (item_place family size (last_of item items)))).rows ≡ make_rows family size (item ∷ items)
items_settled listed family size item items =
    item_settled listed family size (last_of item items).0 (last_of item items).1 ∙ ap (make_rows family size) (last_joined item items)

-- the walk with these rows, where the word waits
abbrev item_walk : Bool → Text → List Row → Walk
item_walk t word rows = at t (record { rows = rows; pending = waits (codes "items") word; position = 3; waiting = positional })

-- a further item moves the walk to the place after it
item_moves : (listed : Bor (List (Bor Text))) (family size item : Text) (items : List Text) (word : Text) (t : Bool)
    → item_walk t word (settled (make_leaf listed).rules (held_at (item_place family size (last_of item items)))).rows
    ≡ at t (item_place family size (last_of item (items ++ word ∷ [])))
item_moves listed family size item items word t =
    ap (item_walk t word) (items_settled listed family size item items)
    ∙ ap (λ (p : List Text × Text). at t (item_place family size p)) (sym (last_added item items word))

-- and so does each operand
make_moves : (listed : Bor (List (Bor Text))) (operands : List Text) (word : Text) (t : Bool) → MakeTook operands
    → operand_fault (make_leaf listed) (make_place operands) ≡ []
    → to_positional (make_leaf listed).rules (arg_by_index (make_leaf listed).rules (make_place operands).position) word (at t (make_place operands)) (held_at (make_place operands))
    ≡ at t (make_place (operands ++ word ∷ []))
make_moves listed [] word true took none = refl
make_moves listed [] word false took none = refl
make_moves listed (family ∷ []) word true took none = refl
make_moves listed (family ∷ []) word false took none = refl
make_moves listed (family ∷ size ∷ []) word true took none = refl
make_moves listed (family ∷ size ∷ []) word false took none = refl
make_moves listed (family ∷ size ∷ item ∷ items) word true took none = item_moves listed family size item items word true
make_moves listed (family ∷ size ∷ item ∷ items) word false took none = item_moves listed family size item items word false

-- `make` by its operands
make_takes : (listed : Bor (List (Bor Text))) → Takes (make_leaf listed) make_place MakeTook
make_takes listed = record {
  refuses = refuses _ _ (record { long = λ _. refl; short = λ _. refl });
  between = make_between listed;
  first = tt;
  next = λ _ _ _ _. tt;
  moves = make_moves listed;
}

-- no operand comes to a fault
make_clear : (listed : Bor (List (Bor Text))) (operands : List Text) → operand_fault (make_leaf listed) (make_place operands) ≡ []
make_clear listed [] = refl
make_clear listed (family ∷ []) = refl
make_clear listed (family ∷ size ∷ []) = refl
make_clear listed (family ∷ size ∷ item ∷ items) = refl

-- the faults at the end, by the rows that are settled
abbrev row_faults : Bor (List (Bor Text)) → List Row → Kinds
row_faults listed rows = or_else (defaults_fault rows (make_leaf listed).rules)
    (check_fault (make_leaf listed) (fold with_default rows (make_leaf listed).rules) false)

-- nor does their end, where FAMILY and SIZE are there
make_ends : (listed : Bor (List (Bor Text))) (family size : Text) (items : List Text) → ends (make_leaf listed) (held_at (make_place (family ∷ size ∷ items))) ≡ []
unfolding clap_on_literals
make_ends listed family size [] = refl
make_ends listed family size (item ∷ items) = ap (row_faults listed) (items_settled listed family size item items)

-- ---- all of them

-- a subcommand
pub data Command : Type 0 where
  check : Command
  explain : Command
  make : Command
  tables : Command
  run : Command
  create : Command
  extend : Command
  history : Command
  prepared : Command
  outcome : Command

-- its name
abbrev pub name_of : Command → Text
name_of check = codes "check"
name_of explain = codes "explain"
name_of make = codes "make"
name_of tables = codes "tables"
name_of run = codes "run"
name_of create = codes "create"
name_of extend = codes "extend"
name_of history = codes "history"
name_of prepared = codes "prepared"
name_of outcome = codes "outcome"

-- the subcommand as it is built
abbrev pub leaf : Bor (List (Bor Text)) → Command → Shape
leaf listed check = check_leaf listed
leaf listed explain = explain_leaf listed
leaf listed make = make_leaf listed
leaf listed tables = file_leaf listed (codes "tables")
leaf listed run = store_leaf listed (codes "run")
leaf listed create = database_leaf listed (codes "create")
leaf listed extend = database_leaf listed (codes "extend")
leaf listed history = file_leaf listed (codes "history")
leaf listed prepared = file_leaf listed (codes "prepared")
leaf listed outcome = key_leaf listed (codes "outcome")

-- where its walk is after these operands
abbrev pub place : Command → List Text → Place
place check = check_place
place explain = explain_place
place make = make_place
place tables = file_place
place run = store_place
place create = database_place
place extend = database_place
place history = file_place
place prepared = file_place
place outcome = key_place

-- what holds of operands that it took
abbrev pub Took : Bor (List (Bor Text)) → Command → List Text → Type 0
Took listed check = CheckTook listed
Took listed explain = ExplainTook listed
Took listed make = MakeTook
Took listed tables = FileTook
Took listed run = StoreTook
Took listed create = DatabaseTook
Took listed extend = DatabaseTook
Took listed history = FileTook
Took listed prepared = FileTook
Took listed outcome = KeyTook

-- the subcommand by its operands
takes : (listed : Bor (List (Bor Text))) (command : Command) → Takes (leaf listed command) (place command) (Took listed command)
takes listed check = check_takes listed
takes listed explain = explain_takes listed
takes listed make = make_takes listed
takes listed tables = file_takes listed (codes "tables")
takes listed run = store_takes listed (codes "run")
takes listed create = database_takes listed (codes "create")
takes listed extend = database_takes listed (codes "extend")
takes listed history = file_takes listed (codes "history")
takes listed prepared = file_takes listed (codes "prepared")
takes listed outcome = key_takes listed (codes "outcome")

-- its walk begins where each walk does
begins : (command : Command) → place command [] ≡ start
begins check = refl
begins explain = refl
begins make = refl
begins tables = refl
begins run = refl
begins create = refl
begins extend = refl
begins history = refl
begins prepared = refl
begins outcome = refl

-- ---- what operands ask for

-- the operands and the rows of a subcommand are those of what is asked for
pub record Answers (name : Text) (s : Shape) (h : Held) (operands : List Text) : Type 0 where
  pub asked : Order
  pub whole : HasOperands asked
  pub words : name ∷ operands ≡ order_words asked
  pub entry : (name, finished s.rules h) ≡ subcommand_of asked

-- the name and the rows of `explain`
abbrev entry_at : Text → Text → List Text → Text × List Row
entry_at kind path words = (codes "explain", explain_rows kind path words)

-- the fault of a value of KIND, by the words of the kinds
kind_fault : (listed : Bor (List (Bor Text))) (word : Text) → texts listed.now ≡ kind_words
    → value_kinds false (parser.Names listed) word ≡ (if bytes_eq (codes "undo") word || (bytes_eq (codes "intentions") word || (bytes_eq (codes "escrow") word || false)) then [] else (InvalidValue ∷ []))
kind_fault listed word are =
    ap (λ (b : Bool). if b then [] else (InvalidValue ∷ []))
    (list_any-map (λ (w : Text). bytes_eq w word) (λ (s : Bor Text). s.now) listed.now ∙ ap (list_any (λ (w : Text). bytes_eq w word)) are)

-- a word that the parser takes is that of a kind
named_kind : (listed : Bor (List (Bor Text))) (word : Text) → texts listed.now ≡ kind_words → value_kinds false (parser.Names listed) word ≡ []
    → (kind : Kind) × (word ≡ kind_word kind)
named_kind listed word are accepted =
    let none = sym (kind_fault listed word are) ∙ accepted in
    by_test (bytes_eq (codes "undo") word)
    (λ undo. (Undo, sym (same_text (codes "undo") word (sym undo))))
    (λ not_undo. by_test (bytes_eq (codes "intentions") word)
    (λ intentions. (Intentions, sym (same_text (codes "intentions") word (sym intentions))))
    (λ not_intentions. by_test (bytes_eq (codes "escrow") word)
    (λ escrow. (Escrow, sym (same_text (codes "escrow") word (sym escrow))))
    (λ other. absurd (never InvalidValue [] (simp (not_undo, not_intentions, other) at none)))))

-- the word of each kind is taken
offered : (listed : Bor (List (Bor Text))) (kind : Kind) → texts listed.now ≡ kind_words → value_kinds false (parser.Names listed) (kind_word kind) ≡ []
offered listed Undo are = kind_fault listed (codes "undo") are
offered listed Intentions are = kind_fault listed (codes "intentions") are
offered listed Escrow are = kind_fault listed (codes "escrow") are

-- operands of `check` that come to no fault are a kind and a path
check_answers : (listed : Bor (List (Bor Text))) → texts listed.now ≡ kind_words → (operands : List Text) → CheckTook listed operands
    → ends (check_leaf listed) (held_at (check_place operands)) ≡ [] → Answers (codes "check") (check_leaf listed) (held_at (check_place operands)) operands
unfolding clap_on_literals
check_answers listed are [] took none = absurd (never MissingRequiredArgument [] none)
check_answers listed are (kind ∷ []) took none =
    absurd (never MissingRequiredArgument [] (or_else_none (or_else (value_kinds false (parser.Names listed) kind) []) (MissingRequiredArgument ∷ []) none).1)
check_answers listed are (kind ∷ path ∷ []) took none =
    let named = named_kind listed kind are took in
    record {
      asked = asked.check named.0 path;
      whole = tt;
      words = ap (λ (k : Text). codes "check" ∷ k ∷ path ∷ []) named.1;
      entry = ap (λ (k : Text). (codes "check", argument_row (codes "kind") k ∷ argument_row (codes "path") path ∷ [])) named.1;
    }
check_answers listed are (kind ∷ path ∷ more ∷ rest) took none = absurd took

-- what operands of `explain` ask for
explain_asked : (listed : Bor (List (Bor Text))) → texts listed.now ≡ kind_words → (s : Shape) (h : Held) (operands : List Text) → AreExplainWords listed (finished s.rules h) operands
    → Answers (codes "explain") s h operands
explain_asked listed are s h _ (all kind path took entry) =
    let named = named_kind listed kind are took in
    record {
      asked = asked.explain named.0 path None;
      whole = tt;
      words = ap (λ (k : Text). codes "explain" ∷ k ∷ path ∷ []) named.1;
      entry = ap (λ (rows : List Row). (codes "explain", rows)) entry ∙ ap (λ (k : Text). entry_at k path []) named.1;
    }
explain_asked listed are s h _ (pair kind path p q took entry) =
    let named = named_kind listed kind are took in
    record {
      asked = asked.explain named.0 path (Some (p, q));
      whole = tt;
      words = ap (λ (k : Text). codes "explain" ∷ k ∷ path ∷ p ∷ q ∷ []) named.1;
      entry = ap (λ (rows : List Row). (codes "explain", rows)) entry ∙ ap (λ (k : Text). entry_at k path (p ∷ q ∷ [])) named.1;
    }

-- operands of `make` that come to no fault are a family, a size and items
make_answers : (listed : Bor (List (Bor Text))) (operands : List Text)
    → ends (make_leaf listed) (held_at (make_place operands)) ≡ [] → Answers (codes "make") (make_leaf listed) (held_at (make_place operands)) operands
unfolding clap_on_literals
make_answers listed [] none = absurd (never MissingRequiredArgument [] none)
make_answers listed (family ∷ []) none = absurd (never MissingRequiredArgument [] none)
make_answers listed (family ∷ size ∷ []) none = record { asked = asked.make family size []; whole = tt; words = refl; entry = refl }
make_answers listed (family ∷ size ∷ item ∷ items) none = record {
  asked = asked.make family size (item ∷ items);
  whole = tt;
  words = refl;
  entry = ap (λ (rows : List Row). (codes "make", fold with_default rows (make_leaf listed).rules)) (items_settled listed family size item items);
}

-- there is a type where one comes before others
some_types : (type : Text) (types : List Text) → 0 < length (type ∷ types)
some_types type types = omega arith

-- what a first file and types ask for of a command over a store's objects
store_asked : (name : Text) (s : Shape) (h : Held) (operands : List Text) (order : Text → List Text → Order)
    → ((path type : Text) (types : List Text) → HasOperands (order path (type ∷ types)))
    → ((path : Text) (types : List Text) → order_words (order path types) ≡ name ∷ path ∷ types)
    → ((path : Text) (types : List Text) → subcommand_of (order path types) ≡ (name, store_rows path types))
    → AreStoreWords s (finished s.rules h) operands → Answers name s h operands
store_asked name s h operands order whole words entry are = record {
  asked = order are.path (are.type ∷ are.types);
  whole = whole are.path are.type are.types;
  words = ap (λ (os : List Text). name ∷ os) are.words ∙ sym (words are.path (are.type ∷ are.types));
  entry = ap (λ (rows : List Row). (name, rows)) are.entry ∙ sym (entry are.path (are.type ∷ are.types));
}

-- what a path asks for of a command over one file
file_asked : (name : Text) (s : Shape) (h : Held) (operands : List Text) (order : Text → Order)
    → ((path : Text) → HasOperands (order path))
    → ((path : Text) → order_words (order path) ≡ name ∷ path ∷ [])
    → ((path : Text) → subcommand_of (order path) ≡ (name, argument_row (codes "path") path ∷ []))
    → AreFileWords (finished s.rules h) operands → Answers name s h operands
file_asked name s h operands order whole words entry are = record {
  asked = order are.path;
  whole = whole are.path;
  words = ap (λ (os : List Text). name ∷ os) are.words ∙ sym (words are.path);
  entry = ap (λ (rows : List Row). (name, rows)) are.entry ∙ sym (entry are.path);
}

-- what a path and a key ask for of a command over a store's file and a key
key_asked : (name : Text) (s : Shape) (h : Held) (operands : List Text) (order : Text → Text → Order)
    → ((path key : Text) → HasOperands (order path key))
    → ((path key : Text) → order_words (order path key) ≡ name ∷ path ∷ key ∷ [])
    → ((path key : Text) → subcommand_of (order path key) ≡ (name, key_rows path key))
    → AreKeyWords (finished s.rules h) operands → Answers name s h operands
key_asked name s h operands order whole words entry are = record {
  asked = order are.path are.key;
  whole = whole are.path are.key;
  words = ap (λ (os : List Text). name ∷ os) are.words ∙ sym (words are.path are.key);
  entry = ap (λ (rows : List Row). (name, rows)) are.entry ∙ sym (entry are.path are.key);
}

-- what DATABASE, OBJECTS and types ask for of a command over a store's file
database_asked : (name : Text) (s : Shape) (h : Held) (operands : List Text) (order : Text → Text → List Text → Order)
    → ((database objects type : Text) (types : List Text) → HasOperands (order database objects (type ∷ types)))
    → ((database objects : Text) (types : List Text) → order_words (order database objects types) ≡ name ∷ database ∷ objects ∷ types)
    → ((database objects : Text) (types : List Text) → subcommand_of (order database objects types) ≡ (name, database_rows database objects types))
    → AreDatabaseWords (finished s.rules h) operands → Answers name s h operands
database_asked name s h operands order whole words entry are = record {
  asked = order are.database are.objects (are.type ∷ are.types);
  whole = whole are.database are.objects are.type are.types;
  words = ap (λ (os : List Text). name ∷ os) are.words ∙ sym (words are.database are.objects (are.type ∷ are.types));
  entry = ap (λ (rows : List Row). (name, rows)) are.entry ∙ sym (entry are.database are.objects (are.type ∷ are.types));
}

-- operands that come to no fault ask for something
answers : (listed : Bor (List (Bor Text))) → texts listed.now ≡ kind_words → (command : Command) (operands : List Text) → Took listed command operands
    → ends (leaf listed command) (held_at (place command operands)) ≡ [] → Answers (name_of command) (leaf listed command) (held_at (place command operands)) operands
answers listed are check operands took none = check_answers listed are operands took none
answers listed are explain operands took none = explain_asked listed are _ _ operands (explain_answers listed operands took none)
answers listed are make operands took none = make_answers listed operands none
answers listed are tables operands took none =
    file_asked (codes "tables") _ _ operands asked.tables (λ _. tt) (λ _. refl) (λ _. refl) (file_answers listed (codes "tables") operands took none)
answers listed are run operands took none =
    store_asked (codes "run") _ _ operands asked.run (λ _. some_types) (λ _ _. refl) (λ _ _. refl) (store_answers listed (codes "run") operands none)
answers listed are create operands took none =
    database_asked (codes "create") _ _ operands asked.create (λ _ _. some_types) (λ _ _ _. refl) (λ _ _ _. refl) (database_answers listed (codes "create") operands none)
answers listed are extend operands took none =
    database_asked (codes "extend") _ _ operands asked.extend (λ _ _. some_types) (λ _ _ _. refl) (λ _ _ _. refl) (database_answers listed (codes "extend") operands none)
answers listed are history operands took none =
    file_asked (codes "history") _ _ operands asked.history (λ _. tt) (λ _. refl) (λ _. refl) (file_answers listed (codes "history") operands took none)
answers listed are prepared operands took none =
    file_asked (codes "prepared") _ _ operands asked.prepared (λ _. tt) (λ _. refl) (λ _. refl) (file_answers listed (codes "prepared") operands took none)
answers listed are outcome operands took none =
    key_asked (codes "outcome") _ _ operands asked.outcome (λ _ _. tt) (λ _ _. refl) (λ _ _. refl) (key_answers listed (codes "outcome") operands took none)

-- words of a subcommand that come to no fault ask for something, and so do its rows
pub words_answered : (listed : Bor (List (Bor Text))) → texts listed.now ≡ kind_words → (command : Command) (rest : List Text)
    → faults (leaf listed command) (at false start) rest ≡ []
    → Answers (name_of command) (leaf listed command) (end_of (leaf listed command) (at false start) rest).held (without_dashes rest)
words_answered listed are command rest none =
    let reached = operands_taken (leaf listed command) (place command) (Took listed command) (takes listed command) rest (begins command) none in
    subst (λ (h : Held). Answers (name_of command) (leaf listed command) h (without_dashes rest)) (sym reached.held)
    (answers listed are command (without_dashes rest) reached.taken reached.fault)

-- ---- plain words

-- the subcommand of what is asked for
abbrev pub command_of : Order → Command
command_of (asked.check kind path) = check
command_of (asked.explain kind path words) = explain
command_of (asked.make family size items) = make
command_of (asked.tables path) = tables
command_of (asked.run script types) = run
command_of (asked.create database objects types) = create
command_of (asked.extend database objects types) = extend
command_of (asked.history path) = history
command_of (asked.prepared path) = prepared
command_of (asked.outcome path key) = outcome

-- and its operands
abbrev pub operands_of : Order → List Text
operands_of (asked.check kind path) = kind_word kind ∷ path ∷ []
operands_of (asked.explain kind path words) = kind_word kind ∷ path ∷ pair_words words
operands_of (asked.make family size items) = family ∷ size ∷ items
operands_of (asked.tables path) = path ∷ []
operands_of (asked.run script types) = script ∷ types
operands_of (asked.create database objects types) = database ∷ objects ∷ types
operands_of (asked.extend database objects types) = database ∷ objects ∷ types
operands_of (asked.history path) = path ∷ []
operands_of (asked.prepared path) = path ∷ []
operands_of (asked.outcome path key) = path ∷ key ∷ []

-- the word of a kind begins with no hyphen
plain_kind : (kind : Kind) → IsPlain (kind_word kind)
plain_kind Undo = refl
plain_kind Intentions = refl
plain_kind Escrow = refl

-- a fact of the first word, and of the others
pub all_with : (P : Text → Type 0) (word : Text) (rest : List Text) → P word → All P rest → All P (word ∷ rest)
all_with P word rest first others zero d lt = first
all_with P word rest first others (suc k) d lt = others k d (omega (arith, lt))

-- of no words, each fact holds of all
pub all_of_none : (P : Text → Type 0) → All P []
all_of_none P k d lt = absurd (omega (arith, lt))

-- no fault comes of these operands of a subcommand
abbrev AllPass : Bor (List (Bor Text)) → (command : Command) → List Text → List Text → Type 0
AllPass listed command = Passes (leaf listed command) (place command) (Took listed command) (takes listed command)

-- no fault comes of items after FAMILY and SIZE
items_pass : (listed : Bor (List (Bor Text))) (family size : Text) (before rest : List Text) → AllPass listed make (family ∷ size ∷ before) rest
items_pass listed family size before [] = make_ends listed family size before
items_pass listed family size before (word ∷ rest) =
    (make_clear listed (family ∷ size ∷ before), items_pass listed family size (before ++ word ∷ []) rest)

-- no fault comes of the operands of what is asked for, where it is whole
all_pass : (listed : Bor (List (Bor Text))) → texts listed.now ≡ kind_words → (a : Order) → HasOperands a → AllPass listed (command_of a) [] (operands_of a)
unfolding clap_on_literals
all_pass listed are (asked.check kind path) whole =
    (refl, (both_none (value_kinds false (parser.Names listed) (kind_word kind)) [] (offered listed kind are) refl, refl))
all_pass listed are (asked.explain kind path None) whole = explain_passes listed (kind_word kind) path (offered listed kind are)
all_pass listed are (asked.explain kind path (Some words)) whole = pair_passes listed (kind_word kind) path words.0 words.1 (offered listed kind are)
all_pass listed are (asked.make family size items) whole = (refl, (refl, items_pass listed family size [] items))
all_pass listed are (asked.tables path) whole = file_passes listed (codes "tables") path
all_pass listed are (asked.run script []) whole = absurd (omega (arith, whole))
all_pass listed are (asked.run script (type ∷ types)) whole = store_passes listed (codes "run") script type types
all_pass listed are (asked.create database objects []) whole = absurd (omega (arith, whole))
all_pass listed are (asked.extend database objects []) whole = absurd (omega (arith, whole))
all_pass listed are (asked.create database objects (type ∷ types)) whole = database_passes listed (codes "create") database objects type types
all_pass listed are (asked.extend database objects (type ∷ types)) whole = database_passes listed (codes "extend") database objects type types
all_pass listed are (asked.history path) whole = file_passes listed (codes "history") path
all_pass listed are (asked.prepared path) whole = file_passes listed (codes "prepared") path
all_pass listed are (asked.outcome path key) whole = key_passes listed (codes "outcome") path key

-- where plain words are asked for, the operands are plain
all_plain : (a : Order) → HasPlainWords a → All IsPlain (operands_of a)
all_plain (asked.check kind path) plain = all_with IsPlain (kind_word kind) (path ∷ []) (plain_kind kind) (all_with IsPlain path [] plain (all_of_none IsPlain))
all_plain (asked.explain kind path words) plain =
    all_with IsPlain (kind_word kind) (path ∷ pair_words words) (plain_kind kind) (all_with IsPlain path (pair_words words) plain.0 plain.1)
all_plain (asked.make family size items) plain = all_with IsPlain family (size ∷ items) plain.0 (all_with IsPlain size items plain.1 plain.2)
all_plain (asked.tables path) plain = all_with IsPlain path [] plain (all_of_none IsPlain)
all_plain (asked.run script types) plain = all_with IsPlain script types plain.0 plain.1
all_plain (asked.create database objects types) plain = all_with IsPlain database (objects ∷ types) plain.0 (all_with IsPlain objects types plain.1 plain.2)
all_plain (asked.extend database objects types) plain = all_with IsPlain database (objects ∷ types) plain.0 (all_with IsPlain objects types plain.1 plain.2)
all_plain (asked.history path) plain = all_with IsPlain path [] plain (all_of_none IsPlain)
all_plain (asked.prepared path) plain = all_with IsPlain path [] plain (all_of_none IsPlain)
all_plain (asked.outcome path key) plain = all_with IsPlain path (key ∷ []) plain.0 (all_with IsPlain key [] plain.1 (all_of_none IsPlain))

-- plain words of a subcommand come to no fault
pub plain_words : (listed : Bor (List (Bor Text))) → texts listed.now ≡ kind_words → (a : Order) → IsPlainOrder a
    → faults (leaf listed (command_of a)) (at false start) (operands_of a) ≡ []
plain_words listed are a plain =
    plain_taken (leaf listed (command_of a)) (place (command_of a)) (Took listed (command_of a)) (takes listed (command_of a)) (operands_of a) (begins (command_of a)) (all_plain a plain.1)
    (all_pass listed are a plain.0)
