-- What the clauses of `clap` say of the program's command.
use Rattle.std.proofs.Common.{◌≡◌, ◌≢◌, ◌∙◌, ◌⊎◌, ap, ap₂, arith, refl, subst, sym, true, inl, inr, ⊎_elim, ℕ, List, [], ◌∷◌, Bor, IfOk, Result, Ok, Err}
use Rattle.std.proofs.lemmas.List.{length-map}
use Rattle.std.specs.Prelude.{codes, length, slice_index_or, unwrap_or, Some, None, Option, IsSome, IfSome, option_map, ◌<◌, ◌^◌}
use Rattle.clap.specs.Matches.{ReadsOne, first_value, found_of, matched_of, one_text, raw_values, subcommand_name_of}
use Rattle.clap.specs.Walk.{Row, all_of, first_of, rows_of, texts}
use Rattle.clap.proofs.WalkLemmas.{first_value-rows, one_text-rows, raw_values-rows}
use Rattle.clap.specs.Simple.{App, HasMatchesOf, subcommand_rows_of}
use Rattle.clap.specs.Kinds.{FailsBy}
use Rattle.clap.specs.Faults.{fault_of, is_simple_and_free}
use Rattle.clap.specs.declared.error.Error.{Error}
use Rattle.clap.specs.declared.parser.matches.ArgMatches.{ArgMatches}
use Rattle.clap.specs.declared.parser.matches.ArgMatches.TheViews.{out-ArgMatches}
use Rattle.clap.specs.declared.builder.value_parser.ValueParser.{ValueParser}
use Rattle.command_words.specs.Program.{HasNumber, HasRows, HasStoreRows, HasWork, Parses, ReadsKinds, subcommand_of, program, argument_row, store_rows}
use Rattle.type_table.specs.declared.kind.Kind.{Kind}
use Rattle.command_words.specs.Words.{Order, OnUsage, Text, help_words}
use Rattle.command_words.specs.Lines.{Audit, Work}
use Rattle.command_words.specs.Words as asked
use Rattle.command_words.specs.declared.task.Topic.{Topic}
use Rattle.command_words.specs.declared.task.Topic.TheVariants as topic
use Rattle.command_words.specs.declared.task.WordFault.{WordFault}
use Rattle.command_words.proofs.NumberLemmas.{Gives, number_read}
use Rattle.command_words.specs.declared.task.WordFault.TheVariants.{Usage, NoMemory}

-- the command is one of those that `clap` states whole
program_free : (kinds : ValueParser) → is_simple_and_free (program kinds) ≡ true
program_free kinds = refl

-- the same, of the program itself
at_program : (kinds : ValueParser) → ReadsKinds kinds → (words : List Text) (r : Result ArgMatches Error)
    → FailsBy (fault_of (program kinds) words) r → IfOk r (HasMatchesOf (program kinds) words) → Parses words r
at_program kinds reads words (Ok matches) none has = (kinds, reads, none, has)
at_program kinds reads words (Err error) fails has = ⊎_elim (λ memory. inl memory) (λ among. inr (kinds, reads, among)) fails

-- what `clap` says of a command that is the program's is said of the program
pub parses : (kinds : ValueParser) → ReadsKinds kinds → (words : List Text) (r : Result ArgMatches Error) (app : App) → app ≡ program kinds
    → (is_simple_and_free app ≡ true → FailsBy (fault_of app words) r) → IfOk r (HasMatchesOf app words) → Parses words r
parses kinds reads words r app is fails has = at_program kinds reads words r
    (subst (λ (a : App). FailsBy (fault_of a words) r) is (fails (ap is_simple_and_free is ∙ program_free kinds)))
    (subst (λ (a : App). IfOk r (HasMatchesOf a words)) is has)

-- ---- reading matches

-- something that was found, by what is seen of it
pub found_some : {X Y : Type 0} (f : X → Y) (o : Option X) (y : Y) → option_map f o ≡ Some y → IsSome o
found_some f None y is = absurd cc
found_some f (Some x) y is = refl

-- what is seen of the value that was found
pub found_is : {X Y : Type 0} (f : X → Y) (o : Option X) (x : X) (y : Y) → o ≡ Some x → option_map f o ≡ Some y → f x ≡ y
found_is f o x y is seen = let both : Some (f x) ≡ Some y = ap (option_map f) (sym is) ∙ seen in cc

-- the first value of an argument, by the rows
pub value_read : (values : ArgMatches) (asked : Order) (id : Text) → HasRows values asked → first_value (found_of values) id ≡ first_of id (subcommand_of asked).1
value_read values asked id has = first_value-rows (found_of values) id ∙ ap (first_of id) has

-- all of them
pub values_read : (values : ArgMatches) (asked : Order) (id : Text) → HasRows values asked
    → option_map raw_values (matched_of (found_of values) id) ≡ all_of id (subcommand_of asked).1
values_read values asked id has = raw_values-rows (found_of values) id ∙ ap (all_of id) has

-- a subcommand that was found, by what is seen of its name and of its rows
joined : {S : Type 0} (name_of : S → Text) (read : S → List Row) (sub : Option S) (name : Text) (rows : List Row) → Some name ≡ option_map name_of sub
    → Some rows ≡ option_map (λ (p : Text × List Row). p.1) (option_map {U = Text × List Row} (λ (s : S). (name_of s, read s)) sub) → option_map {U = Text × List Row} (λ (s : S). (name_of s, read s)) sub ≡ Some (name, rows)
joined name_of read None name rows named are = absurd cc
joined name_of read (Some s) name rows named are =
    let same : name ≡ name_of s = cc in
    let both : rows ≡ read s = cc in
    ap₂ (λ (n : Text) (rs : List Row). Some (n, rs)) (sym same) (sym both)

pub entry_found : (matches : ArgMatches) (o : Option (Bor Text × Bor ArgMatches)) (p : Bor Text × Bor ArgMatches) → o ≡ Some p
    → option_map (λ p. p.0.now) o ≡ subcommand_name_of matches → option_map (λ p. rows_of (found_of p.1.now)) o ≡ option_map (λ p. p.1) (subcommand_rows_of matches)
    → subcommand_rows_of matches ≡ Some (p.0.now, rows_of (found_of p.1.now))
entry_found matches o p is named read =
    joined _ _ (out-ArgMatches matches).subcommand p.0.now (rows_of (found_of p.1.now))
    (ap (option_map (λ (q : Bor Text × Bor ArgMatches). q.0.now)) (sym is) ∙ named)
    (ap (option_map (λ (q : Bor Text × Bor ArgMatches). rows_of (found_of q.1.now))) (sym is) ∙ read)

-- what is something is there
pub some_of : {X : Type 0} (o : Option X) (x : X) → o ≡ Some x → IsSome o
some_of None x is = absurd cc
some_of (Some y) x is = refl

-- the same, of the items themselves
items_or_none : (family size : Text) (items : List Text) (o : Option (Bor (List (Bor Text)))) (none : Bor (List (Bor Text))) → none.now ≡ []
    → option_map (λ s. texts s.now) o ≡ all_of (codes "items") (subcommand_of (asked.make family size items)).1 → texts (unwrap_or o none).now ≡ items
items_or_none family size [] None none empty seen = ap texts empty
items_or_none family size [] (Some s) none empty seen = absurd cc
items_or_none family size (item ∷ items) None none empty seen = absurd cc
items_or_none family size (item ∷ items) (Some s) none empty seen = cc

-- the items that were found, or none
pub items_read : (family size : Text) (items : List Text) (o : Option (Bor (List (Bor Text)))) (given none : Bor (List (Bor Text))) → given ≡ unwrap_or o none → none.now ≡ []
    → option_map (λ s. texts s.now) o ≡ all_of (codes "items") (subcommand_of (asked.make family size items)).1 → texts given.now ≡ items
items_read family size items o given none is empty seen = ap (λ (s : Bor (List (Bor Text))). texts s.now) is ∙ items_or_none family size items o none empty seen

-- the texts of a list argument that were found, or none
pub texts_read : (wanted : List Text) (o : Option (Bor (List (Bor Text)))) (given none : Bor (List (Bor Text))) (seen : Option (List Text)) → given ≡ unwrap_or o none → none.now ≡ []
    → option_map (λ s. texts s.now) o ≡ seen → unwrap_or seen [] ≡ wanted → texts given.now ≡ wanted
texts_read wanted None given none seen is empty found are =
    ap (λ (s : Bor (List (Bor Text))). texts s.now) is ∙ ap texts empty ∙ ap (λ (f : Option (List Text)). unwrap_or f []) found ∙ are
texts_read wanted (Some s) given none seen is empty found are =
    ap (λ (s : Bor (List (Bor Text))). texts s.now) is ∙ ap (λ (f : Option (List Text)). unwrap_or f []) found ∙ are

-- the values of P and Q are the words of the pair
pub pair_rows : (kind : Kind) (path : Text) (pair : Option (Text × Text)) → unwrap_or (all_of (codes "pair") (subcommand_of (asked.explain kind path pair)).1) [] ≡ asked.pair_words pair
pair_rows kind path None = refl
pair_rows kind path (Some words) = refl

-- the words that were found for P and Q
pub pair_found : (o : Option (Bor (List (Bor Text)))) (s : Bor (List (Bor Text))) (seen : Option (List Text)) (pair : Option (Text × Text)) → o ≡ Some s
    → option_map (λ s. texts s.now) o ≡ seen → unwrap_or seen [] ≡ asked.pair_words pair → texts s.now ≡ asked.pair_words pair
pair_found o s seen pair is found are =
    ap (λ (f : Option (Bor (List (Bor Text)))). unwrap_or (option_map (λ (s : Bor (List (Bor Text))). texts s.now) f) []) (sym is) ∙ ap (λ (f : Option (List Text)). unwrap_or f []) found ∙ are

-- two of them are the pair
pub pair_read : (words : List (Bor Text)) (pair : Option (Text × Text)) (d : Bor Text) → length words ≡ 2 → texts words ≡ asked.pair_words pair
    → Some (asked.pair_of (slice_index_or words 0 d, slice_index_or words 1 d)) ≡ pair
pair_read [] pair d two are = absurd (omega (arith, two))
pair_read (p ∷ []) pair d two are = absurd (omega (arith, two))
pair_read (p ∷ q ∷ []) None d two are = absurd cc
pair_read (p ∷ q ∷ []) (Some words) d two are =
    let first : p.now ≡ words.0 = cc in
    let second : q.now ≡ words.1 = cc in
    ap₂ (λ (x y : Text). Some (x, y)) first second
pair_read (p ∷ q ∷ r ∷ rest) pair d two are = absurd (omega (arith, two))

-- and where they aren't two there is no pair
pub no_pair : (o : Option (Bor (List (Bor Text)))) (seen : Option (List Text)) (pair : Option (Text × Text)) → IfSome o (λ s. length s.now ≢ 2)
    → option_map (λ s. texts s.now) o ≡ seen → unwrap_or seen [] ≡ asked.pair_words pair → None ≡ pair
no_pair o seen None other found are = refl
no_pair None seen (Some words) other found are = absurd cc
no_pair (Some s) seen (Some words) other found are =
    let both : texts s.now ≡ words.0 ∷ words.1 ∷ [] = pair_found (Some s) s seen (Some words) refl found are in
    absurd (other (sym (length-map s.now (λ (w : Bor Text). w.now)) ∙ ap length both))

-- rows of a first file and types, by their list
pub store_read : (values : ArgMatches) (path : Text) (types : List Text) → rows_of (found_of values) ≡ store_rows path types → HasStoreRows (rows_of (found_of values)) path types
store_read values path types are = subst (λ (rows : List Row). HasStoreRows rows path types) (sym are) (listed types)
  where
    listed : (types : List Text) → HasStoreRows (store_rows path types) path types
    listed [] = record { path = refl; types = refl }
    listed (type ∷ types) = record { path = refl; types = refl }

-- and after the path of a store's file
pub database_read : (values : ArgMatches) (database objects : Text) (types : List Text) → HasRows values (asked.create database objects types)
    → HasStoreRows (rows_of (found_of values)) objects types
database_read values database objects types are =
    subst (λ (rows : List Row). HasStoreRows rows objects types) (sym are) (listed types)
  where
    listed : (types : List Text) → HasStoreRows (argument_row (codes "database") database ∷ store_rows objects types) objects types
    listed [] = record { path = refl; types = refl }
    listed (type ∷ types) = record { path = refl; types = refl }

-- an order over a store's file, by its parts
pub order_is : (order : Text → Text → List Text → Order) (database objects : Text) (types : List Text) (given_database given_objects : Text) (given_types : List Text)
    → given_database ≡ database → given_objects ≡ objects → given_types ≡ types → asked.order (order given_database given_objects given_types) ≡ asked.order (order database objects types)
order_is order database objects types given_database given_objects given_types database_is objects_are types_are =
    rw (database_is, objects_are, types_are) refl

-- histories that are to be audited, by their parts
pub audit_is : (a : Audit) (history : Text) (later types : List Text) → history ≡ a.history → later ≡ a.later → types ≡ a.types
    → asked.audit (record { history = history; later = later; types = types }) ≡ asked.audit a
audit_is a history later types history_is later_are types_are = rw (history_is, later_are, types_are) refl

-- what workers are to do, by its parts
pub work_is : (w : Work) (jobs : Text) (types : List Text) (n k : ℕ) (seed : Option ℕ) → jobs ≡ w.jobs → types ≡ w.types → n ≡ w.workers → k ≡ w.tries → seed ≡ w.seed
    → asked.work (record { jobs = jobs; types = types; workers = n; tries = k; seed = seed }) ≡ asked.work w
work_is w jobs types n k seed jobs_are types_are workers_are tries_are seed_is = rw (jobs_are, types_are, workers_are, tries_are, seed_is) refl

-- what is read of `--seed`
abbrev ReadsSeed : ArgMatches → Option ℕ → Type 0
ReadsSeed values r = (text : Text) → one_text (found_of values) (codes "seed") ≡ Some text → ReadsOne (Gives 64) text r

-- a number that is there is read
seed_number : (values : ArgMatches) (n : ℕ) (r : Option ℕ) → n < 2 ^ 64 → HasNumber (rows_of (found_of values)) (codes "seed") n → ReadsSeed values r → r ≡ Some n
seed_number values n r fits has reads =
    let read = reads has.0 (one_text-rows (found_of values) (codes "seed") ∙ has.1) in
    number_read 64 n has.0 r has.2 fits read

-- the seed of what workers are to do
pub seed_some : (values : ArgMatches) (w : Work) (r : Option ℕ) → IsSome w.seed → HasWork values w → ReadsSeed values r → IsSome r
seed_some values w r seeded has reads = by_seed w.seed seeded has.whole.seed has.seed
  where
    by_seed : (o : Option ℕ) → IsSome o → IfSome o (λ n. n < 2 ^ 64) → IfSome o (HasNumber (rows_of (found_of values)) (codes "seed")) → IsSome r
    by_seed None some fits number = absurd cc
    by_seed (Some n) some fits number = some_of r n (seed_number values n r fits number reads)

pub seed_is : (values : ArgMatches) (w : Work) (r : Option ℕ) (seed : ℕ) → IsSome w.seed → HasWork values w → ReadsSeed values r → r ≡ Some seed → Some seed ≡ w.seed
seed_is values w r seed seeded has reads is = by_seed w.seed seeded has.whole.seed has.seed
  where
    by_seed : (o : Option ℕ) → IsSome o → IfSome o (λ n. n < 2 ^ 64) → IfSome o (HasNumber (rows_of (found_of values)) (codes "seed")) → Some seed ≡ o
    by_seed None some fits number = absurd cc
    by_seed (Some n) some fits number = sym is ∙ seed_number values n r fits number reads

-- ---- what the program answers

-- a fact that holds but where memory was refused holds of a fault of the command line
pub usage_of : (fault : WordFault) (M P : Type 0) → M ⊎ P → (M → fault ≡ NoMemory) → OnUsage fault P
usage_of NoMemory M P either memory = tt
usage_of (Usage text) M P either memory = ⊎_elim (λ m. absurd (cc (memory m))) (λ p. p) either

-- ---- words that aren't left to `clap`

-- words that are neither `help` nor `help` and a name ask for no text of help
pub no_topic : (words : List Text) → words ≢ codes "help" ∷ [] → ((name : Text) → words ≢ codes "help" ∷ name ∷ []) → (topic : Topic) → words ≢ help_words topic
no_topic words alone named topic.Program are = alone are
no_topic words alone named topic.Check are = named _ are
no_topic words alone named topic.Explain are = named _ are
no_topic words alone named topic.Make are = named _ are
no_topic words alone named topic.Tables are = named _ are
no_topic words alone named topic.Run are = named _ are
no_topic words alone named topic.Audit are = named _ are
no_topic words alone named topic.Work are = named _ are
no_topic words alone named topic.Stress are = named _ are
no_topic words alone named topic.Create are = named _ are
no_topic words alone named topic.Extend are = named _ are
no_topic words alone named topic.Serve are = named _ are
no_topic words alone named topic.History are = named _ are
no_topic words alone named topic.Prepared are = named _ are
no_topic words alone named topic.Outcome are = named _ are
no_topic words alone named topic.Help are = named _ are
no_topic words alone named topic.Faults are = named _ are

-- nor does `help` with a name of no topic
pub no_name : (name : Text) → name ≢ codes "check" → name ≢ codes "explain" → name ≢ codes "make" → name ≢ codes "tables" → name ≢ codes "run"
    → name ≢ codes "audit" → name ≢ codes "work" → name ≢ codes "stress" → name ≢ codes "create" → name ≢ codes "extend" → name ≢ codes "serve"
    → name ≢ codes "history" → name ≢ codes "prepared" → name ≢ codes "outcome" → name ≢ codes "help" → name ≢ codes "faults"
    → (topic : Topic) → codes "help" ∷ name ∷ [] ≢ help_words topic
no_name name no_check no_explain no_make no_tables no_run no_audit no_work no_stress no_create no_extend no_serve no_history no_prepared no_outcome no_help no_faults topic.Program are = cc
no_name name no_check no_explain no_make no_tables no_run no_audit no_work no_stress no_create no_extend no_serve no_history no_prepared no_outcome no_help no_faults topic.Check are = no_check (let same : name ≡ codes "check" = cc in same)
no_name name no_check no_explain no_make no_tables no_run no_audit no_work no_stress no_create no_extend no_serve no_history no_prepared no_outcome no_help no_faults topic.Explain are = no_explain (let same : name ≡ codes "explain" = cc in same)
no_name name no_check no_explain no_make no_tables no_run no_audit no_work no_stress no_create no_extend no_serve no_history no_prepared no_outcome no_help no_faults topic.Make are = no_make (let same : name ≡ codes "make" = cc in same)
no_name name no_check no_explain no_make no_tables no_run no_audit no_work no_stress no_create no_extend no_serve no_history no_prepared no_outcome no_help no_faults topic.Tables are = no_tables (let same : name ≡ codes "tables" = cc in same)
no_name name no_check no_explain no_make no_tables no_run no_audit no_work no_stress no_create no_extend no_serve no_history no_prepared no_outcome no_help no_faults topic.Run are = no_run (let same : name ≡ codes "run" = cc in same)
no_name name no_check no_explain no_make no_tables no_run no_audit no_work no_stress no_create no_extend no_serve no_history no_prepared no_outcome no_help no_faults topic.Audit are = no_audit (let same : name ≡ codes "audit" = cc in same)
no_name name no_check no_explain no_make no_tables no_run no_audit no_work no_stress no_create no_extend no_serve no_history no_prepared no_outcome no_help no_faults topic.Work are = no_work (let same : name ≡ codes "work" = cc in same)
no_name name no_check no_explain no_make no_tables no_run no_audit no_work no_stress no_create no_extend no_serve no_history no_prepared no_outcome no_help no_faults topic.Stress are = no_stress (let same : name ≡ codes "stress" = cc in same)
no_name name no_check no_explain no_make no_tables no_run no_audit no_work no_stress no_create no_extend no_serve no_history no_prepared no_outcome no_help no_faults topic.Create are = no_create (let same : name ≡ codes "create" = cc in same)
no_name name no_check no_explain no_make no_tables no_run no_audit no_work no_stress no_create no_extend no_serve no_history no_prepared no_outcome no_help no_faults topic.Extend are = no_extend (let same : name ≡ codes "extend" = cc in same)
no_name name no_check no_explain no_make no_tables no_run no_audit no_work no_stress no_create no_extend no_serve no_history no_prepared no_outcome no_help no_faults topic.Serve are = no_serve (let same : name ≡ codes "serve" = cc in same)
no_name name no_check no_explain no_make no_tables no_run no_audit no_work no_stress no_create no_extend no_serve no_history no_prepared no_outcome no_help no_faults topic.History are = no_history (let same : name ≡ codes "history" = cc in same)
no_name name no_check no_explain no_make no_tables no_run no_audit no_work no_stress no_create no_extend no_serve no_history no_prepared no_outcome no_help no_faults topic.Prepared are = no_prepared (let same : name ≡ codes "prepared" = cc in same)
no_name name no_check no_explain no_make no_tables no_run no_audit no_work no_stress no_create no_extend no_serve no_history no_prepared no_outcome no_help no_faults topic.Outcome are = no_outcome (let same : name ≡ codes "outcome" = cc in same)
no_name name no_check no_explain no_make no_tables no_run no_audit no_work no_stress no_create no_extend no_serve no_history no_prepared no_outcome no_help no_faults topic.Help are = no_help (let same : name ≡ codes "help" = cc in same)
no_name name no_check no_explain no_make no_tables no_run no_audit no_work no_stress no_create no_extend no_serve no_history no_prepared no_outcome no_help no_faults topic.Faults are = no_faults (let same : name ≡ codes "faults" = cc in same)
