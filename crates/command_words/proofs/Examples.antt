-- What words ask for, worked by hand, and the texts.
use Rattle.std.proofs.Common.{◌≡◌, ◌≢◌, ◌∙◌, ◌++◌, ap, arith, refl, sym, inr, true, false, ℕ, List, [], ◌∷◌}
use Rattle.std.specs.Prelude.{codes, slice_index, Option, Some, None}
use Rattle.type_table.specs.declared.kind.Kind.TheVariants.{Undo}
use Rattle.command_words.specs.Help.{EndsLine, text_of_topic, version_text}
use Rattle.command_words.specs.Lines.{Audit, IsClear, IsGiven, SpellsNumber, IsWholeWork, Line, SaysAudit, Setting, Work, apart, dashes, done, following, joined, line_words, operand, seed, tries, values_of, workers}
use Rattle.command_words.specs.Serve.{ServeParts, Say, no_parts}
use Rattle.command_words.specs.Serve as says
use Rattle.command_words.proofs.ServeLemmas.{fast_says}
use Rattle.command_words.specs.Words.{AskFor, Text, audit, audit_database, order, check, create, explain, history, make, outcome, prepared, run, serve, work, help, version}
use Rattle.command_words.specs.declared.task.Topic.{Topic}
use Rattle.command_words.specs.declared.task.Topic.TheVariants as topic

-- the words of a check
checks : AskFor (codes "check" ∷ codes "undo" ∷ codes "a.type" ∷ []) (order (check Undo (codes "a.type")))
checks = (tt, refl)

-- two operations are explained, the first `--` is none of them
explains : AskFor (codes "explain" ∷ codes "undo" ∷ codes "a.type" ∷ codes "--" ∷ codes "-p/ok" ∷ codes "1" ∷ [])
    (order (explain Undo (codes "a.type") (Some (codes "-p/ok", codes "1"))))
explains = (tt, refl)

-- one alone is not
one_alone : (pair : Option (Text × Text)) → AskFor (codes "explain" ∷ codes "undo" ∷ codes "a.type" ∷ codes "0" ∷ []) (order (explain Undo (codes "a.type") pair)) → ⊥
one_alone None (whole, are) = cc
one_alone (Some words) (whole, are) = cc

-- of two words `--` the first is no item
makes : AskFor (codes "make" ∷ codes "set" ∷ codes "0" ∷ codes "--" ∷ codes "-b" ∷ codes "--" ∷ [])
    (order (make (codes "set") (codes "0") (codes "-b" ∷ codes "--" ∷ [])))
makes = (tt, refl)

-- a run of a script over two types
runs : AskFor (codes "run" ∷ codes "a.script" ∷ codes "a.type" ∷ codes "b.type" ∷ [])
    (order (run (codes "a.script") (codes "a.type" ∷ codes "b.type" ∷ [])))
runs = (omega arith, refl)

-- a run without a type is none
no_types : AskFor (codes "run" ∷ codes "a.script" ∷ []) (order (run (codes "a.script") [])) → ⊥
no_types (some, are) = omega (arith, some)

-- a new store over one type, where the first `--` is none of the operands
creates : AskFor (codes "create" ∷ codes "--" ∷ codes "-a.db" ∷ codes "a.objects" ∷ codes "a.type" ∷ [])
    (order (create (codes "-a.db") (codes "a.objects") (codes "a.type" ∷ [])))
creates = (omega arith, refl)

-- a new store without a type is none
no_types_of_new : AskFor (codes "create" ∷ codes "a.db" ∷ codes "a.objects" ∷ []) (order (create (codes "a.db") (codes "a.objects") [])) → ⊥
no_types_of_new (some, are) = omega (arith, some)

-- a store is served by its path, where what is open has five seconds and a million outcomes stay
serves : AskFor (codes "serve" ∷ codes "a.db" ∷ []) (serve (record { database = codes "a.db"; fast = false; archive = None; drain = 5; outcomes = 1000000 }))
serves = (
  codes "a.db" ∷ [],
  refl,
  record {
    parts = record { database = Some (codes "a.db"); fast = false; archive = None; drain = None; outcomes = None };
    say = says.database (codes "a.db") [] no_parts says.nothing refl refl;
    whole = record { database = refl; fast = refl; archive = refl; drain = refl; outcomes = refl };
  },
)

-- its options may be anywhere, and a path that begins with a hyphen follows `--`
serves_fast : AskFor (codes "serve" ∷ codes "--drain" ∷ codes "7" ∷ codes "--outcomes" ∷ codes "9" ∷ codes "--archive" ∷ codes "old" ∷ codes "--" ∷ codes "-a.db" ∷ codes "--fast" ∷ [])
    (serve (record { database = codes "-a.db"; fast = true; archive = Some (codes "old"); drain = 7; outcomes = 9 }))
serves_fast = (
  codes "--drain" ∷ codes "7" ∷ codes "--outcomes" ∷ codes "9" ∷ codes "--archive" ∷ codes "old" ∷ codes "--" ∷ codes "-a.db" ∷ codes "--fast" ∷ [],
  refl,
  record {
    parts = record { database = Some (codes "-a.db"); fast = true; archive = Some (codes "old"); drain = Some 7; outcomes = Some 9 };
    say =
        says.drain (codes "7") 7 _ _
        (says.outcomes (codes "9") 9 _ _ (says.archive (codes "old") _ _ (says.dashes (codes "-a.db") _ _ (says.fast [] no_parts says.nothing refl) refl) refl) refl
        ((omega arith, (omega arith, tt)), refl) (omega arith))
        refl ((omega arith, (omega arith, tt)), refl) (omega arith);
    whole = record { database = refl; fast = refl; archive = refl; drain = refl; outcomes = refl };
  },
)

-- nothing is said twice
not_twice : (p : ServeParts) → Say (codes "--fast" ∷ codes "--fast" ∷ []) p → ⊥
not_twice p said =
    let outer = fast_says _ (codes "--fast" ∷ []) p said refl in
    let inner = fast_says _ [] outer.0 outer.1 refl in
    let twice : true ≡ false = sym (ap (λ (q : ServeParts). q.fast) inner.3) ∙ outer.2 in
    cc

-- a history is written by its path alone
writes : AskFor (codes "history" ∷ codes "a.db" ∷ []) (order (history (codes "a.db")))
writes = (tt, refl)

-- those that are prepared are listed by the path alone, and what became of one is told by the path and its key
lists : AskFor (codes "prepared" ∷ codes "a.db" ∷ []) (order (prepared (codes "a.db")))
lists = (tt, refl)

tells : AskFor (codes "outcome" ∷ codes "a.db" ∷ codes "order:1" ∷ []) (order (outcome (codes "a.db") (codes "order:1")))
tells = (tt, refl)

-- a history is audited by three words, of which the last may be any
audits_store : AskFor (codes "audit" ∷ codes "--database" ∷ codes "--then" ∷ []) (audit_database (codes "--then"))
audits_store = refl

-- and by no other words
in_one_word : (path : Text) → AskFor (codes "audit" ∷ codes "--database=a.db" ∷ []) (audit_database path) → ⊥
in_one_word path are = cc

-- words of one form of `audit` are never those of the other: no option of a line is called so, by the first letter of its name
abbrev letter : List Text → ℕ
letter [] = 0
letter (word ∷ rest) = slice_index word 2

no_histories : (a : Audit) (path : Text) → AskFor (codes "audit" ∷ codes "--database" ∷ path ∷ []) (audit a) → ⊥
no_histories a path (whole, (line, are, says)) = by_line line (ap behind are) says.clear
  where
    behind : List Text → List Text
    behind [] = []
    behind (word ∷ rest) = rest

    by_line : (line : Line) → codes "--database" ∷ path ∷ [] ≡ line_words line → IsClear line → ⊥
    by_line done is clear = omega (arith, ap letter is)
    by_line (dashes operands) is clear = omega (arith, ap letter is)
    by_line (operand word rest) is clear =
        let word_is : codes "--database" ≡ word = cc in
        clear.0 (ap (λ (w : Text). slice_index w 0) (sym word_is)) (ap (λ (w : Text). slice_index w 1) (sym word_is))
    by_line (apart workers text rest) is clear = omega (arith, ap letter is)
    by_line (apart tries text rest) is clear = omega (arith, ap letter is)
    by_line (apart seed text rest) is clear = omega (arith, ap letter is)
    by_line (apart following text rest) is clear = omega (arith, ap letter is)
    by_line (joined workers text rest) is clear = omega (arith, ap letter is)
    by_line (joined tries text rest) is clear = omega (arith, ap letter is)
    by_line (joined seed text rest) is clear = omega (arith, ap letter is)
    by_line (joined following text rest) is clear = omega (arith, ap letter is)

-- the histories that follow are kept apart from the types by `--then`, and may come in either form
abbrev audit_line : Line
audit_line = apart following (codes "b.history") (operand (codes "a.history") (joined following (codes "c.history") (operand (codes "a.type") done)))

abbrev audited : Audit
audited = record { history = codes "a.history"; later = codes "b.history" ∷ codes "c.history" ∷ []; types = codes "a.type" ∷ [] }

alone : (other : Setting) → other ≢ following → values_of other audit_line ≡ []
alone workers differs = refl
alone tries differs = refl
alone seed differs = refl
alone following differs = absurd (differs refl)

audits : AskFor (codes "audit" ∷ codes "--then" ∷ codes "b.history" ∷ codes "a.history" ∷ codes "--then=c.history" ∷ codes "a.type" ∷ []) (audit audited)
audits = (
  omega arith,
  (
    audit_line,
    refl,
    record {
      clear = (λ hyphen. absurd (omega (arith, hyphen)), (λ hyphen. absurd (omega (arith, hyphen)), tt));
      operands = refl;
      later = refl;
      alone = alone;
    },
  ),
)

-- no audit has another option
no_seed : (a : Audit) → SaysAudit (joined seed (codes "7") audit_line) a → ⊥
no_seed a says = let none = says.alone seed (λ is. cc) in cc

-- options may be anywhere, in either form, and `--tries` may be left out
works : AskFor (codes "work" ∷ codes "a.jobs" ∷ codes "--workers" ∷ codes "2" ∷ codes "a.type" ∷ codes "b.type" ∷ [])
    (work (record { jobs = codes "a.jobs"; types = codes "a.type" ∷ codes "b.type" ∷ []; workers = 2; tries = 3; seed = None }))
works = (
  record { types = omega arith; some_worker = omega arith; few_workers = omega arith; some_try = omega arith; few_tries = omega arith; seed = tt },
  (
    operand (codes "a.jobs") (apart workers (codes "2") (operand (codes "a.type") (operand (codes "b.type") done))),
    refl,
    record {
      clear = (λ hyphen. absurd (omega (arith, hyphen)), (λ hyphen. absurd (omega (arith, hyphen)), (λ hyphen. absurd (omega (arith, hyphen)), tt)));
      operands = refl;
      workers = (codes "2", refl, ((omega arith, (omega arith, tt)), refl));
      tries = refl;
      seed = refl;
      following = refl;
    },
  ),
)

-- a schedule is drawn from the seed, and after `--` all words are operands
stresses : AskFor (codes "stress" ∷ codes "--tries=1" ∷ codes "--seed" ∷ codes "0" ∷ codes "--workers=+16" ∷ codes "--" ∷ codes "-j" ∷ codes "--seed" ∷ [])
    (work (record { jobs = codes "-j"; types = codes "--seed" ∷ []; workers = 16; tries = 1; seed = Some 0 }))
stresses = (
  record { types = omega arith; some_worker = omega arith; few_workers = omega arith; some_try = omega arith; few_tries = omega arith; seed = omega arith },
  (
    joined tries (codes "1") (apart seed (codes "0") (joined workers (codes "+16") (dashes (codes "-j" ∷ codes "--seed" ∷ [])))),
    refl,
    record {
      clear = tt;
      operands = refl;
      workers = (codes "+16", refl, ((omega arith, (omega arith, (omega arith, tt))), refl));
      tries = (codes "1", refl, ((omega arith, (omega arith, tt)), refl));
      seed = (codes "0", refl, ((omega arith, (omega arith, tt)), refl));
      following = refl;
    },
  ),
)

-- an option that was given twice has no number
twice : (n : ℕ) → IsGiven (codes "2" ∷ codes "2" ∷ []) n → ⊥
twice n (text, alone, number) = absurd cc

-- nor has the empty text, or a text that begins with a hyphen
no_text : (n : ℕ) → SpellsNumber [] n → ⊥
no_text n (numeral, is) = omega (arith, numeral.0)

hyphen : (n : ℕ) → SpellsNumber (codes "-1") n → ⊥
hyphen n (numeral, is) = omega (arith, numeral.1.0)

-- seventeen workers are too many
seventeen : (w : Work) → w.workers ≡ 17 → IsWholeWork w → ⊥
seventeen w are whole = omega (arith, are, whole.few_workers)

-- an operand before `--` begins with at most one hyphen
not_clear : IsClear (operand (codes "--tries") done) → ⊥
not_clear (clear, rest) = clear refl refl

-- a call for help
helps : AskFor (codes "help" ∷ codes "make" ∷ []) (help topic.Make)
helps = refl

-- the short call for the version
short : AskFor (codes "-V" ∷ []) version
short = inr refl

-- the version is one line
version_line : version_text ≡ codes "colock 0.2.0" ++ 10 ∷ []
version_line = refl

-- each text of help is of whole lines
pub whole_lines : (t : Topic) → EndsLine (text_of_topic t)
whole_lines topic.Program = refl
whole_lines topic.Check = refl
whole_lines topic.Explain = refl
whole_lines topic.Make = refl
whole_lines topic.Tables = refl
whole_lines topic.Run = refl
whole_lines topic.Audit = refl
whole_lines topic.Work = refl
whole_lines topic.Stress = refl
whole_lines topic.Create = refl
whole_lines topic.Extend = refl
whole_lines topic.Serve = refl
whole_lines topic.History = refl
whole_lines topic.Prepared = refl
whole_lines topic.Outcome = refl
whole_lines topic.Help = refl
whole_lines topic.Faults = refl
