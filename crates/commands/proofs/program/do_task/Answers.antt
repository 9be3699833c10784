use Rattle.std.proofs.Common.{ℕ, Bor, List, Option, map, subst, sym, inl, inr}
use Rattle.std.specs.Option.{option_map}
use Rattle.command_files.specs.Answers.{Comes, ComesOr}
use Rattle.command_files.proofs.Comes.{comes_or}
use Rattle.command_words.specs.declared.task.Task.{Task}
use Rattle.commands.proofs.Done.{keeps_too, served}
use Rattle.commands.specs.Program.{DoesTask, PassesOn, shown}
use Rattle.std.specs.Prelude.{OnOk, ⊤}
use Rattle.outputs.specs.Gathered.{taken_by}
use Rattle.serve_command.specs.Archived.{ArchivesEpochs}
use Rattle.serve_command.specs.Found.{SaysFound}
use Rattle.serve_command.specs.Served.{BeginsServing, ComesOfServing, ServesDatabase}
use Rattle.database_commands.specs.Created.{CreatesStore, HasCreateFault}
use Rattle.database_commands.specs.Extended.{ExtendsStore}
use Rattle.store_commands.specs.Audited.{AuditsFiles, HasAuditFault}
use Rattle.store_commands.specs.Ordered.{AuditsOrdered, HasOrderedFault}
use Rattle.store_commands.specs.Runs.{BeginsRunFile, HasRunFault, RunsFile, WritesRunFile}
use Rattle.store_commands.specs.Works.{BeginsWorkFile, HasWorkFault, WorksFile, WritesWorkFile}
use Rattle.type_commands.specs.Made.{CannotBeMade, MakesFamily}
use Rattle.type_commands.specs.Request.{texts, wanted_of}
use Rattle.commands.proofs.program.do_task.Goals as goal

pub returns-in-Make-clause-does : goal.returns-in-Make-clause-does
returns-in-Make-clause-does g c =
    let holds = g.S.Source.holds c.args.given.now.source in
    let databases = c.args.given.now.databases in
    let input = g.I.Read.remaining c.args.given.now.input in
    let given = shown holds (g.D.Databases.holds databases) (g.D.Databases.holds databases) (g.D.Databases.is_clean databases) input input (g.K.Archives.kept_in c.args.given.now.archives) (g.K.Archives.kept_in c.args.given.now.archives) in
    let old = taken_by g.W.Out.taken c.args.console.out in
    let new = taken_by g.W.Out.taken c.make_family.new.out in
    let Does : Task → Type 0 = λ t. DoesTask given t c.make_family.result old new in
    let Of : List (Bor (List ℕ)) → Type 0 = λ ws. let wanted = wanted_of c.in-Make.family.now c.in-Make.size.now (texts ws) in Comes (MakesFamily wanted) (CannotBeMade wanted) c.make_family.result old new in
    let done = subst Of c.deref.ensures.value c.make_family.ensures in
    subst Does (sym c.in-Make.is) (inr (comes_or _ _ _ _ _ _ _ _ c.make_family.result old new (λ text whole. whole) (λ text begun. begun) (λ v text answer. answer) (λ bad. bad) done))

pub returns-in-Run-clause-does : goal.returns-in-Run-clause-does
returns-in-Run-clause-does g c =
    let holds = g.S.Source.holds c.args.given.now.source in
    let databases = c.args.given.now.databases in
    let input = g.I.Read.remaining c.args.given.now.input in
    let given = shown holds (g.D.Databases.holds databases) (g.D.Databases.holds databases) (g.D.Databases.is_clean databases) input input (g.K.Archives.kept_in c.args.given.now.archives) (g.K.Archives.kept_in c.args.given.now.archives) in
    let old = taken_by g.W.Out.taken c.args.console.out in
    let new = taken_by g.W.Out.taken c.run_file.new.out in
    let Does : Task → Type 0 = λ t. DoesTask given t c.run_file.result old new in
    let Of : List (Bor (List ℕ)) → Type 0 = λ ws. let words = map (λ p. p.now) ws in
    ComesOr (WritesRunFile holds c.in-Run.script.now words) (BeginsRunFile holds c.in-Run.script.now words) (RunsFile holds c.in-Run.script.now words)
    (HasRunFault holds c.in-Run.script.now words) c.run_file.result old new in
    let done = subst Of c.deref-in-Run.ensures.value c.run_file.ensures in
    subst Does (sym c.in-Run.is) (inr (comes_or _ _ _ _ _ _ _ _ c.run_file.result old new (λ text whole. whole) (λ text begun. begun) (λ v text answer. answer) (λ bad. bad) done))

pub returns-in-Work-clause-does : goal.returns-in-Work-clause-does
returns-in-Work-clause-does g c =
    let holds = g.S.Source.holds c.args.given.now.source in
    let databases = c.args.given.now.databases in
    let input = g.I.Read.remaining c.args.given.now.input in
    let given = shown holds (g.D.Databases.holds databases) (g.D.Databases.holds databases) (g.D.Databases.is_clean databases) input input (g.K.Archives.kept_in c.args.given.now.archives) (g.K.Archives.kept_in c.args.given.now.archives) in
    let old = taken_by g.W.Out.taken c.args.console.out in
    let new = taken_by g.W.Out.taken c.work_file.new.out in
    let Does : Task → Type 0 = λ t. DoesTask given t c.work_file.result old new in
    let Of : List (Bor (List ℕ)) → Type 0 = λ ws. let words = map (λ p. p.now) ws in
    ComesOr (WritesWorkFile holds c.in-Work.workers c.in-Work.tries c.in-Work.jobs.now words) (BeginsWorkFile holds c.in-Work.workers c.in-Work.tries c.in-Work.jobs.now words)
    (WorksFile holds c.in-Work.workers c.in-Work.tries c.in-Work.jobs.now words) (HasWorkFault holds c.in-Work.workers c.in-Work.jobs.now words) c.work_file.result old new in
    let done = subst Of c.deref-in-Work.ensures.value c.work_file.ensures in
    subst Does (sym c.in-Work.is) (inr (comes_or _ _ _ _ _ _ _ _ c.work_file.result old new (λ text whole. whole) (λ text begun. begun) (λ v text answer. answer) (λ bad. bad) done))

pub returns-in-Stress-clause-does : goal.returns-in-Stress-clause-does
returns-in-Stress-clause-does g c =
    let holds = g.S.Source.holds c.args.given.now.source in
    let databases = c.args.given.now.databases in
    let input = g.I.Read.remaining c.args.given.now.input in
    let given = shown holds (g.D.Databases.holds databases) (g.D.Databases.holds databases) (g.D.Databases.is_clean databases) input input (g.K.Archives.kept_in c.args.given.now.archives) (g.K.Archives.kept_in c.args.given.now.archives) in
    let old = taken_by g.W.Out.taken c.args.console.out in
    let new = taken_by g.W.Out.taken c.work_file-in-Stress.new.out in
    let Does : Task → Type 0 = λ t. DoesTask given t c.work_file-in-Stress.result old new in
    let Of : List (Bor (List ℕ)) → Type 0 = λ ws. let words = map (λ p. p.now) ws in
    ComesOr (WritesWorkFile holds c.in-Stress.workers c.in-Stress.tries c.in-Stress.jobs.now words) (BeginsWorkFile holds c.in-Stress.workers c.in-Stress.tries c.in-Stress.jobs.now words)
    (WorksFile holds c.in-Stress.workers c.in-Stress.tries c.in-Stress.jobs.now words) (HasWorkFault holds c.in-Stress.workers c.in-Stress.jobs.now words) c.work_file-in-Stress.result old new in
    let done = subst Of c.deref-in-Stress.ensures.value c.work_file-in-Stress.ensures in
    subst Does (sym c.in-Stress.is) (inr (comes_or _ _ _ _ _ _ _ _ c.work_file-in-Stress.result old new (λ text whole. whole) (λ text begun. begun) (λ v text answer. answer) (λ bad. bad) done))

pub returns-in-Audit-clause-does : goal.returns-in-Audit-clause-does
returns-in-Audit-clause-does g c =
    let holds = g.S.Source.holds c.args.given.now.source in
    let databases = c.args.given.now.databases in
    let input = g.I.Read.remaining c.args.given.now.input in
    let given = shown holds (g.D.Databases.holds databases) (g.D.Databases.holds databases) (g.D.Databases.is_clean databases) input input (g.K.Archives.kept_in c.args.given.now.archives) (g.K.Archives.kept_in c.args.given.now.archives) in
    let old = taken_by g.W.Out.taken c.args.console.out in
    let new = taken_by g.W.Out.taken c.audit_histories.new.out in
    let Does : Task → Type 0 = λ t. DoesTask given t c.audit_histories.result old new in
    let Of : List (Bor (List ℕ)) → List (Bor (List ℕ)) → Type 0 = λ hs ws. let others = map (λ p. p.now) hs in let words = map (λ p. p.now) ws in
    Comes (AuditsFiles holds c.in-Audit.history.now others words) (HasAuditFault holds c.in-Audit.history.now others words) c.audit_histories.result old new in
    let one = subst (λ hs. Of hs c.deref-in-Audit-2.result.now) c.deref-in-Audit.ensures.value c.audit_histories.ensures in
    let done = subst (λ ws. Of c.in-Audit.later.items ws) c.deref-in-Audit-2.ensures.value one in
    subst Does (sym c.in-Audit.is) (inr (comes_or _ _ _ _ _ _ _ _ c.audit_histories.result old new (λ text whole. whole) (λ text begun. begun) (λ v text answer. answer) (λ bad. bad) done))

pub returns-in-AuditOrdered-clause-does : goal.returns-in-AuditOrdered-clause-does
returns-in-AuditOrdered-clause-does g c =
    let holds = g.S.Source.holds c.args.given.now.source in
    let databases = c.args.given.now.databases in
    let input = g.I.Read.remaining c.args.given.now.input in
    let given = shown holds (g.D.Databases.holds databases) (g.D.Databases.holds databases) (g.D.Databases.is_clean databases) input input (g.K.Archives.kept_in c.args.given.now.archives) (g.K.Archives.kept_in c.args.given.now.archives) in
    let old = taken_by g.W.Out.taken c.args.console.out in
    let new = taken_by g.W.Out.taken c.audit_ordered.new.out in
    let Does : Task → Type 0 = λ t. DoesTask given t c.audit_ordered.result old new in
    let Of : List ℕ → List (Bor (List ℕ)) → Type 0 = λ ts ws. let words = map (λ p. p.now) ws in
    Comes (AuditsOrdered holds ts c.in-AuditOrdered.history.now words) (HasOrderedFault holds ts c.in-AuditOrdered.history.now words) c.audit_ordered.result old new in
    let one = subst (λ ts. Of ts c.deref-in-AuditOrdered-2.result.now) c.deref-in-AuditOrdered.ensures.value c.audit_ordered.ensures in
    let done = subst (λ ws. Of c.in-AuditOrdered.order.items ws) c.deref-in-AuditOrdered-2.ensures.value one in
    subst Does (sym c.in-AuditOrdered.is) (inr (comes_or _ _ _ _ _ _ _ _ c.audit_ordered.result old new (λ text whole. whole) (λ text begun. begun) (λ v text answer. answer) (λ bad. bad) done))

pub returns-in-Create-clause-does : goal.returns-in-Create-clause-does
returns-in-Create-clause-does g c =
    let holds = g.S.Source.holds c.args.given.now.source in
    let made = g.D.Databases.holds c.create_store.new.databases c.in-Create.database.now in
    let clean = g.D.Databases.is_clean c.create_store.new.databases in
    let given = shown holds (g.D.Databases.holds c.args.given.now.databases) (g.D.Databases.holds c.create_store.new.databases) clean (g.I.Read.remaining c.args.given.now.input) (g.I.Read.remaining c.args.given.now.input) (g.K.Archives.kept_in c.args.given.now.archives) (g.K.Archives.kept_in c.args.given.now.archives) in
    let old = taken_by g.W.Out.taken c.args.console.out in
    let new = taken_by g.W.Out.taken c.create_store.new.out in
    let Does : Task → Type 0 = λ t. DoesTask given t c.create_store.result old new in
    let Of : List (Bor (List ℕ)) → Type 0 = λ ws. let words = map (λ p. p.now) ws in
    Comes (CreatesStore clean made holds c.in-Create.objects.now words) (HasCreateFault holds c.in-Create.objects.now words) c.create_store.result old new in
    let done = subst Of c.deref-in-Create.ensures.value c.create_store.ensures.comes in
    subst Does (sym c.in-Create.is) (inr (comes_or _ _ _ _ _ _ _ _ c.create_store.result old new (λ text whole. whole) (λ text begun. begun) (λ v text answer. answer) (λ bad. bad) done))

pub returns-in-Extend-clause-does : goal.returns-in-Extend-clause-does
returns-in-Extend-clause-does g c =
    let holds = g.S.Source.holds c.args.given.now.source in
    let made = g.D.Databases.holds c.extend_store.new.databases c.in-Extend.database.now in
    let held = g.D.Databases.holds c.args.given.now.databases c.in-Extend.database.now in
    let clean = g.D.Databases.is_clean c.extend_store.new.databases in
    let given = shown holds (g.D.Databases.holds c.args.given.now.databases) (g.D.Databases.holds c.extend_store.new.databases) clean (g.I.Read.remaining c.args.given.now.input) (g.I.Read.remaining c.args.given.now.input) (g.K.Archives.kept_in c.args.given.now.archives) (g.K.Archives.kept_in c.args.given.now.archives) in
    let old = taken_by g.W.Out.taken c.args.console.out in
    let new = taken_by g.W.Out.taken c.extend_store.new.out in
    let Does : Task → Type 0 = λ t. DoesTask given t c.extend_store.result old new in
    let Of : List (Bor (List ℕ)) → Type 0 = λ ws. let words = map (λ p. p.now) ws in
    Comes (ExtendsStore clean held made holds c.in-Extend.objects.now words) ⊤ c.extend_store.result old new in
    let done = subst Of c.deref-in-Extend.ensures.value c.extend_store.ensures in
    subst Does (sym c.in-Extend.is) (inr (comes_or _ _ _ _ _ _ _ _ c.extend_store.result old new (λ text whole. whole) (λ text begun. begun) (λ v text answer. answer) (λ bad. bad) done))

pub returns-in-Serve-clause-does : goal.returns-in-Serve-clause-does
returns-in-Serve-clause-does g c =
    let before = c.args.given.now in
    let behind = c.do_serve.new.given in
    let given = shown (g.S.Source.holds before.source) (g.D.Databases.holds before.databases) (g.D.Databases.holds behind.databases) (g.D.Databases.is_clean behind.databases)
    (g.I.Read.remaining before.input) (g.I.Read.remaining behind.input) (g.K.Archives.kept_in before.archives) (g.K.Archives.kept_in behind.archives) in
    let old = taken_by g.W.Out.taken c.args.console.out in
    let new = taken_by g.W.Out.taken c.do_serve.result.1.out in
    let Does : Task → Type 0 = λ t. DoesTask given t c.do_serve.result.0 old new in
    let At : ℕ → Bor (List ℕ) → Type 0 = λ least p. ComesOfServing (BeginsServing least given.clean (given.databases p.now) (given.made p.now) given.input given.rest)
    (ServesDatabase least given.clean (given.databases p.now) (given.made p.now) given.input given.rest) c.do_serve.result.0 old new in
    let Keeps : ℕ → Bor (List ℕ) → Option (Bor (List ℕ)) → Type 0 = λ least p a. let folder = option_map (λ f. f.now) a in
    OnOk c.do_serve.result.0 (ArchivesEpochs least given.clean (given.databases p.now) (given.made p.now) (given.kept folder) (given.kept_now folder)) in
    let stay = c.serving-asked.ensures.outcomes in
    let comes_there = subst (At c.serving-asked.result.outcomes) c.serving-asked.ensures.path c.do_serve.ensures.comes in
    let comes = subst (λ least. At least c.in-Serve.database) stay comes_there in
    let at_path = subst (λ p. Keeps c.serving-asked.result.outcomes p c.serving-asked.result.archive) c.serving-asked.ensures.path c.do_serve.ensures.archives in
    let in_folder = subst (Keeps c.serving-asked.result.outcomes c.in-Serve.database) c.serving-asked.ensures.archive at_path in
    let keeps = subst (λ least. Keeps least c.in-Serve.database c.in-Serve.archive) stay in_folder in
    subst Does (sym c.in-Serve.is) (inl (tt, keeps_too given c.in-Serve.outcomes c.in-Serve.database.now (option_map (λ f. f.now) c.in-Serve.archive) _ c.do_serve.result.0 old new comes keeps))

pub returns-in-Serve-clause-err : goal.returns-in-Serve-clause-err
returns-in-Serve-clause-err g c =
    let before = c.args.given.now in
    let behind = c.do_serve.new.given in
    let given = shown (g.S.Source.holds before.source) (g.D.Databases.holds before.databases) (g.D.Databases.holds behind.databases) (g.D.Databases.is_clean behind.databases)
    (g.I.Read.remaining before.input) (g.I.Read.remaining behind.input) (g.K.Archives.kept_in before.archives) (g.K.Archives.kept_in behind.archives) in
    let err = g.E.Out.taken c.args.console.err in
    let new_err = g.E.Out.taken c.do_serve.result.1.err in
    let Passes : Task → Type 0 = λ t. PassesOn given t c.do_serve.result.0 err new_err in
    let Says : Bor (List ℕ) → Type 0 = λ p. OnOk c.do_serve.result.0 (SaysFound given.clean (given.databases p.now) p.now err new_err) in
    subst Passes (sym c.in-Serve.is)
    (served given c.in-Serve.database c.in-Serve.fast c.in-Serve.archive c.in-Serve.drain c.in-Serve.outcomes c.do_serve.result.0 err new_err (subst Says c.serving-asked.ensures.path c.do_serve.ensures.says))
