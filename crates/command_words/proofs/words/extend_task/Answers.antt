use Rattle.std.proofs.Common.{ap, ◌∙◌}
use Rattle.std.specs.Prelude.{codes}
use Rattle.clap.specs.Walk.{first_of}
use Rattle.command_words.specs.Words as asked
use Rattle.command_words.proofs.ParseLemmas.{database_read, order_is}
use Rattle.command_words.proofs.words.extend_task.Goals as goal

pub store_words-requires : goal.store_words-requires
store_words-requires c =
    let has = c.requires in
    (has.1, has.2, database_read c.args.values.now has.0 has.1 has.2 has.3)

pub database_word-requires : goal.database_word-requires
database_word-requires c =
    let has = c.requires in
    (has.0, ap (first_of (codes "database")) has.3)

pub returns : goal.returns
returns c database objects types has =
    let read = c.in_ok-objects.ensures objects types (database_read c.args.values.now database objects types has) in
    order_is asked.extend database objects types _ _ _ (c.database_word.ensures database (ap (first_of (codes "database")) has)) read.0 read.1
