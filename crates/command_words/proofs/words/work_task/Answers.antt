use Rattle.std.proofs.Common.{arith, sym}
use Rattle.command_words.proofs.ParseLemmas.{work_is}
use Rattle.command_words.proofs.words.work_task.Goals as goal

pub store_words-requires : goal.store_words-requires
store_words-requires c =
    let has = c.requires in
    (has.0.jobs, has.0.types, has.2.store)

pub small_number-requires : goal.small_number-requires
small_number-requires c =
    let has = c.requires in
    let most = has.2.whole.few_workers in
    (has.0.workers, omega (arith, most), has.2.workers)

pub small_number-requires-2 : goal.small_number-requires-2
small_number-requires-2 c =
    let has = c.requires in
    let most = has.2.whole.few_tries in
    (has.0.tries, omega (arith, most), has.2.tries)

pub returns : goal.returns
returns c w seedless has =
    let read = c.in_ok-jobs.ensures w.jobs w.types has.store in
    work_is w _ _ _ _ _ read.0 read.1 (c.small_number.ensures w.workers has.workers) (c.small_number-2.ensures w.tries has.tries) (sym seedless)
