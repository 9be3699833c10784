use Rattle.database_files.proofs.chosen_disk.ChosenDiskDisk.set_len.Goals as goal

pub returns-clause-frozen : goal.returns-clause-frozen
returns-clause-frozen g c frozen =
    let (fails, stays) = c.set_len.ensures.frozen frozen in
    (fails, record { frozen = stays.frozen; same = stays.same; clean = stays.clean; no_more = stays.no_more; no_fewer = stays.no_fewer })
