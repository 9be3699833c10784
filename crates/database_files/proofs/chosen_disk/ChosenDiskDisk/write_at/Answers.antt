use Rattle.database_files.proofs.chosen_disk.ChosenDiskDisk.write_at.Goals as goal

pub returns-clause-frozen : goal.returns-clause-frozen
returns-clause-frozen g c frozen =
    let (fails, stays) = c.write_at.ensures.frozen frozen in
    (fails, record { frozen = stays.frozen; same = stays.same; clean = stays.clean; no_more = stays.no_more; no_fewer = stays.no_fewer })
