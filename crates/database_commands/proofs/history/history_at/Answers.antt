use Rattle.journal.specs.Contents.{contents_of}
use Rattle.std.proofs.Common.{◌≡◌}
use Rattle.database_commands.specs.History.{text_of_epoch}
use Rattle.database_commands.proofs.Told.{told}
use Rattle.database_commands.proofs.history.history_at.Goals as goal

pub returns-in-Ok-clause-told : goal.returns-in-Ok-clause-told
returns-in-Ok-clause-told g c =
    told c.history_in-text.result.0 _ _ _ _ _ _ (λ text db. text.items ≡ text_of_epoch (contents_of db)) c.close.ensures.clean c.history_in-text.ensures.clean c.history_in-text.ensures.was_open
    c.in-Ok.ensures.held c.history_in-text.ensures.told
