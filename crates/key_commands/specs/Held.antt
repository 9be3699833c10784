-- Transactions that are prepared and not decided.
use Rattle.std.specs.Prelude.{ℕ, Bool, List, filter}
use Rattle.std.specs.Str.{bytes_eq}
use Rattle.object_trait.specs.declared.event.Event.{Event}
use Rattle.serial_order.specs.History.{is_open, summary}
use Rattle.event_text.specs.EventText.{events_of_kinds}
use Rattle.journal.specs.declared.prepared_row.Prepared.{Prepared}
use Rattle.journal.specs.Contents.{Contents}

-- of these, those whose transactions are open: they are prepared and not decided
abbrev pub undecided : List Event → List Prepared → List Prepared
undecided H ps = filter (λ (p : Prepared). is_open (summary H) p.number) ps

-- the transactions that are prepared and not decided
abbrev pub prepared_in : Contents → List Prepared
prepared_in c = undecided (events_of_kinds c.events) c.prepared

-- it is prepared under this key
abbrev pub has_key : List ℕ → Prepared → Bool
has_key key p = bytes_eq p.key key
