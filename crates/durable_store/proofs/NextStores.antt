-- What goes over begins anew in the store of the next epoch: all that is open where each yes is strong, and else what is prepared.
use Rattle.std.proofs.Common.{◌≡◌, ◌↔◌, ◌∙◌, ℕ, suc, Bool, true, false, List, [], ◌∷◌, ◌++◌, map, length, refl, sym, ap, ap₂, subst}
use Rattle.std.specs.declared.alloc.Global.{Global}
use Rattle.std.specs.declared.vec.Vec.{Vec}
use Rattle.std.specs.List.{AllByRecursion}
use Rattle.std.proofs.lemmas.Bool.{false≢true}
use Rattle.std.proofs.lemmas.List.{map-append}
use Rattle.type_table.proofs.Elements.{each-passes, each-weaker}
use Rattle.table_checker.specs.Checked.{Checked}
use Rattle.object_trait.specs.Meaning.{Meaning}
use Rattle.object_trait.specs.declared.event.Event.{Event}
use Rattle.object_trait.specs.declared.event.EventKind.{EventKind}
use Rattle.object_trait.specs.declared.event.EventKind.TheVariants.{Begin}
use Rattle.serial_order.specs.Epochs.{types_at}
use Rattle.serial_order.specs.History.{is_open, summary}
use Rattle.serial_order.specs.Operations.{is_among}
use Rattle.serial_order.specs.declared.entry.Entry.{Entry}
use Rattle.serial_order.proofs.Pairs.{each-all}
use Rattle.carried_runs.specs.Carried.{begins_from, carried_by, done_again}
use Rattle.carried_runs.specs.OpenEpochs.{IsOpenEpoch}
use Rattle.carried_orders.specs.Orders.{AreStrong}
use Rattle.store_laws.specs.Stored.{Stored}
use Rattle.store.specs.CarriesAll.{began_by}
use Rattle.store.specs.declared.refusals.CarryRefusal.{CarryRefusal}
use Rattle.store.proofs.CarriedAll.{open-all}
use Rattle.event_text.specs.EventText.{events_of_kinds}
use Rattle.journal.specs.declared.prepared_row.Prepared.{Prepared}
use Rattle.journal.specs.Contents.{Contents}
use Rattle.durable_store.specs.Durable.{kinds}
use Rattle.durable_store.specs.Epochs.{GoesOver, RefusesOver}
use Rattle.durable_store.specs.Held.{ArePrepared, moved_among, undecided}
use Rattle.durable_store.specs.NextStore.{BeginsNext, GoOver, RefusesNext}
use Rattle.durable_store.proofs.Aborts.{began-zero}
use Rattle.durable_store.proofs.HeldNumbers.{each-among}

-- ---- its first events are of worker 0

begins-by-zero : (worker : ℕ → ℕ) → ((t : ℕ) → worker t ≡ 0) → (n : ℕ) (those : List ℕ) → begins_from worker n those ≡ events_of_kinds (kinds (begins_from worker n those))
begins-by-zero worker zero n [] = refl
begins-by-zero worker zero n (t ∷ those) = ap₂ (λ w es. (let e : Event = record { worker = w; kind = Begin n } in e) ∷ es) (zero t) (begins-by-zero worker zero (suc n) those)

again-by-zero : (worker : ℕ → ℕ) → ((t : ℕ) → worker t ≡ 0) → (those : List ℕ) (order : List Entry) → map (done_again worker those) order ≡ events_of_kinds (kinds (map (done_again worker those) order))
again-by-zero worker zero those [] = refl
again-by-zero worker zero those (e ∷ order) =
    ap₂ (λ w es. (let it : Event = record (done_again worker those e) { worker = w } in it) ∷ es) (zero e.by) (again-by-zero worker zero those order)

both-by-zero : (A B : List Event) → A ≡ events_of_kinds (kinds A) → B ≡ events_of_kinds (kinds B) → A ++ B ≡ events_of_kinds (kinds (A ++ B))
both-by-zero A B a b =
    ap₂ (λ A B. A ++ B) a b ∙ sym (map-append (λ (k : EventKind). let e : Event = record { worker = 0; kind = k } in e) (kinds A) (kinds B))
    ∙ ap events_of_kinds (sym (map-append (λ (e : Event). e.kind) A B))

pub carried-by-zero : (worker : ℕ → ℕ) → ((t : ℕ) → worker t ≡ 0) → (those : List ℕ) (order : List Entry) → carried_by worker those order ≡ events_of_kinds (kinds (carried_by worker those order))
carried-by-zero worker zero those order =
    both-by-zero (begins_from worker 0 those) (map (done_again worker those) order) (begins-by-zero worker zero 0 those) (again-by-zero worker zero those order)

-- ---- by whether each yes is strong

-- the worker of each that goes over
abbrev pub worker_of : Bool → List Event → ℕ → ℕ
worker_of true H t = began_by H t
worker_of false H t = 0

-- which is 0 where all events are of worker 0
pub worker-zero : (strong : Bool) (H : List Event) → H ≡ events_of_kinds (kinds H) → (t : ℕ) → worker_of strong H t ≡ 0
worker-zero true H is t = ap (λ es. began_by es t) is ∙ began-zero (kinds H) t
worker-zero false H is t = refl

-- each that is prepared goes over
all-open : (H : List Event) (rows : List Prepared) → AllByRecursion (λ (p : Prepared). is_open (summary H) p.number ≡ true) (undecided H rows)
all-open H rows =
    each-passes (λ (p : Prepared). is_open (summary H) p.number ≡ true) (λ (p : Prepared). is_open (summary H) p.number) rows
    (each-all {P = λ (p : Prepared). is_open (summary H) p.number ≡ true → is_open (summary H) p.number ≡ true} (λ p passes. passes) rows)

pub prepared-go : (strong : Bool) (H : List Event) (c : Contents) (ps : List Prepared) (those : List ℕ) → ArePrepared H c ps → GoOver strong H ps those → AllByRecursion (λ (p : Prepared). is_among those p.number ≡ true) ps
prepared-go true H c ps those are going =
    subst (λ ns. AllByRecursion (λ (p : Prepared). is_among ns p.number ≡ true) ps) (sym going)
    (each-weaker (λ (p : Prepared) here. open-all H p.number here) ps
    (subst (λ (rs : List Prepared). AllByRecursion (λ (p : Prepared). is_open (summary H) p.number ≡ true) rs) (sym are.are) (all-open H c.prepared)))
prepared-go false H c ps those are going = each-among ps those going

-- a store begins anew at the kept states, and these do again what survives of them
pub record BeginsBy (old : Stored) (worker : ℕ → ℕ) (those : List ℕ) (added : List Checked) (new : Stored) : Type 0 where
  pub kept : List ℕ
  pub epoch : IsOpenEpoch old.types (record { history = old.history; kept = kept; added = added })
  pub order : List Entry
  pub is : new ≡ record { types = types_at old.types kept ++ added; history = carried_by worker those order; limits = old.limits; forgotten = 0 }

pub begins-by : (strong : Bool) (old : Stored) (ps : List Prepared) (those : List ℕ) (added : List Checked) (new : Stored) → GoOver strong old.history ps those → BeginsNext strong old those added new
    → BeginsBy old (worker_of strong old.history) those added new
begins-by true old ps those added new going begins =
    let all = begins.0 in
    let next : List ℕ → Stored = λ ns. record { types = types_at old.types all.kept ++ added; history = carried_by (began_by old.history) ns all.order; limits = old.limits; forgotten = 0 } in
    record { kept = all.kept; epoch = all.epoch; order = all.order; is = all.is ∙ ap next (sym going) }
begins-by false old ps those added new going begins = record { kept = begins.kept; epoch = begins.epoch; order = begins.order; is = begins.is }

-- ---- what goes over

-- a new epoch of the store alone, by whose settling its events are let go
pub goes : (strong : Bool) (added : List Checked) (old : Stored) (prepared : List Prepared) (those : List ℕ) (new : Stored) (ps : List Prepared) → (strong ≡ true) ↔ AreStrong old.types → GoOver strong old.history prepared those
    → BeginsNext strong old those added new → ps ≡ map (moved_among those) prepared → GoesOver added old prepared (record new { forgotten = length new.history }) ps
goes true added old prepared those new ps told going begins are = GoesOver.all (told.0 refl) (new, begins.0, begins.1, refl) (are ∙ ap (λ ns. map (moved_among ns) prepared) going)
goes false added old prepared those new ps told going begins are = GoesOver.some (λ strong. false≢true (told.1 strong)) those going (new, begins, refl) are

-- as it is settled
pub went-over : (added : List Checked) (old : Stored) (prepared : List Prepared) (s : Stored) (ps : Vec Prepared Global) (new : Stored) (now : Vec Prepared Global) → new ≡ record s { forgotten = length s.history } → now ≡ ps
    → GoesOver added old prepared (record s { forgotten = length s.history }) ps.items → GoesOver added old prepared new now.items
went-over added old prepared s ps new now lets same over =
    subst (λ (t : Stored). GoesOver added old prepared t now.items) (sym lets)
    (subst (λ (rs : Vec Prepared Global). GoesOver added old prepared (record s { forgotten = length s.history }) rs.items) (sym same) over)

-- or why it doesn't
pub refuses-over : (strong : Bool) (old : Stored) (prepared : List Prepared) (those : List ℕ) (ms : List Meaning) (why : CarryRefusal) → (strong ≡ true) ↔ AreStrong old.types → GoOver strong old.history prepared those
    → RefusesNext strong old those ms why → RefusesOver old prepared ms why
refuses-over true old prepared those ms why told going refuses = RefusesOver.refuses_all (told.0 refl) refuses
refuses-over false old prepared those ms why told going refuses = RefusesOver.refuses_some (λ strong. false≢true (told.1 strong)) those going refuses

-- a store that has let go of more goes over as well
pub over-forgetful : (s t : Stored) (added : List Checked) (ps : List Prepared) (new : Stored) (qs : List Prepared) → t ≡ record s { forgotten = t.forgotten } → GoesOver added t ps new qs → GoesOver added s ps new qs
over-forgetful s t added ps new qs lets went = again (subst (λ (u : Stored). GoesOver added u ps new qs) lets went)
  where
    again : GoesOver added (record s { forgotten = t.forgotten }) ps new qs → GoesOver added s ps new qs
    again (GoesOver.all strong carries renumbers) =
        let it = carries.1 in
        GoesOver.all strong (carries.0, record { kept = it.kept; epoch = it.epoch; order = it.order; ordered = it.ordered; is = it.is }, carries.2, carries.3) renumbers
    again (GoesOver.some weak those in_order carries renumbers) =
        let it = carries.1 in
        GoesOver.some weak those in_order (carries.0, record { kept = it.kept; epoch = it.epoch; order = it.order; ordered = it.ordered; is = it.is }, carries.2) renumbers
