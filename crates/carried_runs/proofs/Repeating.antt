-- A run that is done again, one event after another.
use Rattle.std.proofs.Common.{◌≡◌, ℕ, suc, ◌+◌, ◌<◌, ◌==◌, true, false, List, [], ◌∷◌, ◌++◌, length, map, set, take, drop, get_or, Option, Some, None, option_map, slice_get, refl, sym, ap, subst, ◌∙◌, inl, inr, arith}
use Rattle.std.specs.List.{AllByRecursion}
use Rattle.std.proofs.lemmas.Bool.{eq-eqb, false≢true}
use Rattle.std.proofs.lemmas.List.{take-append-drop, drop_more, take_more, length-take-le, length-map, map-set}
use Rattle.std.proofs.Math.Seq.{map-set_same}
use Rattle.std.proofs.lemmas.Option.{slice_get-map, slice_get_within, slice_get_read, get_or_from_slice_get}
use Rattle.type_table.proofs.Elements.{cases-set, eqb-sym, found-map, each-append, each-map}
use Rattle.object_trait.specs.Object.{Object, object_of}
use Rattle.object_trait.specs.Meaning.{Meaning, object}
use Rattle.object_trait.specs.Steps.{applied}
use Rattle.object_trait.specs.declared.event.Event.{Event}
use Rattle.object_trait.specs.declared.event.EventKind.{EventKind}
use Rattle.object_trait.specs.declared.event.EventKind.TheVariants as kind
use Rattle.object_trait.specs.declared.event.EventKind.TheVariants.{Begin, Op, Busy, Commit, Abort, Rollback}
use Rattle.serial_order.specs.History.{Summary, summary}
use Rattle.serial_order.specs.Machine.{MayDo, May, MayFollow, IsRun}
use Rattle.serial_order.specs.After.{LogsAreCounted}
use Rattle.serial_order.specs.Laws.{MachineMayApply, RepresentsOn}
use Rattle.serial_order.proofs.Pairs.{each-all, each-rest}
use Rattle.committed_states.proofs.Fronts.{runs-front, runs-rest}
use Rattle.carried_runs.specs.Carried.{begins_from, done_again}
use Rattle.carried_runs.specs.Laws.{CarriedWorks}
use Rattle.carried_runs.specs.Objects.{objects_meant, AreRepresenting}
use Rattle.carried_runs.specs.Redo.{begins_or_works, MayRedo, Redoes, AreRedone}

-- ---- objects

-- the object of a meaning that is there
object-there : (ms : List Meaning) (x : ℕ) (m : Meaning) → slice_get ms x ≡ Some m → slice_get (objects_meant ms) x ≡ Some (object m)
object-there ms x m there =
    slice_get-map object_of (map (λ (k : Meaning). k.checked) ms) x ∙ ap (option_map object_of) (slice_get-map (λ (k : Meaning). k.checked) ms x ∙ ap (option_map (λ (k : Meaning). k.checked)) there)

-- where the machine may do something there is such a meaning
pub meaning-there : (ms : List Meaning) (s : Summary) (x t k : ℕ) → MayDo (slice_get (objects_meant ms) x) s x t k → (m : Meaning) × (slice_get ms x ≡ Some m)
meaning-there ms s x t k may = found (slice_get (objects_meant ms) x) refl may
  where
    found : (o : Option Object) → slice_get (objects_meant ms) x ≡ o → MayDo o s x t k → (m : Meaning) × (slice_get ms x ≡ Some m)
    found None is h = absurd h
    found (Some o) is h =
        let type = found-map object_of (map (λ (k : Meaning). k.checked) ms) x o is in
        let it = found-map (λ (k : Meaning). k.checked) ms x type.0 type.1 in
        (it.0, it.1)

-- with one more operation at one of them, they are the same objects
objects-applied : (ms : List Meaning) (x t k : ℕ) (m : Meaning) → slice_get ms x ≡ Some m → objects_meant (set ms x (applied m t k)) ≡ objects_meant ms
objects-applied ms x t k m there =
    let at : get_or ms x m ≡ m = get_or_from_slice_get ms x m m there in
    ap (map object_of) (map-set_same (λ (k : Meaning). k.checked) ms x (applied m t k) m (ap (λ (k : Meaning). k.checked) (sym at)))

-- ---- one event

module _ (old now : List Meaning) (events : List Event) (i : ℕ) (e : Event) (run : IsRun (objects_meant old) events) (works : AllByRecursion (λ f. begins_or_works f.kind ≡ true) events)
    (known : AreRedone old now events i) (inside : i < length events) (is : e ≡ get_or events i e) where
  abbrev so_far : List Event
  so_far = take i events

  whole : events ≡ so_far ++ e ∷ drop (i + 1) events
  whole = sym (take-append-drop i events) ∙ ap (λ es. so_far ++ es) (drop_more events i e inside ∙ ap (λ f. f ∷ drop (i + 1) events) (sym is))

  longer : take (i + 1) events ≡ so_far ++ e ∷ []
  longer = take_more events i e inside ∙ ap (λ f. so_far ++ f ∷ []) (sym is)

  parts : IsRun (objects_meant now) (so_far ++ e ∷ drop (i + 1) events)
  parts = subst (λ os. IsRun os (so_far ++ e ∷ drop (i + 1) events)) (sym known.types) (subst (IsRun (objects_meant old)) whole run)

  going : IsRun (objects_meant now) so_far
  going = runs-front (objects_meant now) [] so_far (e ∷ drop (i + 1) events) parts

  may : MayFollow (objects_meant now) so_far e
  may = (runs-rest (objects_meant now) [] so_far (e ∷ drop (i + 1) events) parts).0

  work : begins_or_works e.kind ≡ true
  work = (each-rest (λ f. begins_or_works f.kind ≡ true) so_far (e ∷ drop (i + 1) events) (subst (AllByRecursion (λ f. begins_or_works f.kind ≡ true)) whole works)).0

  -- it may be done
  pub may-redo : MachineMayApply → LogsAreCounted → length events < 4294967295 → MayRedo now e.kind
  may-redo applies counted room = by e.kind may
    where
      by : (happened : EventKind) → May (objects_meant now) (summary so_far) happened → MayRedo now happened
      by (Op k t x) h =
          let it = meaning-there now (summary so_far) x t k h.1 in
          let represents = known.represent x it.0 it.1 in
          let short = (counted it.0 x so_far represents).short in
          let taken = length-take-le i events (omega (arith, inside)) in
          (it.0, it.1, applies (objects_meant now) so_far 0 t x k it.0 going h (object-there now x it.0 it.1) represents (omega (arith, short, taken, room, inside)))
      by (Begin t) h = tt
      by (Busy c t x u) h = tt
      by (kind.None t x c) h = tt
      by (Commit t) h = tt
      by (Abort t) h = tt
      by (Rollback t n) h = tt

  -- and then one event more was done
  pub redo-next : RepresentsOn → (next : List Meaning) → Redoes now e.kind next → AreRedone old next events (i + 1)
  redo-next represents next does = by e.kind e.worker refl work may does
    where
      over : (happened : EventKind) (w : ℕ) → (record { worker = w; kind = happened }) ≡ e → objects_meant next ≡ objects_meant now → AreRepresenting next (so_far ++ (record { worker = w; kind = happened }) ∷ [])
          → AreRedone old next events (i + 1)
      over happened w same types represent = record { types = types ∙ known.types; represent = subst (AreRepresenting next) (ap (λ f. so_far ++ f ∷ []) same ∙ sym longer) represent }

      by : (happened : EventKind) (w : ℕ) → (record { worker = w; kind = happened }) ≡ e → begins_or_works happened ≡ true → May (objects_meant now) (summary so_far) happened → Redoes now happened next
          → AreRedone old next events (i + 1)
      by (Begin t) w same works h same_now =
          over (Begin t) w same (ap objects_meant same_now)
          (λ x m there. let found : slice_get now x ≡ Some m = ap (λ ms. slice_get ms x) (sym same_now) ∙ there in
          represents (objects_meant now) so_far (record { worker = w; kind = Begin t }) x m m going h (object-there now x m found) (known.represent x m found) refl)
      by (Op k t x) w same works h did =
          let m = did.0 in
          let event : Event = record { worker = w; kind = Op k t x } in
          over (Op k t x) w same (ap objects_meant did.2 ∙ objects-applied now x t k m did.1)
          (λ y n there. elim (cases-set now x (applied m t k) y n (ap (λ ms. slice_get ms y) (sym did.2) ∙ there)) [
            | inl here ↦
                let found : slice_get now y ≡ Some m = ap (slice_get now) here.0 ∙ did.1 in
                let one : (x == y) ≡ true = eq-eqb x y (sym here.0) in
                represents (objects_meant now) so_far event y m n going h (object-there now y m found) (known.represent y m found) (rw one (sym here.1))
            | inr elsewhere ↦
                let other : (x == y) ≡ false = eqb-sym x y ∙ elsewhere.0 in
                represents (objects_meant now) so_far event y n n going h (object-there now y n elsewhere.1) (known.represent y n elsewhere.1) (rw other refl)
          ])
      by (Busy c t x u) w same works h did = absurd (false≢true works)
      by (kind.None t x c) w same works h did = absurd (false≢true works)
      by (Commit t) w same works h did = absurd (false≢true works)
      by (Abort t) w same works h did = absurd (false≢true works)
      by (Rollback t n) w same works h did = absurd (false≢true works)

-- ---- objects, as what they mean

module _ {A : Type 0} (meaning : A → Meaning) (objects : List A) (x t k : ℕ) (may : MayRedo (map meaning objects) (Op k t x)) where
  redo-within : x < length objects
  redo-within =
      let low = slice_get_within (map meaning objects) x may.0 may.1 in
      omega (arith, low, length-map objects meaning)

  module _ (a : A) (is : a ≡ get_or objects x a) where
    there : slice_get (map meaning objects) x ≡ Some (meaning a)
    there = slice_get-map meaning objects x ∙ ap (option_map meaning) (slice_get_read objects (length objects) x a refl redo-within is)

    pub redo-does : (b : A) → meaning b ≡ applied (meaning a) t k → Redoes (map meaning objects) (Op k t x) (map meaning (set objects x b))
    redo-does b does = (meaning a, there, map-set meaning objects x b ∙ ap (set (map meaning objects) x) does)

-- ---- what is carried

begins-work : (worker : ℕ → ℕ) (n : ℕ) (P : List ℕ) → AllByRecursion (λ e. begins_or_works e.kind ≡ true) (begins_from worker n P)
begins-work worker n [] = tt
begins-work worker n (t ∷ P) = (refl, begins-work worker (suc n) P)

pub carried_works : CarriedWorks
carried_works = λ worker P U.
    each-append (λ e. begins_or_works e.kind ≡ true) (begins_from worker 0 P) (map (done_again worker P) U) (begins-work worker 0 P)
    (each-map (λ (e : Event). begins_or_works e.kind ≡ true) (done_again worker P) U (each-all (λ e. refl) U))
