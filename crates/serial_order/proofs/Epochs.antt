-- Epochs are serial, one after another.
use Rattle.std.proofs.Common.{◌≡◌, ℕ, List, [], ◌∷◌, ◌++◌, map, length, Option, Some, slice_get, refl, sym, ap, subst, ◌∙◌, inl, inr}
use Rattle.std.specs.Option.{option_map}
use Rattle.std.proofs.lemmas.Option.{same_Some, slice_get-map}
use Rattle.type_table.specs.Table.{Table, table_at}
use Rattle.type_table.specs.Run.{run, IsLegal, Looks, AreEqui}
use Rattle.type_table.specs.Laws.{RunsAlike, RunsAlong, LooksExtends, EquiExtends, IsExtended}
use Rattle.type_table.specs.declared.kind.Kind.{Kind}
use Rattle.type_table.specs.declared.kind.Kind.TheVariants.{Undo, Intentions, Escrow}
use Rattle.table_checker.specs.Checked.{Checked, IsChecked, IsStrong}
use Rattle.object_trait.specs.Object.{object_of}
use Rattle.table_checker.specs.At.{AtIsChecked, AtIsStrong, IsInside, checked_at}
use Rattle.object_trait.specs.Laws.{CheckedIsCovered}
use Rattle.object_trait.specs.declared.event.Event.{Event}
use Rattle.serial_order.specs.Operations.{ops}
use Rattle.serial_order.specs.Machine.{IsRun}
use Rattle.serial_order.specs.Serial.{serial_at, serial_state}
use Rattle.serial_order.specs.Represent.{KeptAgreesBy}
use Rattle.serial_order.specs.Laws.{AreChecked, CheckedHeadline}
use Rattle.serial_order.specs.Epochs.{Epoch, types_at, types_behind, IsKeptAt, IsEpoch, AreInTurn, AreEpochs, types_after, serial_over, IsSerialOver, EpochsAreSerial, EpochsGoOn}
use Rattle.serial_order.proofs.EpochTypes.{is-at, found-parts, goes-on}
use Rattle.serial_order.proofs.EpochStarts.{legal-from, looks-from, looks-to, equi-from, equi-to}

-- ---- types at kept states

-- they are checked where each may begin there, and so is what is added
pub behind-inside : AtIsChecked → (types : List Checked) (e : Epoch) → AreChecked types → AreChecked e.added
    → ((x : ℕ) (c : Checked) (s : ℕ) → slice_get types x ≡ Some c → slice_get e.kept x ≡ Some s → IsInside c s) → AreChecked (types_behind types e)
behind-inside law types e checked added inside = λ x d there.
    elim (found-parts (types_at types e.kept) e.added x d there) [
      | inl old ↦
          let it = is-at types e.kept x d old in
          subst IsChecked it.is (law it.c it.s (checked x it.c it.type) (inside x it.c it.s it.type it.state))
      | inr new ↦ added new.0 d new.1
    ]

pub behind-checked : AtIsChecked → (types : List Checked) (e : Epoch) → AreChecked types → IsEpoch types e → AreChecked (types_behind types e)
behind-checked law types e checked epoch = behind-inside law types e checked epoch.added (λ x c s there state. (epoch.kept x c s there state).inside)

-- ---- serial runs

-- each epoch is serially legal
serial-in : CheckedHeadline → (types : List Checked) (H : List Event) → AreChecked types → IsRun (map object_of types) H
    → (x : ℕ) (c : Checked) → slice_get types x ≡ Some c → IsLegal c.file.table (Some c.file.table.initial) (ops (serial_at x H))
serial-in headline types H checked going x c there =
    (headline types H checked going).serially_legal x (object_of c) (slice_get-map object_of types x ∙ ap (option_map object_of) there)

-- ---- epochs of some sort

-- what is needed of such epochs: each is a run, keeps of each object a state that agrees with the serial one, and leaves types that are checked
pub record AgreeInTurn (E : List Checked → Epoch → Type 0) : Type 0 where
  pub run : (types : List Checked) (e : Epoch) → E types e → IsRun (map object_of types) e.history
  pub as_many : (types : List Checked) (e : Epoch) → E types e → length e.kept ≡ length types
  pub behind : (types : List Checked) (e : Epoch) → AreChecked types → E types e → AreChecked (types_behind types e)
  pub looks : (types : List Checked) (e : Epoch) (x : ℕ) (c : Checked) (s : ℕ) → AreChecked types → E types e → slice_get types x ≡ Some c → slice_get e.kept x ≡ Some s
      → Looks c.file.table (Some s) (serial_state (object_of c) x e.history)
  pub equi : (types : List Checked) (e : Epoch) (x : ℕ) (c : Checked) (s : ℕ) → AreChecked types → E types e → slice_get types x ≡ Some c → slice_get e.kept x ≡ Some s → IsStrong c
      → AreEqui c.file.table (Some s) (serial_state (object_of c) x e.history)

-- ---- over all epochs, by a relation of states that goes on along operations

module _ (R : Table → Option ℕ → Option ℕ → Type 0) (extends : (T : Table) → IsExtended T (R T))
    (from : (T : Table) (i : ℕ) (a b : Option ℕ) → R (table_at T i) a b → R T a b)
    (to : (T : Table) (i : ℕ) (a b : Option ℕ) → R T a b → R (table_at T i) a b)
    (P : Checked → Type 0) (stays : (c : Checked) (s : ℕ) → P c → P (checked_at c s))
    (E : List Checked → Epoch → Type 0) (known : AgreeInTurn E)
    (agrees : (types : List Checked) (e : Epoch) (x : ℕ) (c : Checked) (s : ℕ) → AreChecked types → E types e → slice_get types x ≡ Some c → slice_get e.kept x ≡ Some s → P c
    → R c.file.table (Some s) (serial_state (object_of c) x e.history))
    (alike : RunsAlike) (along : RunsAlong) (headline : CheckedHeadline) where
  -- what comes of the epochs from a state to which the initial one is related
  record IsOver (T : Table) (b : Option ℕ) (last : Checked) (x : ℕ) (es : List Epoch) : Type 0 where
    legal : IsLegal T b (serial_over x es)
    related : R T (Some last.file.table.initial) (run T b (serial_over x es))

  over : (types : List Checked) (es : List Epoch) (x : ℕ) (c last : Checked) (b : Option ℕ) → AreChecked types → AreInTurn E types es
      → slice_get types x ≡ Some c → slice_get (types_after types es) x ≡ Some last → P c → R c.file.table (Some c.file.table.initial) b
      → IsOver c.file.table b last x es
  over types [] x c last b checked epochs there end holds related =
      let same : c ≡ last = same_Some c last (sym there ∙ end) in
      record {
        legal = ((extends c.file.table).after (Some c.file.table.initial) b [] related refl).0;
        related = subst (λ (d : Checked). R c.file.table (Some d.file.table.initial) b) same related;
      }
  over types (e ∷ es) x c last b checked epochs there end holds related =
      let T = c.file.table in
      let w = ops (serial_at x e.history) in
      let legal = serial-in headline types e.history checked (known.run types e epochs.0) x c there in
      let after = (extends T).after (Some T.initial) b w related legal in
      let it = goes-on types e x c (known.as_many types e epochs.0) there in
      let kept = agrees types e x c it.s checked epochs.0 there it.state holds in
      let reached : R T (Some it.s) (run T b w) = (extends T).through (Some it.s) (run T (Some T.initial) w) (run T b w) kept after.1 in
      let rest = over (types_behind types e) es x (checked_at c it.s) last (run T b w) (known.behind types e checked epochs.0) epochs.1 it.behind end (stays c it.s holds)
      (to T it.s (Some it.s) (run T b w) reached) in
      record {
        legal = rw (along T b w (serial_over x es)) (legal-from alike T it.s (run T b w) (serial_over x es) rest.legal);
        related = rw (along T b w (serial_over x es), ← (alike T it.s (run T b w) (serial_over x es))) (from T it.s (Some last.file.table.initial) (run (table_at T it.s) (run T b w) (serial_over x es)) rest.related);
      }

-- the last types are checked
after-checked : (E : List Checked → Epoch → Type 0) → AgreeInTurn E → (types : List Checked) (es : List Epoch) → AreChecked types → AreInTurn E types es → AreChecked (types_after types es)
after-checked E known types [] checked epochs = checked
after-checked E known types (e ∷ es) checked epochs = after-checked E known (types_behind types e) es (known.behind types e checked epochs.0) epochs.1

-- steps at a later epoch are those of the first
after-legal : RunsAlike → (E : List Checked → Epoch → Type 0) → AgreeInTurn E → (types : List Checked) (es : List Epoch) (x : ℕ) (c last : Checked) (from : Option ℕ) (ks : List ℕ) → AreInTurn E types es → slice_get types x ≡ Some c → slice_get (types_after types es) x ≡ Some last
    → IsLegal last.file.table from ks → IsLegal c.file.table from ks
after-legal alike E known types [] x c last from ks epochs there end legal = subst (λ (d : Checked). IsLegal d.file.table from ks) (same_Some last c (sym end ∙ there)) legal
after-legal alike E known types (e ∷ es) x c last from ks epochs there end legal =
    let it = goes-on types e x c (known.as_many types e epochs.0) there in
    legal-from alike c.file.table it.s from ks (after-legal alike E known (types_behind types e) es x (checked_at c it.s) last from ks epochs.1 it.behind end legal)

-- epochs of such a sort are serial, one after another
pub serial-in-turn : RunsAlike → AtIsStrong → CheckedHeadline → LooksExtends → EquiExtends → RunsAlong → (E : List Checked → Epoch → Type 0) → AgreeInTurn E
    → (types : List Checked) (es : List Epoch) → AreChecked types → AreInTurn E types es
    → (x : ℕ) (c last : Checked) → slice_get types x ≡ Some c → slice_get (types_after types es) x ≡ Some last
    → IsSerialOver c last x es
    × ((H : List Event) → IsRun (map object_of (types_after types es)) H → IsLegal c.file.table (Some c.file.table.initial) (serial_over x es ++ ops (serial_at x H)))
serial-in-turn alike strong_law headline looks equi along E known = λ types es checked epochs x c last there end.
    let T = c.file.table in
    let by_looks = over Looks looks (looks-from alike) (looks-to alike) (λ c. Unit {0}) (λ c s h. tt) E known (λ types e x c s checked epoch there state h. known.looks types e x c s checked epoch there state) alike along headline
    types es x c last (Some T.initial) checked epochs there end tt ((looks T).itself (Some T.initial)) in (
      record {
        legal = by_looks.legal;
        looks = by_looks.related;
        equi = λ strong.
            (over AreEqui equi (equi-from alike) (equi-to alike) IsStrong strong_law E known known.equi alike along headline
            types es x c last (Some T.initial) checked epochs there end strong ((equi T).itself (Some T.initial))).related;
      },
      λ H going.
          let w = ops (serial_at x H) in
          let legal = after-legal alike E known types es x c last (Some last.file.table.initial) w epochs there end
          (serial-in headline (types_after types es) H (after-checked E known types es checked epochs) going x last end) in
          rw (along T (Some T.initial) (serial_over x es) w) (by_looks.related w legal),
    )

-- ---- closed epochs

-- the kept state looks like the serial one
kept-looks : (c : Checked) (s x : ℕ) (H : List Event) → IsKeptAt c s x H → Looks c.file.table (Some s) (serial_state (object_of c) x H)
kept-looks c s x H kept = by c.kind kept.agrees
  where
    by : (kind : Kind) → KeptAgreesBy kind (object_of c) (Some s) x H → Looks c.file.table (Some s) (serial_state (object_of c) x H)
    by Undo agrees = (agrees kept.idle).0
    by Intentions agrees = agrees.0
    by Escrow agrees = subst (Looks c.file.table (Some s)) agrees (λ ks legal. legal)

-- and where the yes is strong it is equieffective
kept-equi : CheckedIsCovered → (c : Checked) (s x : ℕ) (H : List Event) → IsChecked c → IsStrong c → IsKeptAt c s x H → AreEqui c.file.table (Some s) (serial_state (object_of c) x H)
kept-equi covered c s x H checked strong kept = by c.kind kept.agrees
  where
    by : (kind : Kind) → KeptAgreesBy kind (object_of c) (Some s) x H → AreEqui c.file.table (Some s) (serial_state (object_of c) x H)
    by Undo agrees = (agrees kept.idle).1 ((covered c checked).1 strong)
    by Intentions agrees = agrees
    by Escrow agrees = subst (AreEqui c.file.table (Some s)) agrees (λ ks legal. legal, λ ks legal. legal)

closed-agree : AtIsChecked → CheckedIsCovered → AgreeInTurn IsEpoch
closed-agree law covered = record {
  run = λ types e epoch. epoch.run;
  as_many = λ types e epoch. epoch.as_many;
  behind = behind-checked law;
  looks = λ types e x c s checked epoch there state. kept-looks c s x e.history (epoch.kept x c s there state);
  equi = λ types e x c s checked epoch there state strong. kept-equi covered c s x e.history (checked x c there) strong (epoch.kept x c s there state);
}

pub epochs-are-serial : RunsAlike → AtIsChecked → AtIsStrong → CheckedIsCovered → CheckedHeadline → LooksExtends → EquiExtends → RunsAlong → EpochsAreSerial
epochs-are-serial alike at_law strong_law covered headline looks equi along = serial-in-turn alike strong_law headline looks equi along IsEpoch (closed-agree at_law covered)

-- ---- one epoch more

go-on : (types : List Checked) (es : List Epoch) (e : Epoch) → AreEpochs types es → IsEpoch (types_after types es) e → AreEpochs types (es ++ e ∷ [])
go-on types [] e epochs next = (next, tt)
go-on types (f ∷ es) e epochs next = (epochs.0, go-on (types_behind types f) es e epochs.1 next)

after-more : (types : List Checked) (es : List Epoch) (e : Epoch) → types_after types (es ++ e ∷ []) ≡ types_behind (types_after types es) e
after-more types [] e = refl
after-more types (f ∷ es) e = after-more (types_behind types f) es e

pub epochs_go_on : EpochsGoOn
epochs_go_on types es e epochs next = (go-on types es e epochs next, after-more types es e)
