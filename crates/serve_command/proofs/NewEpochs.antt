-- The file of a new epoch, at the end of what was served.
use Rattle.std.proofs.Common.{◌≡◌, ◌∙◌, ℕ, suc, false, Option, None, Some, List, [], ◌∷◌, map, refl, sym, ap, subst}
use Rattle.sqlite_trees.specs.declared.store.Store.{Ghosts}
use Rattle.journal.specs.declared.prepared_row.Prepared.{Prepared}
use Rattle.store_laws.specs.Stored.{Stored}
use Rattle.journal.specs.declared.header.Header.{Header}
use Rattle.journal.specs.Contents.{Contents, contents_of, newest_format}
use Rattle.journal.specs.Journal.{Clean, ShowsCommit, written, durable}
use Rattle.durable_store.specs.declared.durable.Durable.{Durable}
use Rattle.durable_store.specs.Durable.{IsDurable, prepared_in, with_all}
use Rattle.durable_store.specs.Epochs.{firsts}
use Rattle.durable_store.specs.Recovered.{IsStoreOf, next_life}
use Rattle.serving.specs.declared.extension.Extension.{Extension}
use Rattle.serving.specs.Epochs.{Reaches, closed_by, closings}
use Rattle.serving.specs.NextEpoch.{IsNextFile, SaysSame}
use Rattle.serving.specs.Server.{life_of}
use Rattle.serving.specs.EpochEnd.{EndsInEpoch}
use Rattle.serving.proofs.ClosedEpochs.{store-as}
use Rattle.serving.proofs.LaterEpochs.{is-store-of, shown-durable}
use Rattle.serving.proofs.NextEpochs.{next-events, next-headers, next-says, says-next-then}
use Rattle.serve_command.specs.Served.{BeginsEpoch, StaysInLife, ids_in}

-- ---- what a file keeps

-- headers of another life
raised-ids : (life : ℕ) (hs : List Header) → map (λ (h : Header). h.id) (map (λ (h : Header). let raised : Header = record h { format = newest_format; life = life } in raised) hs) ≡ map (λ (h : Header). h.id) hs
raised-ids life [] = refl
raised-ids life (h ∷ hs) = ap (λ ids. h.id ∷ ids) (raised-ids life hs)

next-ids : (waits : Option Extension) (ps : List Prepared) (old new : Stored) (qs : List Prepared) (c now : Contents) → IsNextFile waits ps old new qs c now → ids_in now ≡ ids_in c
next-ids waits ps old new qs c now next = ap (λ hs. map (λ (h : Header). h.id) hs) (next-headers waits ps old new qs c now next) ∙ raised-ids (next_life c.headers) c.headers

-- whatever it comes to
reached-ids : {c : Contents} {ended : List Contents} {d : Contents} → Reaches c ended d → ids_in d ≡ ids_in c
reached-ids Reaches.none = refl
reached-ids (Reaches.events ended mid new before more) = ap ids_in more.others ∙ reached-ids before
reached-ids (Reaches.epoch ended mid now waits old new qs before is next) = next-ids waits (prepared_in mid) old new qs mid now next ∙ reached-ids before

-- a file that begins anew begins at the states of its store
next-states : (waits : Option Extension) (ps : List Prepared) (old new : Stored) (qs : List Prepared) (c now : Contents) → IsNextFile waits ps old new qs c now → now.states ≡ firsts new.types
next-states None ps old new qs c now next = ap (λ (x : Contents). x.states) next.1
next-states (Some e) ps old new qs c now next = ap (λ (x : Contents). x.states) next.is

-- ---- the new epoch

pub begins-epoch : {S : Type 0} (g : Ghosts S) (file said : Contents) (waits : Option Extension) (ended : List Contents) (last now : Durable S) (life : ℕ) → Reaches file ended (written g last.journal) → SaysSame said (written g last.journal)
    → IsDurable g now → ShowsCommit g now.journal → Clean g now.journal
    → IsNextFile waits last.prepared.items (closed_by false last.prepared.items last.store) now.store now.prepared.items
    (with_all (written g last.journal) (closings false last.prepared.items last.store)) (durable g now.journal) → life_of now ≡ suc life
    → BeginsEpoch file said waits life (g.view now.journal.store).committed now.store now.prepared.items
begins-epoch g file said waits ended last now life reached says sound shows clean is lives =
    let c = with_all (written g last.journal) (closings false last.prepared.items last.store) in
    let old = closed_by false last.prepared.items last.store in
    let ps = last.prepared.items in
    let qs = now.prepared.items in
    let d = durable g now.journal in
    let headers : d.headers ≡ now.journal.header ∷ [] =
    sym (ap (λ (x : Contents). x.headers) (ap contents_of (shows clean).0.clean)) ∙ (sound.journal clean).0.header_is (shows clean).0.sound in
    record {
      events = next-events waits ps old now.store qs c d is;
      states = next-states waits ps old now.store qs c d is;
      says = says-next-then waits qs said c d says (next-says waits ps old now.store qs c d is);
      id = next-ids waits ps old now.store qs c d is ∙ reached-ids reached;
      life = (now.journal.header, headers, lives);
    }

-- ---- the same one

pub stays-in-life : {S : Type 0} (g : Ghosts S) (file said : Contents) (ended : List Contents) (last now : Durable S) (life : ℕ) → Reaches file ended (written g last.journal) → SaysSame said (written g last.journal)
    → IsDurable g now → ShowsCommit g now.journal → Clean g now.journal → EndsInEpoch g last now → life_of last ≡ life
    → StaysInLife file said life (closed_by false last.prepared.items last.store) (g.view now.journal.store).committed
stays-in-life {S} g file said ended last now life reached says sound shows clean goes lives =
    let c = with_all (written g last.journal) (closings false last.prepared.items last.store) in
    let is = goes.durable clean in
    let headers : (durable g now.journal).headers ≡ now.journal.header ∷ [] = sym (ap (λ (x : Contents). x.headers) (ap contents_of (shows clean).0.clean)) ∙ (sound.journal clean).0.header_is (shows clean).0.sound in
    record {
      store = subst (λ (x : Contents). IsStoreOf x (closed_by false last.prepared.items last.store)) (sym (shown-durable g now shows clean))
          (store-as (closed_by false last.prepared.items last.store) now.store (written g now.journal) goes.store (is-store-of g now sound clean));
      says = (ap (λ (x : Contents). x.objects) is ∙ says.0, ap (λ (x : Contents). x.types) is ∙ says.1, ap (λ (x : Contents). x.outcomes) is ∙ says.2, ap (λ (x : Contents). x.prepared) is ∙ says.3);
      id = ap ids_in is ∙ reached-ids reached;
      lives = (now.journal.header, headers, ap (λ (h : Header). h.life) goes.life ∙ lives);
    }
