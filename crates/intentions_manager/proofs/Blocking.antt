-- The log says who blocks.
use Rattle.std.proofs.Common.{◌≡◌, ℕ, false, not, ◌&&◌, ◌==◌, sym, ap, ◌∙◌}
use Rattle.std.specs.List.{find, AllByRecursion}
use Rattle.std.specs.Option.{option_map, option_or}
use Rattle.type_table.specs.declared.kind.Kind.{Kind}
use Rattle.declared_types.specs.declared.type_file.TypeFile.{TypeFile}
use Rattle.type_table.specs.declared.kind.Kind.TheVariants.{Intentions}
use Rattle.object_trait.specs.Object.{conflicts_by}
use Rattle.object_trait.specs.Meaning.{Meaning, object}
use Rattle.object_trait.specs.Steps.{alone_by, stops_by, holder_of, stopper}
use Rattle.object_trait.specs.declared.log_entry.LogEntry.{LogEntry}
use Rattle.object_trait.proofs.Alone.{or-self}
use Rattle.object_trait.proofs.Runs.{open-all}

-- the conflict table of deferred update
pub rows-deferred : (kind : Kind) (file : TypeFile) → kind ≡ Intentions → file.intentions ≡ conflicts_by kind file
rows-deferred kind file deferred = ap (λ k. conflicts_by k file) (sym deferred)

pub stopper-told : (m : Meaning) (t k : ℕ) → m.checked.kind ≡ Intentions → AllByRecursion (λ (e : LogEntry). e.done ≡ false) m.log →
    stopper m t k ≡ option_map (λ e. e.by) (find (λ e. not (e.by == t) && (object m).conflicts k e.op) m.log)
stopper-told m t k deferred open_all =
    ap (λ way. option_or (holder_of (λ e. alone_by way (object m) m.base m.log t k e && (not (e.by == t) && stops_by way (object m) m.base m.log t k e)) m.log) (holder_of (λ e. not (e.by == t) && stops_by way (object m) m.base m.log t k e) m.log)) deferred
    ∙ or-self (holder_of (λ e. not (e.by == t) && (object m).conflicts k e.op) m.log)
    ∙ ap (λ V. option_map (λ (e : LogEntry). e.by) (find (λ e. not (e.by == t) && (object m).conflicts k e.op) V)) (open-all m.log open_all)
