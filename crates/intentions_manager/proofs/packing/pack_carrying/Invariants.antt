use Rattle.std.proofs.Common.{◌≡◌, All, drop}
use Rattle.object_trait.specs.Meaning.{is_open_of}
use Rattle.intentions_manager.specs.Walk.{carried, FitsTable}
use Rattle.intentions_manager.proofs.Cutting.{IsCut}
use Rattle.intentions_manager.proofs.packing.pack_carrying.Given as goal

abbrev pub invariant-loop-i : goal.invariant-loop-i
invariant-loop-i l = record {
  cut : IsCut (is_open_of l.t) 0 l.initial.log l.log 0 l.count l.word l.i;
  fit : All (FitsTable l.table) l.views;
  rest : carried l.table l.t (drop l.i l.initial.log) l.views ≡ carried l.table l.t l.initial.log l.initial.views;
}
