use Rattle.std.proofs.Common.{◌≡◌, ◌<◌, ◌==◌, false, length, ◌++◌, take, sym, ◌∙◌, arith}
use Rattle.std.proofs.lemmas.Grind.{common_steps}
use Rattle.outputs.specs.declared.out.OutFault.TheVariants.{Device, WroteNothing}
use Rattle.outputs.proofs.Puts.{Puts-append}
use Rattle.outputs.proofs.Takes.{Appends-from_kept, Puts-taken, Puts-untaken, fault_after-nothing, piece-moved}
use Rattle.outputs.proofs.out.Out.put_piece.Goals as goal

pub returns-in-Ok-eq0 : goal.returns-in-Ok-eq0
returns-in-Ok-eq0 g c =
    let (done, split, so_far) = c.loop-rest.invariant in
    let rest = c.loop-rest.rest.now in
    let is_left : (length rest == 0) ≡ false = sym c.loop-rest-test.ensures in
    let some_left : 0 < length rest = grind (arith, common_steps) in
    let bytes = rw c.in-Ok-eq0.field-0-test at c.in-Ok-eq0.ensures.bytes in
    let fault = rw c.in-Ok-eq0.field-0-test at c.in-Ok-eq0.ensures.fault in
    rw split (Puts-append so_far (Puts-untaken _ _ _ rest WroteNothing some_left bytes (fault ∙ fault_after-nothing rest is_left)))

pub loop-rest-preserved : goal.loop-rest-preserved
loop-rest-preserved g c =
    let (done, split, so_far) = c.loop-rest.invariant in
    let rest = c.loop-rest.rest.now in
    let n = c.in-Ok.count in
    let more = Puts-taken _ _ _ n rest c.in-Ok.count-test.1 c.in-Ok.ensures.bytes c.in-Ok.ensures.fault in
    (done ++ take n rest, piece-moved c.args.piece.now done rest n split, Puts-append so_far more)

pub returns-in-Err : goal.returns-in-Err
returns-in-Err g c =
    let (done, split, so_far) = c.loop-rest.invariant in
    let rest = c.loop-rest.rest.now in
    let some_left : 0 < length rest = grind (arith, common_steps) in
    let bytes = Appends-from_kept _ _ c.in-Err.ensures.bytes in
    rw split (Puts-append so_far (Puts-untaken _ _ _ rest Device some_left bytes c.in-Err.ensures.fault))
