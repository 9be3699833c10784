use Rattle.need_text.proofs.pair_lines.write_conflict.Goals as goal

pub returns-in-Undo : goal.returns-in-Undo
returns-in-Undo g c =
    let put = rw (c.from.ensures, c.from-in-Undo.ensures) at c.put_numbers.ensures in
    rw c.in-Undo.is put

pub returns-in-Intentions : goal.returns-in-Intentions
returns-in-Intentions g c =
    let put = rw (c.from-in-Intentions.ensures, c.from-in-Intentions-2.ensures) at c.put_numbers-in-Intentions.ensures in
    rw c.in-Intentions.is put
