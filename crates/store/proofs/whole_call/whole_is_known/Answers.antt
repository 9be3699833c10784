use Rattle.store.proofs.whole_call.whole_is_known.Goals as goal

pub returns-clause-says : goal.returns-clause-says
returns-clause-says c = c.rows_say_who_is_open.ensures

pub returns-clause-counted : goal.returns-clause-counted
returns-clause-counted c = c.rows_are_counted.ensures

pub returns-clause-few : goal.returns-clause-few
returns-clause-few c = c.rows_are_few.ensures

pub returns-clause-defined : goal.returns-clause-defined
returns-clause-defined c = c.answers_as_defined.ensures

pub returns-clause-quiet : goal.returns-clause-quiet
returns-clause-quiet c = c.quiet_moves.ensures

pub returns-clause-begins : goal.returns-clause-begins
returns-clause-begins c = c.begin_moves.ensures

pub returns-clause-works : goal.returns-clause-works
returns-clause-works c = c.op_moves.ensures

pub returns-clause-ends : goal.returns-clause-ends
returns-clause-ends c = c.end_moves.ensures

pub returns-clause-stays : goal.returns-clause-stays
returns-clause-stays c = c.stays_kept.ensures

pub returns-clause-room : goal.returns-clause-room
returns-clause-room c = c.room_after.ensures

pub returns-clause-types : goal.returns-clause-types
returns-clause-types c = c.types_stay.ensures
