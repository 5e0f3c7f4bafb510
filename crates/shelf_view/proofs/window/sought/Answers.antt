use Rattle.std.proofs.Common.{length}
use Rattle.shelf_view.proofs.Reading.{unread_room, unread_form}
use Rattle.shelf_view.proofs.window.sought.Goals as goal

pub returns-then-out-lt5-clause-refused : goal.returns-then-out-lt5-clause-refused
returns-then-out-lt5-clause-refused c = λ whole. unread_room (length c.args.out.now) c.args.digits.now whole c.if-out-lt5.true

pub returns-clause-refused : goal.returns-clause-refused
returns-clause-refused c = unread_form (length c.args.out.now) c.args.digits.now c.from_hex.result c.if-out-lt5.false c.from_hex.ensures.again
