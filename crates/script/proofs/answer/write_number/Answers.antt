use Rattle.std.proofs.Common.{◌∷◌, [], ◌++◌, decimal}
use Rattle.script.proofs.Writing.{closed}
use Rattle.script.proofs.answer.write_number.Goals as goal

pub returns : goal.returns
returns c =
    let head = decimal c.count.result ++ (58 ∷ []) in
    closed (decimal c.args.n) c.args.out.now c.append.new.out c.count.result c.append.result c.count.ensures
    (c.append.ensures.after c.args.out.now (head ++ decimal c.args.n) (c.append_number-at.ensures.after c.args.out.now head c.begin-at.ensures.after))
