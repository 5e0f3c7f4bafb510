use Rattle.std.proofs.Common.{refl}
use Rattle.std.proofs.lemmas.Result.{err_from_is_err_and}
use Rattle.shelf_view.specs.Marked.{in_between}
use Rattle.shelf_view.proofs.window.read_between.Goals as goal

pub returns-in_err-whole : goal.returns-in_err-whole
returns-in_err-whole c =
    let p = err_from_is_err_and c.from_residual.result c.from_residual.ensures.1 in
    rw (p.1, p.2) (c.in_err-whole.ensures.refused (in_between c.args.front c.args.back), refl)

pub returns : goal.returns
returns c = c.write_between.ensures c.args.digits.now c.in_ok-whole.ensures.found.1
