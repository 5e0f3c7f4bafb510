use Rattle.std.proofs.lemmas.Result.{err_from_is_err_and}
use Rattle.text_shelf.specs.Calls.{every_shelf}
use Rattle.shelf_promise.specs.Lists.{after, nothing}
use Rattle.shelf_promise.proofs.Telling.{reached_bytes, refuses_one, refuses_other, slips_told}
use Rattle.shelf_promise.proofs.told.fingerprints.Goals as goal

pub returns-in_err-x : goal.returns-in_err-x
returns-in_err-x c b calls answers w b2 calls2 answers2 w2 =
    let p = err_from_is_err_and c.from_residual.result c.from_residual.ensures.1 in
    rw (p.1, p.2) (refuses_one (after every_shelf b.build nothing calls answers) (after every_shelf b2.build nothing calls2 answers2) c.args.d c.args.e _ (c.in_err-x.ensures b calls answers w))

pub returns-in_err-y : goal.returns-in_err-y
returns-in_err-y c b calls answers w b2 calls2 answers2 w2 =
    let p = err_from_is_err_and c.from_residual-in_err-y.result c.from_residual-in_err-y.ensures.1 in
    rw (p.1, p.2)
    (refuses_other (after every_shelf b.build nothing calls answers) (after every_shelf b2.build nothing calls2 answers2) c.args.d c.args.e _ (c.in_ok-x.ensures b calls answers w).0 (c.in_err-y.ensures b2 calls2 answers2 w2))

pub returns : goal.returns
returns c b calls answers w b2 calls2 answers2 w2 =
    let h = c.in_ok-x.ensures b calls answers w in
    let k = c.in_ok-y.ensures b2 calls2 answers2 w2 in
    slips_told (after every_shelf b.build nothing calls answers) (after every_shelf b2.build nothing calls2 answers2) c.args.d c.args.e c.in_ok-x.x c.in_ok-y.y h k
    (reached_bytes c.args.one.now c.args.d w h.0)
    (reached_bytes c.args.other.now c.args.e w2 k.0)
