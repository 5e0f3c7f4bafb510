use Rattle.std.proofs.lemmas.Result.{err_from_is_err_and}
use Rattle.shelf_view.proofs.Reading.{refused_window, told}
use Rattle.shelf_view.proofs.window.write_between.Goals as goal

pub returns-in_err-window : goal.returns-in_err-window
returns-in_err-window c =
    let p = err_from_is_err_and c.from_residual.result c.from_residual.ensures.1 in
    λ digits read. rw (p.1, p.2) (refused_window c.args.out.now digits c.args.front c.args.back c.requires c.args.whole read _ c.in_err-window.ensures)

pub returns : goal.returns
returns c = λ digits read.
    told c.args.out.now digits c.args.front c.args.back c.requires c.args.whole read
    c.in_ok-window.window c.as_slice.result.now c.write_start.new.out c.write_start.result c.in_ok-window.ensures c.as_slice.ensures c.write_start.ensures
