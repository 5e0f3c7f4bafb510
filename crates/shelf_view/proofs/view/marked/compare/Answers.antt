use Rattle.std.proofs.Common.{sym, ◌∙◌, arith}
use Rattle.rope_read.specs.Texts.{bytes_in}
use Rattle.shelf_view.proofs.Marking.{first_half, slices_equal}
use Rattle.shelf_view.proofs.view.marked.compare.Goals as goal

pub returns-then-not-equals : goal.returns-then-not-equals
returns-then-not-equals c same =
    c.if-not-equals.ensures
    (first_half (bytes_in c.args.one) c.summary.result c.summary.ensures ∙ same ∙ sym (first_half (bytes_in c.args.other) c.summary-2.result c.summary-2.ensures))

pub returns-then-len-le5 : goal.returns-then-len-le5
returns-then-len-le5 c =
    let one = first_half (bytes_in c.args.one) c.summary.result c.summary.ensures in
    let other = first_half (bytes_in c.args.other) c.summary-2.result c.summary-2.ensures in
    let same = sym one ∙ c.if-not-equals.ensures ∙ other in
    (omega arith, same, slices_equal c.args.one c.args.other (omega arith) (omega arith) same)

pub returns-else-len-le5 : goal.returns-else-len-le5
returns-else-len-le5 c =
    let one = first_half (bytes_in c.args.one) c.summary.result c.summary.ensures in
    let other = first_half (bytes_in c.args.other) c.summary-2.result c.summary-2.ensures in
    (omega arith, sym one ∙ c.if-not-equals.ensures ∙ other)
