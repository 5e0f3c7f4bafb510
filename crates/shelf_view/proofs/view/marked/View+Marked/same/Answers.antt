use Rattle.std.proofs.Common.{◌≡◌, ◌+◌, None, ap, ◌∙◌, subst, arith}
use Rattle.std.specs.List.{between}
use Rattle.rope_read.specs.Texts.{bytes_in, of_bounds}
use Rattle.shelf_view.specs.State.{strings_shown, text_at}
use Rattle.shelf_view.proofs.Placing.{document_text}
use Rattle.shelf_view.proofs.Marking.{stretch_long, same_none, compared}
use Rattle.shelf_view.proofs.view.marked.View+Marked.same.Goals as goal

pub compare-requires : goal.compare-requires
compare-requires c =
    let x = c.in_ok-x.ensures in
    let y = c.in_ok-y.ensures in
    omega (arith, stretch_long (bytes_in c.text.result) c.in_ok-x.x c.args.a c.args.n x.0 x.1.bytes, stretch_long (bytes_in c.text-2.result) c.in_ok-y.y c.args.b c.args.n y.0 y.1.bytes)

pub returns : goal.returns
returns c =
    let s = strings_shown c.args.self.now in
    let n = c.args.n in
    let x = c.in_ok-x.ensures in
    let y = c.in_ok-y.ensures in
    let one = c.text.ensures.value ∙ document_text c.in_ok-one.ensures.1 in
    let other = c.text-2.ensures.value ∙ document_text c.in_ok-other.ensures.1 in (
      same_none s c.args.d c.args.a c.args.e c.args.b n c.in_ok-one.ensures.0 c.in_ok-other.ensures.0
          (subst (λ t. of_bounds t c.args.a (c.args.a + n) ≡ None) one x.0)
          (subst (λ t. of_bounds t c.args.b (c.args.b + n) ≡ None) other y.0),
      compared n (bytes_in c.in_ok-x.x) (bytes_in c.in_ok-y.y) (between c.args.a (c.args.a + n) (text_at s c.args.d)) (between c.args.b (c.args.b + n) (text_at s c.args.e)) c.compare.result
          (stretch_long (bytes_in c.text.result) c.in_ok-x.x c.args.a n x.0 x.1.bytes)
          (x.1.bytes ∙ ap (between c.args.a (c.args.a + n)) one)
          (y.1.bytes ∙ ap (between c.args.b (c.args.b + n)) other)
          c.compare.ensures,
    )
