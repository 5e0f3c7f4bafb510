use Rattle.zemor.specs.Laws.{four}
use Rattle.std.proofs.Common.{sym, ◌∙◌, ap}
use Rattle.zemor.proofs.Products.{few}
use Rattle.zemor.proofs.matrix.stretch.whole_product.Goals as goal

pub whole_dot-requires : goal.whole_dot-requires
whole_dot-requires c = (few c.args.x c.args.y c.requires).a_few

pub whole_dot-requires-2 : goal.whole_dot-requires-2
whole_dot-requires-2 c = (few c.args.x c.args.y c.requires).b_few

pub whole_dot-requires-3 : goal.whole_dot-requires-3
whole_dot-requires-3 c = (few c.args.x c.args.y c.requires).c_few

pub whole_dot-requires-4 : goal.whole_dot-requires-4
whole_dot-requires-4 c = (few c.args.x c.args.y c.requires).d_few

pub returns : goal.returns
returns c =
    let e = sym (few c.args.x c.args.y c.requires).product in
    four _ _ (c.whole_dot.ensures ∙ ap (λ m. m.a) e) (c.whole_dot-2.ensures ∙ ap (λ m. m.b) e) (c.whole_dot-3.ensures ∙ ap (λ m. m.c) e) (c.whole_dot-4.ensures ∙ ap (λ m. m.d) e)
