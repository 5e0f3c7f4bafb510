use Rattle.std.proofs.Common.{◌∙◌, arith}
use Rattle.zemor.specs.Bits.{bits_in, byte_product}
use Rattle.zemor.proofs.Strings.{length_bits}
use Rattle.zemor.proofs.Texts.{both}
use Rattle.zemor.proofs.matrix.stretch.of_two.Goals as goal

pub whole_product-requires : goal.whole_product-requires
unfolding byte_product
whole_product-requires c = record {
  front = bits_in c.args.x 8;
  back = bits_in c.args.y 8;
  x_is = c.entries.ensures;
  y_is = c.entries-2.ensures;
  few = omega (arith, length_bits c.args.x 8, length_bits c.args.y 8);
}

pub returns : goal.returns
unfolding byte_product
returns c = c.whole_product.ensures ∙ both (bits_in c.args.x 8) (bits_in c.args.y 8) c.entries.ensures c.entries-2.ensures
