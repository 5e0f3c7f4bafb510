use Rattle.std.proofs.Common.{◌≡◌, ℕ, Bool, List, ◌++◌, length, get_or, ap, ◌∙◌, arith, length-append}
use Rattle.zemor.specs.Bits.{bits_in, product_of, byte_product}
use Rattle.zemor.proofs.Strings.{length_bits}
use Rattle.zemor.proofs.Texts.{both, five_bytes}
use Rattle.zemor.proofs.matrix.stretch.of_stretch.Goals as goal
use Rattle.zemor.proofs.matrix.stretch.of_stretch.Goals.{After-whole_product}

abbrev byte : List ℕ → ℕ → List Bool
byte s i = bits_in (get_or s i 0) 8

abbrev two : List ℕ → ℕ → ℕ → List Bool
two s i j = byte s i ++ byte s j

two_long : (s : List ℕ) (i j : ℕ) → length (two s i j) ≡ 16
two_long s i j = omega (arith, length-append (byte s i) (byte s j), length_bits (get_or s i 0) 8, length_bits (get_or s j 0) 8)

pub whole_product-four-requires : goal.whole_product-four-requires
whole_product-four-requires c =
    let s = c.args.stretch.now in record {
      front = two s 0 1;
      back = two s 2 3;
      x_is = c.of_two.ensures;
      y_is = c.of_two-2.ensures;
      few = omega (arith, two_long s 0 1, two_long s 2 3);
    }

pub whole_product-requires : goal.whole_product-requires
unfolding byte_product
whole_product-requires c =
    let s = c.args.stretch.now in record {
      front = two s 0 1 ++ two s 2 3;
      back = byte s 4;
      x_is = c.whole_product-four.ensures ∙ both (two s 0 1) (two s 2 3) c.of_two.ensures c.of_two-2.ensures;
      y_is = c.entries.ensures;
      few = omega (arith, length-append (two s 0 1) (two s 2 3), two_long s 0 1, two_long s 2 3, length_bits (get_or s 4 0) 8);
    }

product : (c : After-whole_product) → c.whole_product.result ≡ product_of ((two c.args.stretch.now 0 1 ++ two c.args.stretch.now 2 3) ++ byte c.args.stretch.now 4)
unfolding byte_product
product c =
    let s = c.args.stretch.now in
    c.whole_product.ensures
    ∙ both (two s 0 1 ++ two s 2 3) (byte s 4) (c.whole_product-four.ensures ∙ both (two s 0 1) (two s 2 3) c.of_two.ensures c.of_two-2.ensures) c.entries.ensures

pub value_of-requires : goal.value_of-requires
value_of-requires c = let s = c.args.stretch.now in ((two s 0 1 ++ two s 2 3) ++ byte s 4, product c)

pub returns : goal.returns
returns c = c.value_of.ensures ∙ product (goal.at.returns c).After-whole_product ∙ ap product_of (five_bytes c.args.stretch.now c.told-stretch)
