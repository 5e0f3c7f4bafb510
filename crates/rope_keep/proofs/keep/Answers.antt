use Rattle.std.proofs.Common.{◌≡◌, length, sym, refl, ◌∙◌, arith}
use Rattle.std.proofs.lemmas.Bool.Decides.{nat_tests}
use Rattle.rope.specs.declared.record.Origin.TheVariants.{Added}
use Rattle.rope_keep.specs.Kept.{text_need}
use Rattle.rope_keep.proofs.Keepings.{stands_empty, grows_none, stands_built, kept_part, kept_grows}
use Rattle.rope_keep.proofs.keep.Goals as goal

pub returns-then-is_empty : goal.returns-then-is_empty
returns-then-is_empty g c =
    let s = c.args.store.now in
    let bs = c.args.text.now in
    let none : length bs ≡ 0 = grind (arith, nat_tests, sym c.is_empty.ensures ∙ c.if-is_empty.true) in
    record { grows = grows_none s bs (text_need (length bs)) none; stands = stands_empty s bs none }

pub returns : goal.returns
returns g c =
    let bs = c.args.text.now in
    let p = c.append-from.ensures in
    let built = c.build.new.self in
    record {
      grows = kept_grows c.requires.free (omega arith) p built c.build.ensures;
      stands = stands_built built Added c.append-from.result (length bs) bs c.build.ensures (kept_part c.requires.free (omega arith) p) refl;
    }
