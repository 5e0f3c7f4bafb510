use Rattle.std.proofs.Common.{◌≡◌, ◌++◌, sym, ap, ◌∙◌, take-append-drop}
use Rattle.monoid.specs.Monoid.{fold_of}
use Rattle.monoid.proofs.Folds.{fold_joined, fold_append, further, all_bytes_by_place}
use Rattle.monoid.proofs.fold.fold.Goals as goal

pub loop-stretch-preserved : goal.loop-stretch-preserved
loop-stretch-preserved g c =
    let rest = c.loop-stretch.rest.now in
    let h = c.in-Some.ensures.cases in
    let split : rest ≡ c.in-Some.stretch.now ++ c.in-Some.more.now = rw (h.0, h.1) (sym (take-append-drop 5 rest)) in
    further g.M.Monoid.model g.met.M.Monoid.lawful c.loop-stretch.sum c.join-sum.result c.of_stretch.result (fold_of g.M.Monoid.model c.args.text.now) c.in-Some.stretch.now c.in-Some.more.now rest
    split c.of_stretch.ensures c.join-sum.ensures c.loop-stretch.invariant

pub returns-clause-value : goal.returns-clause-value
returns-clause-value g c =
    c.lengthened.ensures ∙ fold_joined g.M.Monoid.model g.met.M.Monoid.lawful c.loop-stretch.sum c.loop-stretch.rest.now ∙ c.loop-stretch.invariant

pub returns-clause-parts : goal.returns-clause-parts
returns-clause-parts g c u v e =
    let m = g.M.Monoid.model in
    let whole = fold_of m c.args.text.now in
    ◌∙◌ {b = whole} (returns-clause-value g c) (ap (fold_of m) e ∙ fold_append m g.met.M.Monoid.lawful u v)

pub returns-clause-bytes : goal.returns-clause-bytes
returns-clause-bytes g c = all_bytes_by_place c.args.text.now (λ i. (c.type_inv.text i).fits)
