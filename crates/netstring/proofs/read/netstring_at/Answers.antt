use Rattle.std.proofs.Common.{[], ◌∷◌, ◌++◌, length, drop, sym, ap, ◌∙◌, None, Some, arith, length-append}
use Rattle.std.proofs.lemmas.Bool.Decides.{Decides-eqb}
use Rattle.std.proofs.lemmas.List.{take_rest, length-drop}
use Rattle.std.proofs.lemmas.Slice.Eq.{strip_prefix_is}
use Rattle.netstring.proofs.Fronts.{shorter, no_run, behind_run, cut, stands_there}
use Rattle.netstring.proofs.read.netstring_at.Goals as goal

pub returns-in_err-here : goal.returns-in_err-here
returns-in_err-here c = rw c.from_residual.ensures (λ d t e. omega (arith, shorter (drop c.args.at c.args.text.now) d t e, length-drop c.args.at c.args.text.now, c.in_err-here.ensures.lookup))

pub returns-in_err-n : goal.returns-in_err-n
returns-in_err-n c =
    let e = c.in_ok-here.ensures.lookup.0.2 ∙ take_rest c.args.text.now c.args.at in
    rw c.from_residual-in_err-n.ensures (λ d t x. no_run c.in_ok-here.here.now c.in_err-n.ensures d t (e ∙ x))

pub returns-in_err-strip_prefix : goal.returns-in_err-strip_prefix
returns-in_err-strip_prefix c =
    let e = c.in_ok-here.ensures.lookup.0.2 ∙ take_rest c.args.text.now c.args.at in
    rw c.from_residual-in_err-strip_prefix.ensures (λ d t x. strip_prefix_is Decides-eqb c.in_ok-n.rest.now (58 ∷ []) None c.in_err-strip_prefix.ensures.cases (d ++ (44 ∷ t)) (behind_run c.in_ok-here.here.now c.in_ok-n.rest.now c.in_ok-n.n c.in_ok-n.ensures d t (e ∙ x)).1)

pub returns-in_err-content : goal.returns-in_err-content
returns-in_err-content c =
    let e = c.in_ok-here.ensures.lookup.0.2 ∙ take_rest c.args.text.now c.args.at in
    rw c.from_residual-in_err-content.ensures (λ d t x. let o = behind_run c.in_ok-here.here.now c.in_ok-n.rest.now c.in_ok-n.n c.in_ok-n.ensures d t (e ∙ x) in omega (arith, o.0, ap length o.1, length-append d (44 ∷ t), c.in_ok-strip_prefix.ensures.cases, c.in_err-content.ensures.cases))

pub returns-in_err-behind : goal.returns-in_err-behind
returns-in_err-behind c =
    let e = c.in_ok-here.ensures.lookup.0.2 ∙ take_rest c.args.text.now c.args.at in
    rw c.from_residual-in_err-behind.ensures (λ d t x. let o = cut c.in_ok-n.rest.now c.in_ok-strip_prefix.field-0.now d t c.in_ok-n.n c.in_ok-strip_prefix.ensures.cases.1 (behind_run c.in_ok-here.here.now c.in_ok-n.rest.now c.in_ok-n.n c.in_ok-n.ensures d t (e ∙ x)) in strip_prefix_is Decides-eqb c.in_ok-content.rest.now (44 ∷ []) None c.in_err-behind.ensures.cases t (c.in_ok-content.ensures.cases.2 ∙ o.1))

pub returns : goal.returns
returns c =
    let e = c.in_ok-here.ensures.lookup.0.2 ∙ take_rest c.args.text.now c.args.at in
    let colon = strip_prefix_is Decides-eqb c.in_ok-n.rest.now (58 ∷ []) (Some c.in_ok-strip_prefix.field-0) c.in_ok-strip_prefix.ensures.cases in
    let comma = strip_prefix_is Decides-eqb c.in_ok-content.rest.now (44 ∷ []) (Some c.in_ok-behind.behind) c.in_ok-behind.ensures.cases in
    let k = c.in_ok-content.ensures.cases in
    rw k.1 (stands_there c.args.text.now c.in_ok-here.here.now c.in_ok-n.rest.now c.in_ok-strip_prefix.field-0.now c.in_ok-behind.behind.now c.args.at c.in_ok-n.n c.in_ok-here.ensures.lookup.0.0 e c.in_ok-n.ensures colon c.in_ok-strip_prefix.ensures.cases.1 k.0 (sym k.2 ∙ comma))
