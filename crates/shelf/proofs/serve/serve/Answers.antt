use Rattle.std.proofs.Common.{◌≡◌, List, ℕ, [], ◌++◌, take, Some, None, Option, Ok, Err, Result, IfSome, inl, inr, refl, subst}
use Rattle.std.proofs.lemmas.Result.{err_from_is_err_and}
use Rattle.std.specs.Option.{option_map}
use Rattle.script.specs.Answers.{RanAll}
use Rattle.text_shelf.specs.declared.shelf.Shelf.{Shelf}
use Rattle.script.specs.declared.limits.TheConstants.{MOST_SCRIPT}
use Rattle.shelf.specs.Serving.{RanFrom, Served}
use Rattle.shelf.proofs.serve.serve.Goals as goal

-- what a reader gives up to a limit is the front of what it has
front : (known : Option (List ℕ)) (items : List ℕ) → IfSome (option_map (take MOST_SCRIPT) known) (λ xs. items ≡ [] ++ xs) → IfSome known (λ bytes. items ≡ take MOST_SCRIPT bytes)
front None items h = tt
front (Some bytes) items h = h

-- a run that was made is what is served
run : {V R : Type 0} {kind : _} {W E : Type 0} (shows : W → Option (List ℕ)) (had : Option (List ℕ)) (s t : Shelf V R kind) (w x : W) (r : Result (Unit {0}) E)
    → RanFrom had s (shows w) t (shows x) r → Served shows had s w t x r
run shows had s t w x (Ok u) h = h
run shows had s t w x (Err e) h = inr h

pub returns-clause-served : goal.returns-clause-served
returns-clause-served g c =
    let items = c.read_to_end.new.buf.items in
    let bytes = rw (c.take.ensures.limit, c.take.ensures.inner, c.new-script.ensures.items) at c.in_ok-read_to_end.ensures.bytes in
    let ran = subst (λ z. RanAll z 0 c.args.shelf.now (g.W.Write.contents c.args.out.now) c.run_all.new.shelf (g.W.Write.contents c.run_all.new.out) c.run_all.result) c.deref.ensures.value c.run_all.ensures.ran in
    run g.W.Write.contents (g.R.Read.remaining c.args.input) c.args.shelf.now c.run_all.new.shelf c.args.out.now c.run_all.new.out c.run_all.result (items, (front (g.R.Read.remaining c.args.input) items bytes, ran))

pub returns-in_err-read_to_end-clause-served : goal.returns-in_err-read_to_end-clause-served
returns-in_err-read_to_end-clause-served g c =
    let p = err_from_is_err_and c.from_residual.result c.from_residual.ensures.1 in
    rw p.1 (inl (refl, refl))
