use Rattle.std.proofs.Common.{ℕ, ◌+◌, ◌<◌, List, [], ◌∷◌, map, take, set, length, ap, subst, ◌∙◌, arith, length-set}
use Rattle.std.proofs.lemmas.List.{take_more_set, take_all, length-map, length-take-le, map-append}
use Rattle.script.specs.Parsing.{NumbersAt, NoNumbersAt}
use Rattle.script.specs.declared.command.Argument.{Argument}
use Rattle.script.proofs.Parts.{more, no_more}
use Rattle.script.proofs.read.Arguments.numbers.Goals as goal

-- the numbers so far, with one more
one_more : (s : List ℕ) (at : ℕ) (xs : List (Argument ℕ)) (i : ℕ) (x : Argument ℕ) (j k : ℕ) → i < length xs
    → NumbersAt s at (map (λ a. a.value) (take i xs)) (map (λ a. a.at) (take i xs)) j → NumbersAt s j (x.value ∷ []) (x.at ∷ []) k
    → NumbersAt s at (map (λ a. a.value) (take (i + 1) (set xs i x))) (map (λ a. a.at) (take (i + 1) (set xs i x))) k
one_more s at xs i x j k h f g =
    let value : Argument ℕ → ℕ = λ a. a.value in
    let place : Argument ℕ → ℕ = λ a. a.at in
    rw (take_more_set xs i x h, map-append value (take i xs) (x ∷ []), map-append place (take i xs) (x ∷ [])) (more s at _ _ j _ _ k f g)

pub returns-in_err-numbers-clause-value : goal.returns-in_err-numbers-clause-value
returns-in_err-numbers-clause-value g c =
    let now = ap (λ b. b.now) c.loop-i.invariant.inside in
    let no' = subst (λ s. NoNumbersAt s c.loop-i.self.at 1) now c.in_err-numbers.ensures.value in
    let xs = c.loop-i.numbers in
    rw c.from_residual.ensures
    (no_more c.args.self.now.inside.now c.args.self.now.at _ _ c.loop-i.self.at g.row.N c.loop-i.invariant.so_far no'
    (omega (arith, length-map (take c.loop-i.i xs) (λ a. a.value), length-take-le c.loop-i.i xs (omega arith))))

pub loop-i-preserved : goal.loop-i-preserved
loop-i-preserved g c =
    let now = ap (λ b. b.now) c.loop-i.invariant.inside in
    record {
      all = simp length-set (omega arith);
      inside = c.in_ok-numbers.ensures.same ∙ c.loop-i.invariant.inside;
      so_far = one_more c.args.self.now.inside.now c.args.self.now.at c.loop-i.numbers c.loop-i.i c.in_ok-numbers.field-0 c.loop-i.self.at c.number.new.self.at (omega (arith, c.loop-i.invariant.all)) c.loop-i.invariant.so_far
          (subst (λ s. NumbersAt s c.loop-i.self.at (c.in_ok-numbers.field-0.value ∷ []) (c.in_ok-numbers.field-0.at ∷ []) c.number.new.self.at) now c.in_ok-numbers.ensures.value);
    }

pub returns-clause-value : goal.returns-clause-value
returns-clause-value g c =
    let all = take_all c.loop-i.i c.loop-i.numbers (omega arith) in
    subst (λ xs. NumbersAt c.args.self.now.inside.now c.args.self.now.at (map (λ a. a.value) xs) (map (λ a. a.at) xs) c.loop-i.self.at) all c.loop-i.invariant.so_far
