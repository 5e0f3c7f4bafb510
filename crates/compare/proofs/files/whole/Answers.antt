use Rattle.std.proofs.Common.{◌≡◌, ℕ, ◌+◌, ◌<◌, ◌≤◌, List, [], ◌++◌, length, take, Some, None, Option, IfSome, ap, ◌∙◌, arith, length-take}
use Rattle.std.proofs.lemmas.List.{take_all}
use Rattle.std.specs.Option.{option_map}
use Rattle.refusal.specs.declared.limits.TheConstants.{MOST_TEXT}
use Rattle.compare.specs.Files.{IsWhole}
use Rattle.compare.proofs.files.whole.Goals as goal

-- where a front is shorter than it might be, it is all
all : (known : Option (List ℕ)) (items : List ℕ) → IfSome (option_map (take (MOST_TEXT + 1)) known) (λ xs. items ≡ [] ++ xs) → length items ≤ MOST_TEXT → IfSome known (IsWhole (Some items))
all None items h short = tt
all (Some bytes) items h short =
    let few : length bytes ≤ MOST_TEXT = omega (arith, ap length h, length-take (MOST_TEXT + 1) bytes) in
    (h ∙ take_all (MOST_TEXT + 1) bytes (omega arith), few)

-- and else there is more
more : (known : Option (List ℕ)) (items : List ℕ) → IfSome (option_map (take (MOST_TEXT + 1)) known) (λ xs. items ≡ [] ++ xs) → MOST_TEXT < length items → IfSome known (IsWhole None)
more None items h long = tt
more (Some bytes) items h long = omega (arith, ap length h, length-take (MOST_TEXT + 1) bytes)

pub returns-then-len-gt-MOST_TEXT : goal.returns-then-len-gt-MOST_TEXT
returns-then-len-gt-MOST_TEXT g c =
    let bytes = rw (c.take.ensures.limit, c.take.ensures.inner, c.new-text.ensures.items) at c.in_ok-read_to_end.ensures.bytes in
    more (g.R.Read.remaining c.args.input) c.read_to_end.new.buf.items bytes (omega arith)

pub returns : goal.returns
returns g c =
    let bytes = rw (c.take.ensures.limit, c.take.ensures.inner, c.new-text.ensures.items) at c.in_ok-read_to_end.ensures.bytes in
    all (g.R.Read.remaining c.args.input) c.read_to_end.new.buf.items bytes (omega arith)
