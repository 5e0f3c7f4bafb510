-- Reading the arguments of a command, one behind the other. No promise to a caller rests on this file.
use Rattle.std.specs.Prelude.{◌≡◌, ℕ, ◌+◌, List, [], ◌∷◌, ◌++◌, map, length, drop, decimal, Some, None, Option, ◌≢◌}
use Rattle.std.specs.Borrow.{Bor}
use Rattle.std.specs.List.{AllByRecursion}
use Rattle.netstring.specs.Netstring.{netstring, NetstringAt, NoNetstringAt}
use Rattle.script.specs.Commands.{few_digits, netstrings, places_from, word, arguments, places, FewDigits, content, NoCommand}
use Rattle.script.specs.Words.{spelling}
use Rattle.script.specs.declared.command.Argument.{Argument}
use Rattle.script.specs.declared.command.Command.{Command}

-- the content c stands at the place p, in the netstring from i to j
pub record TextAt (s : List ℕ) (i : ℕ) (c : List ℕ) (p j : ℕ) : Type 0 where
  pub stands : NetstringAt s i c j
  pub place : p ∷ [] ≡ places_from i (c ∷ [])

-- the text that is read from i to j, or None where no netstring stands at i
abbrev pub TextRead : List ℕ → ℕ → Option (Argument (Bor (List ℕ))) → ℕ → Type 0
TextRead s i None j = NoNetstringAt s i
TextRead s i (Some a) j = TextAt s i a.value.now a.at j

-- so many numbers, at these places, are written from i to j, and no others
pub record NumbersAt (s : List ℕ) (i : ℕ) (ns ps : List ℕ) (j : ℕ) : Type 0 where
  pub few : AllByRecursion few_digits ns
  pub stands : drop i s ≡ netstrings (map decimal ns) ++ drop j s
  pub reach : j ≡ i + length (netstrings (map decimal ns))
  pub only : (ms t : List ℕ) → length ms ≡ length ns → AllByRecursion few_digits ms
      → drop i s ≡ netstrings (map decimal ms) ++ t → (ms ≡ ns) × (t ≡ drop j s)
  pub placed : ps ≡ places_from i (map decimal ns)

-- no n numbers are written from i on
abbrev pub NoNumbersAt : List ℕ → ℕ → ℕ → Type 0
NoNumbersAt s i n = (ms t : List ℕ) → length ms ≡ n → AllByRecursion few_digits ms → drop i s ≢ netstrings (map decimal ms) ++ t

-- so many number arguments are written from i to j, each with its place, and no others
abbrev pub ArgumentsAt : List ℕ → ℕ → List (Argument ℕ) → ℕ → Type 0
ArgumentsAt s i xs j = NumbersAt s i (map (λ a. a.value) xs) (map (λ a. a.at) xs) j

-- the number arguments that are read from i to j, or None where no n of them are written from i on
abbrev pub NumbersRead : List ℕ → ℕ → ℕ → Option (List (Argument ℕ)) → ℕ → Type 0
NumbersRead s i n None j = NoNumbersAt s i n
NumbersRead s i n (Some xs) j = ArgumentsAt s i xs j

-- the word and the arguments of k are written from i to j, and those of no other command
pub record PartsAt (s : List ℕ) (i : ℕ) (k : Command) (j : ℕ) : Type 0 where
  pub digits : FewDigits k
  pub stands : drop i s ≡ content k ++ drop j s
  pub reach : j ≡ i + length (content k)
  pub ends : (h : Command) (t : List ℕ) → FewDigits h → drop i s ≡ content h ++ t → t ≡ drop j s
  pub placed : places k ≡ places_from (i + length (netstring (spelling (word k)))) (arguments k)

-- those of no command are
abbrev pub NoPartsAt : List ℕ → ℕ → Type 0
NoPartsAt s i = (k : Command) (t : List ℕ) → FewDigits k → drop i s ≢ content k ++ t

-- the command that is read from i to j, or None where no command's word and arguments are written from i on
abbrev pub CommandRead : List ℕ → ℕ → Option Command → ℕ → Type 0
CommandRead s i None j = NoPartsAt s i
CommandRead s i (Some k) j = PartsAt s i k j

-- the bytes from i to the end are a command
abbrev pub CommandInside : List ℕ → ℕ → Option Command → Type 0
CommandInside s i None = NoCommand (drop i s)
CommandInside s i (Some k) =
    FewDigits k × (drop i s ≡ content k) × (places k ≡ places_from (i + length (netstring (spelling (word k)))) (arguments k))
