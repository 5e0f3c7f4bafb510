-- The commands of a script, and how they are written.
use Rattle.std.specs.Prelude.{◌≡◌, ℕ, ◌+◌, ◌≤◌, List, [], ◌∷◌, map, length, decimal, Ok, Err, Result, ◌≢◌}
use Rattle.std.specs.List.{flat_map, AllByRecursion}
use Rattle.netstring.specs.Netstring.{netstring, NetstringAt, NoNetstringAt}
use Rattle.netstring.specs.declared.read.TheConstants.{MOST_NUMBER}
use Rattle.refusal.specs.declared.Refusal.{Refusal}
use Rattle.refusal.specs.declared.Refusal.TheVariants.{BadNetstring, BadCall}
use Rattle.script.specs.Words.{spelling}
use Rattle.script.specs.declared.command.Word.{Word}
use Rattle.script.specs.declared.command.Word.TheVariants as words
use Rattle.script.specs.declared.command.Command.{Command}
use Rattle.script.specs.declared.command.Command.TheVariants.{Put, Cut, Splice, Mark, Text}

abbrev pub word : Command → Word
word (Put text) = words.Put
word (Cut d a b) = words.Cut
word (Splice d a b e) = words.Splice
word (Mark d) = words.Mark
word (Text d) = words.Text

-- its number arguments
abbrev pub number_arguments : Command → List ℕ
number_arguments (Put text) = []
number_arguments (Cut d a b) = d.value ∷ a.value ∷ b.value ∷ []
number_arguments (Splice d a b e) = d.value ∷ a.value ∷ b.value ∷ e.value ∷ []
number_arguments (Mark d) = d.value ∷ []
number_arguments (Text d) = d.value ∷ []

-- its arguments, as they are written
abbrev pub arguments : Command → List (List ℕ)
arguments (Put text) = text.value.now ∷ []
arguments (Cut d a b) = map decimal (number_arguments (Cut d a b))
arguments (Splice d a b e) = map decimal (number_arguments (Splice d a b e))
arguments (Mark d) = map decimal (number_arguments (Mark d))
arguments (Text d) = map decimal (number_arguments (Text d))

-- the places of its arguments
abbrev pub places : Command → List ℕ
places (Put text) = text.at ∷ []
places (Cut d a b) = d.at ∷ a.at ∷ b.at ∷ []
places (Splice d a b e) = d.at ∷ a.at ∷ b.at ∷ e.at ∷ []
places (Mark d) = d.at ∷ []
places (Text d) = d.at ∷ []

-- a number argument has one to seven digits
abbrev pub few_digits : ℕ → Type 0
few_digits n = n ≤ MOST_NUMBER

abbrev pub FewDigits : Command → Type 0
FewDigits k = AllByRecursion few_digits (number_arguments k)

-- the netstrings of these contents, one behind the other
abbrev pub netstrings : List (List ℕ) → List ℕ
netstrings cs = flat_map netstring cs

-- where these contents stand, if their netstrings begin at the place i: each behind its length and a colon
abbrev pub places_from : ℕ → List (List ℕ) → List ℕ
places_from i [] = []
places_from i (c ∷ cs) = (i + length (decimal (length c)) + 1) ∷ places_from (i + length (netstring c)) cs

-- the content of a command's netstring: a word, then arguments
abbrev pub content : Command → List ℕ
content k = netstrings (spelling (word k) ∷ arguments k)

-- a command stands in the script s at the place i; behind it is the place j
pub record CommandAt (s : List ℕ) (i : ℕ) (k : Command) (j : ℕ) : Type 0 where
  pub stands : NetstringAt s i (content k) j
  pub digits : FewDigits k
  -- each argument has its own place in the script
  pub placed : places k ≡ places_from (i + length (decimal (length (content k))) + 1 + length (netstring (spelling (word k)))) (arguments k)

-- these bytes are no command
abbrev pub NoCommand : List ℕ → Type 0
NoCommand c = (k : Command) → FewDigits k → content k ≢ c

-- why no command is read at a place: what stands there is no netstring, and then the place behind it is the script's end;
-- or a netstring stands there, and it holds no command
pub data Misread (s : List ℕ) (i : ℕ) : Refusal → ℕ → Type 0 where
  no_netstring : NoNetstringAt s i → Misread s i BadNetstring (length s)
  no_command : {c : List ℕ} {j : ℕ} → NetstringAt s i c j → NoCommand c → Misread s i BadCall j

-- what is read at a place, and the place behind it
abbrev pub ReadAt : List ℕ → ℕ → Result Command Refusal → ℕ → Type 0
ReadAt s i (Ok k) j = CommandAt s i k j
ReadAt s i (Err e) j = Misread s i e j
