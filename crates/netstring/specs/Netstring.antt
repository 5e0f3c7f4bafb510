-- Netstrings: a length in decimal, a colon, that many bytes, a comma.
use Rattle.std.specs.Prelude.{◌≡◌, ℕ, ◌≤◌, List, [], ◌∷◌, ◌++◌, length, drop, Ok, Err, decimal, Result, ◌≢◌, slice_index}
use Rattle.refusal.specs.declared.Refusal.{Refusal}
use Rattle.std.specs.Int.{IsInRange}
use Rattle.netstring.specs.declared.read.TheConstants.{MOST_NUMBER}

-- the netstring of a content
unfoldable pub netstring : List ℕ → List ℕ
netstring c = decimal (length c) ++ (58 ∷ (c ++ (44 ∷ [])))

-- the netstring of c stands in s at the place i, and no other, and the place behind it is j
pub record NetstringAt (s : List ℕ) (i : ℕ) (c : List ℕ) (j : ℕ) : Type 0 where
  pub within : j ≤ length s
  pub stands : drop i s ≡ netstring c ++ drop j s
  pub only : (d t : List ℕ) → drop i s ≡ netstring d ++ t → (d ≡ c) × (t ≡ drop j s)

-- no netstring stands in s at i
abbrev pub NoNetstringAt : List ℕ → ℕ → Type 0
NoNetstringAt s i = (c t : List ℕ) → drop i s ≢ netstring c ++ t

-- s begins with no digit
abbrev pub NoDigit : List ℕ → Type 0
NoDigit s = IsInRange 48 57 (slice_index s 0) → ⊥

-- n, up to the limit, stands at the front of s, and rest lies behind it; before no further digit stands no other such number
pub record Run (s : List ℕ) (limit n : ℕ) (rest : List ℕ) : Type 0 where
  pub begins : s ≡ decimal n ++ rest
  pub within : n ≤ limit
  pub only : (m : ℕ) (z : List ℕ) → m ≤ limit → NoDigit z → s ≡ decimal m ++ z → (m ≡ n) × (rest ≡ z)

-- no number up to the limit stands at the front of s, before no further digit
abbrev pub NoRun : List ℕ → ℕ → Type 0
NoRun s limit = (m : ℕ) (z : List ℕ) → m ≤ limit → NoDigit z → s ≢ decimal m ++ z

-- s is the number n, of one to seven digits and written like a length
abbrev pub Number : List ℕ → ℕ → Type 0
Number s n = (n ≤ MOST_NUMBER) × (s ≡ decimal n)

-- s is no such number
abbrev pub NoNumber : List ℕ → Type 0
NoNumber s = (n : ℕ) → Number s n → ⊥

-- where a netstring was written, the one netstring at the front of the buffer has the content c
abbrev pub ReadAgain : List ℕ → Result ℕ Refusal → List ℕ → Type 0
ReadAgain c (Err e) is = Unit {0}
ReadAgain c (Ok k) is = NetstringAt is 0 c k
