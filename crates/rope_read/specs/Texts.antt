-- What texts for reading are.
use Rattle.std.specs.Prelude.{◌≡◌, ℕ, ◌+◌, Bool, ◌||◌, List, [], ◌∷◌, Option, nat_le, nat_lt, length}
use Rattle.std.specs.List.{between}
use Rattle.refusal.specs.Refusals.{first}
use Rattle.refusal.specs.declared.Refusal.{Refusal}
use Rattle.refusal.specs.declared.Refusal.TheVariants.{BadPart}
use Rattle.rope.specs.Arena.{text_of}
use Rattle.rope.specs.Memory.{seen}
use Rattle.rope_read.specs.declared.text.Text.{Text}
use Rattle.rope_read.specs.declared.whole.Whole.{Whole}

-- the bytes of a whole text
abbrev pub whole_bytes : {V R : Type 0} {kind : _} → Whole V R kind → List ℕ
whole_bytes t = text_of (seen t.view) t.root

-- the bytes of a slice are those between its two bounds
abbrev pub bytes_in : {V R : Type 0} {kind : _} → Text V R kind → List ℕ
bytes_in t = between t.from t.to (text_of (seen t.view) t.root)

-- the part a to b is not lawful: a ≤ b ≤ length does not hold
abbrev pub bad_part : List ℕ → ℕ → ℕ → Bool
bad_part text a b = nat_lt b a || nat_lt (length text) b

-- why a part of a text is refused, and a byte
abbrev pub of_bounds : List ℕ → ℕ → ℕ → Option Refusal
of_bounds text a b = first ((bad_part text a b, BadPart) ∷ [])

abbrev pub of_place : List ℕ → ℕ → Option Refusal
of_place text i = first ((nat_le (length text) i, BadPart) ∷ [])

-- t is the part a to b of the slice s: it lies in the same text, so much further on
pub record IsSlice {V R : Type 0} {kind : _} (s : Text V R kind) (a b : ℕ) (t : Text V R kind) : Type 0 where
  pub view : t.view ≡ s.view
  pub root : t.root ≡ s.root
  pub from : t.from ≡ s.from + a
  pub to : t.to ≡ s.from + b
  pub bytes : bytes_in t ≡ between a b (bytes_in s)

-- what stands before the part a to b of the slice s, and what stands behind it
pub record Sides {V R : Type 0} {kind : _} (s : Text V R kind) (a b : ℕ) (p : Text V R kind × Text V R kind) : Type 0 where
  pub before : IsSlice s 0 a p.0
  pub behind : IsSlice s b (length (bytes_in s)) p.1
