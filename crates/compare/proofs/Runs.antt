-- How long runs are at most.
use Rattle.std.proofs.Common.{ℕ, ◌+◌, ◌≤◌, ◌==◌, Bool, List, reverse, length, take, drop, arith}
use Rattle.std.specs.List.{take_while, prefix_len, zip}
use Rattle.std.proofs.lemmas.List.{length-take, length-reverse, length-drop}
use Rattle.std.proofs.lemmas.Slice.Zip.{length-zip}
use Rattle.compare.specs.Changes.{front_of, back_of, before, behind, no_newline}

pub run_le : {X : Type 0} (p : X → Bool) (xs : List X) → length (take_while p xs) ≤ length xs
run_le p xs = omega (arith, length-take (prefix_len p xs) xs)

pub front_le : (a b : List ℕ) → (front_of a b ≤ length a) × (front_of a b ≤ length b)
front_le a b = let r = run_le (λ (p : ℕ × ℕ). p.0 == p.1) (zip a b) in (omega (arith, r, length-zip a b), omega (arith, r, length-zip a b))

pub back_le : (a b : List ℕ) → (back_of a b ≤ length a) × (back_of a b ≤ length b)
back_le a b = let r = front_le (reverse a) (reverse b) in (omega (arith, r.0, length-reverse a), omega (arith, r.1, length-reverse b))

pub before_le : (text : List ℕ) (place : ℕ) → before text place ≤ place
before_le text place = omega (arith, run_le no_newline (reverse (take place text)), length-reverse (take place text), length-take place text)

pub behind_le : (text : List ℕ) (place : ℕ) → place ≤ length text → place + behind text place ≤ length text
behind_le text place h = omega (arith, run_le no_newline (drop place text), length-drop place text, h)
