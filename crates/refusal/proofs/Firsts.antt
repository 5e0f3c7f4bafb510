-- The first reason of a list that holds.
use Rattle.std.proofs.Common.{◌≡◌, ℕ, Bool, true, false, cond, ◌||◌, [], ◌∷◌, ◌++◌, Some, None, refl, ap, arith}
use Rattle.refusal.specs.Refusals.{Reasons, first}
use Rattle.refusal.specs.declared.Refusal.{Refusal}

pub first_is : {b : Bool} (r : Refusal) (rs : Reasons) → b ≡ true → first ((b, r) ∷ rs) ≡ Some r
first_is r rs e = ap (λ c. cond c (Some r) (first rs)) e

pub first_not : {b : Bool} (r : Refusal) (rs : Reasons) → b ≡ false → first ((b, r) ∷ rs) ≡ first rs
first_not r rs e = ap (λ c. cond c (Some r) (first rs)) e

-- a reason that is there stays the first, whatever follows
pub first_stays : (rs qs : Reasons) (e : Refusal) → first rs ≡ Some e → first (rs ++ qs) ≡ Some e
first_stays [] qs e h = absurd (let z : ◌≡◌ {A = ℕ} 0 1 = cc in omega arith)
first_stays ((true, r) ∷ rs) qs e h = h
first_stays ((false, r) ∷ rs) qs e h = first_stays rs qs e h

-- where there is none, what follows decides
pub first_then : (rs qs : Reasons) → first rs ≡ None → first (rs ++ qs) ≡ first qs
first_then [] qs h = refl
first_then ((true, r) ∷ rs) qs h = absurd (let z : ◌≡◌ {A = ℕ} 0 1 = cc in omega arith)
first_then ((false, r) ∷ rs) qs h = first_then rs qs h

-- where none holds, the first does not, and no other does
pub passed : (b : Bool) (r : Refusal) (rs : Reasons) → first ((b, r) ∷ rs) ≡ None → (b ≡ false) × (first rs ≡ None)
passed true r rs h = absurd (let z : ◌≡◌ {A = ℕ} 0 1 = cc in omega arith)
passed false r rs h = (refl, h)

-- no condition of the list holds
abbrev pub Passes : Reasons → Type 0
Passes [] = Unit {0}
Passes (r ∷ rs) = (r.0 ≡ false) × Passes rs

pub first_none : (rs : Reasons) → first rs ≡ None → Passes rs
first_none [] h = tt
first_none ((b, r) ∷ rs) h = let p = passed b r rs h in (p.0, first_none rs p.1)

-- two conditions for one refusal
pub first_or : (a b : Bool) (r : Refusal) (rs : Reasons) → first ((a || b, r) ∷ rs) ≡ first ((a, r) ∷ (b, r) ∷ rs)
first_or true b r rs = refl
first_or false b r rs = refl
