-- What a writer holds.
use Rattle.std.proofs.Common.{ℕ, ◌-◌, ◌+◌, List, [], ◌++◌, length, take, drop, Some, None, Option, sym, ap, ◌∙◌, subst, append_assoc, append-nil}
use Rattle.std.specs.Io.KnownBytes.{Appends}
use Rattle.std.proofs.Math.Seq.{take-add}
use Rattle.std.proofs.lemmas.List.{take_rest}

pub appends_none : (x : Option (List ℕ)) → Appends x x []
appends_none None = tt
appends_none (Some xs) = sym (append-nil xs)

pub appends_more : (x y z : Option (List ℕ)) (a b : List ℕ) → Appends x y a → Appends y z b → Appends x z (a ++ b)
appends_more None y z a b h k = tt
appends_more (Some xs) None z a b h k = absurd h
appends_more (Some xs) (Some ys) None a b h k = absurd k
appends_more (Some xs) (Some ys) (Some zs) a b h k = k ∙ ap (λ l. l ++ b) h ∙ append_assoc xs a b

-- a front of some bytes, and then a front of what is left of them
pub appends_on : (x y z : Option (List ℕ)) (bytes : List ℕ) (at n : ℕ) → Appends x y (take at bytes) → Appends y z (take n (take (length bytes - at) (drop at bytes))) → Appends x z (take (at + n) bytes)
appends_on x y z bytes at n h k =
    subst (Appends x z) (sym (take-add at n bytes)) (appends_more x y z (take at bytes) (take n (drop at bytes)) h (subst (λ l. Appends y z (take n l)) (take_rest bytes at) k))
