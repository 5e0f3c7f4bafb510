-- Netstrings that are written piece by piece.
use Rattle.std.proofs.Common.{◌≡◌, ℕ, ◌+◌, ◌-◌, ◌^◌, ◌<◌, ◌≤◌, List, [], ◌∷◌, ◌++◌, length, take, drop, decimal, None, Option, Ok, Err, Result, sym, refl, ap, ◌∙◌, subst, append_assoc, append-nil, arith, length-append}
use Rattle.std.proofs.lemmas.Fmt.{length-decimal-le}
use borrow.Rule.Slice.PartMut.{put_mid}
use Rattle.std.specs.Result.{IsOk}
use Rattle.std.proofs.lemmas.List.{take_at, drop_at, drop_all, drop-drop, length-drop, take_rest}
use Rattle.refusal.specs.Writing.{Stands, Writes}
use Rattle.netstring.specs.Netstring.{netstring}
use Rattle.refusal.specs.Refusals.{number_of}
use Rattle.refusal.specs.declared.Refusal.{Refusal}
use Rattle.script.specs.declared.limits.TheConstants.{MOST_TOLD}
use Rattle.script.specs.Answers.{worded}

-- a number has at most twenty digits
pub digits : (n : ℕ) → n < 2 ^ 64 → length (decimal n) ≤ 20
digits n small = length-decimal-le 20 n (omega arith) (omega arith) (omega arith)

-- and the length of a text that is told has four
pub short : (n : ℕ) → n ≤ MOST_TOLD → length (decimal n) ≤ 4
short n h = length-decimal-le 4 n (omega arith) (omega arith) (omega arith)

-- nothing is written yet
pub start : (was : List ℕ) → Stands [] was 0 was
start was = (refl, omega arith, refl)

-- what comes before the colon, the content and a comma make the netstring of the content
pub closed : (c was new : List ℕ) (k r : ℕ) → k ≡ length c → Stands (((decimal k ++ (58 ∷ [])) ++ c) ++ (44 ∷ [])) was r new → Stands (netstring c) was r new
unfolding netstring
closed c was new k r len h =
    let e : ((decimal k ++ (58 ∷ [])) ++ c) ++ (44 ∷ []) ≡ netstring c = rw len (simp append_assoc) in
    subst (λ t. Stands t was r new) e h

-- a refusal's answer, piece by piece
pub refused : (why : Refusal) (place : ℕ) (was new : List ℕ) (k r : ℕ) → place < 2 ^ 64 → k ≡ 2 + length (decimal (number_of why)) + length (decimal place)
    → Stands (((((((decimal k ++ (58 ∷ [])) ++ (45 ∷ [])) ++ decimal (number_of why)) ++ (64 ∷ [])) ++ decimal place) ++ (44 ∷ []))) was r new
    → Stands (netstring (worded place (Err why))) was r new
refused why place was new k r small len h =
    let c = worded place (Err why) in
    let e : (((((decimal k ++ (58 ∷ [])) ++ (45 ∷ [])) ++ decimal (number_of why)) ++ (64 ∷ [])) ++ decimal place) ++ (44 ∷ []) ≡ ((decimal k ++ (58 ∷ [])) ++ c) ++ (44 ∷ []) = simp append_assoc in
    let n = decimal (number_of why) in
    let is : k ≡ length c = omega (arith, length-append n (64 ∷ decimal place)) in
    closed c was new k r is (subst (λ t. Stands t was r new) e h)

-- what is not refused is written
pub accepted : (why : Option Refusal) (w old new : List ℕ) (r : Result ℕ Refusal) → Writes why w old new r → why ≡ None → IsOk r
accepted why w old new (Ok n) h e = refl
accepted why w old new (Err x) h e = cc

-- a text that is written to what is left of a buffer stands behind what was written before
pub lent : (front was b new text : List ℕ) (at n : ℕ) → Stands front was at b → at + n ≤ length b → Stands text (take (length b - at) (drop at b)) n new
    → Stands (front ++ text) was (at + n) (put_mid at (length b - at) b new)
lent front was b new text at n w room (len, fits, is) =
    let f : take at b ≡ front = ap (take at) w.2 ∙ take_at front (drop at was) at (sym w.0) in
    let g : drop at b ≡ drop at was = ap (drop at) w.2 ∙ drop_at front (drop at was) at (sym w.0) in
    let z : drop (length b - at) (drop at b) ≡ [] = drop_all (length b - at) (drop at b) (omega (arith, length-drop at b)) in
    let t : new ≡ text ++ drop (at + n) was = is ∙ ap (λ l. text ++ drop n l) (take_rest b at ∙ g) ∙ ap (λ l. text ++ l) (drop-drop n at was) in
    let same : length b ≡ length was = omega (arith, ap length w.2, length-append front (drop at was), length-drop at was) in
    (omega (arith, length-append front text), omega (arith, same), rw (f, z, append-nil, t) (sym (append_assoc front text (drop (at + n) was))))
