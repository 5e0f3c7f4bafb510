-- Commands that are read: a word, and the arguments behind it.
use Rattle.std.proofs.Common.{◌≡◌, ℕ, zero, suc, ◌+◌, ◌-◌, ◌≤◌, Bool, true, false, cond, eqb, List, [], ◌∷◌, ◌++◌, map, length, get_or, take, drop, decimal, Some, None, Option, sym, refl, ap, ◌∙◌, subst, append_assoc, append-nil, arith, length-append, drop-cons}
use Rattle.std.specs.Bool.{then_some}
use Rattle.std.specs.Option.{ok_or}
use Rattle.std.proofs.lemmas.Bool.Decides.{nat_tests}
use Rattle.std.proofs.lemmas.List.{drop_all, drop_at, take_at, drop-drop, length-drop, drop-take}
use Rattle.std.specs.Borrow.{Bor}
use Rattle.netstring.specs.Netstring.{netstring, NetstringAt}
use Rattle.netstring.proofs.Fronts.{parts}
use Rattle.netstring.proofs.Puts.{long}
use Rattle.script.specs.Words.{spelling}
use Rattle.script.specs.Commands.{word, number_arguments, arguments, places, netstrings, places_from, content, ReadAt}
use Rattle.script.specs.Commands.Misread.{no_command}
use Rattle.script.specs.Parsing.{TextAt, NumbersAt, NoNumbersAt, PartsAt, NoPartsAt, CommandInside}
use Rattle.refusal.specs.declared.Refusal.TheVariants.{BadCall}
use Rattle.script.specs.declared.command.Argument.{Argument}
use Rattle.script.specs.declared.command.Word.{Word}
use Rattle.script.specs.declared.command.Word.TheVariants as words
use Rattle.script.specs.declared.command.Command.{Command}
use Rattle.script.specs.declared.command.Command.TheVariants.{Put, Cut, Splice, Mark, Text}
use Rattle.script.proofs.Parts.{spans}

-- the first letter tells the words apart
first_tells : List ℕ → Word
first_tells s = cond (eqb (get_or s 0 0) 112) words.Put (cond (eqb (get_or s 0 0) 99) words.Cut (cond (eqb (get_or s 0 0) 115) words.Splice (cond (eqb (get_or s 0 0) 109) words.Mark words.Text)))

tells : (w : Word) → first_tells (spelling w) ≡ w
unfolding first_tells
tells words.Put = refl
tells words.Cut = refl
tells words.Splice = refl
tells words.Mark = refl
tells words.Text = refl

one_word : (v w : Word) → spelling v ≡ spelling w → v ≡ w
one_word v w e = sym (tells v) ∙ ap first_tells e ∙ tells w

-- how many numbers go with a word, and whether there is nothing else
abbrev pub count : Word → ℕ
count words.Put = 0
count words.Cut = 3
count words.Splice = 4
count words.Mark = 1
count words.Text = 1

abbrev pub numbered : Word → Bool
numbered words.Put = false
numbered words.Cut = true
numbered words.Splice = true
numbered words.Mark = true
numbered words.Text = true

counted : (h : Command) → length (number_arguments h) ≡ count (word h)
counted (Put t) = refl
counted (Cut d a b) = refl
counted (Splice d a b e) = refl
counted (Mark d) = refl
counted (Text d) = refl

all_numbers : (h : Command) → numbered (word h) ≡ true → arguments h ≡ map decimal (number_arguments h)
all_numbers (Put t) e = cc
all_numbers (Cut d a b) e = refl
all_numbers (Splice d a b x) e = refl
all_numbers (Mark d) e = refl
all_numbers (Text d) e = refl

module _ (s c : List ℕ) (i j : ℕ) (w : Word) (r : NetstringAt s i c j) (is : c ≡ spelling w) where
  -- a command that stands there has that word, and its arguments behind it
  behind : (h : Command) (t : List ℕ) → drop i s ≡ content h ++ t → (word h ≡ w) × (drop j s ≡ netstrings (arguments h) ++ t)
  behind h t e =
      let o = r.only (spelling (word h)) (netstrings (arguments h) ++ t) (e ∙ append_assoc (netstring (spelling (word h))) (netstrings (arguments h)) t) in
      (one_word (word h) w (o.0 ∙ is), sym o.1)

  no_numbers : numbered w ≡ true → NoNumbersAt s j (count w) → NoPartsAt s i
  no_numbers y no' h t l e =
      let b = behind h t e in
      no' (number_arguments h) t (counted h ∙ ap count b.0) l (b.1 ∙ ap (λ z. netstrings z ++ t) (all_numbers h (ap numbered b.0 ∙ y)))

  -- behind the word, so far the arguments of k reach
  reaches : (k : Command) (m : ℕ) → word k ≡ w → m ≡ j + length (netstrings (arguments k)) → m ≡ i + length (content k)
  reaches k m v f =
      let n : length (netstring c) ≡ length (netstring (spelling (word k))) = ap (λ z. length (netstring z)) is ∙ ap (λ z. length (netstring (spelling z))) (sym v) in
      omega (arith, spans s c i j r, length-append (netstring (spelling (word k))) (netstrings (arguments k)))

  stands : (k : Command) (m : ℕ) → word k ≡ w → drop j s ≡ netstrings (arguments k) ++ drop m s → drop i s ≡ content k ++ drop m s
  stands k m v f =
      r.stands ∙ ap (λ z. netstring z ++ drop j s) (is ∙ ap spelling (sym v)) ∙ ap (λ z. netstring (spelling (word k)) ++ z) f
      ∙ sym (append_assoc (netstring (spelling (word k))) (netstrings (arguments k)) (drop m s))

  from : (k : Command) → word k ≡ w → j ≡ i + length (netstring (spelling (word k)))
  from k v = spans s c i j r ∙ ap (λ z. i + length (netstring z)) (is ∙ ap spelling (sym v))

  with_numbers : (k : Command) (m : ℕ) → word k ≡ w → numbered w ≡ true → NumbersAt s j (number_arguments k) (places k) m → PartsAt s i k m
  with_numbers k m v y f =
      let a : arguments k ≡ map decimal (number_arguments k) = all_numbers k (ap numbered v ∙ y) in record {
        digits = f.few;
        stands = stands k m v (f.stands ∙ ap (λ z. netstrings z ++ drop m s) (sym a));
        reach = reaches k m v (f.reach ∙ ap (λ z. j + length (netstrings z)) (sym a));
        ends = λ h t l e. (let b = behind h t e in
            (f.only (number_arguments h) t (counted h ∙ ap count (b.0 ∙ sym v) ∙ sym (counted k)) l (b.1 ∙ ap (λ z. netstrings z ++ t) (all_numbers h (ap numbered b.0 ∙ y)))).1);
        placed = f.placed ∙ ap (λ z. places_from j z) (sym a) ∙ ap (λ z. places_from z (arguments k)) (from k v);
      }

  with_text : (t : Argument (Bor (List ℕ))) (m : ℕ) → w ≡ words.Put → TextAt s j t.value.now t.at m → PartsAt s i (Put t) m
  with_text t m v f =
      let a = append-nil (netstring t.value.now) in record {
        digits = tt;
        stands = stands (Put t) m (sym v) (f.stands.stands ∙ ap (λ z. z ++ drop m s) (sym a));
        reach = reaches (Put t) m (sym v) (spans s t.value.now j m f.stands ∙ ap (λ z. j + length z) (sym a));
        ends = λ h z l e. (let b = behind h z e in ends_with h z (b.0 ∙ v) b.1 f);
        placed = f.place ∙ ap (λ z. places_from z (t.value.now ∷ [])) (from (Put t) (sym v));
      }
    where
      ends_with : (h : Command) (z : List ℕ) → word h ≡ words.Put → drop j s ≡ netstrings (arguments h) ++ z → TextAt s j t.value.now t.at m → z ≡ drop m s
      ends_with (Put x) z v e f = (f.stands.only x.value.now z (e ∙ ap (λ y. y ++ z) (append-nil (netstring x.value.now)))).1
      ends_with (Cut d a b) z v e f = cc
      ends_with (Splice d a b x) z v e f = cc
      ends_with (Mark d) z v e f = cc
      ends_with (Text d) z v e f = cc

-- a list is its elements, one by one
abbrev pub listed : List (Argument ℕ) → ℕ → ℕ → List (Argument ℕ)
listed xs i zero = []
listed xs i (suc n) = get_or xs i (record { value = 0; at = 0 }) ∷ listed xs (suc i) n

lists : (xs : List (Argument ℕ)) (i n : ℕ) → i + n ≡ length xs → drop i xs ≡ listed xs i n
lists xs i zero h = drop_all i xs (omega arith)
lists xs i (suc n) h = drop-cons xs i (record { value = 0; at = 0 }) (omega arith) ∙ ap (λ t. get_or xs i (record { value = 0; at = 0 }) ∷ t) (lists xs (suc i) n (omega arith))

-- what is read behind a word w, of the text a that is lent once more as b
module _ (a b : Bor (List ℕ)) (same : b ≡ a) (i j : ℕ) (c : List ℕ) (w : Word) (r : NetstringAt a.now i c j) (is : c ≡ spelling w) where
  pub none : (v : Word) → w ≡ v → numbered v ≡ true → NoNumbersAt b.now j (count v) → NoPartsAt a.now i
  none v e y no' =
      no_numbers a.now c i j v r (is ∙ ap spelling e) y (subst (λ z. NoNumbersAt z.now j (count v)) same no')

  pub some : (k : Command) (xs : List (Argument ℕ)) (m : ℕ) → w ≡ word k → numbered (word k) ≡ true → length xs ≡ count (word k)
      → number_arguments k ≡ map (λ x. x.value) (listed xs 0 (count (word k))) → places k ≡ map (λ x. x.at) (listed xs 0 (count (word k)))
      → NumbersAt b.now j (map (λ x. x.value) xs) (map (λ x. x.at) xs) m → PartsAt a.now i k m
  some k xs m e y len ns ps f =
      let all : xs ≡ listed xs 0 (count (word k)) = lists xs 0 (count (word k)) (omega arith) in
      let g = subst (λ z. NumbersAt z.now j (map (λ x. x.value) xs) (map (λ x. x.at) xs) m) same f in
      let h = subst (λ z. NumbersAt a.now j (map (λ x. x.value) z) (map (λ x. x.at) z) m) all g in
      with_numbers a.now c i j w r is k m (sym e) (ap numbered e ∙ y) (subst (λ z. NumbersAt a.now j z (places k) m) (sym ns) (subst (λ z. NumbersAt a.now j (map (λ x. x.value) (listed xs 0 (count (word k)))) z m) (sym ps) h))

  pub text : (t : Argument (Bor (List ℕ))) (m : ℕ) → w ≡ words.Put → TextAt b.now j t.value.now t.at m → PartsAt a.now i (Put t) m
  text t m e f = with_text a.now c i j w r is t m e (subst (λ z. TextAt z.now j t.value.now t.at m) same f)

within : (s : List ℕ) (i : ℕ) (k : Command) (m : ℕ) → PartsAt s i k m → m ≤ length s
within s i k m f = omega (arith, f.reach, ap length f.stands, length-append (content k) (drop m s), length-append (netstring (spelling (word k))) (netstrings (arguments k)), long (spelling (word k)), length-drop i s, length-drop m s)

-- the arguments end where the text does, or those bytes are no command
pub ended : (s : List ℕ) (i : ℕ) (k : Command) (m : ℕ) → PartsAt s i k m → CommandInside s i (then_some (eqb m (length s)) k)
ended s i k m f = by (eqb m (length s)) refl
  where
    by : (b : Bool) → eqb m (length s) ≡ b → CommandInside s i (then_some b k)
    by true h =
        let none_left : drop m s ≡ [] = drop_all m s (grind (arith, nat_tests)) in
        (f.digits, f.stands ∙ ap (λ z. content k ++ z) none_left ∙ append-nil (content k), f.placed)
    by false h = λ x l e. (let o = f.ends x [] l (sym e ∙ sym (append-nil (content x))) in
        let q : length s ≤ m = omega (arith, ap length o, length-drop m s) in
        absurd (grind (arith, nat_tests, within s i k m f)))

-- the content of a netstring lies before its comma
inside : (s c : List ℕ) (i j : ℕ) → NetstringAt s i c j → drop (j - 1 - length c) (take (j - 1) s) ≡ c
inside s c i j r =
    let d = decimal (length c) in
    let p : j - 1 - length c ≡ i + (length d + 1) = omega (arith, spans s c i j r, long c) in
    let e : drop i s ≡ (d ++ (58 ∷ [])) ++ (c ++ (44 ∷ drop j s)) = r.stands ∙ parts c (drop j s) ∙ sym (append_assoc d (58 ∷ []) (c ++ (44 ∷ drop j s))) in
    let f : drop (i + (length d + 1)) s ≡ c ++ (44 ∷ drop j s) = sym (drop-drop (length d + 1) i s) ∙ ap (drop (length d + 1)) e ∙ drop_at (d ++ (58 ∷ [])) (c ++ (44 ∷ drop j s)) (length d + 1) (length-append d (58 ∷ [])) in
    let n : j - 1 ≡ i + (length d + 1) + length c = omega (arith, spans s c i j r, long c) in
    ap (λ q. drop q (take (j - 1) s)) p ∙ ap (λ q. drop (i + (length d + 1)) (take q s)) n ∙ drop-take (i + (length d + 1)) (length c) s ∙ ap (take (length c)) f ∙ take_at c (44 ∷ drop j s) (length c) refl

-- what the content tells of the netstring at a place
pub read_there : (s c : List ℕ) (i j : ℕ) (r : Option Command) → NetstringAt s i c j → CommandInside (take (j - 1) s) (j - 1 - length c) r → ReadAt s i (ok_or r BadCall) j
read_there s c i j None r h = no_command r (λ k l e. h k l (e ∙ sym (inside s c i j r)))
read_there s c i j (Some k) r h =
    let is : c ≡ content k = sym (inside s c i j r) ∙ h.1 in
    let p : j - 1 - length c ≡ i + length (decimal (length (content k))) + 1 = (omega (arith, spans s c i j r, long c) ∙ ap (λ z. i + length (decimal (length z)) + 1) is) in
    record {
      stands = subst (λ z. NetstringAt s i z j) is r;
      digits = h.0;
      placed = h.2 ∙ ap (λ q. places_from (q + length (netstring (spelling (word k)))) (arguments k)) p;
    }
