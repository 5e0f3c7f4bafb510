-- Netstrings that are read one behind the other.
use Rattle.std.proofs.Common.{◌≡◌, ℕ, zero, suc, ◌+◌, ◌-◌, ◌<◌, List, [], ◌∷◌, ◌++◌, map, length, take, drop, decimal, Some, Ok, Err, Result, MatchResult, sym, refl, ap, ◌∙◌, subst, append_assoc, append-nil, arith, length-append, take-append-drop}
use Rattle.std.specs.List.{AllByRecursion}
use Rattle.std.specs.Result.{result_ok}
use Rattle.std.proofs.lemmas.Fmt.{decimal_injective}
use Rattle.std.proofs.lemmas.List.{length-drop, length-take-le, map-append}
use Rattle.std.proofs.lemmas.Grind.{flat_map-append}
use Rattle.netstring.specs.Netstring.{netstring, NetstringAt, NoNetstringAt, Number, NoNumber}
use Rattle.netstring.specs.declared.read.Netstring.{Netstring}
use Rattle.netstring.proofs.Puts.{long}
use Rattle.refusal.specs.declared.Refusal.{Refusal}
use Rattle.refusal.specs.declared.Refusal.TheVariants.{BadNetstring}
use Rattle.script.specs.Commands.{few_digits, netstrings, places_from}
use Rattle.script.specs.Parsing.{TextAt, NumbersAt, NoNumbersAt}

-- a netstring at a place ends so far behind it
pub spans : (s c : List ℕ) (i j : ℕ) → NetstringAt s i c j → j ≡ i + length (netstring c)
spans s c i j r = omega (arith, r.within, ap length r.stands, length-append (netstring c) (drop j s), long c, length-drop i s, length-drop j s)

-- a netstring that is read as an option
pub read_ok : (s : List ℕ) (i : ℕ) (n : Netstring) (r : Result Netstring Refusal) → Some n ≡ result_ok r → MatchResult r (λ m. NetstringAt s i m.content.now m.next) (λ e. (e ≡ BadNetstring) × NoNetstringAt s i)
    → NetstringAt s i n.content.now n.next
read_ok s i n (Ok m) e h = let same : m ≡ n = cc in subst (λ x. NetstringAt s i x.content.now x.next) same h
read_ok s i n (Err x) e h = cc

-- one content
pub text_at : (s c : List ℕ) (i j : ℕ) → NetstringAt s i c j → TextAt s i c (j - 1 - length c) j
text_at s c i j r =
    let p : j - 1 - length c ≡ i + length (decimal (length c)) + 1 = omega (arith, spans s c i j r, long c) in
    record { stands = r; place = ap (λ n. n ∷ []) p }

-- one number
pub number_at : (s c : List ℕ) (i n p j : ℕ) → TextAt s i c p j → Number c n → NumbersAt s i (n ∷ []) (p ∷ []) j
number_at s c i n p j r k =
    let is : c ≡ decimal n = k.1 in
    record {
      few = (k.0, tt);
      stands = r.stands.stands ∙ rw (is, append-nil) refl;
      reach = spans s c i j r.stands ∙ rw (is, append-nil) refl;
      only = only';
      placed = r.place ∙ ap (λ t. places_from i (t ∷ [])) is;
    }
  where
    only' : (ms t : List ℕ) → length ms ≡ 1 → AllByRecursion few_digits ms → drop i s ≡ netstrings (map decimal ms) ++ t → (ms ≡ n ∷ []) × (t ≡ drop j s)
    only' (m ∷ []) t len few e =
        let o = r.stands.only (decimal m) t (e ∙ rw append-nil refl) in
        (ap (λ x. x ∷ []) (decimal_injective m n (omega (arith, few.0)) (omega (arith, k.0)) (o.0 ∙ k.1)), o.1)
    only' [] t len few e = absurd (omega arith)
    only' (m ∷ (x ∷ ms)) t len few e = absurd (omega arith)

-- no number, since no netstring stands there,
pub no_text : (s : List ℕ) (i n : ℕ) → NoNetstringAt s i → NoNumbersAt s i (suc n)
no_text s i n no' [] t len few e = absurd (omega arith)
no_text s i n no' (m ∷ ms) t len few e = no' (decimal m) (netstrings (map decimal ms) ++ t) (e ∙ append_assoc (netstring (decimal m)) (netstrings (map decimal ms)) t)

-- or since its content is none
pub no_number : (s c : List ℕ) (i j n : ℕ) → NetstringAt s i c j → NoNumber c → NoNumbersAt s i (suc n)
no_number s c i j n r no' [] t len few e = absurd (omega arith)
no_number s c i j n r no' (m ∷ ms) t len few e = no' m (few.0, sym (r.only (decimal m) (netstrings (map decimal ms) ++ t) (e ∙ append_assoc (netstring (decimal m)) (netstrings (map decimal ms)) t)).0)

all_front : (P : ℕ → Type 0) (k : ℕ) (ns : List ℕ) → AllByRecursion P ns → AllByRecursion P (take k ns)
all_front P zero ns h = tt
all_front P (suc k) [] h = tt
all_front P (suc k) (n ∷ ns) h = (h.0, all_front P k ns h.1)

all_back : (P : ℕ → Type 0) (k : ℕ) (ns : List ℕ) → AllByRecursion P ns → AllByRecursion P (drop k ns)
all_back P zero ns h = h
all_back P (suc k) [] h = tt
all_back P (suc k) (n ∷ ns) h = all_back P k ns h.1

all_more : (P : ℕ → Type 0) (ns ms : List ℕ) → AllByRecursion P ns → AllByRecursion P ms → AllByRecursion P (ns ++ ms)
all_more P [] ms h k = k
all_more P (n ∷ ns) ms h k = (h.0, all_more P ns ms h.1 k)

places_more : (i : ℕ) (cs ds : List (List ℕ)) → places_from i (cs ++ ds) ≡ places_from i cs ++ places_from (i + length (netstrings cs)) ds
places_more i [] ds = ap (λ k. places_from k ds) (omega arith)
places_more i (c ∷ cs) ds =
    let n : i + length (netstring c) + length (netstrings cs) ≡ i + length (netstring c ++ netstrings cs) = omega (arith, length-append (netstring c) (netstrings cs)) in
    ap (λ t. (i + length (decimal (length c)) + 1) ∷ t) (places_more (i + length (netstring c)) cs ds ∙ ap (λ k. places_from (i + length (netstring c)) cs ++ places_from k ds) n)

written_more : (ns ms t : List ℕ) → netstrings (map decimal (ns ++ ms)) ++ t ≡ netstrings (map decimal ns) ++ (netstrings (map decimal ms) ++ t)
written_more ns ms t = rw (map-append decimal ns ms, flat_map-append netstring (map decimal ns) (map decimal ms)) (append_assoc (netstrings (map decimal ns)) (netstrings (map decimal ms)) t)

-- no number yet
pub none_yet : (s : List ℕ) (i : ℕ) → NumbersAt s i [] [] i
none_yet s i = record { few = tt; stands = refl; reach = omega arith; only = only'; placed = refl }
  where
    only' : (ms t : List ℕ) → length ms ≡ 0 → AllByRecursion few_digits ms → drop i s ≡ netstrings (map decimal ms) ++ t → (ms ≡ []) × (t ≡ drop i s)
    only' [] t len few e = (refl, sym e)
    only' (m ∷ ms) t len few e = absurd (omega arith)

-- numbers, and more behind them
pub more : (s : List ℕ) (i : ℕ) (ns ps : List ℕ) (j : ℕ) (ms qs : List ℕ) (k : ℕ) → NumbersAt s i ns ps j → NumbersAt s j ms qs k → NumbersAt s i (ns ++ ms) (ps ++ qs) k
more s i ns ps j ms qs k f g = record {
  few = all_more few_digits ns ms f.few g.few;
  stands = f.stands ∙ ap (λ t. netstrings (map decimal ns) ++ t) g.stands ∙ sym (written_more ns ms (drop k s));
  reach = g.reach ∙ ap (λ p. p + length (netstrings (map decimal ms))) f.reach ∙ omega (arith, ap length (written_more ns ms []), length-append (netstrings (map decimal ns)) (netstrings (map decimal ms) ++ []), length-append (netstrings (map decimal ms)) [], length-append (netstrings (map decimal (ns ++ ms))) []);
  only = λ xs t len few e. (let a = take (length ns) xs in
      let b = drop (length ns) xs in
      let whole : a ++ b ≡ xs = take-append-drop (length ns) xs in
      let la : length a ≡ length ns = length-take-le (length ns) xs (omega (arith, length-append ns ms)) in
      let lb : length b ≡ length ms = omega (arith, length-drop (length ns) xs, length-append ns ms) in
      let o = f.only a (netstrings (map decimal b) ++ t) la (all_front few_digits (length ns) xs few) (e ∙ ap (λ z. netstrings (map decimal z) ++ t) (sym whole) ∙ written_more a b t) in
      let p = g.only b t lb (all_back few_digits (length ns) xs few) (sym o.1) in
      (sym whole ∙ ap (λ z. z ++ b) o.0 ∙ ap (λ z. ns ++ z) p.0, p.1));
  placed = ap (λ z. z ++ qs) f.placed ∙ ap (λ z. places_from i (map decimal ns) ++ z) (g.placed ∙ ap (λ p. places_from p (map decimal ms)) f.reach)
      ∙ sym (ap (places_from i) (map-append decimal ns ms) ∙ places_more i (map decimal ns) (map decimal ms));
}

-- numbers, and none behind them
pub no_more : (s : List ℕ) (i : ℕ) (ns ps : List ℕ) (j n : ℕ) → NumbersAt s i ns ps j → NoNumbersAt s j 1 → length ns < n → NoNumbersAt s i n
no_more s i ns ps j n f no' less xs t len few e =
    let a = take (length ns) xs in
    let b = drop (length ns) xs in
    let whole : a ++ b ≡ xs = take-append-drop (length ns) xs in
    let la : length a ≡ length ns = length-take-le (length ns) xs (omega arith) in
    let o = f.only a (netstrings (map decimal b) ++ t) la (all_front few_digits (length ns) xs few) (e ∙ ap (λ z. netstrings (map decimal z) ++ t) (sym whole) ∙ written_more a b t) in
    first b (all_back few_digits (length ns) xs few) (omega (arith, length-drop (length ns) xs)) (sym o.1)
  where
    first : (b : List ℕ) → AllByRecursion few_digits b → 0 < length b → drop j s ≡ netstrings (map decimal b) ++ t → ⊥
    first [] fw some e' = absurd (omega arith)
    first (m ∷ ms) fw some e' = no' (m ∷ []) (netstrings (map decimal ms) ++ t) refl (fw.0, tt) (e' ∙ written_more (m ∷ []) ms t)
