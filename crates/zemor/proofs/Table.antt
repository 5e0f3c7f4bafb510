-- The table of the byte matrices: a list that is computed from its rule, which holds at each of its places.
use Rattle.std.proofs.Common.{◌≡◌, ℕ, zero, suc, ◌+◌, ◌<◌, List, [], ◌∷◌, get_or, refl, sym, ap, ◌∙◌, zero-add, add-zero, arith}
use Rattle.zemor.specs.Bits.{byte_product}
use Rattle.zemor.specs.declared.matrix.Entries.{Entries}
use Rattle.zemor.specs.declared.matrix.table.TheConstants.{TABLE}

-- the four entries, in order
abbrev pub in_order : Entries → List ℕ
in_order m = m.a ∷ m.b ∷ m.c ∷ m.d ∷ []

-- the matrices of n bytes, the first of them k
unfoldable pub rows_from : ℕ → ℕ → List (List ℕ)
rows_from k zero = []
rows_from k (suc n) = in_order (byte_product k) ∷ rows_from (suc k) n

rule_from : (k n i : ℕ) → i < n → get_or (rows_from k n) i [] ≡ in_order (byte_product (k + i))
unfolding rows_from
rule_from k zero i h = absurd (omega arith)
rule_from k (suc n) zero h = ap (λ j. in_order (byte_product j)) (sym (add-zero k))
rule_from k (suc n) (suc i) h =
    rule_from (suc k) n i (omega arith) ∙ ap (λ j. in_order (byte_product j)) (let t : suc k + i ≡ k + suc i = omega arith in t)

-- the row at the place k is the matrix of the byte k
pub rule : (k : ℕ) → k < 256 → get_or (rows_from 0 256) k [] ≡ in_order (byte_product k)
rule k h = rule_from 0 256 k h ∙ ap (λ j. in_order (byte_product j)) (zero-add k)

-- the rows of the rule, computed, are the table's 1,024 numbers
table_whole : TABLE ≡ rows_from 0 256
unfolding rows_from byte_product
table_whole = refl

pub row_at : (k : ℕ) → k < 256 → get_or TABLE k [] ≡ in_order (byte_product k)
row_at k h = ap (λ t. get_or t k []) table_whole ∙ rule k h
