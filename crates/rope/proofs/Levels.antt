-- How high a tree of k leaves is, that is built by halves.
use Rattle.std.proofs.Common.{◌≡◌, ℕ, ◌+◌, ◌-◌, ◌*◌, ◌/◌, ◌^◌, ◌<◌, ◌≤◌, max, List, ◌++◌, take, drop, sym, ap, ◌∙◌, subst, inl, inr, arith, take-add, pow_pos, pow_mono, pow-add}
use Rattle.std.proofs.lemmas.List.{drop-drop}
use Rattle.std.proofs.lemmas.Bool.{cases_lt}
use Rattle.rope.specs.Steps.{leaves}

pub record Level (h k : ℕ) : Type 0 where
  pub high : k ≤ 2 ^ h
  pub low : 0 < h → 2 ^ (h - 1) < k

module _ (h₁ h₂ k₁ k₂ : ℕ) (a : Level h₁ k₁) (b : Level h₂ k₂) (some : 0 < k₁) (ordered : k₁ ≤ k₂) (near : k₂ ≤ k₁ + 1) where
  pub level_left : h₁ ≤ h₂
  level_left =
      elim (cases_lt h₂ h₁) [
        | inl k ↦
            let p : 2 ^ h₂ ≤ 2 ^ (h₁ - 1) = pow_mono {i = h₂} {j = h₁ - 1} (omega arith) in
            absurd (omega (arith, a.low (omega arith), b.high))
        | inr k ↦ k
      ]

  pub level_right : h₂ ≤ h₁ + 1
  level_right =
      elim (cases_lt (h₁ + 1) h₂) [
        | inl k ↦
            let p : 2 ^ (h₁ + 1) ≤ 2 ^ (h₂ - 1) = pow_mono {i = h₁ + 1} {j = h₂ - 1} (omega arith) in
            let q : 2 ^ (h₁ + 1) ≡ 2 ^ h₁ * 2 = pow-add 2 h₁ 1 in
            let r : 0 < 2 ^ h₁ = pow_pos h₁ in
            absurd (omega (arith, b.low (omega arith), a.high))
        | inr k ↦ k
      ]

  pub level_next : Level (max h₁ h₂ + 1) (k₁ + k₂)
  level_next =
      let top : max h₁ h₂ ≡ h₂ = omega (arith, level_left) in
      let q : 2 ^ (h₂ + 1) ≡ 2 ^ h₂ * 2 = pow-add 2 h₂ 1 in
      subst (λ h. Level (h + 1) (k₁ + k₂)) (sym top) (record {
        high = omega (arith, b.high);
        low = λ _. elim (cases_lt 0 h₂) [
          | inl k ↦
              let r : 2 ^ (h₂ - 1 + 1) ≡ 2 ^ (h₂ - 1) * 2 = pow-add 2 (h₂ - 1) 1 in
              let e : h₂ - 1 + 1 ≡ h₂ = omega arith in
              let f : 2 ^ (h₂ - 1 + 1) ≡ 2 ^ h₂ = ap (λ i. 2 ^ i) e in
              let d : h₂ + 1 - 1 ≡ h₂ = omega arith in
              let c : 2 ^ (h₂ + 1 - 1) ≡ 2 ^ h₂ = ap (λ i. 2 ^ i) d in
              omega (arith, b.low k)
          | inr k ↦
              let d : h₂ + 1 - 1 ≡ 0 = omega arith in
              let c : 2 ^ (h₂ + 1 - 1) ≡ 1 = ap (λ i. 2 ^ i) d in
              omega arith
        ];
      })

-- at most 2 ^ k leaves make a tree of at most k levels
pub level_most : (h n k : ℕ) → Level h n → n ≤ 2 ^ k → h ≤ k
level_most h n k a few =
    elim (cases_lt k h) [
      | inl l ↦
          let p : 2 ^ k ≤ 2 ^ (h - 1) = pow_mono {i = k} {j = h - 1} (omega arith) in
          absurd (omega (arith, a.low (omega arith)))
      | inr l ↦ l
    ]

pub half_leaves : (n : ℕ) → 64 < n → (leaves (leaves n / 2 * 64) ≡ leaves n / 2) × (leaves (n - leaves n / 2 * 64) ≡ leaves n - leaves n / 2) × (leaves n / 2 * 64 < n)
half_leaves n h = (omega arith, omega arith, omega arith)

pub part_split : (xs : List ℕ) (start i n : ℕ) → i ≤ n → take i (drop start xs) ++ take (n - i) (drop (start + i) xs) ≡ take n (drop start xs)
part_split xs start i n h =
    let e : i + (n - i) ≡ n = omega arith in
    ap (λ ys. take i (drop start xs) ++ take (n - i) ys) (sym (drop-drop i start xs)) ∙ sym (take-add i (n - i) (drop start xs)) ∙ ap (λ k. take k (drop start xs)) e
