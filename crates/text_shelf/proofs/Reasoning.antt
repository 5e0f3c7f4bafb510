-- Why an edit is refused, from what the view tells.
use Rattle.std.proofs.Common.{◌≡◌, ℕ, ◌+◌, ◌-◌, ◌≤◌, max, false, [], ◌∷◌, ◌++◌, length, get_or, Some, None, Option, sym, ap, ◌∙◌}
use Rattle.rope.specs.Edits.{spliced}
use Rattle.rope_cut.specs.Parts.{edit_need}
use Rattle.rope_cut.proofs.Splicing.{length_spliced}
use Rattle.refusal.specs.Refusals.{Reasons, first}
use Rattle.rope_read.specs.Texts.{bad_part}
use Rattle.shelf_view.specs.State.{Shelved, state_of, unknown, text_at}
use Rattle.shelf_view.specs.Questions.{of_document, of_part}
use Rattle.refusal.specs.declared.Refusal.{Refusal}
use Rattle.refusal.specs.declared.Refusal.TheVariants.{NoDocument, BadPart}
use Rattle.refusal.proofs.Firsts.{first_not, first_stays, first_then, first_or, passed}
use Rattle.text_shelf.specs.Shelves.{Brought, Measures}
use Rattle.text_shelf.specs.Calls.{every_shelf, memory, new_document}
use Rattle.text_shelf.specs.Rules.{reason}
use Rattle.text_shelf.specs.declared.call.Call.TheVariants.{Cut, Splice}

module _ {R : Type 0} (b : Brought) (t : Measures) (v s : Shelved R) (same : v ≡ s) where
  part_of : (d x y : ℕ) (o : Option Refusal) → of_part (state_of v) d x y ≡ o → of_part (state_of s) d x y ≡ o
  part_of d x y o h = ap (λ z. of_part (state_of z) d x y) (sym same) ∙ h

  document_of : (d : ℕ) (o : Option Refusal) → of_document (state_of v) d ≡ o → of_document (state_of s) d ≡ o
  document_of d o h = ap (λ z. of_document (state_of z) d) (sym same) ∙ h

  module _ (d x y : ℕ) where
    pub cut_refused : (e : Refusal) → of_part (state_of v) d x y ≡ Some e → reason every_shelf b t (state_of s) (Cut d x y) ≡ Some e
    cut_refused e h =
        first_stays ((unknown (state_of s) d, NoDocument) ∷ (bad_part (text_at (state_of s) d) x y, BadPart) ∷ []) (memory (edit_need (get_or t.heights d 0)) b t (state_of s)) e
        (part_of d x y (Some e) h)

    pub cut_decided : (h : ℕ) (w : Option Refusal) → of_part (state_of v) d x y ≡ None → h ≡ get_or t.heights d 0 → first (memory (edit_need h) b t (state_of s)) ≡ w
        → reason every_shelf b t (state_of s) (Cut d x y) ≡ w
    cut_decided h w none high is =
        first_then ((unknown (state_of s) d, NoDocument) ∷ (bad_part (text_at (state_of s) d) x y, BadPart) ∷ []) (memory (edit_need (get_or t.heights d 0)) b t (state_of s))
        (part_of d x y None none) ∙ ap (λ k. first (memory (edit_need k) b t (state_of s))) (sym high) ∙ is

    module _ (e : ℕ) where
      -- what follows the document numbers
      parted : Reasons
      parted = (bad_part (text_at (state_of s) d) x y, BadPart) ∷ []

      last : Reasons
      last = new_document (length (spliced (text_at (state_of s) d) x y (text_at (state_of s) e))) (edit_need (max (get_or t.heights d 0) (get_or t.heights e 0))) b t (state_of s)

      apart : reason every_shelf b t (state_of s) (Splice d x y e) ≡ first ((unknown (state_of s) d, NoDocument) ∷ (unknown (state_of s) e, NoDocument) ∷ (parted ++ last))
      unfolding parted last
      apart = first_or (unknown (state_of s) d) (unknown (state_of s) e) NoDocument (parted ++ last)

      known : (k : ℕ) → of_document (state_of v) k ≡ None → unknown (state_of s) k ≡ false
      known k h = (passed (unknown (state_of s) k) NoDocument [] (document_of k None h)).0

      module _ (one : of_document (state_of v) d ≡ None) where
        past_one : reason every_shelf b t (state_of s) (Splice d x y e) ≡ first ((unknown (state_of s) e, NoDocument) ∷ (parted ++ last))
        past_one = apart ∙ first_not NoDocument ((unknown (state_of s) e, NoDocument) ∷ (parted ++ last)) (known d one)

        module _ (two : of_document (state_of v) e ≡ None) where
          past_two : reason every_shelf b t (state_of s) (Splice d x y e) ≡ first (parted ++ last)
          past_two = past_one ∙ first_not NoDocument (parted ++ last) (known e two)

          part_alone : (o : Option Refusal) → of_part (state_of v) d x y ≡ o → first parted ≡ o
          unfolding parted
          part_alone o h = sym (first_not NoDocument ((bad_part (text_at (state_of s) d) x y, BadPart) ∷ []) (known d one)) ∙ part_of d x y o h

          pub splice_part : (f : Refusal) → of_part (state_of v) d x y ≡ Some f → reason every_shelf b t (state_of s) (Splice d x y e) ≡ Some f
          splice_part f h = past_two ∙ first_stays parted last f (part_alone (Some f) h)

          pub splice_decided : of_part (state_of v) d x y ≡ None → (n h j k : ℕ) (w : Option Refusal) → n ≡ length (spliced (text_at (state_of s) d) x y (text_at (state_of s) e))
              → h ≡ max j k → j ≡ get_or t.heights d 0 → k ≡ get_or t.heights e 0
              → first (new_document n (edit_need h) b t (state_of s)) ≡ w → reason every_shelf b t (state_of s) (Splice d x y e) ≡ w
          unfolding last
          splice_decided part n h j k w long high left right decided =
              let top = high ∙ (λ i. max (left i) (right i)) in
              past_two ∙ first_then parted last (part_alone None part) ∙ sym (λ i. first (new_document (long i) (edit_need (top i)) b t (state_of s))) ∙ decided

-- the length of a spliced document, by the lengths of those that it is made of
pub told_spliced : {R : Type 0} (v s : Shelved R) → v ≡ s → (d e x y n k : ℕ) → n ≡ length (text_at (state_of v) d) → k ≡ length (text_at (state_of v) e)
    → x ≤ y → y ≤ length (text_at (state_of v) d) → n - (y - x) + k ≡ length (spliced (text_at (state_of s) d) x y (text_at (state_of s) e))
told_spliced v s same d e x y n k en ek h l =
    let there = length_spliced (text_at (state_of v) d) (text_at (state_of v) e) x y h l in
    (λ i. en i - (y - x) + ek i) ∙ sym there ∙ ap (λ z. length (spliced (text_at (state_of z) d) x y (text_at (state_of z) e))) same
