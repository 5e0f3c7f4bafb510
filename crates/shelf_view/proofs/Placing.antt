-- The roots of documents and of the draft.
use Rattle.std.proofs.Common.{◌≡◌, ℕ, zero, suc, ◌<◌, ◌≤◌, true, false, leb, ltb, List, ◌∷◌, [], length, get_or, Some, None, Option, Bor, sym, ap, ◌∙◌, arith}
use Rattle.std.specs.Option.{IfSome, is_some, ok_or, option_copied}
use Rattle.std.proofs.lemmas.List.{get_or-map, get_or_default, length-map}
use Rattle.std.proofs.lemmas.Bool.{and_parts, leb-true}
use Rattle.std.proofs.lemmas.Bool.Decides.{nat_tests}
use Rattle.refusal.specs.declared.limits.TheConstants.{MOST_TEXT}
use Rattle.monoid.specs.Monoid.{Model}
use Rattle.rope.specs.Arena.{Arena, Root, text_of, height_of, kept_of, rooted}
use Rattle.shelf_view.specs.Documents.{fine, all_fine}
use Rattle.rope_read.specs.Texts.{whole_bytes}
use Rattle.rope_read.specs.declared.whole.Whole.{Whole}
use Rattle.rope.specs.Memory.{seen}
use Rattle.shelf_view.specs.State.{Shelved, state_of, heights_of, text_at, unknown}
use Rattle.refusal.specs.Refusals.{Answers}
use Rattle.shelf_view.specs.Questions.{of_document}
use Rattle.shelf_view.specs.Places.{Lies, IsDocument}
use Rattle.refusal.specs.declared.Refusal.TheVariants.{NoDocument}
use Rattle.refusal.proofs.Firsts.{first_is, first_not}

pub fine_at : {R : Type 0} (a : Arena R) (ps : List Root) (i : ℕ) (d : Root) → all_fine a ps ≡ true → i < length ps → fine a (get_or ps i d) ≡ true
fine_at a [] i d h l = absurd (omega arith)
fine_at a (p ∷ ps) zero d h l = (and_parts (fine a p) (all_fine a ps) h).0
fine_at a (p ∷ ps) (suc i) d h l = fine_at a ps i d (and_parts (fine a p) (all_fine a ps) h).1 (omega arith)

pub root_of : {R : Type 0} (a : Arena R) (p : Root) → fine a p ≡ true → rooted (length a.records) p ≡ true
root_of a p h = (and_parts (rooted (length a.records) p) (leb (length (text_of a p)) MOST_TEXT) h).0

pub short_of : {R : Type 0} (a : Arena R) (p : Root) → fine a p ≡ true → length (text_of a p) ≤ MOST_TEXT
short_of a p h = leb-true _ _ (and_parts (rooted (length a.records) p) (leb (length (text_of a p)) MOST_TEXT) h).1

module _ {V R : Type 0} (m : Model V R) (s : Shelved R) where
  lies_at : (i : ℕ) (p : Root) → i < length s.roots → p ≡ get_or s.roots i p → all_fine s.arena s.roots ≡ true → Lies m s (suc i) p
  lies_at i p h is all = record {
    is = is ∙ get_or_default s.roots i p None h;
    fine_root = ap (fine s.arena) is ∙ fine_at s.arena s.roots i p all h;
    text_is = get_or-map (text_of s.arena) s.roots i p [] h ∙ ap (text_of s.arena) (sym is);
    high = get_or-map (height_of s.arena) s.roots i p 0 h ∙ ap (height_of s.arena) (sym is);
    kept = get_or-map (kept_of m s.arena) s.roots i p m.empty h ∙ ap (kept_of m s.arena) (sym is);
  }

  -- document d, where the root before it is looked up among those from number 1 on
  pub placed : (d i : ℕ) (got : Option (Bor Root)) → d ≡ suc i → is_some got ≡ ltb i (length s.roots) → IfSome got (λ p. p.now ≡ get_or s.roots i p.now)
      → all_fine s.arena s.roots ≡ true → Answers (of_document (state_of s) d) (Lies m s d) (ok_or (option_copied got) NoDocument)
  placed d i None e there is all =
      let many = length-map s.roots (text_of s.arena) in
      let none : unknown (state_of s) d ≡ true = grind (arith, nat_tests) in
      first_is NoDocument [] none
  placed d i (Some p) e there is all =
      let many = length-map s.roots (text_of s.arena) in
      let below : i < length s.roots = grind (arith, nat_tests) in
      let known : unknown (state_of s) d ≡ false = grind (arith, nat_tests) in
      (first_not NoDocument [] known, rw e (lies_at i p.now below is all))

-- the text of a document, as its door gives it
pub document_text : {V R : Type 0} {kind : _} {m : Model V R} {s : Shelved R} {d : ℕ} {w : Whole V R kind} → IsDocument m s d w → whole_bytes w ≡ text_at (state_of s) d
document_text {w = w} h = ap (λ a. text_of a w.root) h.memory ∙ sym h.lies.text_is

-- and its height
pub document_high : {V R : Type 0} {kind : _} {m : Model V R} {s : Shelved R} {d : ℕ} {w : Whole V R kind} → IsDocument m s d w → height_of (seen w.view) w.root ≡ get_or (heights_of s) d 0
document_high {w = w} h = ap (λ a. height_of a w.root) h.memory ∙ sym h.lies.high
