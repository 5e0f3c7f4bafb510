-- What is told of a document.
use Rattle.std.proofs.Common.{◌≡◌, ℕ, ◌≤◌, false, ltb, List, [], length, None, Ok, ap, ◌∙◌, subst, arith}
use Rattle.std.proofs.lemmas.Bool.Decides.{nat_tests}
use Rattle.netstring.specs.Netstring.{netstring}
use Rattle.monoid.specs.Monoid.{fold_of}
use Rattle.monoid.specs.declared.line_column.LineColumn.{LineColumn}
use Rattle.monoid.specs.declared.pair.Pair.{Pair}
use Rattle.zemor.specs.declared.matrix.Entries.{Entries}
use Rattle.zemor.specs.declared.matrix.Sl2.{Sl2}
use Rattle.refusal.specs.Writing.{Stands}
use Rattle.refusal.specs.declared.Refusal.TheVariants.{NoDocument}
use Rattle.refusal.proofs.Firsts.{passed}
use Rattle.rope_read.specs.Texts.{whole_bytes}
use Rattle.rope_read.specs.declared.whole.Whole.{Whole}
use Rattle.shelf_view.specs.Marked.{marked, fingerprint, written}
use Rattle.shelf_view.specs.Places.{IsDocument}
use Rattle.shelf_view.specs.Questions.{of_document}
use Rattle.shelf_view.specs.State.{Shelved, state_of, text_at, unknown}
use Rattle.shelf_view.proofs.Marking.{first_half}
use Rattle.shelf_view.proofs.Placing.{document_text}
use Rattle.script.specs.declared.limits.TheConstants.{MOST_TOLD}
use Rattle.script.specs.Answers.{WritesSaid, said_to_mark, said_to_text}

module _ {kind : _} {s : Shelved (Pair Entries LineColumn)} {d : ℕ} {w : Whole (Pair Sl2 LineColumn) (Pair Entries LineColumn) kind} (there : of_document (state_of s) d ≡ None) (is : IsDocument marked s d w) where
  -- the digits of the fingerprint that a document tells
  pub mark_told : (v : Pair Sl2 LineColumn) (was new : List ℕ) (n : ℕ) → v ≡ fold_of marked (whole_bytes w) → Stands (netstring (written v.first)) was n new → WritesSaid (said_to_mark (state_of s) d) was (Ok n) new
  mark_told v was new n value h =
      let x : v.first ≡ fingerprint (text_at (state_of s) d) = first_half (text_at (state_of s) d) v (value ∙ ap (fold_of marked) (document_text is)) in
      rw there (subst (λ f. Stands (netstring (written f)) was n new) x h)

  -- and its text, which is not too long
  pub text_told : (text was new : List ℕ) (n : ℕ) → text ≡ whole_bytes w → length text ≤ MOST_TOLD → Stands (netstring text) was n new → WritesSaid (said_to_text (state_of s) d) was (Ok n) new
  text_told text was new n all short h =
      let x : text ≡ text_at (state_of s) d = all ∙ document_text is in
      let u = (passed (unknown (state_of s) d) NoDocument [] there).0 in
      let f : ltb MOST_TOLD (length (text_at (state_of s) d)) ≡ false = grind (arith, nat_tests, ap length x) in
      rw (u, f) (subst (λ t. Stands (netstring t) was n new) x h)
