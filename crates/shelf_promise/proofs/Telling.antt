-- What is told of documents and parts of a reached shelf.
use Rattle.std.proofs.Common.{rules, ◌≡◌, ℕ, zero, suc, ◌<◌, true, false, List, [], ◌∷◌, length, get_or, Some, None, Ok, Err, Result, sym, refl, ap, ◌∙◌, subst, arith}
use Rattle.std.proofs.lemmas.List.{get_or-map, length-map}
use Rattle.std.proofs.lemmas.Bool.Decides.{nat_tests}
use Rattle.monoid.specs.Monoid.{Model, Lawful, all_bytes}
use Rattle.monoid.specs.Pair.{pair_model}
use Rattle.monoid.specs.LineColumnLaws.{lawful as line_column_lawful}
use Rattle.zemor.specs.Laws.{lawful as sl2_lawful}
use Rattle.monoid.specs.LineColumnValues.{line_column_model}
use Rattle.monoid.specs.declared.line_column.LineColumn.{LineColumn}
use Rattle.monoid.specs.declared.pair.Pair.{Pair}
use Rattle.monoid.proofs.Pairs.{fold_pair}
use Rattle.zemor.specs.Values.{sl2}
use Rattle.zemor.specs.declared.matrix.Sl2.{Sl2}
use Rattle.zemor.proofs.Texts.{slips_show}
use Rattle.rope.specs.Arena.{Sound, text_of}
use Rattle.shelf_view.specs.Documents.{all_fine}
use Rattle.shelf_view.specs.Marked.{marked, fingerprint}
use Rattle.shelf_view.specs.Questions.{of_document}
use Rattle.shelf_view.specs.State.{State, Shelved, state_of, text_at, unknown}
use Rattle.refusal.specs.declared.Refusal.{Refusal}
use Rattle.refusal.specs.declared.Refusal.TheVariants.{NoDocument}
use Rattle.refusal.proofs.Firsts.{first_or, first_stays, first_then, passed}
use Rattle.shelf_view.proofs.Marking.{root_bytes}
use Rattle.shelf_view.proofs.Placing.{fine_at}
use Rattle.text_shelf.specs.Shelves.{Brought, parts, shelved}
use Rattle.text_shelf.specs.Rules.{Rules}
use Rattle.text_shelf.specs.Reaches.{Reached}
use Rattle.text_shelf.specs.declared.call.Answer.{Answer}
use Rattle.text_shelf.specs.declared.shelf.Shelf.{Shelf}
use Rattle.shelf_promise.specs.Lists.{after, nothing}
use Rattle.shelf_promise.proofs.Running.{goings}
use Rattle.shelf_promise.specs.Promises.{DocumentFolds, SlipsTold}

pair_lawful : {A B R S : Type 0} (m : Model A R) (n : Model B S) → Lawful m → Lawful n → Lawful (pair_model m n)
pair_lawful m n l k = search rules

-- the laws of the pair that marked shelves keep
pub marked_lawful : Lawful marked
marked_lawful = pair_lawful sl2 line_column_model sl2_lawful line_column_lawful

-- every byte of a document is below 256
pub document_bytes : {R : Type 0} (s : Shelved R) → Sound s.arena → all_fine s.arena s.roots ≡ true → (d : ℕ) → unknown (state_of s) d ≡ false → all_bytes (text_at (state_of s) d) ≡ true
document_bytes s w all zero h = refl
document_bytes s w all (suc i) h =
    let below : i < length s.roots = grind (arith, nat_tests, length-map s.roots (text_of s.arena)) in
    ap all_bytes (get_or-map (text_of s.arena) s.roots i None [] below)
    ∙ root_bytes s.arena (get_or s.roots i None) w (fine_at s.arena s.roots i None all below)

pub reached_bytes : {C : Type 0} {r : Rules C} {V R : Type 0} {kind : _} {b : Brought} {calls : List C} {answers : List (Result Answer Refusal)} (s : Shelf V R kind) (d : ℕ) → Reached r b calls answers s
    → of_document (after r b.build nothing calls answers) d ≡ None → all_bytes (text_at (after r b.build nothing calls answers) d) ≡ true
reached_bytes {r = r} {b = b} {calls = calls} {answers = answers} s d h none =
    subst (λ t. unknown t d ≡ false → all_bytes (text_at t d) ≡ true) (goings h).state
    (document_bytes (shelved (parts s)) s.store.sound s.documents d) (passed (unknown (after r b.build nothing calls answers) d) NoDocument [] none).0

module _ (s t : State) (d e : ℕ) where
  pub refuses_one : (x : Refusal) → of_document s d ≡ Some x → SlipsTold d e (Err x) s t
  refuses_one x h = first_or (unknown s d) (unknown t e) NoDocument [] ∙ first_stays ((unknown s d, NoDocument) ∷ []) ((unknown t e, NoDocument) ∷ []) x h

  pub refuses_other : (x : Refusal) → of_document s d ≡ None → of_document t e ≡ Some x → SlipsTold d e (Err x) s t
  refuses_other x h k = first_or (unknown s d) (unknown t e) NoDocument [] ∙ first_then ((unknown s d, NoDocument) ∷ []) ((unknown t e, NoDocument) ∷ []) h ∙ k

  pub slips_told : (x y : Pair Sl2 LineColumn) → DocumentFolds marked d (Ok x) s → DocumentFolds marked e (Ok y) t
      → all_bytes (text_at s d) ≡ true → all_bytes (text_at t e) ≡ true → SlipsTold d e (Ok (x.first, y.first)) s t
  slips_told x y h k bs bt =
      let first_of : Pair Sl2 LineColumn → Sl2 = λ q. q.first in
      let one : x.first ≡ fingerprint (text_at s d) = ap first_of (h.1 ∙ fold_pair sl2 line_column_model (text_at s d)) in
      let other : y.first ≡ fingerprint (text_at t e) = ap first_of (k.1 ∙ fold_pair sl2 line_column_model (text_at t e)) in (
        first_or (unknown s d) (unknown t e) NoDocument [] ∙ first_then ((unknown s d, NoDocument) ∷ []) ((unknown t e, NoDocument) ∷ []) h.0 ∙ k.0,
        (
          one,
          other,
          λ slip. let shows = slips_show (text_at s d) (text_at t e) bs bt slip in (λ q. shows.0 (sym one ∙ q ∙ other), λ q. one ∙ shows.1 q ∙ sym other),
        ),
      )
