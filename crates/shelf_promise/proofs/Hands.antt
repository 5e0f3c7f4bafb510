-- Calls made one by one.
use Rattle.std.proofs.Common.{◌≡◌, ℕ, true, ◌≤◌, leb, List, [], ◌∷◌, length, Ok, Err, Some, None, Option, Result, Bor, sym, refl, ap, ◌∙◌, arith}
use Rattle.std.proofs.lemmas.Bool.Decides.{nat_tests}
use Rattle.rope.specs.Arena.{Root}
use Rattle.rope.specs.declared.record.Record.{Record}
use Rattle.shelf_view.specs.declared.draft_id.DraftId.{DraftId}
use Rattle.refusal.specs.declared.Refusal.{Refusal}
use Rattle.refusal.specs.declared.Refusal.TheVariants.{NoDocument}
use Rattle.text_shelf.specs.Shelves.{Fresh, parts, strings}
use Rattle.text_shelf.specs.Calls.{every_shelf}
use Rattle.text_shelf.specs.Steps.{reason_on}
use Rattle.text_shelf.specs.Reaches.{Reached, fresh, called, used_of, Untouched}
use Rattle.text_shelf.specs.Steps.{Stepped, Steps, made, Back}
use Rattle.text_shelf.specs.declared.draft.Draft.{Draft}
use Rattle.shelf_promise.specs.Hands.{IsOwn}
use Rattle.text_shelf.proofs.Appending.{count_texts}
use Rattle.text_shelf.proofs.Reaching.{spares_step, fresh_untouched}
use Rattle.text_shelf.proofs.Staying.{spares_none}
use Rattle.text_shelf.specs.declared.call.Call.TheVariants.{Open, Add, Put, Cut, Seal}
use Rattle.text_shelf.specs.declared.call.Answer.{Answer}
use Rattle.text_shelf.specs.declared.call.Answer.TheVariants.{Opened}
use Rattle.text_shelf.specs.declared.shelf.Shelf.{Shelf}

-- five calls, one behind the other, by what each ensures
module _ {V R : Type 0} {kind : _} (build added : List ℕ) (records : List (Record R)) (places : List Root) (mark : ℕ) where
  pub five : (s o a p c e : Shelf V R kind) → Fresh (parts s) build added records places mark → (d : DraftId) (text : Bor (List ℕ)) (x y z w : Result Answer Refusal)
      → Steps s Open (Ok (Opened d)) o → Steps o (Add d text) x a → Steps a (Put text) y p → Steps p (Cut 4294967295 0 0) z c → Steps c (Seal d) w e
      → Reached every_shelf (used_of build added records places mark) (Open ∷ (Add d text ∷ (Put text ∷ (Cut 4294967295 0 0 ∷ (Seal d ∷ [])))))
      (Ok (Opened d) ∷ (x ∷ (y ∷ (z ∷ (w ∷ []))))) e
  five s o a p c e f d text x y z w so sa sp sc se =
      let r0 : Reached every_shelf (used_of build added records places mark) [] [] s = fresh f refl in
      let r1 : Reached every_shelf (used_of build added records places mark) (Open ∷ []) (Ok (Opened d) ∷ []) o = called r0 Open (Ok (Opened d)) so in
      let r2 : Reached every_shelf (used_of build added records places mark) (Open ∷ (Add d text ∷ [])) (Ok (Opened d) ∷ (x ∷ [])) a = called r1 (Add d text) x sa in
      let r3 : Reached every_shelf (used_of build added records places mark) (Open ∷ (Add d text ∷ (Put text ∷ []))) (Ok (Opened d) ∷ (x ∷ (y ∷ []))) p = called r2 (Put text) y sp in
      let r4 : Reached every_shelf (used_of build added records places mark) (Open ∷ (Add d text ∷ (Put text ∷ (Cut 4294967295 0 0 ∷ [])))) (Ok (Opened d) ∷ (x ∷ (y ∷ (z ∷ [])))) c = called r3 (Cut 4294967295 0 0) z sc in
      called r4 (Seal d) w se

  pub five_untouched : (s o a p c e : Shelf V R kind) → Fresh (parts s) build added records places mark → (d : DraftId) (text : Bor (List ℕ)) (x y z w v : Result Answer Refusal)
      → Steps s Open x o → Steps o (Add d text) y a → Steps a (Put text) z p → Steps p (Cut 4294967295 0 0) w c → Steps c (Seal d) v e
      → Untouched (parts e) added records places
  five_untouched s o a p c e f d text x y z w v so sa sp sc se =
      let s1 = spares_step every_shelf (parts s) s o Open x so (spares_none (parts s)) in
      let s2 = spares_step every_shelf (parts s) o a (Add d text) y sa s1 in
      let s3 = spares_step every_shelf (parts s) a p (Put text) z sp s2 in
      let s4 = spares_step every_shelf (parts s) p c (Cut 4294967295 0 0) w sc s3 in
      fresh_untouched s build added records places mark f (parts e) (spares_step every_shelf (parts s) c e (Seal d) v se s4)

refused_made : (r : Result ℕ Refusal) → made r ≡ Err NoDocument → r ≡ Err NoDocument
refused_made (Ok n) h = absurd (cc)
refused_made (Err e) h = cc

by_reason : {V R : Type 0} {kind : _} (s t : Shelf V R kind) (r : Result ℕ Refusal) (w : Option Refusal) → w ≡ Some NoDocument → Stepped every_shelf w s (Cut 4294967295 0 0) (made r) t → r ≡ Err NoDocument
by_reason s t r (Some e) h step = refused_made r (step.0 ∙ (let f : e ≡ NoDocument = cc in ap Err f))
by_reason s t r None h step = absurd (cc)

-- no shelf has so many documents
pub cut_refused : {V R : Type 0} {kind : _} (s t : Shelf V R kind) (r : Result ℕ Refusal) → Steps s (Cut 4294967295 0 0) (made r) t → r ≡ Err NoDocument
cut_refused s t r step =
    let few : length (strings (parts s)).texts ≤ 4294967295 = omega (arith, count_texts (parts s), s.places.few) in
    let beyond : leb (length (strings (parts s)).texts) 4294967295 ≡ true = grind (arith, nat_tests) in
    by_reason s t r (reason_on every_shelf s (Cut 4294967295 0 0)) (rw beyond)
    step

-- what a refused seal hands back
pub own_back : (d : Draft) (id : DraftId) (r : Result ℕ (Refusal × Draft)) → id ≡ d.id → Back d r → IsOwn id r
own_back d id (Ok n) e h = tt
own_back d id (Err (why, back)) e h = ap (λ z. z.id) h ∙ sym e
