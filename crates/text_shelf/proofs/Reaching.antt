-- Shelves that calls have reached.
use Rattle.std.proofs.Common.{ℕ, ◌+◌, ◌<◌, List, [], ◌∷◌, ◌++◌, length, get_or, take, set, Some, None, Option, Result, refl, sym, subst, append-nil}
use Rattle.std.proofs.lemmas.List.{take_more, take_more_set, append_assoc}
use Rattle.rope.specs.Arena.{Root}
use Rattle.rope.specs.Lents.{Fills}
use Rattle.rope.proofs.Keeping.{fills_trans}
use Rattle.rope.specs.declared.record.Record.{Record}
use Rattle.refusal.specs.declared.Refusal.{Refusal}
use Rattle.text_shelf.specs.Rules.{Rules}
use Rattle.text_shelf.specs.Shelves.{Parts, Fresh, parts}
use Rattle.text_shelf.specs.Steps.{Spares, Stepped, StepsBy, reason_on}
use Rattle.text_shelf.specs.Reaches.{Reached, fresh, called, Went, start, one_more, used_of, Untouched, More}
use Rattle.text_shelf.specs.declared.call.Answer.{Answer}
use Rattle.text_shelf.specs.declared.shelf.Shelf.{Shelf}

-- calls made on a shelf go behind all that it was reached by
pub more : {C : Type 0} {r : Rules C} {V R : Type 0} {kind : _} {s t : Shelf V R kind} {calls : List C} {answers : List (Result Answer Refusal)} → Went r s calls answers t → More r s calls answers t
more {r = r} {s = s} start b cs xs h = subst (λ z. Reached r b z (xs ++ []) s) (sym (append-nil cs)) (subst (λ z. Reached r b cs z s) (sym (append-nil xs)) h)
more {r = r} {s = s} {t = u} (one_more {cs = ds} {xs = ys} {t = t} before c a step) b cs xs h =
    subst (λ z. Reached r b z (xs ++ (ys ++ (a ∷ []))) u) (append_assoc cs ds (c ∷ []))
    (subst (λ z. Reached r b ((cs ++ ds) ++ (c ∷ [])) z u) (append_assoc xs ys (a ∷ [])) (called (more before b cs xs h) c a step))

-- calls that are run on a fresh shelf
module _ {V R : Type 0} {kind : _} (s : Shelf V R kind) (build added : List ℕ) (records : List (Record R)) (places : List Root) (mark : ℕ)
    (f : Fresh (parts s) build added records places mark) where
  pub fresh_more : {C : Type 0} (r : Rules C) (calls : List C) (answers : List (Result Answer Refusal)) (t : Shelf V R kind) → Went r s calls answers t
      → Reached r (used_of build added records places mark) calls answers t
  fresh_more r calls answers t went = more went _ [] [] (fresh f refl)

  pub fresh_untouched : (t : Parts V R kind) → Spares (parts s) t → Untouched t added records places
  fresh_untouched t p = record {
    added_memory =
        subst (λ z. Fills 0 t.store.added.used z t.store.added.memory.now) f.added_memory
        (subst (λ n. Fills n t.store.added.used s.store.added.memory.now t.store.added.memory.now) f.added_used p.added);
    records_memory =
        subst (λ z. Fills 0 t.store.records.used z t.store.records.memory.now) f.records_memory
        (subst (λ n. Fills n t.store.records.used s.store.records.memory.now t.store.records.memory.now) f.used p.records);
    places_memory =
        subst (λ z. Fills 0 t.places.used z t.places.memory.now) f.places_memory
        (subst (λ n. Fills n t.places.used s.places.memory.now t.places.memory.now) f.count p.places);
  }

module _ {C : Type 0} (r : Rules C) {V R : Type 0} {kind : _} (o : Parts V R kind) (s t : Shelf V R kind) (c : C) (a : Result Answer Refusal) where
  spares_by : (w : Option Refusal) → Stepped r w s c a t → Spares o (parts s) → Spares o (parts t)
  spares_by (Some e) step u = subst (λ z. Spares o (parts z)) (sym step.1) u
  spares_by None step u =
      let k = step.2.0.spares in
      record {
        added = fills_trans u.added k.added;
        records = fills_trans u.records k.records;
        places = fills_trans u.places k.places;
      }

  pub spares_step : StepsBy r s c a t → Spares o (parts s) → Spares o (parts t)
  spares_step step u = spares_by (reason_on r s c) step u

-- the call at place i, whose answer is written there
pub went_next : {C : Type 0} (r : Rules C) {V R : Type 0} {kind : _} (calls : List C) (xs : List (Result Answer Refusal)) (i : ℕ) (d : C) (a : Result Answer Refusal) (s t u : Shelf V R kind)
    → i < length calls → i < length xs → Went r s (take i calls) (take i xs) t → StepsBy r t (get_or calls i d) a u → Went r s (take (i + 1) calls) (take (i + 1) (set xs i a)) u
went_next r calls xs i d a s t u h k before step =
    let c = get_or calls i d in
    subst (λ z. Went r s z (take (i + 1) (set xs i a)) u) (sym (take_more calls i d h))
    (subst (λ z. Went r s (take i calls ++ (c ∷ [])) z u) (sym (take_more_set xs i a k)) (one_more before c a step))
