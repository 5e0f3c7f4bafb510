-- Lists of calls by which shelves were reached.
use Rattle.std.proofs.Common.{◌≡◌, ℕ, ◌+◌, ◌<◌, min, true, false, List, [], ◌∷◌, ◌++◌, map, length, take, is_ok, Some, None, Ok, Option, Result, sym, refl, ap, ◌∙◌, subst, arith, length-append}
use Rattle.std.specs.Option.{option_map}
use Rattle.refusal.specs.declared.limits.TheConstants.{MOST_BYTES, MOST_PLACES, MOST_RECORDS}
use Rattle.monoid.specs.Monoid.{Model, Lawful, fold_of}
use Rattle.rope.specs.Arena.{Root, Summed, text_of}
use Rattle.rope.specs.Memory.{arena_of}
use Rattle.rope.specs.declared.record.Record.{Record}
use Rattle.shelf_view.specs.State.{State, text_at}
use Rattle.refusal.specs.declared.Refusal.{Refusal}
use Rattle.text_shelf.specs.Shelves.{Brought, Fresh, parts, shelved, brought, measures, strings}
use Rattle.text_shelf.specs.Rules.{Rules, reason, next}
use Rattle.text_shelf.specs.Reaches.{Reached, fresh, called, used_of}
use Rattle.text_shelf.specs.Steps.{Stepped, StepsBy}
use Rattle.text_shelf.specs.declared.call.Answer.{Answer}
use Rattle.text_shelf.specs.declared.shelf.Shelf.{Shelf}
use Rattle.shelf_promise.specs.Lists.{nothing, after, answered, Grown, Goes, OneCall, Each, Kept}
use Rattle.shelf_promise.specs.Promises.{HoldsAfter}
use Rattle.shelf_promise.proofs.Keeping.{documents_fold}

after_push : {C : Type 0} (r : Rules C) (build : List ℕ) (s : State) (cs : List C) (xs : List (Result Answer Refusal)) (c : C) (a : Result Answer Refusal) → length cs ≡ length xs
    → after r build s (cs ++ (c ∷ [])) (xs ++ (a ∷ [])) ≡ next r build c (is_ok a) (after r build s cs xs)
after_push r build s [] [] c a h = refl
after_push r build s [] (x ∷ xs) c a h = absurd (omega arith)
after_push r build s (d ∷ cs) [] c a h = absurd (omega arith)
after_push r build s (d ∷ cs) (x ∷ xs) c a h = after_push r build (next r build d (is_ok x) s) cs xs c a (omega arith)

-- the shelf s after these calls with these answers
pub record Going {C : Type 0} (r : Rules C) {V R : Type 0} {kind : _} (b : Brought) (cs : List C) (xs : List (Result Answer Refusal)) (s : Shelf V R kind) : Type 0 where
  pub memory : brought (parts s) ≡ b
  pub state : strings (parts s) ≡ after r b.build nothing cs xs
  pub long : length cs ≡ length xs

-- what one call more gives: the shelf t after it, its answer, and how heights and records used go on
pub record Further {C : Type 0} (r : Rules C) {V R : Type 0} {kind : _} (b : Brought) (cs : List C) (xs : List (Result Answer Refusal)) (s t : Shelf V R kind) (c : C) (a : Result Answer Refusal) : Type 0 where
  pub going : Going r b (cs ++ (c ∷ [])) (xs ++ (a ∷ [])) t
  pub step : OneCall r b (after r b.build nothing cs xs) (measures (parts s)) c a (measures (parts t))

module _ {C : Type 0} (r : Rules C) {V R : Type 0} {kind : _} (b : Brought) (cs : List C) (xs : List (Result Answer Refusal)) (s t : Shelf V R kind) (c : C) (a : Result Answer Refusal) (g : Going r b cs xs s) where
  lengths : length (cs ++ (c ∷ [])) ≡ length (xs ++ (a ∷ []))
  lengths = length-append cs (c ∷ []) ∙ ap (λ n. n + 1) g.long ∙ sym (length-append xs (a ∷ []))

  reason_there : reason r (brought (parts s)) (measures (parts s)) (strings (parts s)) c ≡ reason r b (measures (parts s)) (after r b.build nothing cs xs) c
  reason_there = λ i. reason r (g.memory i) (measures (parts s)) (g.state i) c

  -- by the reason to refuse it
  by_reason : (w : Option Refusal) → reason r b (measures (parts s)) (after r b.build nothing cs xs) c ≡ w → Stepped r w s c a t → Further r b cs xs s t c a
  by_reason (Some e) why step =
      let stays : is_ok a ≡ false = ap is_ok step.0 in
      let same : measures (parts t) ≡ measures (parts s) = ap (λ z. measures (parts z)) step.1 in
      record {
        going = record {
          memory = ap (λ z. brought (parts z)) step.1 ∙ g.memory;
          state =
              ap (λ z. strings (parts z)) step.1 ∙ g.state
              ∙ sym (after_push r b.build nothing cs xs c a g.long ∙ ap (λ k. next r b.build c k (after r b.build nothing cs xs)) stays);
          long = lengths;
        };
        step = record {
          answer = step.0 ∙ ap (λ w. answered w (r.answer b.mark (after r b.build nothing cs xs) c)) (sym why);
          goes = subst (λ k. Goes r k c (after r b.build nothing cs xs) (measures (parts s)) (measures (parts t))) (sym stays) same;
        };
      }
  by_reason None why step =
      let changed = step.2.0 in
      let taken : is_ok a ≡ true = ap is_ok step.0 in
      let grown : Grown r c (after r b.build nothing cs xs) (measures (parts s)) (measures (parts t)) =
      record {
        more = changed.spares.records.more;
        cost = changed.cost;
        heights = λ d h. changed.heights d (subst (λ z. d < length z.texts) (sym g.state) h);
        height_rule = step.2.1;
      } in
      record {
        going = record {
          memory = changed.same_brought ∙ g.memory;
          state =
              step.1 ∙ (λ i. r.accepted ((g.memory i).build) c (g.state i))
              ∙ sym (after_push r b.build nothing cs xs c a g.long ∙ ap (λ k. next r b.build c k (after r b.build nothing cs xs)) taken);
          long = lengths;
        };
        step = record {
          answer = step.0 ∙ (λ i. Ok (r.answer ((g.memory i).mark) (g.state i) c)) ∙ ap (λ w. answered w (r.answer b.mark (after r b.build nothing cs xs) c)) (sym why);
          goes = subst (λ k. Goes r k c (after r b.build nothing cs xs) (measures (parts s)) (measures (parts t))) (sym taken) grown;
        };
      }

  pub further : StepsBy r s c a t → Further r b cs xs s t c a
  further step = by_reason (reason r b (measures (parts s)) (after r b.build nothing cs xs) c) refl (subst (λ w. Stepped r w s c a t) reason_there step)

-- a fresh shelf
module _ {V R : Type 0} {kind : _} (s : Shelf V R kind) (build added : List ℕ) (records : List (Record R)) (places : List Root) (mark : ℕ)
    (f : Fresh (parts s) build added records places mark) where
  pub fresh_memory : brought (parts s) ≡ used_of build added records places mark
  fresh_memory = λ i. record {
    build = f.build_text i;
    added = min (length (f.added_memory i)) MOST_BYTES;
    records = min (length (f.records_memory i)) MOST_RECORDS;
    places = min (length (f.places_memory i)) MOST_PLACES;
    mark = f.mark_is i;
  }

  pub fresh_strings : strings (parts s) ≡ nothing
  fresh_strings = λ i. record {
    texts = [] ∷ map (text_of (arena_of s.store)) (take (f.count i) s.places.memory.now);
    draft = option_map (text_of (arena_of s.store)) (f.draft i);
    opened = f.opened i;
    added = length (take (f.added_used i) s.store.added.memory.now);
  }

-- what holds of the list by which a shelf was reached
pub goings : {C : Type 0} {r : Rules C} {V R : Type 0} {kind : _} {b : Brought} {cs : List C} {xs : List (Result Answer Refusal)} {s : Shelf V R kind} → Reached r b cs xs s → Going r b cs xs s
goings {s = s} (fresh {build = build} {added = added} {records = records} {places = places} {mark = mark} f is) =
    record { memory = fresh_memory s build added records places mark f ∙ is; state = fresh_strings s build added records places mark f; long = refl }
goings {r = r} {b = b} {s = s} (called {cs = cs} {xs = xs} {s = t} before c a step) = (further r b cs xs t s c a (goings before) step).going

pub each : {C : Type 0} {r : Rules C} {V R : Type 0} {kind : _} {b : Brought} {cs : List C} {xs : List (Result Answer Refusal)} {s : Shelf V R kind} → (h : Reached r b cs xs s) → Each h
each (fresh f is) = tt
each {r = r} {b = b} {s = s} (called {cs = cs} {xs = xs} {s = t} before c a step) = (each before, (further r b cs xs t s c a (goings before) step).step)

pub kept : {C : Type 0} {r : Rules C} {V R : Type 0} {kind : _} (m : Model V R) → Lawful m → {b : Brought} {cs : List C} {xs : List (Result Answer Refusal)} {s : Shelf V R kind}
    → (h : Reached r b cs xs s) → Summed m (arena_of s.store) → Kept m h
kept m l {s = s} h w =
    let g = goings h in
    record {
      memory = g.memory;
      each = each h;
      state = g.state;
      folds = λ d k. documents_fold m l (shelved (parts s)) w s.documents d k ∙ ap (λ z. fold_of m (text_at z d)) g.state;
    }

-- what is told of its list of strings
pub tells : {C : Type 0} (r : Rules C) {V R : Type 0} {kind : _} (s : Shelf V R kind) (P : State → Type 0) → P (strings (parts s)) → HoldsAfter r s P
tells r s P p b cs xs h = subst P (goings h).state p
