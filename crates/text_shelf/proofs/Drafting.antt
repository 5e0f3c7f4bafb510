-- Drafts: started, lengthened and sealed.
use Rattle.std.proofs.Common.{◌≡◌, ℕ, ◌+◌, ◌<◌, ◌≤◌, max, true, false, ◌||◌, ltb, leb, List, [], ◌∷◌, ◌++◌, length, get_or, is_some, Some, None, Option, Ok, sym, refl, ap, ◌∙◌, subst, append-nil, arith, length-append, Bor}
use Rattle.std.proofs.lemmas.Bool.{ltb-false, or_parts, lt-leb}
use Rattle.std.specs.Option.{option_map}
use Rattle.refusal.specs.declared.limits.TheConstants.{MOST_BROUGHT, MOST_DRAFTS, MOST_PLACES, MOST_TEXT}
use Rattle.monoid.specs.Monoid.{Model}
use Rattle.rope.specs.Arena.{rooted, height_of}
use Rattle.rope.specs.Memory.{arena_of}
use Rattle.rope.specs.Arena.{Root}
use Rattle.rope.specs.declared.store.Store.{Store}
use Rattle.rope.proofs.Keeping.{fills_none, takes_none}
use Rattle.rope_cut.specs.Parts.{text_in, height_in}
use Rattle.rope_keep.specs.Kept.{Grows, add_need}
use Rattle.refusal.specs.Refusals.{first}
use Rattle.refusal.specs.declared.Refusal.TheVariants.{DraftOpen}
use Rattle.shelf_view.specs.State.{draft_text}
use Rattle.shelf_view.specs.Places.{Drafts}
use Rattle.shelf_view.specs.declared.draft_id.DraftId.{DraftId}
use Rattle.refusal.proofs.Firsts.{first_none, first_not}
use Rattle.rope.specs.Held.{held, Gains}
use Rattle.text_shelf.specs.Shelves.{Parts, parts, shelved, brought, measures, strings}
use Rattle.text_shelf.specs.Calls.{with_draft, accepted, need, HeightRule, every_shelf, reasons}
use Rattle.text_shelf.specs.Steps.{reason_on}
use Rattle.text_shelf.specs.Steps.{Does, Changed}
use Rattle.text_shelf.specs.declared.call.Call.TheVariants.{Open, Add, Seal}
use Rattle.text_shelf.specs.declared.call.Answer.TheVariants.{Made, Opened, Done}
use Rattle.rope.specs.declared.lent.Lent.{Lent}
use Rattle.text_shelf.specs.declared.shelf.Shelf.{Shelf}
use Rattle.text_shelf.proofs.Staying.{spares_none, fine_root, all_fine_stays, texts_stay, heights_stay}
use Rattle.text_shelf.proofs.Appending.{Firm, firm_of, count_texts, takes_grows, same_room, firm_after, strings_after, newest_after, changed_after}

-- a shelf of which only the draft changes
pub still : {V R : Type 0} {kind : _} (s : Parts V R kind) (d : Option Root) (o : ℕ)
    → Changed s (record { store = s.store; places = s.places; draft = d; mark = s.mark; opened = o }) [] 0
still s d o = record {
  same_brought = refl;
  cost = omega arith;
  added_text = sym (append-nil (arena_of s.store).added);
  spares = let k = spares_none s in record { added = k.added; records = k.records; places = k.places };
  heights = λ k h. refl;
}

pub open_does : {V R : Type 0} {kind : _} (s : Shelf V R kind)
    → Does every_shelf s Open (Ok (Opened (record { mark = s.mark; count = s.opened + 1 }))) (record { store = s.store; places = s.places; draft = Some None; mark = s.mark; opened = s.opened + 1 })
open_does s = (refl, refl, (still (parts s) (Some None) (s.opened + 1), refl))

module _ {V R : Type 0} {kind : _} (m : Model V R) (s : Shelf V R kind) (d : DraftId) (text : Bor (List ℕ)) (p root : Root) (store : Store V R kind)
    (none : reason_on every_shelf s (Add d text) ≡ None) (drafts : Drafts m (shelved (parts s)) p)
    (g : Grows s.store store text.now (add_need (height_in s.store p) (length text.now)))
    (r : rooted store.records.used root ≡ true) (is : text_in store root ≡ text_in s.store p ++ text.now)
    (up : (height_in s.store p ≤ height_in store root) × (height_in store root ≤ max (height_in s.store p) 6 + 1)) where
  abbrev pub longer_draft : Parts V R kind
  longer_draft = record { store = store; places = s.places; draft = Some root; mark = s.mark; opened = s.opened }

  text_after : text_in store root ≡ draft_text (strings (parts s)) ++ text.now
  text_after = is ∙ ap (λ t. t ++ text.now) (sym drafts.text_is)

  short_after : length (text_in store root) ≤ MOST_TEXT
  short_after =
      let pass = first_none (reasons (brought (parts s)) (measures (parts s)) (strings (parts s)) (Add d text)) none in
      let both = or_parts (ltb MOST_BROUGHT (length text.now)) (ltb MOST_TEXT (length (draft_text (strings (parts s))) + length text.now)) pass.1.0 in
      omega (arith, ap length text_after, length-append (draft_text (strings (parts s))) text.now, ltb-false _ _ both.1)

  pub firm_longer : Firm longer_draft
  firm_longer = record {
    documents = all_fine_stays s.store store g.keeps (held s.places) s.documents;
    drafted = fine_root store root r short_after;
  }

  pub add_does : Does every_shelf s (Add d text) (Ok Done) longer_draft
  add_does =
      let texts = texts_stay s.store store g.keeps (held s.places) s.documents in
      let more : length (arena_of store).added ≡ length (arena_of s.store).added + length text.now = ap length g.added ∙ length-append (arena_of s.store).added text.now in
      let after : strings longer_draft ≡ accepted s.store.build.now (Add d text) (strings (parts s)) =
      λ i. record { texts = [] ∷ texts i; draft = Some (text_after i); opened = s.opened; added = more i } in
      let high : height_in s.store p ≡ (measures (parts s)).draft = ap (height_of (arena_of s.store)) drafts.is in
      let changed : Changed (parts s) longer_draft text.now (need (measures (parts s)) (Add d text)) =
      record {
        same_brought = same_room (parts s) (firm_of s) store text.now _ g s.places refl (Some root) s.opened;
        cost = omega (arith, g.cost, ap (λ h. add_need h (length text.now)) high);
        added_text = g.added;
        spares = record { added = g.keeps.added; records = g.keeps.records; places = fills_none s.places.used s.places.memory.now };
        heights = λ k h. ap (λ hs. get_or (0 ∷ hs) k 0) (heights_stay s.store store g.keeps (held s.places) s.documents);
      } in
      let higher : HeightRule (Add d text) (measures (parts s)) (measures longer_draft) =
      subst (λ h. (h ≤ height_in store root) × (height_in store root ≤ max h 6 + 1)) high up in
      (refl, after, (changed, higher))

module _ {V R : Type 0} {kind : _} (m : Model V R) (s : Shelf V R kind) (d : DraftId) (p : Root) (places : Lent Root MOST_PLACES)
    (none : reason_on every_shelf s (Seal d) ≡ None) (drafts : Drafts m (shelved (parts s)) p)
    (pushes : Gains s.places places (p ∷ [])) where
  abbrev pub sealed_shelf : Parts V R kind
  sealed_shelf = record { store = s.store; places = places; draft = None; mark = s.mark; opened = s.opened }

  grows : Grows s.store s.store [] 0
  grows = takes_grows s.store s.store 0 (takes_none s.store)

  pub firm_sealed : Firm sealed_shelf
  firm_sealed =
      firm_after (parts s) (firm_of s) s.store [] 0 grows places p (draft_text (strings (parts s))) pushes drafts.fine_root (sym drafts.text_is) None refl

  pub seal_does : (k : ℕ) → k ≡ s.places.used + 1 → Does every_shelf s (Seal d) (Ok (Made k)) sealed_shelf
  seal_does k n =
      let after = strings_after (parts s) (firm_of s) s.store [] 0 grows places p (draft_text (strings (parts s))) pushes drafts.fine_root (sym drafts.text_is) in
      let changed = changed_after (parts s) (firm_of s) s.store [] 0 grows places p (draft_text (strings (parts s))) pushes drafts.fine_root (sym drafts.text_is) None in
      let newest = newest_after (parts s) (firm_of s) s.store [] 0 grows places p (draft_text (strings (parts s))) pushes drafts.fine_root (sym drafts.text_is) None in
      let high : height_in s.store p ≡ (measures (parts s)).draft = ap (height_of (arena_of s.store)) drafts.is in
      (ap (λ j. Ok (Made j)) (n ∙ sym (count_texts (parts s))), ap (λ z. with_draft z None) after, (changed, (refl, newest ∙ high)))

-- no draft is open, and one more can be counted
pub none_open : (f : Root → List ℕ) (d : Option Root) (o : ℕ) → false ≡ is_some d → o < MOST_DRAFTS → first ((is_some (option_map f d) || leb MOST_DRAFTS o, DraftOpen) ∷ []) ≡ None
none_open f None o e h = first_not DraftOpen [] (lt-leb _ _ h)
none_open f (Some p) o e h = absurd (let z : ◌≡◌ {A = ℕ} 0 1 = cc in omega arith)
