-- A shelf with one document more.
use Rattle.std.proofs.Common.{◌≡◌, ℕ, ◌+◌, ◌-◌, ◌<◌, ◌≤◌, min, true, false, ltb, List, [], ◌∷◌, ◌++◌, map, length, get_or, take, None, Option, Ok, sym, ap, ◌∙◌, append-nil, arith, length-append, Bor}
use Rattle.std.proofs.lemmas.List.{length-map, length-take-le, map-append, get_or_append_left}
use Rattle.std.proofs.Math.Seq.{get_or-append_seam}
use Rattle.std.specs.List.{between}
use Rattle.std.proofs.lemmas.List.Edits.{length-between}
use Rattle.std.proofs.lemmas.Bool.{ltb-false, or_parts}
use Rattle.refusal.specs.declared.limits.TheConstants.{MOST_BYTES, MOST_PLACES, MOST_RECORDS, MOST_TEXT}
use Rattle.rope.specs.Arena.{rooted, text_of, height_of}
use Rattle.rope.specs.Memory.{arena_of, Takes}
use Rattle.rope.specs.Arena.{Root}
use Rattle.rope.specs.declared.store.Store.{Store}
use Rattle.rope.proofs.Keeping.{takes_added}
use Rattle.rope_keep.specs.Kept.{Grows}
use Rattle.rope.specs.Edits.{spliced}
use Rattle.shelf_view.specs.Documents.{fine, all_fine, root_in}
use Rattle.shelf_view.specs.State.{State, text_at}
use Rattle.refusal.proofs.Firsts.{first_none}
use Rattle.rope.specs.Held.{held, Gains}
use Rattle.text_shelf.specs.Shelves.{Parts, parts, Brought, brought, Measures, measures, strings}
use Rattle.text_shelf.specs.Calls.{appended, accepted, answer, need, brings, new_height, HeightRule, every_shelf, reasons, numbers_spent}
use Rattle.text_shelf.specs.Rules.{reason}
use Rattle.text_shelf.specs.Steps.{Does, Changed}
use Rattle.text_shelf.specs.declared.call.Call.{Call}
use Rattle.text_shelf.specs.declared.call.Call.TheVariants.{Put, Take, Cut, Splice}
use Rattle.text_shelf.specs.declared.call.Answer.TheVariants.{Made}
use Rattle.rope.specs.declared.lent.Lent.{Lent}
use Rattle.text_shelf.specs.declared.shelf.Shelf.{Shelf}
use Rattle.text_shelf.proofs.Staying.{fine_root, fine_stays, all_fine_stays, texts_stay, heights_stay, draft_stays, draft_height_stays, all_fine_push}

pub count_texts : {V R : Type 0} {kind : _} (s : Parts V R kind) → length (strings s).texts ≡ s.places.used + 1
count_texts s = omega (arith, length-map (held s.places) (text_of (arena_of s.store)), length-take-le s.places.used s.places.memory.now s.places.within)

-- an operation that adds no text
pub takes_grows : {V R : Type 0} {kind : _} (s t : Store V R kind) (n : ℕ) → Takes s t n → Grows s t [] n
takes_grows s t n p = record {
  keeps = p.keeps;
  added_used = omega (arith, p.added);
  added = ap (λ i. take i t.added.memory.now) p.added ∙ ap (take s.added.used) (takes_added p) ∙ sym (append-nil (take s.added.used s.added.memory.now));
  cost = p.cost;
}

-- the facts that always hold of a shelf
pub record Firm {V R : Type 0} {kind : _} (s : Parts V R kind) : Type 0 where
  pub documents : all_fine (arena_of s.store) (held s.places) ≡ true
  pub drafted : fine (arena_of s.store) (root_in s.draft) ≡ true

pub firm_of : {V R : Type 0} {kind : _} (s : Shelf V R kind) → Firm (parts s)
firm_of s = record { documents = s.documents; drafted = s.drafted }

-- the facts as the ghost fields
pub ghosts : {V R : Type 0} {kind : _} {s : Parts V R kind} (f : Firm s) → record {
  documents : all_fine (arena_of s.store) (held s.places) ≡ true;
  drafted : fine (arena_of s.store) (root_in s.draft) ≡ true;
}
ghosts f = record { documents = f.documents; drafted = f.drafted }

-- a place is free
pub unspent : {V R : Type 0} {kind : _} (s : Parts V R kind) → numbers_spent (brought s) (strings s) ≡ false
    → s.places.used < min (length s.places.memory.now) MOST_PLACES
unspent s h =
    let n = count_texts s in
    let l : length (strings s).texts ≤ min (length s.places.memory.now) MOST_PLACES = ltb-false _ _ h in
    omega (arith, n, l)

module _ {V R : Type 0} {kind : _} (s : Parts V R kind) (firm : Firm s) (store : Store V R kind) (bs : List ℕ) (n : ℕ) (g : Grows s.store store bs n) where
  pub same_room : (places : Lent Root MOST_PLACES) → length places.memory.now ≡ length s.places.memory.now → (d : Option Root) (o : ℕ)
      → brought (record { store = store; places = places; draft = d; mark = s.mark; opened = o }) ≡ brought s
  same_room places h d o = λ i. record {
    build = g.keeps.build i;
    added = min (g.keeps.added.room i) MOST_BYTES;
    records = min (g.keeps.records.room i) MOST_RECORDS;
    places = min (h i) MOST_PLACES;
    mark = s.mark;
  }

  module _ (places : Lent Root MOST_PLACES) (root : Root) (text : List ℕ) (p : Gains s.places places (root ∷ []))
      (f : fine (arena_of store) root ≡ true) (is : text_of (arena_of store) root ≡ text) where
    abbrev pub after : Option Root → Parts V R kind
    after d = record { store = store; places = places; draft = d; mark = s.mark; opened = s.opened }

    -- the facts hold again, with the draft or with none
    pub firm_after : (d : Option Root) → fine (arena_of s.store) (root_in d) ≡ true → Firm (after d)
    firm_after d drafted = record {
      documents = rw p.held_are (all_fine_push store (held s.places) root (all_fine_stays s.store store g.keeps (held s.places) firm.documents) f);
      drafted = fine_stays s.store store g.keeps (root_in d) drafted;
    }

    texts_after : map (text_of (arena_of store)) (held places) ≡ map (text_of (arena_of s.store)) (held s.places) ++ (text ∷ [])
    texts_after =
        ap (map (text_of (arena_of store))) p.held_are ∙ map-append (text_of (arena_of store)) (held s.places) (root ∷ [])
        ∙ (λ i. texts_stay s.store store g.keeps (held s.places) firm.documents i ++ (is i ∷ []))

    pub strings_after : strings (after s.draft) ≡ appended (strings s) text (length bs)
    strings_after =
        let drafts = draft_stays s.store store g.keeps s.draft firm.drafted in
        let more : length (arena_of store).added ≡ length (arena_of s.store).added + length bs = ap length g.added ∙ length-append (arena_of s.store).added bs in
        λ i. record { texts = [] ∷ texts_after i; draft = drafts i; opened = s.opened; added = more i }

    heights_after : 0 ∷ map (height_of (arena_of store)) (held places) ≡ (0 ∷ map (height_of (arena_of s.store)) (held s.places)) ++ (height_of (arena_of store) root ∷ [])
    heights_after =
        ap (λ ps. 0 ∷ map (height_of (arena_of store)) ps) p.held_are ∙ ap (λ hs. 0 ∷ hs) (map-append (height_of (arena_of store)) (held s.places) (root ∷ []))
        ∙ (λ i. 0 ∷ (heights_stay s.store store g.keeps (held s.places) firm.documents i ++ (height_of (arena_of store) root ∷ [])))

    pub newest_after : (d : Option Root) → new_height (measures s) (measures (after d)) ≡ height_of (arena_of store) root
    newest_after d =
        let xs = 0 ∷ map (height_of (arena_of s.store)) (held s.places) in
        ap (λ hs. get_or hs (length xs) 0) heights_after ∙ get_or-append_seam xs (height_of (arena_of store) root) [] 0

    pub changed_after : (d : Option Root) → Changed s (after d) bs n
    changed_after d = record {
      same_brought = same_room places p.fills.room d s.opened;
      cost = g.cost;
      added_text = g.added;
      spares = record { added = g.keeps.added; records = g.keeps.records; places = p.fills };
      heights = λ k h.
          ap (λ hs. get_or hs k 0) heights_after
          ∙ get_or_append_left (0 ∷ map (height_of (arena_of s.store)) (held s.places)) (height_of (arena_of store) root ∷ []) 0 k
          (omega (arith, length-map (held s.places) (text_of (arena_of s.store)), length-map (held s.places) (height_of (arena_of s.store))));
    }

-- a document of this text is not too long, and there is a place for it
pub record Fits (b : Brought) (s : State) (text : List ℕ) : Type 0 where
  pub short : length text ≤ MOST_TEXT
  pub free : numbers_spent b s ≡ false

-- all of it, for a draft that stays, and a document that is h high
pub record Appends {V R : Type 0} {kind : _} (s t : Parts V R kind) (text bs : List ℕ) (n h : ℕ) : Type 0 where
  pub firm : Firm t
  pub strings_are : strings t ≡ appended (strings s) text (length bs)
  pub changed : Changed s t bs n
  pub draft : (measures t).draft ≡ (measures s).draft
  pub newest : new_height (measures s) (measures t) ≡ h

pub append : {V R : Type 0} {kind : _} (s : Shelf V R kind) (store : Store V R kind) (bs : List ℕ) (n : ℕ) → Grows s.store store bs n
    → (places : Lent Root MOST_PLACES) (root : Root) (text : List ℕ) → Gains s.places places (root ∷ []) → rooted store.records.used root ≡ true → text_of (arena_of store) root ≡ text
    → Fits (brought (parts s)) (strings (parts s)) text
    → Appends (parts s) (record { store = store; places = places; draft = s.draft; mark = s.mark; opened = s.opened }) text bs n (height_of (arena_of store) root)
append s store bs n g places root text p r is fits =
    let f = firm_of s in
    let root_fine = fine_root store root r (omega (arith, ap length is, fits.short)) in
    record {
      firm = firm_after (parts s) f store bs n g places root text p root_fine is s.draft s.drafted;
      strings_are = strings_after (parts s) f store bs n g places root text p root_fine is;
      changed = changed_after (parts s) f store bs n g places root text p root_fine is s.draft;
      draft = draft_height_stays s.store store g.keeps s.draft s.drafted;
      newest = newest_after (parts s) f store bs n g places root text p root_fine is s.draft;
    }

-- an accepted call that appends a document
pub appended_does : {V R : Type 0} {kind : _} (s : Shelf V R kind) {t : Parts V R kind} (call : Call) (k : ℕ) (text : List ℕ)
    → k ≡ s.places.used + 1 → answer s.mark (strings (parts s)) call ≡ Made (length (strings (parts s)).texts)
    → accepted s.store.build.now call (strings (parts s)) ≡ appended (strings (parts s)) text (length (brings call))
    → {h : ℕ} → Appends (parts s) t text (brings call) (need (measures (parts s)) call) h
    → HeightRule call (measures (parts s)) (measures t) → Does every_shelf s call (Ok (Made k)) t
appended_does s call k text n answers makes a rule =
    (ap Ok (ap Made (n ∙ sym (count_texts (parts s))) ∙ sym answers), a.strings_are ∙ sym makes, (a.changed, rule))

module _ (b : Brought) (t : Measures) (s : State) where
  pub put_fits : (text : Bor (List ℕ)) → reason every_shelf b t s (Put text) ≡ None → Fits b s text.now
  put_fits text h = let p = first_none (reasons b t s (Put text)) h in record { short = omega (arith, ltb-false _ _ p.0); free = p.1.1.1.0 }

  pub take_long : (x y : ℕ) → reason every_shelf b t s (Take x y) ≡ None → length (between x y b.build) ≡ y - x
  take_long x y h =
      let q = or_parts (ltb y x) (ltb (length b.build) y) (first_none (reasons b t s (Take x y)) h).0 in
      length-between b.build x y (ltb-false _ _ q.1)

  pub take_fits : (x y : ℕ) → reason every_shelf b t s (Take x y) ≡ None → Fits b s (between x y b.build)
  take_fits x y h =
      let p = first_none (reasons b t s (Take x y)) h in
      record { short = omega (arith, ltb-false _ _ p.1.0, take_long x y h); free = p.1.1.1.0 }

  pub cut_fits : (d x y : ℕ) → length (text_at s d) ≤ MOST_TEXT → reason every_shelf b t s (Cut d x y) ≡ None → Fits b s (between x y (text_at s d))
  cut_fits d x y short h =
      let p = first_none (reasons b t s (Cut d x y)) h in
      let q = or_parts (ltb y x) (ltb (length (text_at s d)) y) p.1.0 in
      let within : y ≤ length (text_at s d) = ltb-false _ _ q.1 in
      record { short = omega (arith, length-between (text_at s d) x y within); free = p.1.1.1.0 }

  pub splice_fits : (d x y e : ℕ) → reason every_shelf b t s (Splice d x y e) ≡ None → Fits b s (spliced (text_at s d) x y (text_at s e))
  splice_fits d x y e h = let p = first_none (reasons b t s (Splice d x y e)) h in record { short = ltb-false _ _ p.1.1.0; free = p.1.1.1.1.0 }
