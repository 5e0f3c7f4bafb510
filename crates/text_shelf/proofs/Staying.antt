-- What stays when a store grows.
use Rattle.std.proofs.Common.{◌≡◌, ◌≤◌, true, leb, List, [], ◌∷◌, ◌++◌, map, length, Some, None, Option, sym, refl, ap, ◌∙◌}
use Rattle.std.specs.Option.{option_map}
use Rattle.std.proofs.lemmas.Bool.{and_parts, and_from, le-leb}
use Rattle.refusal.specs.declared.limits.TheConstants.{MOST_TEXT}
use Rattle.rope.specs.Arena.{rooted, text_of, height_of}
use Rattle.rope.specs.Memory.{arena_of, Keeps}
use Rattle.rope.specs.Arena.{Root}
use Rattle.rope.specs.declared.store.Store.{Store}
use Rattle.rope.proofs.Keeping.{used_length}
use Rattle.rope_cut.proofs.Roots.{Stays, root_stays}
use Rattle.shelf_view.specs.Documents.{fine, all_fine, root_in}
use Rattle.text_shelf.specs.Shelves.{Parts}
use Rattle.text_shelf.specs.Steps.{Spares}
use Rattle.rope.proofs.Keeping.{fills_none}

-- a root of a store that is one of its used records
pub fine_root : {V R : Type 0} {kind : _} (s : Store V R kind) → (p : Root) → rooted s.records.used p ≡ true → length (text_of (arena_of s) p) ≤ MOST_TEXT → fine (arena_of s) p ≡ true
fine_root s p r h =
    and_from (rooted (length (arena_of s).records) p) (leb (length (text_of (arena_of s) p)) MOST_TEXT) (ap (λ n. rooted n p) (used_length s) ∙ r) (le-leb _ _ h)

pub root_of : {V R : Type 0} {kind : _} (s : Store V R kind) → (p : Root) → fine (arena_of s) p ≡ true → rooted s.records.used p ≡ true
root_of s p f =
    ap (λ n. rooted n p) (sym (used_length s)) ∙ (and_parts (rooted (length (arena_of s).records) p) (leb (length (text_of (arena_of s) p)) MOST_TEXT) f).0

module _ {V R : Type 0} {kind : _} (s t : Store V R kind) (k : Keeps s t) where
  pub stays : (p : Root) → fine (arena_of s) p ≡ true → Stays s t p
  stays p f = root_stays k p (root_of s p f)

  pub fine_stays : (p : Root) → fine (arena_of s) p ≡ true → fine (arena_of t) p ≡ true
  fine_stays p f =
      let h = stays p f in
      and_from _ _ (ap (λ n. rooted n p) (used_length t) ∙ h.root)
      (ap (λ z. leb (length z) MOST_TEXT) h.text_is ∙ (and_parts (rooted (length (arena_of s).records) p) (leb (length (text_of (arena_of s) p)) MOST_TEXT) f).1)

  pub all_fine_stays : (ps : List Root) → all_fine (arena_of s) ps ≡ true → all_fine (arena_of t) ps ≡ true
  all_fine_stays [] f = refl
  all_fine_stays (p ∷ ps) f = let h = and_parts (fine (arena_of s) p) (all_fine (arena_of s) ps) f in and_from _ _ (fine_stays p h.0) (all_fine_stays ps h.1)

  pub texts_stay : (ps : List Root) → all_fine (arena_of s) ps ≡ true → map (text_of (arena_of t)) ps ≡ map (text_of (arena_of s)) ps
  texts_stay [] f = refl
  texts_stay (p ∷ ps) f =
      let h = and_parts (fine (arena_of s) p) (all_fine (arena_of s) ps) f in
      λ i. (stays p h.0).text_is i ∷ texts_stay ps h.1 i

  pub heights_stay : (ps : List Root) → all_fine (arena_of s) ps ≡ true → map (height_of (arena_of t)) ps ≡ map (height_of (arena_of s)) ps
  heights_stay [] f = refl
  heights_stay (p ∷ ps) f =
      let h = and_parts (fine (arena_of s) p) (all_fine (arena_of s) ps) f in
      λ i. (stays p h.0).high i ∷ heights_stay ps h.1 i

  pub draft_stays : (d : Option Root) → fine (arena_of s) (root_in d) ≡ true → option_map (text_of (arena_of t)) d ≡ option_map (text_of (arena_of s)) d
  draft_stays None f = refl
  draft_stays (Some p) f = ap Some (stays p f).text_is

  pub draft_height_stays : (d : Option Root) → fine (arena_of s) (root_in d) ≡ true → height_of (arena_of t) (root_in d) ≡ height_of (arena_of s) (root_in d)
  draft_height_stays d f = (stays (root_in d) f).high

pub all_fine_push : {V R : Type 0} {kind : _} (s : Store V R kind) (ps : List Root) (p : Root) → all_fine (arena_of s) ps ≡ true → fine (arena_of s) p ≡ true → all_fine (arena_of s) (ps ++ (p ∷ [])) ≡ true
all_fine_push s [] p f g = and_from _ _ g refl
all_fine_push s (q ∷ ps) p f g = let h = and_parts (fine (arena_of s) q) (all_fine (arena_of s) ps) f in and_from _ _ h.0 (all_fine_push s ps p h.1 g)

-- nothing is used where nothing is done
pub spares_none : {V R : Type 0} {kind : _} (s : Parts V R kind) → Spares s s
spares_none s = record {
  added = fills_none s.store.added.used s.store.added.memory.now;
  records = fills_none s.store.records.used s.store.records.memory.now;
  places = fills_none s.places.used s.places.memory.now;
}
