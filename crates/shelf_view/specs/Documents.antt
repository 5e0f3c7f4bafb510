-- Where the texts of a shelf lie.
use Rattle.std.specs.Prelude.{Bool, true, ◌&&◌, List, [], ◌∷◌, length, Some, None, Option, nat_le}
use Rattle.refusal.specs.declared.limits.TheConstants.{MOST_TEXT}
use Rattle.rope.specs.Arena.{Arena, Root, text_of, rooted}

-- a root of one of the records, whose text is not too long
abbrev pub fine : {R : Type 0} → Arena R → Root → Bool
fine a p = rooted (length a.records) p && nat_le (length (text_of a p)) MOST_TEXT

abbrev pub all_fine : {R : Type 0} → Arena R → List Root → Bool
all_fine a [] = true
all_fine a (p ∷ ps) = fine a p && all_fine a ps

-- the root of a draft; there is no text where none is open
abbrev pub root_in : Option Root → Root
root_in None = None
root_in (Some p) = p
