-- The lines of an object's dropped sections, listed one after the other.
use Rattle.std.proofs.Common.{◌≡◌, ℕ, ◌+◌, ◌<◌, Bool, true, false, cond, List, [], ◌∷◌, ◌++◌, length, get_or, drop, sym, ap, ◌∙◌}
use Rattle.std.proofs.lemmas.List.{append_assoc, at_drop_more}
use Rattle.elf_model.specs.Link.Loading.{LoadedObject}
use Rattle.elf_model.specs.Image.RightLink.{drops_from, is_dropped_line}
use Rattle.elf_model.specs.declared.link_map.DropLine.{DropLine}
use Rattle.elf_model.specs.declared.records.SectionHeader.{SectionHeader}

-- what one section adds stands in front of the rest
line_front : (b : Bool) (l : DropLine) (out rest : List DropLine) → (out ++ cond b (l ∷ []) []) ++ rest ≡ out ++ cond b (l ∷ rest) rest
line_front true l out rest = append_assoc out (l ∷ []) rest
line_front false l out rest = append_assoc out [] rest

-- one more section
pub section_more :
    (out next : List DropLine) (number : ℕ) (o : LoadedObject) (hs : List SectionHeader) (i : ℕ) (d : SectionHeader) (whole : List DropLine) → i < length hs →
    next ≡ out ++ cond (is_dropped_line o i (get_or hs i d)) (record { object = number; section = i } ∷ []) [] →
    out ++ drops_from number o i (drop i hs) ≡ whole → next ++ drops_from number o (i + 1) (drop (i + 1) hs) ≡ whole
section_more out next number o hs i d whole within added so_far =
    let rest : List DropLine = drops_from number o (i + 1) (drop (i + 1) hs) in
    ap (λ (ls : List DropLine). ls ++ rest) added
    ∙ line_front (is_dropped_line o i (get_or hs i d)) (record { object = number; section = i }) out rest
    ∙ ap (λ (ls : List DropLine). out ++ ls) (sym (at_drop_more (drops_from number o i) hs i d within))
    ∙ so_far
