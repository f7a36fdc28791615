-- The relocation entries that are kept, a list a section.
use Rattle.std.proofs.Common.{◌≡◌, ℕ, ◌+◌, ◌<◌, List, [], ◌∷◌, ◌++◌, Option, None, Some, get_or, length, map, ap, sym, ◌∙◌}
use Rattle.std.specs.Prelude.{option_map}
use Rattle.std.specs.Global.{Vec}
use Rattle.std.specs.List.{slice_get}
use Rattle.std.specs.Option.{option_and_then}
use Rattle.std.proofs.lemmas.List.{map-append, take_more}
use Rattle.std.proofs.lemmas.Option.{none-some, same_Some, slice_get-get_or, slice_get-map}
use Rattle.elf_model.specs.Inputs.ObjectFile.{null_section, relas, relas_in, sections}
use Rattle.elf_model.specs.declared.records.Rela.{Rela}
use Rattle.elf_read.specs.Reading.{AreKept, kept_entries}
use Rattle.std.proofs.Common.{take}

abbrev list_of : Option (Vec Rela) → Option (List Rela)
list_of = option_map (λ (v : Vec Rela). v.items)

-- what a function tells of an element that is there
told_of : {S X : Type 0} (f : S → Option X) (o : Option S) (x : Option X) → option_map f o ≡ Some x → option_and_then f o ≡ x
told_of {S} {X} f None x e = absurd (none-some x e)
told_of {S} {X} f (Some s) x e = same_Some (f s) x e

-- the entries of one section more
pub kept_more : (bytes : List ℕ) (old new : List (Option (Vec Rela))) (i : ℕ) (x : Option (Vec Rela)) → i < length (sections bytes)
    → kept_entries old ≡ map (relas_in bytes) (take i (sections bytes)) → new ≡ old ++ x ∷ [] → list_of x ≡ relas bytes i
    → kept_entries new ≡ map (relas_in bytes) (take (i + 1) (sections bytes))
kept_more bytes old new i x within old_is new_is x_is =
    let ss = sections bytes in
    let own : relas bytes i ≡ relas_in bytes (get_or ss i null_section) = ap (option_and_then (relas_in bytes)) (slice_get-get_or ss i null_section within) in
    ap kept_entries new_is ∙ map-append list_of old (x ∷ [])
    ∙ (λ j. old_is j ++ ((x_is ∙ own) j ∷ []))
    ∙ sym (map-append (relas_in bytes) (take i ss) (get_or ss i null_section ∷ []))
    ∙ ap (map (relas_in bytes)) (sym (take_more ss i null_section within))

-- what is kept of a section is what the file tells of it
pub kept_at : (bytes : List ℕ) (kept : List (Option (Vec Rela))) (i : ℕ) (o : Option (Vec Rela)) → AreKept bytes kept → slice_get kept i ≡ Some o
    → list_of o ≡ relas bytes i
kept_at bytes kept i o are there =
    sym (told_of (relas_in bytes) (slice_get (sections bytes) i) (list_of o) (
    sym (slice_get-map (relas_in bytes) (sections bytes) i) ∙ ap (λ (es : List (Option (List Rela))). slice_get es i) (sym are)
    ∙ slice_get-map list_of kept i ∙ ap (option_map list_of) there
    ))
